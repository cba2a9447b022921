-- An item of a list of channels, as the program keeps it.
use Rattle.command_line.specs.Channels.{Item}
use Rattle.command_line.specs.declared.item.Item.{Item as ItemOf}

abbrev pub item_of : ItemOf → Item
item_of i = record { first = i.first; is_range = i.is_range; last = i.last }
