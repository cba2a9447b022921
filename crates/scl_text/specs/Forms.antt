-- A form that the program found, without where it lies in memory.
use Rattle.scl_text.specs.declared.pitch.Written.{Written}
use Rattle.scl_text.specs.declared.pitch.Written.TheVariants as written
use Rattle.scl_text.specs.Pitch.{Form, InCents, AsRatio, Alone}

abbrev pub view_form : Written → Form
view_form (written.Cents negative whole decimals) = InCents negative whole.now decimals.now
view_form (written.Ratio negative num den) = AsRatio negative num.now den.now
view_form (written.Alone negative num) = Alone negative num.now
