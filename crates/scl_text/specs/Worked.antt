-- Texts with what they are.
use Rattle.std.specs.Prelude.{ℕ, List, [], ◌∷◌, ◌++◌, pos, neg_ℤ, codes, ◌==◌, if◌then◌else◌}
use Rattle.scl_text.specs.declared.entry.Entry.{Entry}
use Rattle.scl_text.specs.declared.entry.Entry.TheVariants.{Ratio, Cents}

abbrev pub three_pitches : List ℕ
three_pitches = codes "! x\ntest\n 4\n100.0 cents\n5/4   E\\\n408.\n"

abbrev pub four_entries : List ℕ
four_entries = three_pitches ++ codes "-5.0"

abbrev pub four_values : List Entry
four_values = Cents (pos 100000000000) ∷ Ratio 5 4 ∷ Cents (pos 408000000000) ∷ Cents (neg_ℤ (pos 5000000000)) ∷ []

abbrev pub bare_negative : List ℕ
bare_negative = three_pitches ++ codes "-5"

-- the text with CR before each LF
abbrev pub crlf : List ℕ → List ℕ
crlf [] = []
crlf (b ∷ bs) = (if b == 10 then 13 ∷ 10 ∷ [] else b ∷ []) ++ crlf bs
