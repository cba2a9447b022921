-- Texts with what they are.
use Rattle.std.specs.Prelude.{ℕ, List, [], ◌∷◌, ◌++◌, Some, None, codes}
use Rattle.kbm_text.specs.Map.{KeyMap}

abbrev pub six_fields : List ℕ
six_fields = codes "12\n0\n127\n60\n69\n440.0\n"

abbrev pub twelve : List ℕ
twelve = six_fields ++ codes "12\n0\nx\n2\n3\n4\n5\n6\n7\n8\n9\n10\n11\n"

abbrev pub twelve_keys : KeyMap
twelve_keys = record {
  first = 0;
  last = 127;
  middle = 60;
  reference = 69;
  nanohertz = 440000000000;
  octave = 12;
  entries = Some 0 ∷ None ∷ Some 2 ∷ Some 3 ∷ Some 4 ∷ Some 5 ∷ Some 6 ∷ Some 7 ∷ Some 8 ∷ Some 9 ∷ Some 10 ∷ Some 11 ∷ [];
}

abbrev pub one_degree : List ℕ
one_degree = codes "1\n0\n127\n60\n60\n261.6255653\n100\n0\n"

abbrev pub one_key : KeyMap
one_key = record { first = 0; last = 127; middle = 60; reference = 60; nanohertz = 261625565300; octave = 100; entries = Some 0 ∷ [] }
