-- What is written for a source with ports: for each source event a block, from what is kept in mind for the event's port (this
-- project's own).
use Rattle.std.specs.Prelude.{◌≡◌, ◌⊎◌, ℕ, suc, List, [], ◌∷◌, ◌++◌, nat_eq, if◌then◌else◌, None}
use Rattle.std.specs.List.{AllByRecursion}
use Rattle.mt_base.specs.Midi.{MidiEvent}
use Rattle.retune_model.specs.Ports.{Numbered, named_port, port_of, ports_after, all_zero}

-- a translation of the numbered events of one port
abbrev pub through : {S : Type 0} → (S → Numbered → List MidiEvent) → (S → Numbered → S) → S → List Numbered → List MidiEvent
through block next s [] = []
through block next s (n ∷ ns) = block s n ++ through block next (next s n) ns

-- a translation of all events, each by the rule of its port; `s z` is what is kept in mind for port z
abbrev pub kept_for : {S : Type 0} → ℕ → S → (ℕ → S) → ℕ → S
kept_for z x s y = if nat_eq y z then x else s y

abbrev pub through_ports_from : {S : Type 0} → (ℕ → S → Numbered → List MidiEvent) → (ℕ → S → Numbered → S) → (ℕ → ℕ) → ℕ → (ℕ → S) → List MidiEvent → List MidiEvent
through_ports_from block next ports k s [] = []
through_ports_from block next ports k s (e ∷ es) =
    let z = port_of ports e in
    let n : Numbered = record { position = suc k; event = e } in
    block z (s z) n ++ through_ports_from block next (ports_after ports e) (suc k) (kept_for z (next z (s z) n) s) es

-- at first the same is kept in mind for each port
abbrev pub through_ports : {S : Type 0} → (ℕ → S → Numbered → List MidiEvent) → (ℕ → S → Numbered → S) → S → List MidiEvent → List MidiEvent
through_ports block next first es = through_ports_from block next all_zero 0 (λ z. first) es

-- A block stands beside its event: in its track, and nothing in it names a port, but that the event itself may be passed on alone.
pub record IsBeside (e : MidiEvent) (block : List MidiEvent) : Type 0 where
  pub in_track : AllByRecursion (λ x. x.track ≡ e.track) block
  pub names : ((named_port e.what ≡ None) × AllByRecursion (λ x. named_port x.what ≡ None) block) ⊎ (block ≡ e ∷ [])

-- where a block depends on the events of its port that came before
abbrev pub by_history : (List Numbered → Numbered → List MidiEvent) → List Numbered → List MidiEvent
by_history block ns = through block (λ before n. before ++ n ∷ []) [] ns

abbrev pub ports_by_history : (ℕ → List Numbered → Numbered → List MidiEvent) → List MidiEvent → List MidiEvent
ports_by_history block es = through_ports block (λ z before n. before ++ n ∷ []) [] es
