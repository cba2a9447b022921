-- The musics at each position, by the lists of events that lead to them.
use Rattle.std.proofs.Common.{◌≡◌, ◌<◌, ◌≤◌, ℕ, zero, suc, cond, List, [], ◌∷◌, ◌++◌, Option, Some, None, refl, ap, sym, ◌∙◌, subst, map, nat_eq, append_assoc, arith, inl, inr}
use Rattle.std.proofs.lemmas.Bool.{cases_Bool, cases_eq, cases_order, le-leb, lt-leb, eq-eqb, ne_eqb}
use Rattle.std.proofs.lemmas.List.{append-nil}
use Rattle.mt_base.specs.Midi.{MidiEvent}
use Rattle.midi_model.specs.Music.{Music, quiet, step, play}
use Rattle.retune_model.specs.Options.{Options}
use Rattle.retune_model.specs.Faults.{Targets}
use Rattle.retune_model.specs.Ports.{Numbered, music_at, Ascend}
use Rattle.channel_model.specs.BendOutput.{PortRuns}
use Rattle.bend_laws.specs.Moments.{Moment, Both, port_block, next_both, moment, moment_at, port_output}
use Rattle.bend_laws.specs.Positions.{port_event, both_next, both_at, up_to_position}
use Rattle.bend_laws.proofs.Planning.{source_next, source_at, block_if, blocks_to}
use Rattle.bend_laws.proofs.Lists.{map_append}
use Rattle.bend_laws.proofs.Playing.{play_append}
use Rattle.bend_laws.proofs.Simulates.{source_is}

next_out : (port : ℕ) (o : Options) (table : Targets) (k : Moment) (b : Both) (x : Option MidiEvent) →
    (both_next port o table k b x).out ≡ play b.out (block_if port o table k b x)
next_out port o table k b None = refl
next_out port o table k b (Some e) = refl

pub out_is : (o : Options) (table : Targets) (plan : PortRuns) (ns : List Numbered) (k : ℕ) →
    (both_at o table plan ns k).out ≡ play quiet (blocks_to o table plan ns k)
out_is o table plan ns zero = refl
out_is o table plan ns (suc k) =
    let b : Both = both_at o table plan ns k in
    let block : List MidiEvent = block_if plan.number o table (moment plan k) b (port_event ns (suc k)) in
    next_out plan.number o table (moment plan k) b (port_event ns (suc k)) ∙ ap (λ m. play m block) (out_is o table plan ns k)
    ∙ sym (play_append quiet (blocks_to o table plan ns k) block)

-- ---- the events up to a position

-- the port's event at a position, with its place
abbrev pub numbered_at : List Numbered → ℕ → List Numbered
numbered_at [] k = []
numbered_at (n ∷ ns) k = cond (nat_eq n.position k) (n ∷ []) (numbered_at ns k)

pub none_yet : (k : ℕ) (ns : List Numbered) → Ascend k ns → (j : ℕ) → j ≤ k → up_to_position j ns ≡ []
none_yet k [] r j l = refl
none_yet k (n ∷ ns) r j l =
    let later : k < n.position = r.0 in
    ap (λ b. cond b (n ∷ up_to_position j ns) (up_to_position j ns)) (lt-leb n.position j (omega (arith, later, l)))
    ∙ none_yet n.position ns r.1 j (omega (arith, later, l))

none_at : (k : ℕ) (ns : List Numbered) → Ascend k ns → (j : ℕ) → j ≤ k → numbered_at ns j ≡ []
none_at k [] r j l = refl
none_at k (n ∷ ns) r j l =
    let later : k < n.position = r.0 in
    ap (λ b. cond b (n ∷ []) (numbered_at ns j)) (ne_eqb n.position j (λ e. omega (arith, e, later, l)))
    ∙ none_at n.position ns r.1 j (omega (arith, later, l))

pub one_more : (m : ℕ) (ns : List Numbered) → Ascend m ns → (k : ℕ) → up_to_position (suc k) ns ≡ up_to_position k ns ++ numbered_at ns (suc k)
one_more m [] r k = refl
one_more m (n ∷ ns) r k = elim (cases_order n.position (suc k)) [
  | inl e ↦ ap (λ b. cond b (n ∷ up_to_position (suc k) ns) (up_to_position (suc k) ns)) (le-leb n.position (suc k) (omega (arith, e)))
      ∙ ap (λ xs. n ∷ xs) (none_yet n.position ns r.1 (suc k) (omega (arith, e)))
      ∙ sym (ap (λ b. cond b (n ∷ up_to_position k ns) (up_to_position k ns) ++ numbered_at (n ∷ ns) (suc k)) (lt-leb n.position k (omega (arith, e)))
      ∙ ap (λ xs. xs ++ numbered_at (n ∷ ns) (suc k)) (none_yet n.position ns r.1 k (omega (arith, e)))
      ∙ ap (λ b. cond b (n ∷ []) (numbered_at ns (suc k))) (eq-eqb n.position (suc k) e))
  | inr (inl l) ↦ ap (λ b. cond b (n ∷ up_to_position (suc k) ns) (up_to_position (suc k) ns)) (le-leb n.position (suc k) (omega (arith, l)))
      ∙ ap (λ xs. n ∷ xs) (one_more n.position ns r.1 k)
      ∙ sym (ap (λ b. cond b (n ∷ up_to_position k ns) (up_to_position k ns) ++ numbered_at (n ∷ ns) (suc k)) (le-leb n.position k (omega (arith, l)))
      ∙ ap (λ b. (n ∷ up_to_position k ns) ++ cond b (n ∷ []) (numbered_at ns (suc k))) (ne_eqb n.position (suc k) (λ e. omega (arith, e, l))))
  | inr (inr l) ↦ none_yet_both m n ns r k l
]
  where
    none_yet_both : (m : ℕ) (n : Numbered) (ns : List Numbered) → Ascend m (n ∷ ns) → (k : ℕ) → suc k < n.position → up_to_position (suc k)
        (n ∷ ns) ≡ up_to_position k (n ∷ ns) ++ numbered_at (n ∷ ns) (suc k)
    none_yet_both m n ns r k l =
        none_yet (suc k) (n ∷ ns) (l, r.1) (suc k) (omega arith) ∙ sym (ap (λ xs. xs ++ numbered_at (n ∷ ns) (suc k))
        (none_yet (suc k) (n ∷ ns) (l, r.1) k (omega arith)) ∙ none_at (suc k) (n ∷ ns) (l, r.1) (suc k) (omega arith))

-- ---- the source's music

abbrev pub events_if : Option MidiEvent → List MidiEvent
events_if (Some e) = e ∷ []
events_if None = []

pub event_listed : (ns : List Numbered) (k : ℕ) → map (λ (n : Numbered). n.event) (numbered_at ns k) ≡ events_if (port_event ns k)
event_listed [] k = refl
event_listed (n ∷ ns) k = elim (cases_Bool (nat_eq n.position k)) [
  | inl e ↦ ap (λ b. map (λ (x : Numbered). x.event) (cond b (n ∷ []) (numbered_at ns k))) e
      ∙ sym (ap (λ b. events_if (cond b (Some n.event) (port_event ns k))) e)
  | inr e ↦ ap (λ b. map (λ (x : Numbered). x.event) (cond b (n ∷ []) (numbered_at ns k))) e ∙ event_listed ns k
      ∙ sym (ap (λ b. events_if (cond b (Some n.event) (port_event ns k))) e)
]

play_if : (m : Music) (x : Option MidiEvent) → play m (events_if x) ≡ source_next m x
play_if m None = refl
play_if m (Some e) = refl

pub source_played : (ns : List Numbered) → Ascend 0 ns → (k : ℕ) → source_at ns k ≡ music_at ns k
source_played ns r zero = sym (ap (λ xs. play quiet (map (λ (n : Numbered). n.event) xs)) (none_yet 0 ns r 0 (omega arith)))
source_played ns r (suc k) =
    let es : List MidiEvent = map (λ (n : Numbered). n.event) (up_to_position k ns) in
    ap (λ m. source_next m (port_event ns (suc k))) (source_played ns r k) ∙ sym (play_if (music_at ns k) (port_event ns (suc k)))
    ∙ sym (play_append quiet es (events_if (port_event ns (suc k))))
    ∙ ap (λ xs. play quiet (es ++ xs)) (sym (event_listed ns (suc k))) ∙ ap (play quiet)
    (sym (map_append (λ (n : Numbered). n.event) (up_to_position k ns) (numbered_at ns (suc k))))
    ∙ ap (λ xs. play quiet (map (λ (n : Numbered). n.event) xs)) (sym (one_more 0 ns r k))

pub source_is_played : (o : Options) (table : Targets) (plan : PortRuns) (ns : List Numbered) (k : ℕ) → Ascend 0 ns →
    (both_at o table plan ns k).source ≡ music_at ns k
source_is_played o table plan ns k r = source_is o table plan ns k ∙ source_played ns r k

-- ---- the output

-- from music to music over a list of the port's events
abbrev both_over : Options → Targets → PortRuns → Music → Music → List Numbered → Music × Music
both_over o table plan src out [] = (src, out)
both_over o table plan src out (n ∷ ns) = both_over o table plan (step src n.event)
    (play out (port_block plan.number o table (moment_at plan n.position) src out n.event)) ns

pub output_append : (o : Options) (table : Targets) (plan : PortRuns) (src out : Music) (xs ys : List Numbered) →
    port_output o table plan src out (xs ++ ys) ≡ port_output o table plan src out xs ++ port_output o table plan
    (both_over o table plan src out xs).0 (both_over o table plan src out xs).1 ys
output_append o table plan src out [] ys = refl
output_append o table plan src out (n ∷ ns) ys =
    let block : List MidiEvent = port_block plan.number o table (moment_at plan n.position) src out n.event in
    let rest : List MidiEvent = port_output o table plan (step src n.event) (play out block) ns in
    ap (λ xs. block ++ xs) (output_append o table plan (step src n.event) (play out block) ns ys)
    ∙ sym (append_assoc block rest (port_output o table plan (both_over o table plan (step src n.event)
    (play out block) ns).0 (both_over o table plan (step src n.event) (play out block) ns).1 ys))

over_append : (o : Options) (table : Targets) (plan : PortRuns) (src out : Music) (xs ys : List Numbered) →
    both_over o table plan src out (xs ++ ys) ≡ both_over o table plan (both_over o table plan src out xs).0 (both_over o table plan src out xs).1 ys
over_append o table plan src out [] ys = refl
over_append o table plan src out (n ∷ ns) ys = over_append o table plan (step src n.event)
    (play out (port_block plan.number o table (moment_at plan n.position) src out n.event)) ns ys

-- the event at a position
at_position : (ns : List Numbered) (k : ℕ) → (P : List Numbered → Option MidiEvent → Type 0) → P [] None →
    ((n : Numbered) → n.position ≡ k → P (n ∷ []) (Some n.event)) → P (numbered_at ns k) (port_event ns k)
at_position [] k P none some = none
at_position (n ∷ ns) k P none some = elim (cases_eq n.position k) [
  | inl e ↦ subst (λ b. P (cond b (n ∷ []) (numbered_at ns k)) (cond b (Some n.event) (port_event ns k))) (sym (eq-eqb n.position k e)) (some n e)
  | inr e ↦ subst (λ b. P (cond b (n ∷ []) (numbered_at ns k)) (cond b (Some n.event) (port_event ns k))) (sym (ne_eqb n.position k e))
      (at_position ns k P none some)
]

abbrev both_pair : Both → Music × Music
both_pair b = (b.source, b.out)

one_block : (o : Options) (table : Targets) (plan : PortRuns) (ns : List Numbered) (k : ℕ) (b : Both) →
    port_output o table plan b.source b.out (numbered_at ns (suc k)) ≡ block_if plan.number o table (moment plan k) b (port_event ns (suc k))
one_block o table plan ns k b = at_position ns (suc k)
    (λ xs x. port_output o table plan b.source b.out xs ≡ block_if plan.number o table (moment plan k) b x) refl
    (λ n e. append-nil (port_block plan.number o table (moment_at plan n.position) b.source b.out n.event)
    ∙ ap (λ j. port_block plan.number o table (moment_at plan j) b.source b.out n.event) e)

one_over : (o : Options) (table : Targets) (plan : PortRuns) (ns : List Numbered) (k : ℕ) (b : Both) →
    both_over o table plan b.source b.out (numbered_at ns (suc k))
    ≡ both_pair (both_next plan.number o table (moment plan k) b (port_event ns (suc k)))
one_over o table plan ns k b = at_position ns (suc k)
    (λ xs x. both_over o table plan b.source b.out xs ≡ both_pair (both_next plan.number o table (moment plan k) b x)) refl
    (λ n e. ap (λ j. both_pair (next_both plan.number o table (moment_at plan j) b n.event)) e)

over_is : (o : Options) (table : Targets) (plan : PortRuns) (ns : List Numbered) → Ascend 0 ns → (k : ℕ) →
    both_over o table plan quiet quiet (up_to_position k ns) ≡ both_pair (both_at o table plan ns k)
over_is o table plan ns r zero = ap (both_over o table plan quiet quiet) (none_yet 0 ns r 0 (omega arith))
over_is o table plan ns r (suc k) =
    ap (both_over o table plan quiet quiet) (one_more 0 ns r k) ∙ over_append o table plan quiet quiet (up_to_position k ns) (numbered_at ns (suc k))
    ∙ ap (λ (x : Music × Music). both_over o table plan x.0 x.1 (numbered_at ns (suc k))) (over_is o table plan ns r k)
    ∙ one_over o table plan ns k (both_at o table plan ns k)

pub blocks_are : (o : Options) (table : Targets) (plan : PortRuns) (ns : List Numbered) (k : ℕ) → Ascend 0 ns →
    blocks_to o table plan ns k ≡ port_output o table plan quiet quiet (up_to_position k ns)
blocks_are o table plan ns zero r = sym (ap (port_output o table plan quiet quiet) (none_yet 0 ns r 0 (omega arith)))
blocks_are o table plan ns (suc k) r =
    let xs : List Numbered = up_to_position k ns in
    ap (λ es. es ++ block_if plan.number o table (moment plan k) (both_at o table plan ns k) (port_event ns (suc k))) (blocks_are o table plan ns k r)
    ∙ ap (λ es. port_output o table plan quiet quiet xs ++ es) (sym (one_block o table plan ns k (both_at o table plan ns k)))
    ∙ ap (λ (x : Music × Music). port_output o table plan quiet quiet xs ++ port_output o table plan x.0 x.1 (numbered_at ns (suc k)))
    (sym (over_is o table plan ns r k))
    ∙ sym (output_append o table plan quiet quiet xs (numbered_at ns (suc k))) ∙ ap (port_output o table plan quiet quiet) (sym (one_more 0 ns r k))
