-- What a pair needs is a well-formed state, at every position of a valid source.
use Rattle.std.proofs.Common.{◌≡◌, ◌<◌, ◌≤◌, ◌+◌, ℕ, zero, suc, ℤ, pos, negsuc, ◌+ℤ◌, Bool, true, false, cond, ◌&&◌, List, [], ◌∷◌, Option, Some, None, refl, ap, sym, ◌∙◌, subst, map, filter, nat_le, length, set, get_or, replicate, arith, inl, inr}
use Rattle.std.specs.List.{AllByRecursion}
use Rattle.std.proofs.lemmas.Bool.{cases_Bool, cases_eq, leb-true, and_parts, cond_both}
use Rattle.std.proofs.lemmas.List.{get_or-set_same, get_or-set_other}
use Rattle.retune_model.specs.Pairs.{Pair, sounding}
use Rattle.mt_base.specs.declared.event.Msg.TheVariants.{NoteOn, NoteOff, KeyPressure, Control, Program, Pressure, Bend}
use Rattle.mt_base.specs.Valid.{IsValidWhat, IsValidEvent}
use Rattle.mt_base.specs.Midi.{MidiWhat, Says, SysexOf, MetaOf, MidiEvent}
use Rattle.midi_model.specs.WellFormed.{IsWellFormed}
use Rattle.midi_model.specs.Sysex.{doing}
use Rattle.midi_model.specs.Notes.{Note, sounds, sounding_on}
use Rattle.midi_model.specs.Music.{Music, channel_at, step, key_pressure, state_at}
use Rattle.midi_model.specs.MusicLaws.{begun_by}
use Rattle.retune_model.specs.Table.{BendTarget}
use Rattle.retune_model.specs.Options.{Options}
use Rattle.retune_model.specs.Source.{bend_in_steps}
use Rattle.retune_model.specs.Faults.{Targets, is_part, target_of}
use Rattle.retune_model.specs.Ports.{Numbered}
use Rattle.channel_model.specs.Choice.{wanted, wanted_keys, key_set, has_pair, bend_value}
use Rattle.state_laws.specs.StateLaws.{StaysWellFormedWith}
use Rattle.bend_laws.specs.Brought.{IsReached}
use Rattle.bend_laws.specs.Positions.{port_event}
use Rattle.bend_laws.proofs.Planning.{source_next, source_at}
use Rattle.bend_laws.proofs.Lists.{all_weaker, all_append, all_both, all_mapped}
use Rattle.bend_laws.proofs.Playing.{reached_play}
use Rattle.bend_laws.proofs.Bringing.{wanted_wide}
use Rattle.bend_laws.proofs.Keys.{aim_fits}
use Rattle.bend_laws.proofs.Still.{no_message}
use Rattle.bend_laws.proofs.Touched.{GrowsTo, event_touches}
use Rattle.bend_laws.proofs.Fading.{silent_begun}
use Rattle.bend_laws.proofs.Bridge.{OneSounds, own_pressure, pressure_at, well_reached, ReceiversStay}

-- ---- the source, at each position

-- the events of a port are valid
abbrev pub AreValidTo : List Numbered → ℕ → Type 0
AreValidTo ns last = (k : ℕ) (e : MidiEvent) → k < last → port_event ns (suc k) ≡ Some e → IsValidEvent e

abbrev pub KeysLow : List Note → Type 0
KeysLow ns = AllByRecursion (λ (n : Note). n.key < 128) ns

new_low : (m : Music) (t : ℕ) (w : MidiWhat) → IsValidWhat w → KeysLow (begun_by m t (doing w))
new_low m t (Says (NoteOn c k zero)) h = tt
new_low m t (Says (NoteOn c k (suc v))) h = ((let l : k ≤ 127 = h.1 in omega (arith, l)), tt)
new_low m t (Says (NoteOff c k v)) h = tt
new_low m t (Says (KeyPressure c k v)) h = tt
new_low m t (Says (Control c n v)) h = tt
new_low m t (Says (Program c p)) h = tt
new_low m t (Says (Pressure c v)) h = tt
new_low m t (Says (Bend c v)) h = tt
new_low m t (SysexOf lead bytes) h = subst KeysLow (sym (silent_begun m t (doing (SysexOf lead bytes)) (no_message (SysexOf lead bytes) tt))) tt
new_low m t (MetaOf kind bytes) h = tt

step_low : (m : Music) (e : MidiEvent) → IsValidEvent e → KeysLow m.notes → KeysLow (step m e).notes
step_low m e v h =
    let g : GrowsTo m (begun_by m e.tick (doing e.what)) (step m e).notes = event_touches m e.tick (doing e.what) in
    subst KeysLow (sym g.notes) (all_append (λ (n : Note). n.key < 128) (map g.turn m.notes) (begun_by m e.tick (doing e.what))
    (all_mapped (λ (n : Note). n.key < 128) g.turn (λ (n : Note). n.key < 128) (λ n l. subst (λ k. k < 128) (sym (g.each n).same.key) l) m.notes h)
    (new_low m e.tick e.what v.what))

pub record IsFineSource (m : Music) : Type 0 where
  pub reached : IsReached m
  pub low : KeysLow m.notes

fine_next : (m : Music) (x : Option MidiEvent) → ((e : MidiEvent) → x ≡ Some e → IsValidEvent e) → IsFineSource m → IsFineSource (source_next m x)
fine_next m None v h = h
fine_next m (Some e) v h = record { reached = reached_play m (e ∷ []) (v e refl, tt) h.reached; low = step_low m e (v e refl) h.low }

pub fine_source : (ns : List Numbered) (last : ℕ) → AreValidTo ns last → (k : ℕ) → k ≤ last → IsFineSource (source_at ns k)
fine_source ns last v zero l = record { reached = record { events = []; valid = tt; is = refl }; low = tt }
fine_source ns last v (suc k) l = fine_next (source_at ns k) (port_event ns (suc k)) (λ e is. v k e l is) (fine_source ns last v k (omega arith))

-- ---- pressures

all_own : (P : ℕ → Note → Type 0) (ns : List Note) → ((c : ℕ) → AllByRecursion (P c) ns) → AllByRecursion (λ n. P n.channel n) ns
all_own P [] h = tt
all_own P (n ∷ ns) h = ((h n.channel).0, all_own P ns (λ c. (h c).1))

abbrev Soft : Note → Type 0
Soft n = sounds n ≡ true → n.pressure ≤ 127

soft_notes : OneSounds → ReceiversStay → (m : Music) → IsFineSource m → AllByRecursion Soft m.notes
soft_notes one stay m h =
    let P : ℕ → Note → Type 0 = λ c n. sounds n ≡ true → n.channel ≡ c → key_pressure m.notes c n.key ≡ n.pressure in
    let own : AllByRecursion (λ n. P n.channel n) m.notes =
    all_own P m.notes (λ c. own_pressure c m.notes (λ k. subst (λ (y : Music). sounding_on c k y.notes ≤ 1) (sym h.reached.is)
    (one h.reached.events c k))) in
    all_weaker (λ n. P n.channel n × (n.key < 128)) Soft
    (λ n q s.
    let w : IsWellFormed (state_at m n.channel) = well_reached stay m n.channel h.reached in
    let at : get_or (state_at m n.channel).keys n.key 0 ≡ n.pressure = pressure_at m.notes n.channel 0 128 n.key q.1
    ∙ ap (key_pressure m.notes n.channel) (let u : 0 + n.key ≡ n.key = omega arith in u) ∙ q.0 s refl in
    subst (λ p. p ≤ 127) at (w.key_bytes n.key))
    m.notes (all_both (λ n. P n.channel n) (λ (n : Note). n.key < 128) m.notes own h.low)

soft_sounding : (o : Options) (ns : List Note) → AllByRecursion Soft ns → AllByRecursion (λ (n : Note). n.pressure ≤ 127)
    (filter (λ n. is_part o n.channel && sounds n) ns)
soft_sounding o [] h = tt
soft_sounding o (n ∷ ns) h = elim (cases_Bool (is_part o n.channel && sounds n)) [
  | inl e ↦ subst (λ b. AllByRecursion (λ (x : Note). x.pressure ≤ 127) (cond b (n ∷ filter (λ x. is_part o x.channel && sounds x) ns)
      (filter (λ x. is_part o x.channel && sounds x) ns))) (sym e)
      (h.0 (and_parts (is_part o n.channel) (sounds n) e).1, soft_sounding o ns h.1)
  | inr e ↦ subst (λ b. AllByRecursion (λ (x : Note). x.pressure ≤ 127) (cond b (n ∷ filter (λ x. is_part o x.channel && sounds x) ns)
      (filter (λ x. is_part o x.channel && sounds x) ns))) (sym e) (soft_sounding o ns h.1)
]

zeros : (n k : ℕ) → get_or (replicate n 0) k 0 ≤ 127
zeros zero k = omega arith
zeros (suc n) zero = omega arith
zeros (suc n) (suc k) = zeros n k

abbrev SoftKeys : List ℕ → Type 0
SoftKeys ks = (k : ℕ) → get_or ks k 0 ≤ 127

soft_set : (ks : List ℕ) (i p : ℕ) → i < length ks → p ≤ 127 → SoftKeys ks → SoftKeys (set ks i p)
soft_set ks i p low small h k = elim (cases_eq k i) [
  | inl e ↦ subst (λ x. get_or (set ks i p) x 0 ≤ 127) (sym e) (subst (λ x. x ≤ 127) (sym (get_or-set_same ks i p 0 low)) small)
  | inr e ↦ subst (λ x. x ≤ 127) (sym (get_or-set_other ks i k p 0 e)) (h k)
]

soft_if : (o : Options) (table : Targets) (p : Pair) (n : Note) (ns : List Note) (x : Option BendTarget) → target_of o table n ≡ x →
    n.pressure ≤ 127 → SoftKeys (wanted_keys o table p ns) → SoftKeys (key_set (wanted_keys o table p ns) x n.pressure)
soft_if o table p n ns None e small h = h
soft_if o table p n ns (Some t) e small h = soft_set (wanted_keys o table p ns) t.key n.pressure (subst (λ l. t.key < l)
    (sym (wanted_wide o table p ns)) (aim_fits o.range (table n.key n.onset) t e)) small h

soft_keys : (o : Options) (table : Targets) (p : Pair) (ns : List Note) → AllByRecursion (λ (n : Note). n.pressure ≤ 127) ns →
    SoftKeys (wanted_keys o table p ns)
soft_keys o table p [] h = zeros 128
soft_keys o table p (n ∷ ns) h = cond_both (has_pair p n (target_of o table n)) (key_set (wanted_keys o table p ns)
    (target_of o table n) n.pressure) (wanted_keys o table p ns) SoftKeys
    (λ e. soft_if o table p n ns (target_of o table n) refl h.0 (soft_keys o table p ns h.1)) (λ e. soft_keys o table p ns h.1)

-- ---- a bend is one

pub bend_fits : (z : ℤ) → bend_value z ≤ 16383
bend_fits (pos n) = pick (nat_le n 16383) refl
  where
    pick : (b : Bool) → nat_le n 16383 ≡ b → cond b n 16383 ≤ 16383
    pick true e = leb-true n 16383 e
    pick false e = omega arith
bend_fits (negsuc n) = omega arith

-- ---- what a pair needs

well_wanted : OneSounds → ReceiversStay → StaysWellFormedWith → (o : Options) (table : Targets) → o.range ≤ 127 → (m : Music) → IsFineSource m →
    (p : Pair) → IsWellFormed (wanted o table m p)
well_wanted one stay given o table range m h p =
    given (state_at m p.part.channel) o.range (bend_value ((pos 8192 +ℤ p.steps) +ℤ bend_in_steps o.range (channel_at m p.part.channel)))
    (wanted_keys o table p (sounding o m)) (well_reached stay m p.part.channel h.reached) range
    (bend_fits ((pos 8192 +ℤ p.steps) +ℤ bend_in_steps o.range (channel_at m p.part.channel))) (wanted_wide o table p (sounding o m))
    (soft_keys o table p (sounding o m) (soft_sounding o m.notes (soft_notes one stay m h)))

pub wanted_at : OneSounds → ReceiversStay → StaysWellFormedWith → (o : Options) (table : Targets) → o.range ≤ 127 → (ns : List Numbered)
    (last : ℕ) → AreValidTo ns last → (k : ℕ) → k ≤ last → (p : Pair) → IsWellFormed (wanted o table (source_at ns k) p)
wanted_at one stay given o table range ns last v k low p = well_wanted one stay given o table range (source_at ns k) (fine_source ns last v k low) p
