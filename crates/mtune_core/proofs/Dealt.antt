-- Events dealt out to their tracks, and what holds of those of one track.
use Rattle.std.proofs.Common.{◌≡◌, ℕ, zero, suc, ◌+◌, ◌<◌, ◌≤◌, List, [], ◌∷◌, length, filter, get_or, Bool, true, false, cond, refl, ap, arith, inl, inr, nat_le, nat_lt}
use Rattle.std.specs.Prelude.{◌==◌}
use Rattle.std.specs.List.{AllByRecursion}
use Rattle.std.proofs.lemmas.Bool.{cases_Bool, eqb-true, ltb-true}
use Rattle.mt_base.specs.Midi.{MidiEvent}
use Rattle.midi_model.specs.Merged.{precedes}
use Rattle.event_stream.specs.Distributed.{events_in, distributed_from}

pub length_dealt : (n m : ℕ) (es : List MidiEvent) → length (distributed_from n m es) ≡ m
length_dealt n zero es = refl
length_dealt n (suc m) es = ap suc (length_dealt (suc n) m es)

pub get_dealt : (n m i t : ℕ) (es : List MidiEvent) → t ≡ n + i → i < m → get_or (distributed_from n m es) i [] ≡ events_in t es
get_dealt n zero i t es is lt = absurd (omega (arith, lt))
get_dealt n (suc m) zero t es is lt = let e : n ≡ t = omega (arith, is) in ap (λ k. events_in k es) e
get_dealt n (suc m) (suc i) t es is lt = get_dealt (suc n) m i t es (omega (arith, is)) (omega (arith, lt))

pub each_weaker : (P Q : MidiEvent → Type 0) (es : List MidiEvent) → ((e : MidiEvent) → P e → Q e) → AllByRecursion P es → AllByRecursion Q es
each_weaker P Q [] f h = h
each_weaker P Q (e ∷ es) f h = (f e h.0, each_weaker P Q es f h.1)

pub each_picked : (p : MidiEvent → Bool) (P : MidiEvent → Type 0) (es : List MidiEvent) → AllByRecursion P es → AllByRecursion P (filter p es)
each_picked p P [] h = tt
each_picked p P (e ∷ es) h = elim (cases_Bool (p e)) [
  | inl picked ↦ rw picked (h.0, each_picked p P es h.1)
  | inr left ↦ rw left (each_picked p P es h.1)
]

pub no_earlier : (e f : MidiEvent) → precedes e f ≡ true → e.tick ≤ f.tick
no_earlier e f h = pick (e.tick == f.tick) refl h
  where
    pick : (b : Bool) → (e.tick == f.tick) ≡ b → cond b (nat_le e.track f.track) (nat_lt e.tick f.tick) ≡ true → e.tick ≤ f.tick
    pick true x k = let same : e.tick ≡ f.tick = eqb-true e.tick f.tick x in omega (arith, same)
    pick false x k = let less : e.tick < f.tick = ltb-true e.tick f.tick k in omega (arith, less)
