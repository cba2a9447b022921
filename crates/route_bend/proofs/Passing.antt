-- A source that goes through the bend route, event by event.
use Rattle.std.proofs.Common.{◌≡◌, ◌<◌, ◌++◌, ℕ, suc, Bool, true, false, cond, List, [], ◌∷◌, length, take, map, refl, ap, sym, ◌∙◌, inl, inr}
use Rattle.std.proofs.lemmas.Bool.{cases_eq, eq-eqb, ne_eqb}
use Rattle.mt_base.specs.declared.event.Msg.{Msg}
use Rattle.mt_base.specs.Midi.{MidiWhat, Says, SysexOf, MetaOf, MidiEvent, channel_of}
use Rattle.retune_model.specs.Options.{Options}
use Rattle.retune_model.specs.Faults.{Targets, is_part}
use Rattle.retune_model.specs.Ports.{of_port, ports_from, ports_after, all_zero}
use Rattle.retune_model.specs.PortOutput.{kept_for, through_ports_from}
use Rattle.channel_model.specs.BendOutput.{PortRuns, Played, placed_at, next_block, next_played}
use Rattle.bend_laws.specs.Moments.{Both}
use Rattle.bend_laws.specs.Positions.{both_at}
use Rattle.plan_laws.specs.Counting.{ComesAt, NextIsTaken}
use Rattle.lifetimes.specs.Told.{port_on}
use Rattle.channel_plan.specs.declared.plan.Plan.{Plan}
use Rattle.routes.specs.Putting.{said_at}
use Rattle.route_bend.specs.Bent.{bent}
use Rattle.route_bend.specs.Putting.{is_of_part, block_events}
use Rattle.route_bend.specs.Preparing.{caused_by}
use Rattle.route_bend.specs.Standing.{IsBending, IsAt, runs_by, caused}
use Rattle.route_bend.specs.Turning.{EventsTurn, OthersWait}

-- ---- what is kept in mind of each port is the music of both sides

abbrev pub played_at : Options → (ℕ → Bool) → Targets → List MidiEvent → Plan → ℕ → ℕ → Played
played_at o allowed table es plan k z =
    let b : Both = both_at o table (runs_by o allowed table es plan z) (of_port z es) k in
    record { source = b.source; out = b.out }

-- what the events behind the first k cause
abbrev pub passed : Options → (ℕ → Bool) → Targets → List MidiEvent → Plan → ℕ → List MidiEvent → List MidiEvent
passed o allowed table es plan k rest =
    through_ports_from (λ z s n. next_block o table (runs_by o allowed table es plan z) s n) (λ z s n. next_played o table
    (runs_by o allowed table es plan z) s n) (ports_from all_zero (take k es)) k (played_at o allowed table es plan k) rest

pub all_passed : (o : Options) (allowed : ℕ → Bool) (table : Targets) (es : List MidiEvent) (plan : Plan) →
    passed o allowed table es plan 0 es ≡ bent o allowed table es plan
all_passed o allowed table es plan = refl

ports_append : (ports : ℕ → ℕ) (es : List MidiEvent) (e : MidiEvent) → ports_from ports (es ++ e ∷ []) ≡ ports_after (ports_from ports es) e
ports_append ports [] e = refl
ports_append ports (x ∷ es) e = ports_append (ports_after ports x) es e

ext : {A B : Type 0} (f g : A → B) → ((x : A) → f x ≡ g x) → f ≡ g
ext f g h = λ i. λ x. h x i

-- the messages of a part, at its event
said_placed : (e : MidiEvent) (ms : List Msg) → placed_at e (map Says ms) ≡ said_at e ms
said_placed e [] = refl
said_placed e (m ∷ ms) = ap (λ xs. (let x : MidiEvent = record { tick = e.tick; track = e.track; what = Says m } in x) ∷ xs) (said_placed e ms)

itself : (e : MidiEvent) (w : MidiWhat) → e.what ≡ w → (let x : MidiEvent = record { tick = e.tick; track = e.track; what = w } in x) ≡ e
itself e w h = ap (λ y. let x : MidiEvent = record { tick = e.tick; track = e.track; what = y } in x) (sym h)

module _ (turn : EventsTurn) (wait : OthersWait) (taken : NextIsTaken) (o : Options) (allowed : ℕ → Bool) (table : Targets) (es : List MidiEvent)
    (plan : Plan) (bending : IsBending o allowed table es plan) (k : ℕ) (e : MidiEvent) (comes : ComesAt es k e) (within : k < length es) where
  abbrev pub z : ℕ
  z = port_on (take k es) e

  pub at : IsAt o allowed table es plan k e z
  at = record { bending = bending; comes = comes; within = within; port = refl }

  abbrev pub runs : PortRuns
  runs = runs_by o allowed table es plan z

  -- its block
  block_is : (w : MidiWhat) → e.what ≡ w → (ms : List Msg) → ((m : Msg) → w ≡ Says m → is_part o (channel_of m) ≡ true →
      ms ≡ caused o table runs (of_port z es) k e m) →
      next_block o table runs (played_at o allowed table es plan k z) (record { position = suc k; event = record e { what = w } })
      ≡ cond (is_of_part o w) (said_at e ms) (record e { what = w } ∷ [])
  block_is (Says m) h ms f = pick (is_part o (channel_of m)) refl
    where
      b : Both
      b = both_at o table (runs_by o allowed table es plan z) (of_port z es) k

      pick : (r : Bool) → is_part o (channel_of m) ≡ r →
          next_block o table runs (played_at o allowed table es plan k z) (record { position = suc k; event = record e { what = Says m } })
          ≡ cond (is_part o (channel_of m)) (said_at e ms) (record e { what = Says m } ∷ [])
      pick true g = ap (λ r. placed_at e (cond r (map Says (caused o table runs (of_port z es) k (record e { what = Says m }) m)) (Says m ∷ []))) g
          ∙ said_placed e (caused o table runs (of_port z es) k (record e { what = Says m }) m)
          ∙ ap (λ y. said_at e (caused o table runs (of_port z es) k y m)) (itself e (Says m) h)
          ∙ ap (said_at e) (sym (f m refl g))
          ∙ sym (ap (λ r. cond r (said_at e ms) (record e { what = Says m } ∷ [])) g)
      pick false g = ap (λ r. placed_at e (cond r (map Says (caused o table runs (of_port z es) k (record e { what = Says m }) m)) (Says m ∷ []))) g
          ∙ sym (ap (λ r. cond r (said_at e ms) (record e { what = Says m } ∷ [])) g)
  block_is (SysexOf lead bytes) h ms f = refl
  block_is (MetaOf kind bytes) h ms f = refl

  -- the musics after it
  next_is : kept_for z (next_played o table runs (played_at o allowed table es plan k z) (record { position = suc k; event = e }))
      (played_at o allowed table es plan k) ≡ played_at o allowed table es plan (suc k)
  next_is = ext (kept_for z (next_played o table runs (played_at o allowed table es plan k z) (record { position = suc k; event = e }))
      (played_at o allowed table es plan k)) (played_at o allowed table es plan (suc k)) (λ y. elim (cases_eq y z) [
        | inl i ↦ ap (λ r. cond r (next_played o table runs (played_at o allowed table es plan k z) (record { position = suc k; event = e }))
            (played_at o allowed table es plan k y)) (eq-eqb y z i)
            ∙ ap (λ (b : Both). let x : Played = record { source = b.source; out = b.out } in x) (sym (turn o allowed table es plan k e z at).next)
            ∙ ap (played_at o allowed table es plan (suc k)) (sym i)
        | inr i ↦ ap (λ r. cond r (next_played o table runs (played_at o allowed table es plan k z) (record { position = suc k; event = e }))
            (played_at o allowed table es plan k y)) (ne_eqb y z i)
            ∙ ap (λ (b : Both). let x : Played = record { source = b.source; out = b.out } in x)
            (sym (wait o allowed table es plan k e z y at i).same)
      ])

  -- what the program puts for it comes next, and then what the rest causes
  pub goes_by : (ms : List Msg) (rest : List MidiEvent) → ((m : Msg) → e.what ≡ Says m → is_part o (channel_of m) ≡ true → ms
      ≡ caused_by o allowed table es plan k e m) → passed o allowed table es plan k (e ∷ rest)
      ≡ block_events o e ms ++ passed o allowed table es plan (suc k) rest
  goes_by ms rest f =
      ap (λ xs. xs ++ through_ports_from (λ y s n. next_block o table (runs_by o allowed table es plan y) s n) (λ y s n. next_played o table
      (runs_by o allowed table es plan y) s n) (ports_after (ports_from all_zero (take k es)) e) (suc k) (kept_for z (next_played o table runs
      (played_at o allowed table es plan k z) (record { position = suc k; event = e })) (played_at o allowed table es plan k)) rest)
      (block_is e.what refl ms f)
      ∙ ap (λ s. block_events o e ms ++ through_ports_from (λ y s n. next_block o table (runs_by o allowed table es plan y) s n) (λ y s n. next_played
      o table (runs_by o allowed table es plan y) s n) (ports_after (ports_from all_zero (take k es)) e) (suc k) s rest) next_is
      ∙ ap (λ ports. block_events o e ms ++ through_ports_from (λ y s n. next_block o table (runs_by o allowed table es plan y) s n) (λ y s n.
      next_played o table (runs_by o allowed table es plan y) s n) ports (suc k) (played_at o allowed table es plan (suc k)) rest)
      (sym (ap (ports_from all_zero) (taken es k e comes).0 ∙ ports_append all_zero (take k es) e))
