-- An event was taken: the note that is told of a message, and what is kept of the event's port.
use Rattle.std.proofs.Common.{◌≡◌, ◌<◌, ℕ, zero, suc, Bool, true, false, cond, List, Some, None, set, take, refl, ap, sym, ◌∙◌, subst, arith}
use Rattle.std.proofs.lemmas.Bool.{both_ways}
use Rattle.mt_base.specs.declared.event.Msg.{Msg}
use Rattle.mt_base.specs.declared.event.Msg.TheVariants.{NoteOn, NoteOff, KeyPressure, Control, Program, Pressure, Bend}
use Rattle.mt_base.specs.Midi.{MidiWhat, MidiEvent, Says, channel_of}
use Rattle.midi_model.specs.Sysex.{doing}
use Rattle.retune_model.specs.Options.{Options}
use Rattle.retune_model.specs.Faults.{Targets, is_part}
use Rattle.retune_model.specs.Ports.{of_port, resets}
use Rattle.lifetimes.specs.Told.{port_on, begun_by}
use Rattle.lifetimes.specs.declared.change.Begun.{Begun}
use Rattle.channel_plan.specs.declared.plan.Plan.{Plan}
use Rattle.route_bend.specs.Channels.{IsFresh}
use Rattle.route_bend.specs.Standing.{IsAt, PortStands, AllStand, IsPrepared, runs_by, used_by, found_in, caused, releases, strikes}
use Rattle.route_bend.specs.Preparing.{IsFoundAt, IsReady, IsTaken}
use Rattle.route_bend.specs.Turning.{EventsTurn, OthersWait, PositionsAreSeen}
use Rattle.route_bend.specs.declared.channels.Channels.{Channels}
use Rattle.route_bend.specs.declared.bending.Bending.{Bending}
use Rattle.route_bend.proofs.Everywhere.{all_some}
use Rattle.route_bend.proofs.Beginning.{begun_note, told_begun}
use Rattle.route_bend.proofs.Taking.{prepared_here, replaced_taken, sends_it, reset_stands}

-- ---- the note that is told

some_none : (b : Begun) → Some b ≡ None → ⊥
some_none b h = cc

-- it is the one that the message says
pub told_says : (o : Options) (table : Targets) (z n t : ℕ) (w : MidiWhat) (m : Msg) (c j v a : ℕ) (b : Begun) → w ≡ Says m → m ≡ NoteOn c j v →
    a ≡ channel_of m → is_part o (channel_of m) ≡ true → Some b ≡ begun_by o table z n t w → (w ≡ Says (NoteOn a b.key v)) × (0 < v)
told_says o table z n t w m c j zero a b what is at part h = absurd (some_none b (h ∙ ap (begun_by o table z n t) (what ∙ ap Says is)))
told_says o table z n t w m c j (suc v) a b what is at part h =
    let key : b.key ≡ j = ap (λ (x : Begun). x.key) (told_begun o table z n t w c j v b (what ∙ ap Says is)
    (sym (ap (λ x. is_part o (channel_of x)) is) ∙ part) h) in
    let on : a ≡ c = at ∙ ap channel_of is in
    (what ∙ ap Says is ∙ ap (λ x. Says (NoteOn x j (suc v))) (sym on) ∙ ap (λ x. Says (NoteOn a x (suc v))) (sym key), omega arith)

-- where none is told the message releases a key
pub told_none : (o : Options) (table : Targets) (z n t : ℕ) (w : MidiWhat) (m : Msg) (c j v : ℕ) → w ≡ Says m → m ≡ NoteOn c j v →
    is_part o (channel_of m) ≡ true → None ≡ begun_by o table z n t w → releases m ≡ true
told_none o table z n t w m c j zero what is part h = ap releases is
told_none o table z n t w m c j (suc v) what is part h =
    let b : Begun = begun_note o table z n t c j in
    absurd (some_none b (sym (h ∙ ap (begun_by o table z n t) (what ∙ ap Says is)
    ∙ ap (λ r. cond r (Some b) None) (sym (ap (λ x. is_part o (channel_of x)) is) ∙ part))))

-- what is no note on begins none
pub calm : (m : Msg) → ((c j v : ℕ) → m ≡ NoteOn c j v → ⊥) → strikes m ≡ false
calm (NoteOn c j v) h = absurd (h c j v refl)
calm (NoteOff c j v) h = refl
calm (KeyPressure c j v) h = refl
calm (Control c n v) h = refl
calm (Program c p) h = refl
calm (Pressure c v) h = refl
calm (Bend c v) h = refl

-- ---- what is kept of the port of a message

module _ (turn : EventsTurn) (wait : OthersWait) (seen : PositionsAreSeen) (o : Options) (allowed : ℕ → Bool) (table : Targets) (es : List MidiEvent)
    (plan : Plan) (k : ℕ) (e : MidiEvent) (at : IsAt o allowed table es plan k e (port_on (take k es) e)) (m : Msg)
    (is : e.what ≡ Says m) (part : is_part o (channel_of m) ≡ true) (b : Bending) (ready : IsReady o allowed table es plan k e b) (s : Channels)
    (found : found_in b.ports.items (port_on (take k es) e) ≡ Some s) where
  port_here : s.port ≡ port_on (take k es) e
  port_here = (all_some turn wait o allowed table es plan k e at b.ports.items s ready.stands found).port

  pub at_port : IsAt o allowed table es plan k e s.port
  at_port = subst (IsAt o allowed table es plan k e) (sym port_here) at

  pub prepared_port : IsPrepared o table (used_by o allowed table es s.port) (runs_by o allowed table es plan s.port) (of_port s.port es) k e m
      s b.out.messages.items
  prepared_port = subst (λ z. IsPrepared o table (used_by o allowed table es z) (runs_by o allowed table es plan z) (of_port z es) k e m
      s b.out.messages.items) (sym port_here) (prepared_here turn wait seen o allowed table es plan k e at m is part b s ready found)

  -- it is replaced by what stands after the message
  pub followed : (place : ℕ) → IsFoundAt b.ports.items (port_on (take k es) e) place → (y : Channels) (ms : List Msg) →
      (PortStands o allowed table es plan s.port (suc k) y
      × (ms ≡ caused o table (runs_by o allowed table es plan s.port) (of_port s.port es) k e m)) →
      (new : Bending) → new.ports.items ≡ set b.ports.items place y → new.out.messages.items ≡ ms → IsTaken o allowed table es plan k e new
  followed place there y ms own new ports out =
      let then = subst (λ z. PortStands o allowed table es plan z (suc k) y
      × (ms ≡ caused o table (runs_by o allowed table es plan z) (of_port z es) k e m)) port_here own in
      record {
        stands = subst (AllStand o allowed table es plan (suc k)) (sym ports) (replaced_taken turn wait seen o allowed table es plan k e at m is part
            b.ports.items place y ms ready.stands there then);
        sent = sends_it turn wait seen o allowed table es plan k e at m is part new.out.messages.items (out ∙ then.1);
      }

-- ---- an event that is no message of a part

-- a kept drum's message is no other
pub drum_only : (o : Options) (w : MidiWhat) (m n : Msg) → w ≡ Says m → is_part o (channel_of m) ≡ false → w ≡ Says n →
    is_part o (channel_of n) ≡ false
drum_only o w m n is drum also =
    let same : Says n ≡ Says m = sym also ∙ is in
    let one : n ≡ m = cc in
    ap (λ x. is_part o (channel_of x)) one ∙ drum

-- a reset of a port of which something is kept

module _ (turn : EventsTurn) (wait : OthersWait) (seen : PositionsAreSeen) (o : Options) (allowed : ℕ → Bool) (table : Targets) (es : List MidiEvent)
    (plan : Plan) (k : ℕ) (e : MidiEvent) (at : IsAt o allowed table es plan k e (port_on (take k es) e))
    (other : (m : Msg) → e.what ≡ Says m → is_part o (channel_of m) ≡ false) (b : Bending) (ready : IsReady o allowed table es plan k e b)
    (s : Channels) (found : found_in b.ports.items (port_on (take k es) e) ≡ Some s) where
  pub reset_taken : resets (doing e.what) ≡ true → (place : ℕ) → IsFoundAt b.ports.items (port_on (take k es) e) place → (y : Channels) →
      IsFresh y → y.port ≡ s.port → (new : Bending) → new.ports.items ≡ set b.ports.items place y → IsTaken o allowed table es plan k e new
  reset_taken reset place there y fresh port new ports = record {
    stands = subst (AllStand o allowed table es plan (suc k)) (sym ports) (reset_stands turn wait seen o allowed table es plan k e at other
        b.ports.items place y reset ready.stands there fresh
        (port ∙ (all_some turn wait o allowed table es plan k e at b.ports.items s ready.stands found).port));
    sent = λ m is part. absurd (both_ways (is_part o (channel_of m)) (other m is) part);
  }
