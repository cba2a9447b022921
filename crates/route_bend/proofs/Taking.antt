-- What is kept of all ports after an event.
use Rattle.std.proofs.Common.{◌≡◌, ℕ, suc, Bool, true, false, List, [], Option, Some, None, set, take, refl, ap, sym, ◌∙◌, subst}
use Rattle.std.proofs.lemmas.Bool.{both_ways}
use Rattle.mt_base.specs.declared.event.Msg.{Msg}
use Rattle.mt_base.specs.Midi.{MidiEvent, Says, channel_of}
use Rattle.midi_model.specs.Sysex.{doing}
use Rattle.retune_model.specs.Options.{Options}
use Rattle.retune_model.specs.Faults.{Targets, is_part}
use Rattle.retune_model.specs.Ports.{of_port, resets}
use Rattle.channel_model.specs.BendOutput.{PortRuns}
use Rattle.lifetimes.specs.Told.{port_on}
use Rattle.channel_plan.specs.declared.plan.Plan.{Plan}
use Rattle.route_bend.specs.Channels.{IsFresh}
use Rattle.route_bend.specs.Standing.{StandIf, IsAt, PortStands, AllStand, IsPrepared, runs_by, used_by, found_in, releases, strikes}
use Rattle.route_bend.specs.Preparing.{IsFoundAt, PreparedIf, IsReady, IsTaken, caused_by}
use Rattle.route_bend.specs.Turning.{IsTurn, EventsTurn, OthersWait, PositionsAreSeen}
use Rattle.route_bend.specs.declared.channels.Channels.{Channels}
use Rattle.route_bend.specs.declared.bending.Bending.{Bending}
use Rattle.route_bend.proofs.Along.{off_calm, off_goes_on}
use Rattle.route_bend.proofs.Everywhere as whole

same_message : (a b : Msg) → Says a ≡ Says b → a ≡ b
same_message a b h = cc

module _ (turn : EventsTurn) (wait : OthersWait) (seen : PositionsAreSeen) (o : Options) (allowed : ℕ → Bool) (table : Targets) (es : List MidiEvent)
    (plan : Plan)
    (k : ℕ) (e : MidiEvent) (at : IsAt o allowed table es plan k e (port_on (take k es) e)) where
  abbrev pub z : ℕ
  z = port_on (take k es) e

  abbrev pub runs : PortRuns
  runs = runs_by o allowed table es plan (port_on (take k es) e)

  abbrev pub used : ℕ → Bool
  used = used_by o allowed table es (port_on (take k es) e)

  here : IsTurn o table used runs (of_port z es) k e
  here = turn o allowed table es plan k e z at

  -- ---- a message of a part

  module _ (m : Msg) (is : e.what ≡ Says m) (part : is_part o (channel_of m) ≡ true) where
    -- what it causes
    pub sends_it : (ms : List Msg) → ms ≡ caused_by o allowed table es plan k e m → (n : Msg) → e.what ≡ Says n → is_part o (channel_of n) ≡ true →
        ms ≡ caused_by o allowed table es plan k e n
    sends_it ms h n what g = h ∙ ap (caused_by o allowed table es plan k e) (same_message m n (sym is ∙ what))

    pub replaced_taken : (ports : List Channels) (place : ℕ) (y : Channels) (ms : List Msg) → AllStand o allowed table es plan k ports →
        IsFoundAt ports (port_on (take k es) e) place →
        (PortStands o allowed table es plan (port_on (take k es) e) (suc k) y × (ms ≡ caused_by o allowed table es plan k e m)) →
        AllStand o allowed table es plan (suc k) (set ports place y)
    replaced_taken ports place y ms stands found own =
        whole.all_replaced turn wait o allowed table es plan k e at ports place y stands found own.0.port own.0

    pub none_taken : (ports : List Channels) → strikes m ≡ false → AllStand o allowed table es plan k ports →
        found_in ports (port_on (take k es) e) ≡ None →
        AllStand o allowed table es plan (suc k) ports
    none_taken ports calm stands none = whole.none_after turn wait o allowed table es plan k e at ports stands none
        (whole.none_goes_on o table used runs (of_port z es) k e here (whole.all_none turn wait o allowed table es plan k e at ports stands none) m
        is calm)

    pub none_caused : (ports : List Channels) → strikes m ≡ false → AllStand o allowed table es plan k ports →
        found_in ports (port_on (take k es) e) ≡ None →
        caused_by o allowed table es plan k e m ≡ []
    none_caused ports calm stands none = whole.nothing_caused o table used runs (of_port z es) k e here
        (whole.all_none turn wait o allowed table es plan k e at ports stands none) m part calm

    -- a note off
    pub off_taken : (b : Bending) → releases m ≡ true → IsReady o allowed table es plan k e b → IsTaken o allowed table es plan k e b
    off_taken b up ready = record {
      stands = whole.each_port turn wait o allowed table es plan k e at b.ports.items b.ports.items ready.stands (λ y i. refl)
          (goes (found_in b.ports.items z) (ready.stands z));
      sent = sends_it b.out.messages.items (sent_by (found_in b.ports.items z) refl (ready.ready m is part));
    }
      where
        goes : (x : Option Channels) → StandIf o table used runs (of_port z es) k x → StandIf o table used runs (of_port z es) (suc k) x
        goes (Some s) h = off_goes_on turn seen o allowed table es plan k e z at m is up s h
        goes None h = whole.none_goes_on o table used runs (of_port z es) k e here h m is (off_calm m up)

        sent_by : (x : Option Channels) → found_in b.ports.items z ≡ x → PreparedIf o allowed table es plan k e m z x b.out.messages.items →
            b.out.messages.items ≡ caused_by o allowed table es plan k e m
        sent_by (Some s) f h = h.released up
        sent_by None f h = h ∙ sym (none_caused b.ports.items (off_calm m up) ready.stands f)

    -- one that nothing is kept for
    pub quiet_taken : (b : Bending) → strikes m ≡ false → IsReady o allowed table es plan k e b →
        found_in b.ports.items (port_on (take k es) e) ≡ None →
        IsTaken o allowed table es plan k e b
    quiet_taken b calm ready none = record {
      stands = none_taken b.ports.items calm ready.stands none;
      sent = sends_it b.out.messages.items (subst (λ x. PreparedIf o allowed table es plan k e m z x b.out.messages.items) none
          (ready.ready m is part)
          ∙ sym (none_caused b.ports.items calm ready.stands none));
    }

    -- what was prepared of its port
    pub prepared_here : (b : Bending) (s : Channels) → IsReady o allowed table es plan k e b →
        found_in b.ports.items (port_on (take k es) e) ≡ Some s →
        IsPrepared o table (used_by o allowed table es (port_on (take k es) e)) (runs_by o allowed table es plan (port_on (take k es) e))
        (of_port (port_on (take k es) e) es) k e m s b.out.messages.items
    prepared_here b s ready some = subst (λ x. PreparedIf o allowed table es plan k e m z x b.out.messages.items) some (ready.ready m is part)

  -- ---- another event

  module _ (other : (m : Msg) → e.what ≡ Says m → is_part o (channel_of m) ≡ false) where
    pub others_taken : (b : Bending) → resets (doing e.what) ≡ false → IsReady o allowed table es plan k e b → IsTaken o allowed table es plan k e b
    others_taken b none ready = record {
      stands = whole.all_others turn wait o allowed table es plan k e at other none b.ports.items ready.stands;
      sent = λ m is part. absurd (both_ways (is_part o (channel_of m)) (other m is) part);
    }

    pub reset_none : (b : Bending) → resets (doing e.what) ≡ true → found_in b.ports.items (port_on (take k es) e) ≡ None →
        IsReady o allowed table es plan k e b → IsTaken o allowed table es plan k e b
    reset_none b reset none ready = record {
      stands = whole.none_after turn wait o allowed table es plan k e at b.ports.items ready.stands none
          (whole.none_resets o table used runs (of_port z es) k e here reset);
      sent = λ m is part. absurd (both_ways (is_part o (channel_of m)) (other m is) part);
    }

    pub reset_stands : (ports : List Channels) (place : ℕ) (y : Channels) → resets (doing e.what) ≡ true → AllStand o allowed table es plan k ports →
        IsFoundAt ports (port_on (take k es) e) place → IsFresh y → y.port ≡ port_on (take k es) e →
        AllStand o allowed table es plan (suc k) (set ports place y)
    reset_stands ports place y reset stands found fresh port =
        whole.all_replaced turn wait o allowed table es plan k e at ports place y stands found port
        (whole.reset_goes_on o table used runs (of_port z es) k e here reset y fresh port)
