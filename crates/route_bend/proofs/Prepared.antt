-- What is kept of all ports, and what was sent, before an event.
use Rattle.std.proofs.Common.{◌≡◌, ◌<◌, ◌∙◌, ℕ, zero, suc, Bool, false, cond, List, [], Some, None, set, take, refl, ap, sym, subst, arith}
use Rattle.std.specs.Prelude.{unwrap_or}
use Rattle.std.proofs.lemmas.Bool.{both_ways, eq-eqb}
use Rattle.mt_base.specs.declared.event.Msg.{Msg}
use Rattle.mt_base.specs.declared.event.Msg.TheVariants.{NoteOn, NoteOff, KeyPressure, Control, Program, Pressure, Bend}
use Rattle.mt_base.specs.declared.event.What.{What}
use Rattle.mt_base.specs.declared.event.What.TheVariants.{Message, Sysex, Meta}
use Rattle.mt_base.specs.Midi.{MidiEvent, view_what, Says, channel_of}
use Rattle.retune_model.specs.Options.{Options}
use Rattle.retune_model.specs.Faults.{Targets, is_part}
use Rattle.retune_model.specs.Ports.{of_port, named_port, ports_from, all_zero}
use Rattle.lifetimes.specs.Told.{port_on}
use Rattle.channel_plan.specs.declared.plan.Plan.{Plan}
use Rattle.route_bend.specs.Standing.{AllStand, PortStands, IsPrepared, StandIf, runs_by, used_by, found_in, releases, is_note}
use Rattle.route_bend.specs.Preparing.{IsFoundAt, PreparedIf, IsReady}
use Rattle.route_bend.specs.declared.channels.Channels.{Channels}
use Rattle.route_bend.specs.declared.bending.Bending.{Bending}
use Rattle.route_bend.proofs.Everywhere.{replaced_now}

-- ---- messages

-- a note on with a velocity above 0 releases nothing
pub on_holds : (c j v : ℕ) → 0 < v → releases (NoteOn c j v) ≡ false
on_holds c j zero h = absurd (omega (arith, h))
on_holds c j (suc v) h = refl

-- what is neither a note on nor a note off is of no note
pub no_note : (m : Msg) → ((c j v : ℕ) → m ≡ NoteOn c j v → ⊥) → ((c j v : ℕ) → m ≡ NoteOff c j v → ⊥) → is_note m ≡ false
no_note (NoteOn c j v) on off = absurd (on c j v refl)
no_note (NoteOff c j v) on off = absurd (off c j v refl)
no_note (KeyPressure c j v) on off = refl
no_note (Control c n v) on off = refl
no_note (Program c p) on off = refl
no_note (Pressure c v) on off = refl
no_note (Bend c v) on off = refl

same_message : (a b : Msg) → Says a ≡ Says b → a ≡ b
same_message a b h = cc

pub said_is : (w : What) (m : Msg) → view_what w ≡ Says m → w ≡ Message m
said_is (Message x) m h = ap Message (same_message x m h)
said_is (Sysex lead bytes) m h = absurd cc
said_is (Meta kind bytes) m h = absurd cc

-- ---- all ports

module _ (o : Options) (allowed : ℕ → Bool) (table : Targets) (es : List MidiEvent) (plan : Plan) (k : ℕ) (e : MidiEvent) where
  -- a message names no port
  pub port_is : (m : Msg) → e.what ≡ Says m → port_on (take k es) e ≡ ports_from all_zero (take k es) e.track
  port_is m is = ap (λ w. unwrap_or (named_port w) (ports_from all_zero (take k es) e.track)) is

  module _ (ports : List Channels) (stands : AllStand o allowed table es plan k ports) where
    -- an event that is no message of a part
    pub other_ready : ((m : Msg) → e.what ≡ Says m → is_part o (channel_of m) ≡ false) → (b : Bending) → b.ports.items ≡ ports →
        IsReady o allowed table es plan k e b
    other_ready other b same = record {
      stands = subst (λ ps. AllStand o allowed table es plan k ps) (sym same) stands;
      ready = λ m is part. absurd (both_ways (is_part o (channel_of m)) (other m is) part);
    }

    pub drum_ready : (m : Msg) → e.what ≡ Says m → is_part o (channel_of m) ≡ false → (b : Bending) → b.ports.items ≡ ports →
        IsReady o allowed table es plan k e b
    drum_ready m is other = other_ready (λ n what. ap (λ x. is_part o (channel_of x)) (same_message n m (sym what ∙ is)) ∙ other)

    -- nothing is kept of the event's port
    pub none_ready : found_in ports (port_on (take k es) e) ≡ None → (b : Bending) → b.ports.items ≡ ports → b.out.messages.items ≡ [] →
        IsReady o allowed table es plan k e b
    none_ready none b same empty = record {
      stands = subst (λ ps. AllStand o allowed table es plan k ps) (sym same) stands;
      ready = λ m is part. subst (λ x. PreparedIf o allowed table es plan k e m (port_on (take k es) e) x b.out.messages.items)
          (sym (ap (λ ps. found_in ps (port_on (take k es) e)) same ∙ none)) empty;
    }

    module _ (m : Msg) (is : e.what ≡ Says m) (i : ℕ) (found : IsFoundAt ports (port_on (take k es) e) i) where
      -- the port's channels as they are
      pub kept_is : (s : Channels) → found_in ports (port_on (take k es) e) ≡ Some s → PortStands o allowed table es plan (port_on (take k es) e) k s
      kept_is s at = subst (λ x. StandIf o table (used_by o allowed table es (port_on (take k es) e))
          (runs_by o allowed table es plan (port_on (take k es) e)) (of_port (port_on (take k es) e) es) k x) at (stands (port_on (take k es) e))

      -- and after they were prepared
      pub port_ready : (s : Channels) (y : ℕ) (sent : List Msg) → y ≡ port_on (take k es) e →
          IsPrepared o table (used_by o allowed table es y) (runs_by o allowed table es plan y) (of_port y es) k e m s sent →
          (b : Bending) → b.ports.items ≡ set ports i s → b.out.messages.items ≡ sent → IsReady o allowed table es plan k e b
      port_ready s y sent port prepared b same out = record {
        stands = subst (λ ps. AllStand o allowed table es plan k ps) (sym same)
            (replaced_now o allowed table es plan k (port_on (take k es) e) i ports s stands found own.stands.port own.stands);
        ready = λ n what part. subst (λ x. PreparedIf o allowed table es plan k e n (port_on (take k es) e) x b.out.messages.items) (sym here)
            (subst (λ l. PreparedIf o allowed table es plan k e n (port_on (take k es) e) (Some s) l) (sym out)
            (subst (λ x. PreparedIf o allowed table es plan k e x (port_on (take k es) e) (Some s) sent) (same_message m n (sym is ∙ what)) own));
      }
        where
          own : PreparedIf o allowed table es plan k e m (port_on (take k es) e) (Some s) sent
          own = subst (λ x. PreparedIf o allowed table es plan k e m x (Some s) sent) port prepared

          here : found_in b.ports.items (port_on (take k es) e) ≡ Some s
          here = ap (λ ps. found_in ps (port_on (take k es) e)) same ∙ found.replaced s (port_on (take k es) e) own.stands.port
              ∙ ap (λ r. cond r (Some s) (found_in ports (port_on (take k es) e))) (eq-eqb (port_on (take k es) e) (port_on (take k es) e) refl)
