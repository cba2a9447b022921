-- The loop of the bend route: what is kept, and what is put.
use Rattle.std.proofs.Common.{◌≡◌, ◌<◌, ◌++◌, ℕ, suc, Bool, List, [], drop, length, refl, ap, sym, ◌∙◌, subst}
use Rattle.mt_base.specs.Midi.{MidiEvent}
use Rattle.midi_model.specs.Writing.{Written}
use Rattle.retune_model.specs.Options.{Options}
use Rattle.retune_model.specs.Faults.{Targets}
use Rattle.plan_laws.specs.Counting.{ComesAt, NextIsTaken}
use Rattle.channel_plan.specs.declared.plan.Plan.{Plan}
use Rattle.routes.specs.Putting.{put_all, AllMayPut, IsPut, IsFront}
use Rattle.routes.proofs.Puts.{not_begun, all_put, more_put, may_next, front_of, stopped}
use Rattle.route_bend.specs.Bent.{bent}
use Rattle.route_bend.specs.Putting.{block_events}
use Rattle.route_bend.specs.Preparing.{IsReady, IsTaken}
use Rattle.route_bend.specs.Standing.{IsBending, AllStand}
use Rattle.route_bend.specs.Turning.{EventsTurn, OthersWait, NothingIsThere}
use Rattle.route_bend.specs.declared.channels.Channels.{Channels}
use Rattle.route_bend.specs.declared.bending.Bending.{Bending}
use Rattle.route_bend.proofs.Passing.{passed, all_passed, goes_by}

-- Up to a position: what is kept of the ports stands, and the rest of the output is still to be put.
pub record Going (o : Options) (allowed : ℕ → Bool) (table : Targets) (es : List MidiEvent) (plan : Plan) (k : ℕ) (ports : List Channels)
    (old new : List Written) : Type 0 where
  pub stands : AllStand o allowed table es plan k ports
  pub put : IsPut old (bent o allowed table es plan) (passed o allowed table es plan k (drop k es)) new

pub at_start : NothingIsThere → (o : Options) (allowed : ℕ → Bool) (table : Targets) (es : List MidiEvent) (plan : Plan) →
    IsBending o allowed table es plan → (ports : List Channels) (old : List Written) → ports ≡ [] → Going o allowed table es plan 0 ports old old
at_start start o allowed table es plan bending ports old none = record {
  stands = subst (λ (ps : List Channels). AllStand o allowed table es plan 0 ps) (sym none) (λ z. start o allowed table es plan z bending);
  put = subst (λ l. IsPut old (bent o allowed table es plan) l old) (sym (all_passed o allowed table es plan))
      (not_begun old (bent o allowed table es plan));
}

module _ (turn : EventsTurn) (wait : OthersWait) (taken : NextIsTaken) (o : Options) (allowed : ℕ → Bool) (table : Targets) (es : List MidiEvent)
    (plan : Plan) (bending : IsBending o allowed table es plan) (k : ℕ) (e : MidiEvent) (comes : ComesAt es k e) (within : k < length es)
    (old new : List Written) (h : IsPut old (bent o allowed table es plan) (passed o allowed table es plan k (drop k es)) new) where
  module _ (b : Bending) (is : IsTaken o allowed table es plan k e b) where
    next_put : IsPut old (bent o allowed table es plan)
        (block_events o e b.out.messages.items ++ passed o allowed table es plan (suc k) (drop (suc k) es)) new
    next_put = subst (λ l. IsPut old (bent o allowed table es plan) l new) (ap (passed o allowed table es plan k) comes
        ∙ goes_by turn wait taken o allowed table es plan bending k e comes within b.out.messages.items (drop (suc k) es) is.sent) h

    pub may : AllMayPut old (bent o allowed table es plan) → AllMayPut new (block_events o e b.out.messages.items)
    may all = may_next old (bent o allowed table es plan) (block_events o e b.out.messages.items)
        (passed o allowed table es plan (suc k) (drop (suc k) es)) new all next_put

    pub goes_on : (then : List Written) → then ≡ put_all new (block_events o e b.out.messages.items) →
        Going o allowed table es plan (suc k) b.ports.items old then
    goes_on then put = record {
      stands = is.stands;
      put = more_put old (bent o allowed table es plan) (block_events o e b.out.messages.items)
          (passed o allowed table es plan (suc k) (drop (suc k) es)) new then next_put put;
    }

    pub fronts : (then : List Written) → IsFront new (block_events o e b.out.messages.items) then → IsFront old (bent o allowed table es plan) then
    fronts then front = front_of old (bent o allowed table es plan) (block_events o e b.out.messages.items)
        (passed o allowed table es plan (suc k) (drop (suc k) es)) new then next_put front

-- at the end all is put
pub ends : (o : Options) (allowed : ℕ → Bool) (table : Targets) (es : List MidiEvent) (plan : Plan) (k : ℕ) (ports : List Channels)
    (old new : List Written) → Going o allowed table es plan k ports old new → drop k es ≡ [] → new ≡ put_all old (bent o allowed table es plan)
ends o allowed table es plan k ports old new h none =
    all_put old (bent o allowed table es plan) new
    (subst (λ l. IsPut old (bent o allowed table es plan) l new) (ap (passed o allowed table es plan k) none) h.put)

-- ---- one turn of the loop

-- what is asked and the table are the same all through
pub moved : {T : Type 0} (P : Options → T → Type 0) (o x : Options) (t u : T) → x ≡ o → u ≡ t → P o t → P x u
moved P o x t u same tables h = subst (P x) (sym tables) (subst (λ y. P y t) (sym same) h)

pub moved_back : {T : Type 0} (P : Options → T → Type 0) (o x : Options) (t u : T) → x ≡ o → u ≡ t → P x u → P o t
moved_back P o x t u same tables h = subst (P o) tables (subst (λ y. P y u) same h)

-- what is kept stands on by what the two calls say, at the parts before the event and behind it
pub turned : {T : Type 0} (tables : T → Targets) (o x y : Options) (t u v : T) → x ≡ o → u ≡ t → y ≡ o → v ≡ t →
    (allowed : ℕ → Bool) (es : List MidiEvent) (plan : Plan) (k : ℕ) (e : MidiEvent) (ports : List Channels) (b c : Bending) →
    IsBending o allowed (tables t) es plan → AllStand o allowed (tables t) es plan k ports →
    (IsBending x allowed (tables u) es plan → AllStand x allowed (tables u) es plan k ports → IsReady x allowed (tables u) es plan k e b) →
    (IsBending y allowed (tables v) es plan → IsReady y allowed (tables v) es plan k e b → IsTaken y allowed (tables v) es plan k e c) →
    IsTaken o allowed (tables t) es plan k e c
turned tables o x y t u v xo ut yo vt allowed es plan k e ports b c bending stands prepares takes =
    let ready = prepares (moved (λ r w. IsBending r allowed (tables w) es plan) o x t u xo ut bending)
    (moved (λ r w. AllStand r allowed (tables w) es plan k ports) o x t u xo ut stands) in
    let same = moved_back (λ r w. IsReady r allowed (tables w) es plan k e b) o x t u xo ut ready in
    moved_back (λ r w. IsTaken r allowed (tables w) es plan k e c) o y t v yo vt
    (takes (moved (λ r w. IsBending r allowed (tables w) es plan) o y t v yo vt bending)
    (moved (λ r w. IsReady r allowed (tables w) es plan k e b) o y t v yo vt same))

-- where it stops before anything is put for the event, a front was put
pub stops : (o : Options) (allowed : ℕ → Bool) (table : Targets) (es : List MidiEvent) (plan : Plan) (k : ℕ) (ports : List Channels)
    (old new : List Written) → Going o allowed table es plan k ports old new → IsFront old (bent o allowed table es plan) new
stops o allowed table es plan k ports old new h =
    stopped old (bent o allowed table es plan) (passed o allowed table es plan k (drop k es)) new new h.put refl
