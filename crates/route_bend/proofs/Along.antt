-- A port around an event of a file, by what the functions of its channels answer.
use Rattle.std.proofs.Common.{◌≡◌, ◌<◌, ◌++◌, ℕ, zero, suc, Bool, true, false, cond, nat_eq, List, [], take, length, refl, ap, sym, ◌∙◌, subst, arith}
use Rattle.std.proofs.lemmas.Bool.{both_ways, eqb-true}
use Rattle.mt_base.specs.declared.event.Msg.{Msg}
use Rattle.mt_base.specs.declared.event.Msg.TheVariants.{NoteOn, NoteOff, KeyPressure, Control, Program, Pressure, Bend}
use Rattle.mt_base.specs.Midi.{MidiEvent, Says, channel_of}
use Rattle.midi_model.specs.Sysex.{doing}
use Rattle.midi_model.specs.Channel.{Channel, apply, role}
use Rattle.midi_model.specs.Music.{Music, step}
use Rattle.retune_model.specs.Dump.{from_up}
use Rattle.retune_model.specs.Options.{Options}
use Rattle.retune_model.specs.Faults.{Targets}
use Rattle.retune_model.specs.Pairs.{Pair}
use Rattle.retune_model.specs.Ports.{Numbered, of_port, resets}
use Rattle.channel_model.specs.Choice.{wanted}
use Rattle.channel_model.specs.BendOutput.{PortRuns}
use Rattle.state_laws.specs.Reached.{IgnoresTheSelections}
use Rattle.bend_laws.specs.Follows.{Has}
use Rattle.bend_laws.specs.Moments.{Both}
use Rattle.bend_laws.specs.Positions.{both_at}
use Rattle.lifetimes.specs.Told.{is_held, music_on}
use Rattle.channel_plan.specs.declared.plan.Plan.{Plan}
use Rattle.route_bend.specs.Channels.{Leaves, Renews}
use Rattle.route_bend.specs.Sent.{brought, sent}
use Rattle.route_bend.specs.Standing.{ChannelsStand, IsAt, PortStands, IsExact, AreRenewed, IsPrepared, runs_by, used_by, caused, releases, strikes, is_note}
use Rattle.route_bend.specs.Preparing.{used_for, still_held}
use Rattle.route_bend.specs.Turning.{IsTurn, IsSeen, EventsTurn, PositionsAreSeen}
use Rattle.route_bend.specs.declared.port.Use.TheVariants.{Notes, Nothing, State as OfState}
use Rattle.route_bend.specs.declared.channels.Channels.{Channels}
use Rattle.route_bend.proofs.Owning.{all_stay, unmoved}
use Rattle.route_bend.proofs.Everywhere.{says_quiet}
use Rattle.route_bend.proofs.Ready as ready_port

-- what is no controller is part of the state of its channel
pub state_else : (m : Msg) → ((c n v : ℕ) → m ≡ Control c n v → ⊥) → ready_port.is_of_state m OfState
state_else (NoteOn c j v) h = refl
state_else (NoteOff c j v) h = refl
state_else (KeyPressure c j v) h = refl
state_else (Control c n v) h = absurd (h c n v refl)
state_else (Program c p) h = refl
state_else (Pressure c v) h = refl
state_else (Bend c v) h = refl

some_tail : (n : ℕ) → nat_eq n 0 ≡ false → 0 < n
some_tail zero h = absurd cc
some_tail (suc n) h = omega arith

-- a note off leaves the state of its channel
off_leaves : (m : Msg) → releases m ≡ true → (s : Channel) → apply s m ≡ s
off_leaves (NoteOn c j zero) h s = refl
off_leaves (NoteOn c j (suc v)) h s = absurd cc
off_leaves (NoteOff c j v) h s = refl
off_leaves (KeyPressure c j v) h s = absurd cc
off_leaves (Control c n v) h s = absurd cc
off_leaves (Program c p) h s = absurd cc
off_leaves (Pressure c v) h s = absurd cc
off_leaves (Bend c v) h s = absurd cc

pub off_calm : (m : Msg) → releases m ≡ true → strikes m ≡ false
off_calm (NoteOn c j zero) h = refl
off_calm (NoteOn c j (suc v)) h = absurd cc
off_calm (NoteOff c j v) h = refl
off_calm (KeyPressure c j v) h = absurd cc
off_calm (Control c n v) h = absurd cc
off_calm (Program c p) h = absurd cc
off_calm (Pressure c v) h = absurd cc
off_calm (Bend c v) h = absurd cc

module _ (turn : EventsTurn) (seen : PositionsAreSeen) (o : Options) (allowed : ℕ → Bool) (table : Targets) (es : List MidiEvent)
    (plan : Plan) (k : ℕ)
    (e : MidiEvent) (z : ℕ) (at : IsAt o allowed table es plan k e z) where
  abbrev pub runs : PortRuns
  runs = runs_by o allowed table es plan z

  abbrev pub ns : List Numbered
  ns = of_port z es

  abbrev pub used : ℕ → Bool
  used = used_by o allowed table es z

  pub here : IsTurn o table used runs ns k e
  here = turn o allowed table es plan k e z at

  pub now : IsSeen o table es runs z k
  now = let low : k < length es = at.within in seen o allowed table es plan z k at.bending (omega (arith, low))

  pub next : IsSeen o table es runs z (suc k)
  next = let low : k < length es = at.within in seen o allowed table es plan z (suc k) at.bending (omega (arith, low))

  -- the music of the source after the event
  pub after_is : music_on z (take (suc k) es) ≡ step (both_at o table runs ns k).source e
  after_is = next.music ∙ ap (λ (b : Both). b.source) here.next

  -- ---- before the event

  pub released_ready : (s : Channels) → PortStands o allowed table es plan z k s → (m : Msg) → releases m ≡ true → is_note m ≡ true →
      (ms : List Msg) →
      ms ≡ caused o table runs ns k e m → IsPrepared o table used runs ns k e m s ms
  released_ready s stands m up note ms h = record {
    stands = stands;
    released = λ g. h;
    none = λ g. absurd (both_ways (releases m) g up);
    exact = λ g. absurd (both_ways (releases m) g up);
    renewed = λ g. absurd (both_ways (is_note m) g note);
  }

  module _ (s x : Channels) (stands : PortStands o allowed table es plan z k s) (part : ℕ)
      (leaves : Leaves (is_held o table (take k es)) part s x) where
    stays_now : ChannelsStand o table used runs ns k x
    stays_now = ready_port.left_now o table used runs ns k e here part s x (is_held o table (take k es)) stands leaves now.held

    exact_now : IsExact runs k part x
    exact_now = ready_port.exact_now o table used runs ns k e here part s x (is_held o table (take k es)) stands leaves now.held

    pub struck_ready : (m : Msg) → channel_of m ≡ part → releases m ≡ false → is_note m ≡ true → (ms : List Msg) → ms ≡ [] →
        IsPrepared o table used runs ns k e m x ms
    struck_ready m of down note ms none = record {
      stands = stays_now;
      released = λ g. absurd (both_ways (releases m) down g);
      none = λ g. none;
      exact = λ g. subst (λ d. IsExact runs k d x) (sym of) exact_now;
      renewed = λ g. absurd (both_ways (is_note m) g note);
    }

    pub plain_ready : (y : Channels) → Renews (wanted o table (music_on x.port (take k es))) part x y → (m : Msg) → channel_of m ≡ part →
        is_note m ≡ false →
        (ms : List Msg) → ms ≡ [] → IsPrepared o table used runs ns k e m y ms
    plain_ready y renews m of plain ms none =
        let music : music_on x.port (take k es) ≡ (both_at o table runs ns k).source = ap (λ n. music_on n (take k es)) stays_now.port ∙ now.music in
        record {
          stands = ready_port.renewed_stands o table used runs ns k e here part x y (music_on x.port (take k es)) music stays_now exact_now renews;
          released = λ g. absurd (both_ways (releases m) (ready_port.not_released m plain) g);
          none = λ g. none;
          exact = λ g. subst (λ d. IsExact runs k d y) (sym of)
              (ready_port.renewed_exact o table used runs ns k e here part x y (music_on x.port (take k es)) music stays_now exact_now renews);
          renewed = λ g. subst (λ d. AreRenewed o table runs ns k d y) (sym of)
              (ready_port.renewed_now o table used runs ns k e here part x y (music_on x.port (take k es)) music stays_now exact_now renews);
        }

  -- ---- after it

  -- the key of a note went up
  pub off_goes_on : (m : Msg) → e.what ≡ Says m → releases m ≡ true → (s : Channels) → PortStands o allowed table es plan z k s →
      PortStands o allowed table es plan z (suc k) s
  off_goes_on m is up s stands =
      unmoved o table used runs ns k e here (says_quiet o table used runs ns k e here m is (off_calm m up)) (ap (λ y. resets (doing y)) is)
      (λ p i. all_stay o table used runs ns k e here m is (off_leaves m up) p.part.channel) s stands

  holds_on : (m : Msg) → e.what ≡ Says m → strikes m ≡ false → (p : Pair) → Has (runs.pairs k) p → p.part.channel ≡ channel_of m →
      ((still_held o table (take (suc k) es) p ≡ true → Has (runs.held (suc k)) p) × (Has (runs.held (suc k)) p →
      still_held o table (take (suc k) es) p ≡ true))
  holds_on m is calm p i c = pick (nat_eq o.tail 0) refl
    where
      port : p.part.port ≡ z
      port = here.sound.ports_was p i

      pick : (r : Bool) → nat_eq o.tail 0 ≡ r → ((cond r true (is_held o table (take (suc k) es) p) ≡ true → Has (runs.held (suc k)) p)
          × (Has (runs.held (suc k)) p → cond r true (is_held o table (take (suc k) es) p) ≡ true))
      pick true h = ((λ g. subst (λ ps. Has ps p) (sym (here.still (eqb-true o.tail 0 h))) i), (λ g. refl))
      pick false h = (
        (λ g. (says_quiet o table used runs ns k e here m is calm).held p (sym (next.held p port) ∙ g)),
        (λ g. next.held p port ∙ here.rests (some_tail o.tail h) (ap (λ y. resets (doing y)) is) p g),
      )

  module _ (law : IgnoresTheSelections) (m : Msg) (is : e.what ≡ Says m) (plain : is_note m ≡ false) (s x : Channels) (ms : List Msg)
      (ready : IsPrepared o table used runs ns k e m s ms) (leaves : Leaves (still_held o table (take (suc k) es)) (channel_of m) s x) where
    none_sent : ms ≡ []
    none_sent = ready.none (ready_port.not_released m plain)

    pub brings : ready_port.is_of_state m OfState → (y : Channels) → Renews (wanted o table (music_on x.port (take (suc k) es))) (channel_of m) x y →
        (out : List Msg) → out ≡ ms ++ brought (wanted o table (music_on x.port (take (suc k) es))) x (channel_of m) (from_up 0 16) →
        PortStands o allowed table es plan z (suc k) y × (out ≡ caused o table runs ns k e m)
    brings state y renews out h =
        let music : music_on x.port (take (suc k) es) ≡ step (both_at o table runs ns k).source e =
        ap (λ n. music_on n (take (suc k) es)) (leaves.kept.port ∙ ready.stands.port) ∙ after_is in (
          ready_port.bring_follows law o table used runs ns k e here m is plain s x ms ready (still_held o table (take (suc k) es)) leaves
              (holds_on m is (ready_port.not_struck m plain)) y (subst (λ (n : Music). Renews (wanted o table n) (channel_of m) x y) music renews),
          h ∙ ap (λ l. l ++ brought (wanted o table (music_on x.port (take (suc k) es))) x (channel_of m) (from_up 0 16)) none_sent
              ∙ ap (λ (n : Music). brought (wanted o table n) x (channel_of m) (from_up 0 16)) music
              ∙ sym (ready_port.bring_caused law o table used runs ns k e here m is plain s x ms ready (still_held o table (take (suc k) es)) leaves
              (holds_on m is (ready_port.not_struck m plain)) state),
        )

    stays_follow : (c n v : ℕ) → m ≡ Control c n v → (used_for (role n) ≡ OfState → ⊥) → PortStands o allowed table es plan z (suc k) x
    stays_follow = ready_port.stay_follows law o table used runs ns k e here m is plain s x ms ready (still_held o table (take (suc k) es)) leaves
        (holds_on m is (ready_port.not_struck m plain))

    pub sends : (c n v : ℕ) → m ≡ Control c n v → used_for (role n) ≡ Notes → (out : List Msg) →
        out ≡ ms ++ sent x (channel_of m) n v (from_up 0 16) →
        PortStands o allowed table es plan z (suc k) x × (out ≡ caused o table runs ns k e m)
    sends c n v same act out h = (
      stays_follow c n v same (λ i. absurd (let f : Notes ≡ OfState = sym act ∙ i in cc)),
      h ∙ ap (λ l. l ++ sent x (channel_of m) n v (from_up 0 16)) none_sent
          ∙ sym (ready_port.send_caused law o table used runs ns k e here m is plain s x ms ready (still_held o table (take (suc k) es)) leaves
          (holds_on m is (ready_port.not_struck m plain)) c n v same act),
    )

    pub ignores : (c n v : ℕ) → m ≡ Control c n v → used_for (role n) ≡ Nothing →
        PortStands o allowed table es plan z (suc k) x × (ms ≡ caused o table runs ns k e m)
    ignores c n v same act = (
      stays_follow c n v same (λ i. absurd (let f : Nothing ≡ OfState = sym act ∙ i in cc)),
      none_sent ∙ sym (ready_port.nothing_caused law o table used runs ns k e here m is plain s x ms ready
          (still_held o table (take (suc k) es)) leaves
          (holds_on m is (ready_port.not_struck m plain)) c n v same act),
    )
