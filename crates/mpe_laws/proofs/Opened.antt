-- What is written up to each position, block by block; and each block, with the setup that stands before it.
use Rattle.std.proofs.Common.{◌≡◌, ◌⊎◌, arith, ℕ, zero, suc, Bool, true, false, cond, List, [], ◌∷◌, ◌++◌, Option, Some, None, refl, ap, sym, ◌∙◌, subst, map, inl, inr}
use Rattle.std.proofs.lemmas.List.{append-nil}
use Rattle.mt_base.specs.declared.event.Msg.{Msg}
use Rattle.mt_base.specs.Midi.{MidiWhat, Says, SysexOf, MetaOf, MidiEvent, channel_of}
use Rattle.midi_model.specs.Sysex.{doing}
use Rattle.midi_model.specs.Music.{Music, quiet, play}
use Rattle.retune_model.specs.Options.{Options}
use Rattle.retune_model.specs.Faults.{Targets, is_part}
use Rattle.retune_model.specs.Pairs.{Pair}
use Rattle.retune_model.specs.Ports.{Numbered, Ascend, unnumbered, events_to}
use Rattle.retune_model.specs.Plain.{has_begun}
use Rattle.channel_model.specs.BendOutput.{PortRuns, placed_at}
use Rattle.channel_model.specs.MpeOutput.{Zone, Zoned, unzoned, zoned_block, next_zoned, zones_setup, zone_of, in_zone, setup_behind, mpe_block}
use Rattle.bend_laws.specs.Moments.{Moment, moment}
use Rattle.bend_laws.specs.Follows.{Has}
use Rattle.bend_laws.specs.Positions.{port_event, up_to_position}
use Rattle.bend_laws.proofs.Ticks.{AreTimely}
use Rattle.bend_laws.proofs.Outputs.{numbered_at, none_yet, one_more}
use Rattle.bend_laws.proofs.Opening.{all_up}
use Rattle.bend_laws.proofs.Playing.{saying}
use Rattle.bend_laws.proofs.Changing.{said_at}
use Rattle.bend_laws.proofs.Still.{no_message}
use Rattle.mpe_laws.specs.Zoned.{SetsUp}
use Rattle.mpe_laws.specs.Follows.{Follows}
use Rattle.mpe_laws.specs.Positions.{zoned_at, FollowsAt}
use Rattle.mpe_laws.proofs.Standing.{Laws}
use Rattle.mpe_laws.proofs.Passing.{setup_of}
use Rattle.mpe_laws.proofs.Everywhere.{set_up, what_at, no_setup, none_behind}
use Rattle.mpe_laws.proofs.Played.{zoned_over, at_event, over_is, out_is}
use Rattle.mpe_laws.proofs.Ticked.{zoned_output, output_append}

-- ---- block by block

abbrev pub numbered : ℕ → MidiEvent → Numbered
numbered k e = record { position = suc k; event = e }

abbrev pub zoned_if : Options → Targets → List Zone → PortRuns → ℕ → Zoned → Option MidiEvent → List MidiEvent
zoned_if o table zones runs k s (Some e) = zoned_block o table zones runs s (numbered k e)
zoned_if o table zones runs k s None = []

abbrev pub zoned_to : Options → Targets → List Zone → PortRuns → List Numbered → ℕ → List MidiEvent
zoned_to o table zones runs ns zero = []
zoned_to o table zones runs ns (suc k) = zoned_to o table zones runs ns k
    ++ zoned_if o table zones runs k (zoned_at o table zones runs ns k) (port_event ns (suc k))

one_block : (o : Options) (table : Targets) (zones : List Zone) (runs : PortRuns) (ns : List Numbered) (k : ℕ) (s : Zoned) →
    zoned_output o table zones runs s (numbered_at ns (suc k)) ≡ zoned_if o table zones runs k s (port_event ns (suc k))
one_block o table zones runs ns k s = at_event ns (suc k)
    (λ xs x. zoned_output o table zones runs s xs ≡ zoned_if o table zones runs k s x) refl
    (λ n e. append-nil (zoned_block o table zones runs s n)
    ∙ ap (λ j. zoned_block o table zones runs s (let m : Numbered = record { position = j; event = n.event } in m)) e)

pub zoned_is : (o : Options) (table : Targets) (zones : List Zone) (runs : PortRuns) (ns : List Numbered) → Ascend 0 ns → (k : ℕ) →
    zoned_to o table zones runs ns k ≡ zoned_output o table zones runs unzoned (up_to_position k ns)
zoned_is o table zones runs ns r zero = sym (ap (zoned_output o table zones runs unzoned) (none_yet 0 ns r 0 (omega arith)))
zoned_is o table zones runs ns r (suc k) =
    let xs : List Numbered = up_to_position k ns in
    let out : Zoned → List Numbered → List MidiEvent = zoned_output o table zones runs in
    ap (λ es. es ++ zoned_if o table zones runs k (zoned_at o table zones runs ns k) (port_event ns (suc k))) (zoned_is o table zones runs ns r k)
    ∙ ap (λ es. out unzoned xs ++ es) (sym (one_block o table zones runs ns k (zoned_at o table zones runs ns k)))
    ∙ ap (λ s. out unzoned xs ++ out s (numbered_at ns (suc k))) (sym (over_is o table zones runs ns r k))
    ∙ sym (output_append o table zones runs unzoned xs (numbered_at ns (suc k))) ∙ ap (out unzoned) (sym (one_more 0 ns r k))

pub played_to : (o : Options) (table : Targets) (zones : List Zone) (runs : PortRuns) (ns : List Numbered) → Ascend 0 ns → (k : ℕ) →
    (zoned_at o table zones runs ns k).out ≡ play quiet (zoned_to o table zones runs ns k)
played_to o table zones runs ns r k = out_is o table zones runs ns r k ∙ ap (play quiet) (sym (zoned_is o table zones runs ns r k))

-- up to the last position it is the output
pub all_zoned : (o : Options) (table : Targets) (zones : List Zone) (runs : PortRuns) (ns : List Numbered) (last : ℕ) → AreTimely ns last →
    zoned_to o table zones runs ns last ≡ zoned_output o table zones runs unzoned ns
all_zoned o table zones runs ns last timely = zoned_is o table zones runs ns timely.rising last
    ∙ ap (zoned_output o table zones runs unzoned) (all_up last ns timely.within)

-- whether a message came
begun_over : (o : Options) (table : Targets) (zones : List Zone) (runs : PortRuns) (s : Zoned) (ns : List Numbered) →
    (zoned_over o table zones runs s ns).begun ≡ has_begun s.begun (unnumbered ns)
begun_over o table zones runs s [] = refl
begun_over o table zones runs s (n ∷ ns) = begun_over o table zones runs (next_zoned o table zones runs s n) ns

pub begun_is : (o : Options) (table : Targets) (zones : List Zone) (runs : PortRuns) (ns : List Numbered) → Ascend 0 ns → (k : ℕ) →
    (zoned_at o table zones runs ns k).begun ≡ has_begun false (events_to k ns)
begun_is o table zones runs ns r k = ap (λ (s : Zoned). s.begun) (sym (over_is o table zones runs ns r k))
    ∙ begun_over o table zones runs unzoned (up_to_position k ns)

-- ---- the setup before a block

-- the setup or nothing, and then what the event causes once the setup stands
pub record IsLed (port : ℕ) (o : Options) (table : Targets) (zones : List Zone) (k : Moment) (m x : Music) (e : MidiEvent)
    (block : List MidiEvent) : Type 0 where
  pub lead : List Msg
  pub lead_is : (lead ≡ []) ⊎ (lead ≡ zones_setup o.range zones)
  pub follows : Follows port o table zones k.old k.was m (play x (saying e lead))
  pub is : block ≡ saying e lead ++ mpe_block port o table zones k.was true m (play x (saying e lead)) k.old k.new e

-- before the port's first message: an event that is none is passed on
pub record IsEarly (m x : Music) (e : MidiEvent) (block : List MidiEvent) : Type 0 where
  pub source : m ≡ quiet
  pub out : x ≡ quiet
  pub none : (msg : Msg) → e.what ≡ Says msg → ⊥
  pub is : block ≡ e ∷ []

abbrev pub Opened : ℕ → Options → Targets → List Zone → Moment → Music → Music → MidiEvent → List MidiEvent → Type 0
Opened port o table zones k m x e block = IsEarly m x e block ⊎ IsLed port o table zones k m x e block

-- what is known at a position, as the relation says it
pub record Known (port : ℕ) (o : Options) (table : Targets) (zones : List Zone) (k : Moment) (begun : Bool) (m x : Music) : Type 0 where
  pub before : begun ≡ false → (m ≡ quiet) × ((x ≡ quiet) × ((p : Pair) → Has k.was p → ⊥))
  pub after : begun ≡ true → Follows port o table zones k.old k.was m x

first_opens : Laws → (port : ℕ) (o : Options) (table : Targets) (zones : List Zone) → SetsUp o zones → (k : Moment) (m x : Music)
    (t track : ℕ) (w : MidiWhat) → m ≡ quiet → x ≡ quiet → ((p : Pair) → Has k.was p → ⊥) →
    Opened port o table zones k m x (what_at t track w) (mpe_block port o table zones k.was false m x k.old k.new (what_at t track w))
first_opens laws port o table zones sets k m x t track (Says msg) hm hx none =
    let e : MidiEvent = said_at t track msg in
    inr (record {
      lead = zones_setup o.range zones;
      lead_is = inr refl;
      follows = subst (λ n. Follows port o table zones k.old k.was n (play x (saying e (zones_setup o.range zones)))) (sym hm)
          (subst (λ y. Follows port o table zones k.old k.was quiet (play y (saying e (zones_setup o.range zones)))) (sym hx)
          (set_up laws port o table zones sets k.old k.was e none));
      is = refl;
    })
first_opens laws port o table zones sets k m x t track (SysexOf lead bytes) hm hx none =
    let w : MidiWhat = SysexOf lead bytes in
    inl (record {
      source = hm;
      out = hx;
      none = λ msg h. absurd cc;
      is = ap (λ ws. placed_at (what_at t track w) ws ++ placed_at (what_at t track w) (w ∷ setup_behind (setup_of o zones) false (doing w)))
          (no_setup (setup_of o zones) (doing w) (no_message w tt))
          ∙ ap (λ ws. placed_at (what_at t track w) (w ∷ ws)) (none_behind (setup_of o zones) (doing w));
    })
first_opens laws port o table zones sets k m x t track (MetaOf kind bytes) hm hx none =
    inl (record { source = hm; out = hx; none = λ msg h. absurd cc; is = refl })

pub opens : Laws → (port : ℕ) (o : Options) (table : Targets) (zones : List Zone) → SetsUp o zones → (k : Moment) (begun : Bool) (m x : Music)
    (t track : ℕ) (w : MidiWhat) → Known port o table zones k begun m x →
    Opened port o table zones k m x (what_at t track w) (mpe_block port o table zones k.was begun m x k.old k.new (what_at t track w))
opens laws port o table zones sets k false m x t track w h =
    let q = h.before refl in first_opens laws port o table zones sets k m x t track w q.0 q.1.0 q.1.1
opens laws port o table zones sets k true m x t track w h =
    inr (record { lead = []; lead_is = inl refl; follows = h.after refl; is = refl })

pub known_at : (o : Options) (table : Targets) (zones : List Zone) (runs : PortRuns) (k : ℕ) (s : Zoned) → FollowsAt o table zones runs k s →
    Known runs.number o table zones (moment runs k) s.begun s.source s.out
known_at o table zones runs k s h = record { before = h.before; after = h.after }

-- ---- once the setup stands

pub part_said : (port : ℕ) (o : Options) (table : Targets) (zones : List Zone) (k : Moment) (m y : Music) (t track : ℕ) (msg : Msg)
    (ms : List Msg) → is_part o (channel_of msg) ≡ true →
    in_zone port o table k.was m y k.old k.new t msg (zone_of (channel_of msg) zones) ≡ ms →
    mpe_block port o table zones k.was true m y k.old k.new (said_at t track msg) ≡ saying (said_at t track msg) ms
part_said port o table zones k m y t track msg ms part h =
    let caused : List Msg = in_zone port o table k.was m y k.old k.new t msg (zone_of (channel_of msg) zones) in
    ap (λ b. placed_at (said_at t track msg) (cond b (map Says caused) (Says msg ∷ []) ++ [])) part
    ∙ ap (placed_at (said_at t track msg)) (append-nil (map Says caused)) ∙ ap (saying (said_at t track msg)) h

pub drum_said : (port : ℕ) (o : Options) (table : Targets) (zones : List Zone) (k : Moment) (m y : Music) (t track : ℕ) (msg : Msg) →
    is_part o (channel_of msg) ≡ false →
    mpe_block port o table zones k.was true m y k.old k.new (said_at t track msg) ≡ said_at t track msg ∷ []
drum_said port o table zones k m y t track msg drum =
    ap (λ b. placed_at (said_at t track msg) (cond b (map Says (in_zone port o table k.was m y k.old k.new t msg
    (zone_of (channel_of msg) zones))) (Says msg ∷ []) ++ [])) drum
