-- What the program puts for an event is the event's block.
use Rattle.std.proofs.Common.{◌≡◌, ◌≤◌, ◌<◌, ◌++◌, ◌&&◌, ◌⊎◌, ℕ, zero, suc, pos, ◌+ℤ◌, Bool, true, false, not, cond, nat_eq, List, [], ◌∷◌, map, Option, Some, None, refl, sym, ap, ◌∙◌, length, take, inl, inr, arith}
use Rattle.std.specs.Set.{is_member}
use Rattle.std.proofs.lemmas.Bool.{cases_Bool, eq-eqb}
use Rattle.std.proofs.lemmas.List.{map-append}
use Rattle.mt_base.specs.declared.event.Msg.{Msg}
use Rattle.mt_base.specs.declared.event.Msg.TheVariants.{NoteOn, NoteOff, KeyPressure, Control, Program, Pressure, Bend}
use Rattle.mt_base.specs.Midi.{MidiWhat, Says, SysexOf, MetaOf, MidiEvent, channel_of}
use Rattle.midi_model.specs.Sysex.{Resets, Nothing, Retune, tunes, doing, is_reset, tuning_of}
use Rattle.midi_model.specs.Bring.{where_differs}
use Rattle.midi_model.specs.Music.{Music, channel_at, play}
use Rattle.retune_model.specs.Table.{BendTarget}
use Rattle.retune_model.specs.Options.{Options, bends_notes}
use Rattle.retune_model.specs.Ports.{Numbered, events_on, port_at}
use Rattle.retune_model.specs.Rests.{begun_at}
use Rattle.bend_laws.specs.Follows.{Has}
use Rattle.retune_model.specs.PlaysTheSame.{bend_target_if}
use Rattle.retune_model.specs.Faults.{Targets, is_part}
use Rattle.retune_model.specs.Pairs.{Pair, is_same_pair}
use Rattle.retune_model.specs.PortNeed.{pairs_on}
use Rattle.channel_model.specs.Choice.{bend_value}
use Rattle.channel_model.specs.BendOutput.{pair_with, runs_on, placed_at, pressed_note, note_released}
use Rattle.channel_model.specs.MpeOutput.{Zone, Zoned, master_of, member_at, zone_of, zones_setup, member_begins, zone_causes, in_zone, mpe_causes, setup_before, setup_behind, zoned_block}
use Rattle.channel_model.specs.Rows.{zones_on}
use Rattle.plan_laws.specs.Counting.{ComesAt}
use Rattle.lifetimes.specs.Told.{music_on, port_on, count_begun, begun_by}
use Rattle.routes.specs.Putting.{said_at}
use Rattle.routes.specs.Device.{is_first, resets_all}
use Rattle.channel_plan.specs.Told.{channel_in}
use Rattle.channel_plan.specs.declared.plan.Plan.{Plan}
use Rattle.mpe_route.specs.declared.caused.Played.{Played}
use Rattle.mpe_route.specs.Caused.{played_if, released_at, released_by, either, begun_as, released_as, with_zone, with_zone_if, caused_by}
use Rattle.mpe_route.specs.Putting.{said_if, passed, block_events}
use Rattle.mpe_route.specs.Planned.{planned_channel}
use Rattle.mpe_route.specs.Laws.{IsZonable}
use Rattle.mpe_route.proofs.Kit.{Kit, music_is}
use Rattle.mpe_route.proofs.Channels.{mpe, channel_begun, channels_at}
use Rattle.mpe_route.proofs.Aimed.{aimed, note_begun, released_is}
use Rattle.mpe_route.proofs.Bends.{state, out_bend, bent_there, bend_ready, on_member, OnMember, begun_has, kept_there}

-- ---- where it stands

said_placed : (e : MidiEvent) (ms : List Msg) → placed_at e (map Says ms) ≡ said_at e ms
said_placed e [] = refl
said_placed e (m ∷ ms) = ap (λ l. record { tick = e.tick; track = e.track; what = Says m } ∷ l) (said_placed e ms)

never : (b : Bool) → (not b && false) ≡ false
never true = refl
never false = refl

before_is : (e : MidiEvent) (ms : List Msg) (b : Bool) (w : MidiWhat)
    → placed_at e (setup_before (map Says ms) b (doing w)) ≡ said_if (is_first b w) ms e
before_is e ms true (Says m) = refl
before_is e ms false (Says m) = said_placed e ms
before_is e ms true (MetaOf kind bytes) = refl
before_is e ms false (MetaOf kind bytes) = refl
before_is e ms b (SysexOf lead bytes) = none b (nat_eq lead 240) (is_reset bytes) (tuning_of bytes) ∙ sym (ap (λ x. said_if x ms e) (never b))
  where
    none : (x leads reset : Bool) (r : Option Retune)
        → placed_at e (setup_before (map Says ms) x (cond leads (cond reset Resets (tunes r)) Nothing)) ≡ []
    none true false reset r = refl
    none true true true r = refl
    none true true false None = refl
    none true true false (Some y) = refl
    none false false reset r = refl
    none false true true r = refl
    none false true false None = refl
    none false true false (Some y) = refl

behind_is : (e : MidiEvent) (ms : List Msg) (b : Bool) (w : MidiWhat)
    → placed_at e (setup_behind (map Says ms) b (doing w)) ≡ said_if (b && resets_all w) ms e
behind_is e ms true (Says m) = refl
behind_is e ms false (Says m) = refl
behind_is e ms true (MetaOf kind bytes) = refl
behind_is e ms false (MetaOf kind bytes) = refl
behind_is e ms b (SysexOf lead bytes) = pick b (nat_eq lead 240) (is_reset bytes) (tuning_of bytes)
  where
    pick : (x leads reset : Bool) (r : Option Retune)
        → placed_at e (setup_behind (map Says ms) x (cond leads (cond reset Resets (tunes r)) Nothing)) ≡ said_if (x && (leads && reset)) ms e
    pick true false reset r = refl
    pick true true true r = said_placed e ms
    pick true true false None = refl
    pick true true false (Some y) = refl
    pick false false reset r = refl
    pick false true true r = refl
    pick false true false None = refl
    pick false true false (Some y) = refl

itself : (e : MidiEvent) (w : MidiWhat) → e.what ≡ w → placed_at e (w ∷ []) ≡ e ∷ []
itself e w is = ap (λ (x : MidiWhat). record e { what = x } ∷ []) (sym is)

-- ---- the note that an event begins or releases

-- of an event of port z at a tick, which comes behind some
abbrev pub note_of : Options → Targets → List MidiEvent → Plan → ℕ → ℕ → MidiWhat → Option Played
note_of o table front plan z t w =
    either (played_if plan (begun_by o table z (suc (count_begun o front)) t w)) (released_by o table front plan z w)

either_none : (x : Option Played) → either x None ≡ x
either_none (Some n) = refl
either_none None = refl

-- ---- a source

-- the members of a port have these bends
abbrev pub HasBends : Options → Targets → List MidiEvent → Plan → (ℕ → ℕ) → ℕ → ℕ → Type 0
HasBends o table es plan bends z k = (c i : ℕ) (w : Zone) → zone_of c (zones_on o table es z) ≡ Some w → i < w.members
    → bends (member_at w i) ≡ out_bend o table es plan z k (member_at w i)

module _ (kit : Kit) (o : Options) (table : Targets) (es : List MidiEvent) (plan : Plan) (h : IsZonable o table es plan) where
  abbrev channel : ℕ → ℕ → Pair → ℕ
  channel = planned_channel o table es plan

  abbrev zones : ℕ → List Zone
  zones = zones_on o table es

  abbrev there : ℕ → ℕ → List Pair
  there z k = pairs_on o (is_part o) table es z k

  -- a note that begins, in its zone; x is the output's music once the setup stands
  begins_is : (z k : ℕ) (e : MidiEvent) (c j v : ℕ) (w : Zone) (bends : ℕ → ℕ) (x : Music) → ComesAt es k e → k < length es
      → port_on (take k es) e ≡ z → e.what ≡ Says (NoteOn c j (suc v)) → is_part o c ≡ true → zone_of c (zones z) ≡ Some w
      → HasBends o table es plan bends z k
      → ((i : ℕ) → i < w.members → (channel_at x (member_at w i)).bend ≡ out_bend o table es plan z k (member_at w i))
      → (u : Option BendTarget) → bend_target_if o.range (table j e.tick) ≡ u
      → member_begins z o (there z k) x (channel z (suc k)) c (suc v) u
      ≡ begun_as bends (suc v) (aimed (channel_in plan (suc (count_begun o (take k es)))) u)
  begins_is z k e c j v w bends x comes low at what part of has ready None aim = refl
  begins_is z k e c j v w bends x comes low at what part of has ready (Some t) aim =
      ap (λ ms. ms ++ NoteOn d t.key (suc v) ∷ []) (bend_first (cases_Bool (is_member is_same_pair (there z k) p)))
      ∙ ap (λ y. begun_as bends (suc v) (aimed y (Some t))) (sym (channel_begun kit o table es plan h z k e c j v t w comes at what part aim of))
    where
      p : Pair
      p = pair_with z c t

      d : ℕ
      d = channel z (suc k) p

      bend : ℕ
      bend = bend_value (pos 8192 +ℤ t.steps)

      begun : Has (begun_at o (is_part o) table (port_at es z) (suc k)) p × Has (there z (suc k)) p
      begun = begun_has kit o table es plan h z k e c j v t comes at what part aim

      m : OnMember o table es plan z (suc k) p w
      m = on_member kit o table es plan h z (suc k) p w of (omega (arith, low)) begun.1

      same : bends d ≡ (channel_at x d).bend
      same = ap bends m.is ∙ has c m.place w of m.within ∙ sym (ready m.place m.within) ∙ sym (ap (λ y. (channel_at x y).bend) m.is)

      bend_first : (is_member is_same_pair (there z k) p ≡ true) ⊎ (is_member is_same_pair (there z k) p ≡ false)
          → cond (is_member is_same_pair (there z k) p) [] (where_differs (channel_at x d).bend bend (Bend d bend))
          ≡ where_differs (bends d) bend (Bend d bend)
      bend_first (inr is) =
          ap (λ b. cond b [] (where_differs (channel_at x d).bend bend (Bend d bend))) is
          ∙ ap (λ y. where_differs y bend (Bend d bend)) (sym same)
      bend_first (inl is) =
          let was : bends d ≡ bend =
          ap bends m.is ∙ has c m.place w of m.within ∙ sym (ap (out_bend o table es plan z k) m.is)
          ∙ ap (out_bend o table es plan z k) (kept_there kit o table es plan h z k p low is begun.1)
          ∙ bent_there kit o table es plan h z k p (omega (arith, low)) is in
          ap (λ b. cond b [] (where_differs (channel_at x d).bend bend (Bend d bend))) is
          ∙ sym (ap (λ b. cond b [] (Bend d bend ∷ [])) (eq-eqb (bends d) bend was))

  -- a note off
  released : (z k c j : ℕ) (w : Zone) → is_part o c ≡ true → zone_of c (zones z) ≡ Some w → k ≤ length es
      → (src : Music) → src ≡ music_on z (take k es) → (off : ℕ → ℕ → Msg)
      → note_released z o table (channel z k) off c (pressed_note c j src.notes)
      ≡ released_as off (released_at o table (take k es) plan z (Some (c, j)))
  released z k c j w part of low src source off =
      ap (λ (m : Music). note_released z o table (channel z k) off c (pressed_note c j m.notes)) source
      ∙ released_is o table (take k es) plan z c j (channel z k) off (ap bends_notes h.route) part (kit.one (events_on z (take k es)) c j)
      (λ x t s aim. channels_at kit o table es plan h k low z c j x t w part of s aim)

  -- a message of a part
  zone_is : (z k : ℕ) (e : MidiEvent) (m : Msg) (bends : ℕ → ℕ) (src x : Music) → ComesAt es k e → k < length es
      → port_on (take k es) e ≡ z → e.what ≡ Says m → is_part o (channel_of m) ≡ true → src ≡ music_on z (take k es)
      → HasBends o table es plan bends z k → (w : Zone) → zone_of (channel_of m) (zones z) ≡ Some w
      → ((i : ℕ) → i < w.members → (channel_at x (member_at w i)).bend ≡ out_bend o table es plan z k (member_at w i))
      → zone_causes z o table (there z k) src x (channel z k) (channel z (suc k)) (master_of w) e.tick m
      ≡ with_zone bends w (note_of o table (take k es) plan z e.tick (Says m)) m
  zone_is z k e (NoteOn c j (suc v)) bends src x comes low at what part source has w of ready =
      begins_is z k e c j v w bends x comes low at what part of has ready (bend_target_if o.range (table j e.tick)) refl
      ∙ ap (begun_as bends (suc v)) (sym (note (suc (count_begun o (take k es)))))
    where
      note : (n : ℕ) → either (played_if plan (begun_by o table z n e.tick (Says (NoteOn c j (suc v))))) None
          ≡ aimed (channel_in plan n) (bend_target_if o.range (table j e.tick))
      note n =
          either_none (played_if plan (begun_by o table z n e.tick (Says (NoteOn c j (suc v)))))
          ∙ note_begun o table plan z e.tick c j v n (ap bends_notes h.route) part
  zone_is z k e (NoteOn c j zero) bends src x comes low at what part source has w of ready =
      released z k c j w part of (omega (arith, low)) src source (λ d i. NoteOn d i 0)
  zone_is z k e (NoteOff c j v) bends src x comes low at what part source has w of ready =
      released z k c j w part of (omega (arith, low)) src source (λ d i. NoteOff d i v)
  zone_is z k e (KeyPressure c j v) bends src x comes low at what part source has w of ready = refl
  zone_is z k e (Control c n v) bends src x comes low at what part source has w of ready = refl
  zone_is z k e (Program c n) bends src x comes low at what part source has w of ready = refl
  zone_is z k e (Pressure c v) bends src x comes low at what part source has w of ready = refl
  zone_is z k e (Bend c v) bends src x comes low at what part source has w of ready = refl

  -- what an event causes
  causes_is : (z k : ℕ) (e : MidiEvent) (bends : ℕ → ℕ) (src x : Music) → ComesAt es k e → k < length es
      → port_on (take k es) e ≡ z → src ≡ music_on z (take k es) → HasBends o table es plan bends z k
      → ((c i : ℕ) (w : Zone) → zone_of c (zones z) ≡ Some w → i < w.members
      → (channel_at x (member_at w i)).bend ≡ out_bend o table es plan z k (member_at w i))
      → (a : MidiWhat) → e.what ≡ a
      → placed_at e (mpe_causes z o table (zones z) (there z k) src x (channel z k) (channel z (suc k)) e.tick a)
      ≡ passed (caused_by o (zones z) bends (note_of o table (take k es) plan z e.tick a) a) e
  causes_is z k e bends src x comes low at source has ready (Says m) what = by_part (is_part o (channel_of m)) refl
    where
      caused : List Msg
      caused = in_zone z o table (there z k) src x (channel z k) (channel z (suc k)) e.tick m (zone_of (channel_of m) (zones z))

      note : Option Played
      note = note_of o table (take k es) plan z e.tick (Says m)

      by_zone : is_part o (channel_of m) ≡ true → (y : Option Zone) → zone_of (channel_of m) (zones z) ≡ y
          → in_zone z o table (there z k) src x (channel z k) (channel z (suc k)) e.tick m y ≡ with_zone_if bends y note m
      by_zone part None of = refl
      by_zone part (Some w) of = zone_is z k e m bends src x comes low at what part source has w of (λ i within. ready (channel_of m) i w of within)

      by_part : (b : Bool) → is_part o (channel_of m) ≡ b
          → placed_at e (cond (is_part o (channel_of m)) (map Says caused) (Says m ∷ []))
          ≡ passed (cond (is_part o (channel_of m)) (Some (with_zone_if bends (zone_of (channel_of m) (zones z)) note m)) None) e
      by_part true is =
          ap (λ b. placed_at e (cond b (map Says caused) (Says m ∷ []))) is
          ∙ said_placed e caused
          ∙ ap (said_at e) (by_zone is (zone_of (channel_of m) (zones z)) refl)
          ∙ sym (ap (λ b. passed (cond b (Some (with_zone_if bends (zone_of (channel_of m) (zones z)) note m)) None) e) is)
      by_part false is =
          ap (λ b. placed_at e (cond b (map Says caused) (Says m ∷ []))) is
          ∙ itself e (Says m) what
          ∙ sym (ap (λ b. passed (cond b (Some (with_zone_if bends (zone_of (channel_of m) (zones z)) note m)) None) e) is)
  causes_is z k e bends src x comes low at source has ready (SysexOf lead bytes) what = itself e (SysexOf lead bytes) what
  causes_is z k e bends src x comes low at source has ready (MetaOf kind bytes) what = itself e (MetaOf kind bytes) what

  -- the block of an event
  pub block_is : (z k : ℕ) (e : MidiEvent) (bends : ℕ → ℕ) → ComesAt es k e → k < length es → port_on (take k es) e ≡ z
      → HasBends o table es plan bends z k
      → (let s : Zoned = state o table es plan z k in
      let n : Numbered = record { position = suc k; event = e } in
      zoned_block o table (zones z) (runs_on o table es channel z) s n
      ≡ block_events (zones_setup o.range (zones z)) s.begun
      (caused_by o (zones z) bends (note_of o table (take k es) plan z e.tick e.what) e.what) e)
  block_is z k e bends comes low at has =
      let s : Zoned = state o table es plan z k in
      let ms : List Msg = zones_setup o.range (zones z) in
      let first : List MidiEvent = placed_at e (setup_before (map Says ms) s.begun (doing e.what)) in
      let x : Music = play s.out first in
      let source : s.source ≡ music_on z (take k es) =
      kit.source o table es zones channel (mpe kit o table es plan h) z k ∙ music_is kit es z k (omega (arith, low)) in
      let causes : List MidiWhat = mpe_causes z o table (zones z) (there z k) s.source x (channel z k) (channel z (suc k)) e.tick e.what in
      let behind : List MidiWhat = setup_behind (map Says ms) s.begun (doing e.what) in
      let caused = causes_is z k e bends s.source x comes low at source has
      (λ c i w of within. bend_ready kit o table es plan h z c i w k e of within (omega (arith, low))) e.what refl in
      ap (λ l. first ++ l) (map-append (λ (w : MidiWhat). record e { what = w }) causes behind)
      ∙ ap (λ l. l ++ (placed_at e causes ++ placed_at e behind)) (before_is e ms s.begun e.what)
      ∙ ap (λ l. said_if (is_first s.begun e.what) ms e ++ (l ++ placed_at e behind)) caused
      ∙ ap (λ l. said_if (is_first s.begun e.what) ms e
      ++ (passed (caused_by o (zones z) bends (note_of o table (take k es) plan z e.tick e.what) e.what) e ++ l)) (behind_is e ms s.begun e.what)
