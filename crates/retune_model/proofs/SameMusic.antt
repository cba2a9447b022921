-- Dump and live play the source's music.
use Rattle.std.proofs.Common.{◌≡◌, ℕ, zero, suc, ◌<◌, List, [], ◌∷◌, ◌++◌, Bool, true, false, cond, ◌&&◌, not, refl, ap, sym, ◌∙◌, get_or, replicate}
use Rattle.std.specs.List.{AllByRecursion}
use Rattle.mt_base.specs.declared.event.Msg.{Msg}
use Rattle.mt_base.specs.declared.event.Msg.TheVariants.{NoteOn, NoteOff, KeyPressure, Control, Program, Pressure, Bend}
use Rattle.mt_base.specs.Midi.{MidiEvent}
use Rattle.midi_model.specs.Sysex.{Doing, Plays, Resets, Tunes, Nothing, doing, is_reset}
use Rattle.midi_model.specs.Channel.{default_channel, nothing_selected}
use Rattle.midi_model.specs.Music.{Music, quiet, channel_at, advance, step, play}
use Rattle.midi_model.specs.Receiver.{start, after}
use Rattle.retune_model.specs.Blocks.{Group, Sends, AreSilent, Block, written}
use Rattle.retune_model.specs.Routes.{translated, Setup, sends, selects, setup_at, dump_before, dump_behind, dump_next, dump_block, dump_output, Live, Told, nothing_told, change_due, live_before, live_next, live_block, live_output, IsHarmless, IsHarmlessLive}
use Rattle.midi_model.specs.MusicLaws.{EventsSettle}
use Rattle.retune_model.proofs.Steady.{play-append, music_all}
use Rattle.retune_model.proofs.Steady.{Steady, steady-quiet, steady-step}
use Rattle.retune_model.proofs.Same.{same_block}

-- what a block keeps: it is silent around its event, and what is ready stays ready
pub record Keeps {S : Type 0} (block : S → MidiEvent → Block) (next : S → MidiEvent → S) (Ready : S → Music → Type 0) (s : S) (m : Music) (e : MidiEvent) : Type 0 where
  pub event : (block s e).event ≡ e
  pub before : AreSilent m (block s e).before
  pub behind : AreSilent (step m (block s e).event) (block s e).behind
  pub ready : Ready (next s e) (step m e)

-- a translation by such blocks plays the source's music
pub same_translated : {S : Type 0} (block : S → MidiEvent → Block) (next : S → MidiEvent → S) (Ready : S → Music → Type 0)
    → ((s : S) (m : Music) (e : MidiEvent) → Steady m → Ready s m → Keeps block next Ready s m e)
    → (s : S) (m : Music) (es : List MidiEvent) → Steady m → Ready s m → play m (translated block next s es) ≡ play m es
same_translated block next Ready one s m [] h r = refl
same_translated block next Ready one s m (e ∷ es) h r =
    let k : Keeps block next Ready s m e = one s m e h r in
    play-append m (written (block s e)) (translated block next (next s e) es)
    ∙ ap (λ y. play y (translated block next (next s e) es)) (same_block m (block s e) h k.before k.behind ∙ ap (step m) k.event)
    ∙ same_translated block next Ready one (next s e) (step m e) es (steady-step m e h) k.ready

silent_append : (m : Music) (xs ys : List Group) → AreSilent m xs → AreSilent m ys → AreSilent m (xs ++ ys)
silent_append m [] ys h k = k
silent_append m (x ∷ xs) ys h k = (h.0, silent_append m xs ys h.1 k)

abbrev pub Unselected : Music → Type 0
Unselected m = (c : ℕ) → (channel_at m c).selection ≡ nothing_selected

same_everywhere : {A : Type 0} (n i : ℕ) (x : A) → get_or (replicate n x) i x ≡ x
same_everywhere zero i x = refl
same_everywhere (suc n) zero x = refl
same_everywhere (suc n) (suc i) x = same_everywhere n i x

pub unselected-quiet : (m : Music) → m.channels ≡ quiet.channels → Unselected m
unselected-quiet m e c = ap (λ cs. (get_or cs c default_channel).selection) e ∙ ap (λ x. x.selection) (same_everywhere 16 c default_channel)

silent_sends : (m : Music) (t track : ℕ) (bs : List (List ℕ)) → AllByRecursion (λ b. is_reset b ≡ false) bs → AreSilent m (sends t track bs)
silent_sends m t track [] h = tt
silent_sends m t track (b ∷ bs) h = (h.0, silent_sends m t track bs h.1)

silent_selects : (m : Music) (t track p : ℕ) (cs : List ℕ) → Unselected m → AllByRecursion (λ c. c < 16) cs → AreSilent m (selects t track p cs)
silent_selects m t track p [] u h = tt
silent_selects m t track p (c ∷ cs) u h = ((h.0, u c), silent_selects m t track p cs u h.1)

silent_setup : (m : Music) (s : Setup) (e : MidiEvent) → IsHarmless s → Unselected m → AreSilent m (setup_at s e)
silent_setup m s e h u = silent_append m _ _ (silent_sends m e.tick e.track s.dumps h.dumps) (silent_selects m e.tick e.track s.program s.channels u h.channels)

-- while no channel message came, nothing is selected
abbrev pub Ready : Bool → Music → Type 0
Ready true m = Unit {0}
Ready false m = Unselected m

silent_before : (s : Setup) (b : Bool) (m : Music) (e : MidiEvent) (d : Doing) → IsHarmless s → Ready b m → AreSilent m (dump_before s b e d)
silent_before s false m e (Plays msg) h r = silent_setup m s e h r
silent_before s false m e Resets h r = tt
silent_before s false m e (Tunes x) h r = tt
silent_before s false m e Nothing h r = tt
silent_before s true m e (Plays msg) h r = tt
silent_before s true m e Resets h r = tt
silent_before s true m e (Tunes x) h r = tt
silent_before s true m e Nothing h r = tt

silent_behind : (s : Setup) (b : Bool) (m : Music) (t : ℕ) (e : MidiEvent) (d : Doing) → IsHarmless s → AreSilent (advance t d m) (dump_behind s b e d)
silent_behind s false m t e (Plays msg) h = tt
silent_behind s false m t e Resets h = tt
silent_behind s false m t e (Tunes x) h = tt
silent_behind s false m t e Nothing h = tt
silent_behind s true m t e (Plays msg) h = tt
silent_behind s true m t e Resets h = silent_setup (advance t Resets m) s e h (unselected-quiet (advance t Resets m) refl)
silent_behind s true m t e (Tunes x) h = tt
silent_behind s true m t e Nothing h = tt

ready_next : (b : Bool) (m : Music) (t : ℕ) (d : Doing) → Ready b m → Ready (dump_next b d) (advance t d m)
ready_next b m t (Plays msg) r = tt
ready_next true m t Resets r = tt
ready_next false m t Resets r = unselected-quiet (advance t Resets m) refl
ready_next b m t (Tunes x) r = r
ready_next b m t Nothing r = r

pub dump_keeps : (s : Setup) → IsHarmless s → (b : Bool) (m : Music) (e : MidiEvent) → Steady m → Ready b m → Keeps (dump_block s) (λ c x. dump_next c (doing x.what)) Ready b m e
dump_keeps s h b m e st r = record {
  event = refl;
  before = silent_before s b m e (doing e.what) h r;
  behind = silent_behind s b m e.tick e (doing e.what) h;
  ready = ready_next b m e.tick (doing e.what) r;
}

pub dump_same : (settled : EventsSettle) (s : Setup) (es : List MidiEvent) → IsHarmless s → (after (dump_output s es)).music ≡ (after es).music
dump_same settled s es h =
    music_all start (dump_output s es)
    ∙ same_translated (dump_block s) (λ b e. dump_next b (doing e.what)) Ready (dump_keeps s h) false quiet es (steady-quiet settled) (unselected-quiet quiet refl)
    ∙ sym (music_all start es)

silent_if : (m : Music) (b : Bool) (g : Group) → AreSilent m (g ∷ []) → AreSilent m (cond b (g ∷ []) [])
silent_if m true g h = h
silent_if m false g h = tt

silent_change : (l : Live) (s : Told) (m : Music) (e : MidiEvent) (msg : Msg) → IsHarmlessLive l → AreSilent m (change_due l s e msg)
silent_change l s m e (NoteOn c k (suc v)) h = silent_if m (l.is_retuned c && not (s.keys k)) (Sends e.tick e.track (l.change k)) (h.change k, tt)
silent_change l s m e (NoteOn c k zero) h = tt
silent_change l s m e (NoteOff c k v) h = tt
silent_change l s m e (KeyPressure c k v) h = tt
silent_change l s m e (Control c n v) h = tt
silent_change l s m e (Program c p) h = tt
silent_change l s m e (Pressure c v) h = tt
silent_change l s m e (Bend c v) h = tt

silent_live : (l : Live) (s : Told) (m : Music) (e : MidiEvent) (d : Doing) → IsHarmlessLive l → Ready s.begun m → AreSilent m (live_before l s e d)
silent_live l s m e (Plays msg) h r = silent_append m _ _ (silent_before l.setup s.begun m e (Plays msg) h.setup r) (silent_change l s m e msg h)
silent_live l s m e Resets h r = tt
silent_live l s m e (Tunes x) h r = tt
silent_live l s m e Nothing h r = tt

ready_live : (l : Live) (s : Told) (m : Music) (t : ℕ) (d : Doing) → Ready s.begun m → Ready (live_next l s d).begun (advance t d m)
ready_live l s m t (Plays msg) r = tt
ready_live l s m t Resets r = ready_next s.begun m t Resets r
ready_live l s m t (Tunes x) r = r
ready_live l s m t Nothing r = r

pub live_keeps : (l : Live) → IsHarmlessLive l → (s : Told) (m : Music) (e : MidiEvent) → Steady m → Ready s.begun m → Keeps (live_block l) (λ x y. live_next l x (doing y.what)) (λ x y. Ready x.begun y) s m e
live_keeps l h s m e st r = record {
  event = refl;
  before = silent_live l s m e (doing e.what) h r;
  behind = silent_behind l.setup s.begun m e.tick e (doing e.what) h.setup;
  ready = ready_live l s m e.tick (doing e.what) r;
}

pub live_same : (settled : EventsSettle) (l : Live) (es : List MidiEvent) → IsHarmlessLive l → (after (live_output l es)).music ≡ (after es).music
live_same settled l es h =
    music_all start (live_output l es)
    ∙ same_translated (live_block l) (λ s e. live_next l s (doing e.what)) (λ s m. Ready s.begun m) (live_keeps l h) nothing_told quiet es (steady-quiet settled) (unselected-quiet quiet refl)
    ∙ sym (music_all start es)
