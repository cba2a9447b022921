-- What silent groups do to the tuning, and the whole receiver after a translation by blocks.
use Rattle.std.proofs.Common.{◌≡◌, ℕ, ◌<◌, List, [], ◌∷◌, cond, Option, Some, None, refl, ap, sym, ◌∙◌, length, set}
use Rattle.mt_base.specs.declared.event.Msg.TheVariants.{Control}
use Rattle.mt_base.specs.Midi.{MidiEvent}
use Rattle.midi_model.specs.Sysex.{Resets, doing, tunes, tuning_of, Retune}
use Rattle.midi_model.specs.Channel.{nothing_selected, TuningProgram, target}
use Rattle.midi_model.specs.Music.{Music, channel_at, step, play}
use Rattle.midi_model.specs.Tuning.{Tuning, chosen, tuning_after}
use Rattle.midi_model.specs.Receiver.{Receiver, receive, receive_all}
use Rattle.retune_model.specs.Blocks.{says, selecting, Group, Selects, Sends, events_of, all_events, IsSilent, AreSilent, Block, written}
use Rattle.retune_model.specs.Routes.{translated, renewed, tuned_by, tuning_run}
use Rattle.retune_model.proofs.Steady.{Steady, steady-step}
use Rattle.retune_model.proofs.Silent.{turned, turned-same, turned-at, after_high, tuning_selected, high, low_byte, group_silent}
use Rattle.retune_model.proofs.Steady.{music_all, receive_all-append}
use Rattle.retune_model.proofs.SameMusic.{Keeps}

-- after the first two messages of a selection the tuning program is selected for data entry
selected_now : (m : Music) (t track c : ℕ) → Steady m → c < length m.channels → (channel_at m c).selection ≡ nothing_selected
    → target (channel_at (step (step m (says t track (Control c 101 0))) (says t track (Control c 100 3))) c).selection ≡ TuningProgram
selected_now m t track c h low e =
    let back : turned c nothing_selected m ≡ m = ap (λ s. turned c s m) (sym e) ∙ turned-same m c in
    let e1 : MidiEvent = says t track (Control c 101 0) in
    let e2 : MidiEvent = says t track (Control c 100 3) in
    let here : step (step m e1) e2 ≡ turned c tuning_selected m =
    ap (λ y. step (step y e1) e2) (sym back)
    ∙ ap (λ y. step y e2) (high m nothing_selected t track c 0 h low)
    ∙ low_byte m (after_high 0 nothing_selected) t track c 3 h low in
    ap (λ y. target (channel_at y c).selection) here ∙ ap target (turned-at m c tuning_selected low)

select_tunes : (r : Receiver) (t track c p : ℕ) → Steady r.music → c < length r.music.channels → (channel_at r.music c).selection ≡ nothing_selected
    → (receive_all r (selecting t track c p)).tuning ≡ record r.tuning { selected = set r.tuning.selected c (Some p) }
select_tunes r t track c p h low e = ap (λ w. chosen c p w r.tuning) (selected_now r.music t track c h low e)

sends_tunes : (m : Music) (o : Option Retune) (u : Tuning) → tuning_after m (tunes o) u ≡ renewed o u
sends_tunes m (Some r) u = refl
sends_tunes m None u = refl

group_tunes : (r : Receiver) (g : Group) → Steady r.music → IsSilent r.music g → (receive_all r (events_of g)).tuning ≡ tuned_by (g ∷ []) r.tuning
group_tunes r (Selects t track c p) h s = select_tunes r t track c p h (rw h.now.channels s.0) s.1
group_tunes r (Sends t track bytes) h s = ap (λ b. tuning_after r.music (cond b Resets (tunes (tuning_of bytes))) r.tuning) s ∙ sends_tunes r.music (tuning_of bytes) r.tuning

abbrev pub made : Music → Tuning → Receiver
made m u = record { music = m; tuning = u }

group_received : (r : Receiver) (g : Group) → Steady r.music → IsSilent r.music g → receive_all r (events_of g) ≡ made r.music (tuned_by (g ∷ []) r.tuning)
group_received r g h s =
    ap (λ m. made m (receive_all r (events_of g)).tuning) (music_all r (events_of g) ∙ group_silent r.music g h s)
    ∙ ap (λ u. made r.music u) (group_tunes r g h s)

tuned_front : (g : Group) (gs : List Group) (u : Tuning) → tuned_by gs (tuned_by (g ∷ []) u) ≡ tuned_by (g ∷ gs) u
tuned_front (Selects t track c p) gs u = refl
tuned_front (Sends t track bytes) gs u = refl

pub groups_received : (r : Receiver) (gs : List Group) → Steady r.music → AreSilent r.music gs → receive_all r (all_events gs) ≡ made r.music (tuned_by gs r.tuning)
groups_received r [] h s = refl
groups_received r (g ∷ gs) h s =
    receive_all-append r (events_of g) (all_events gs)
    ∙ ap (λ x. receive_all x (all_events gs)) (group_received r g h s.0)
    ∙ groups_received (made r.music (tuned_by (g ∷ []) r.tuning)) gs h s.1
    ∙ ap (λ u. made r.music u) (tuned_front g gs r.tuning)

pub block_received : (r : Receiver) (b : Block) → Steady r.music → AreSilent r.music b.before → AreSilent (step r.music b.event) b.behind
    → receive_all r (written b) ≡ made (step r.music b.event) (tuned_by b.behind (tuning_after r.music (doing b.event.what) (tuned_by b.before r.tuning)))
block_received r b h before behind =
    receive_all-append r (all_events b.before) (b.event ∷ all_events b.behind)
    ∙ ap (λ x. receive_all x (b.event ∷ all_events b.behind)) (groups_received r b.before h before)
    ∙ groups_received (receive (made r.music (tuned_by b.before r.tuning)) b.event) b.behind (steady-step r.music b.event h) behind

-- the whole receiver after a translation by silent blocks
pub received : {S : Type 0} (block : S → MidiEvent → Block) (next : S → MidiEvent → S) (Ready : S → Music → Type 0)
    → ((s : S) (m : Music) (e : MidiEvent) → Steady m → Ready s m → Keeps block next Ready s m e)
    → (s : S) (r : Receiver) (es : List MidiEvent) → Steady r.music → Ready s r.music
    → receive_all r (translated block next s es) ≡ made (play r.music es) (tuning_run block next s r.music r.tuning es)
received block next Ready one s r [] h k = refl
received block next Ready one s r (e ∷ es) h k =
    let b : Block = block s e in
    let ok : Keeps block next Ready s r.music e = one s r.music e h k in
    let u : Tuning = tuned_by b.behind (tuning_after r.music (doing e.what) (tuned_by b.before r.tuning)) in
    receive_all-append r (written b) (translated block next (next s e) es)
    ∙ ap (λ x. receive_all x (translated block next (next s e) es))
    (block_received r b h ok.before ok.behind
    ∙ ap (λ x. made (step r.music x) (tuned_by b.behind (tuning_after r.music (doing x.what) (tuned_by b.before r.tuning)))) ok.event)
    ∙ received block next Ready one (next s e) (made (step r.music e) u) es (steady-step r.music e h) ok.ready
