-- Each kind of message that changes a channel or presses a key turns the notes of its channel.
use Rattle.std.proofs.Common.{◌≡◌, ◌≢◌, ◌<◌, ℕ, Bool, true, false, cond, ◌&&◌, List, None, refl, ap, sym, ◌∙◌, subst, map, length, set, get_or, nat_eq, arith, length-set}
use Rattle.std.proofs.lemmas.Bool.{eqb-true, eqb-false, ne_eqb}
use Rattle.std.proofs.lemmas.List.{get_or-set_same, get_or-set_other}
use Rattle.mt_base.specs.Midi.{channel_of}
use Rattle.mt_base.specs.declared.event.Msg.{Msg}
use Rattle.mt_base.specs.declared.event.Msg.TheVariants.{NoteOn, NoteOff, KeyPressure, Control, Program, Pressure, Bend}
use Rattle.midi_model.specs.Sysex.{Plays}
use Rattle.midi_model.specs.Channel.{Channel, default_channel, control_of, reset_controls, controlled, apply, role, Role, Stored, EntryHigh, EntryLow, NrpnLow, NrpnHigh, RpnLow, RpnHigh, AllSoundOff, ResetControllers, AllNotesOff, Ignored}
use Rattle.midi_model.specs.Zones.{no_zones}
use Rattle.midi_model.specs.Notes.{Note, sounds, is_at, sostenuto, without_pressure, with_pressure}
use Rattle.midi_model.specs.Music.{Music, channel_at, asks, notes_turned, notes_after, settle_note, advance}
use Rattle.midi_model.specs.MusicLaws.{IsSettled}
use Rattle.bend_laws.proofs.Brought.{turned_captured}
use Rattle.bend_laws.proofs.Lists.{map_same, map_map}
use Rattle.bend_laws.proofs.Turned.{said, all_stay, sostenuto_here, sostenuto_elsewhere, captured_same, IsCaptured, IsTurnedBy, all_settle}

-- the notes after a message, before they settle
pub record Captures (m : Music) (c : ℕ) (after : Channel) (ns : List Note) : Type 0 where
  pub turn : Note → Note
  pub notes : ns ≡ map turn m.notes
  pub each : (a : Note) → IsCaptured c (channel_at m c) after a (turn a)

message_turned : (m : Music) (t : ℕ) (msg : Msg) → m.zones ≡ no_zones → IsSettled m → asks m msg ≡ None → channel_of msg < 16 →
    Captures m (channel_of msg) (apply (channel_at m (channel_of msg)) msg) (notes_after m t msg) →
    IsTurnedBy (channel_of msg) t m (advance t (Plays msg) m)
message_turned m t msg z s h low k =
    let c : ℕ = channel_of msg in
    let after : Channel = apply (channel_at m c) msg in
    let ss : List Channel = set m.channels c after in
    let wide : c < length m.channels = (let e : length m.channels ≡ 16 = s.channels in omega (arith, e, low)) in
    let x : Music = record { channels = ss; zones = m.zones; notes = map (settle_note ss m.zones t) (notes_after m t msg) } in
    let is : IsTurnedBy c t m x = record {
      turn = λ a. settle_note ss no_zones t (k.turn a);
      notes = ap (λ w. map (settle_note ss w t) (notes_after m t msg)) z ∙ ap (map (settle_note ss no_zones t)) k.notes
          ∙ map_map (settle_note ss no_zones t) k.turn m.notes;
      each = all_settle m.channels c t after k.turn m.notes wide k.each (all_stay m z s);
      others = λ d e. get_or-set_other m.channels c d after default_channel e;
      zones = z;
    } in
    subst (λ (y : Music). IsTurnedBy c t m y) (sym (said m t msg h)) is

-- ---- a note that isn't changed, where the sostenuto pedal stays

same_note : (c : ℕ) (now after : Channel) (a : Note) → control_of after 66 ≡ control_of now 66 → IsCaptured c now after a a
same_note c now after a h = record {
  pressure = a.pressure;
  here = λ e.
      let k : turned_captured (control_of now 66) (control_of after 66) a.release a.captured a.ended ≡ a.captured =
      ap (λ v. turned_captured (control_of now 66) v a.release a.captured a.ended) h
      ∙ captured_same (control_of now 66) a.release a.captured a.ended in
      ap (λ b. let y : Note = record a { captured = b } in y) (sym k);
  elsewhere = λ e. refl;
}

same_notes : (m : Music) (c : ℕ) (after : Channel) → control_of after 66 ≡ control_of (channel_at m c) 66 → Captures m c after m.notes
same_notes m c after h = record {
  turn = λ a. a;
  notes = sym (map_same (λ a. a) (λ a. refl) m.notes);
  each =
      λ a. same_note c (channel_at m c) after a h;
}

-- ---- key pressure

pressed_note : (c k v : ℕ) (now : Channel) (a : Note) → IsCaptured c now now a (with_pressure c k v a)
pressed_note c k v now a = record {
  pressure = (with_pressure c k v a).pressure;
  here = λ e. pick (is_at c k a && sounds a) ∙ ap (λ b. let y : Note = record a { captured = b; pressure = (with_pressure c k v a).pressure } in y)
      (sym (captured_same (control_of now 66) a.release a.captured a.ended));
  elsewhere = λ e. ap (λ b. cond ((b && nat_eq a.key k) && sounds a) (record a { pressure = v }) a) (ne_eqb a.channel c e);
}
  where
    pick : (b : Bool) → cond b (record a { pressure = v }) a ≡ record a { pressure = (cond b (record a { pressure = v }) a).pressure }
    pick true = refl
    pick false = refl

-- ---- controllers

-- those that cause a channel to be brought
abbrev pub Brings : Role → Type 0
Brings AllSoundOff = ⊥
Brings AllNotesOff = ⊥
Brings _ = Unit {0}

sostenuto_turns : (c v : ℕ) (now after : Channel) (a : Note) → control_of after 66 ≡ v → a.channel ≡ c →
    sostenuto no_zones c (control_of now 66) v a ≡ record a {
      captured = turned_captured (control_of now 66)
          (control_of after 66) a.release a.captured a.ended;
    }
sostenuto_turns c v now after a h e = sostenuto_here c (control_of now 66) v a e ∙ ap (λ w. let y : Note =
    record a { captured = turned_captured (control_of now 66) w a.release a.captured a.ended } in y) (sym h)

sostenuto_note : (c v : ℕ) (now after : Channel) (a : Note) → control_of after 66 ≡ v →
    IsCaptured c now after a (sostenuto no_zones c (control_of now 66) v a)
sostenuto_note c v now after a h = record {
  pressure = a.pressure;
  here = λ e. sostenuto_turns c v now after a h e;
  elsewhere = λ e. sostenuto_elsewhere c (control_of now 66) v a e;
}

sostenuto_pedal : (m : Music) (c v : ℕ) (after : Channel) → m.zones ≡ no_zones → control_of after 66 ≡ v →
    Captures m c after (map (sostenuto m.zones c (control_of (channel_at m c) 66) v) m.notes)
sostenuto_pedal m c v after z h = record {
  turn = sostenuto no_zones c (control_of (channel_at m c) 66) v;
  notes = ap (λ w. map (sostenuto w c (control_of (channel_at m c) 66) v) m.notes) z;
  each = λ a. sostenuto_note c v (channel_at m c) after a h;
}

stored : (m : Music) (c n v : ℕ) (b : Bool) → nat_eq n 66 ≡ b → m.zones ≡ no_zones → length (channel_at m c).controls ≡ 120 →
    Captures m c (record (channel_at m c) { controls = set (channel_at m c).controls n v })
    (cond b (map (sostenuto m.zones c (control_of (channel_at m c) 66) v) m.notes) m.notes)
stored m c n v true e z l =
    let is : n ≡ 66 = eqb-true n 66 e in
    sostenuto_pedal m c v (record (channel_at m c) { controls = set (channel_at m c).controls n v }) z
    (ap (λ i. get_or (set (channel_at m c).controls i v) 66 0) is ∙ get_or-set_same (channel_at m c).controls 66 v 0 (omega (arith, l)))
stored m c n v false e z l =
    same_notes m c (record (channel_at m c) { controls = set (channel_at m c).controls n v })
    (get_or-set_other (channel_at m c).controls n 66 v 0 (λ h. eqb-false n 66 e (sym h)))

-- reset all controllers
reset_pedal : (cs : List ℕ) → length cs ≡ 120 → get_or (reset_controls cs) 66 0 ≡ 0
reset_pedal cs l =
    let before : List ℕ = set (set (set (set cs 1 0) 11 127) 64 0) 65 0 in
    let wide : length before ≡ 120 = length-set (set (set (set cs 1 0) 11 127) 64 0) 65 0 ∙ length-set (set (set cs 1 0) 11 127) 64 0
    ∙ length-set (set cs 1 0) 11 127 ∙ length-set cs 1 0 ∙ l in
    get_or-set_other (set before 66 0) 67 66 0 0 (λ e. absurd (omega (arith, e))) ∙ get_or-set_same before 66 0 0 (omega (arith, wide))

relaxed : (c : ℕ) (a y : Note) (k : Bool) → y ≡ record a { captured = k } → a.channel ≡ c →
    without_pressure c y ≡ record a { captured = k; pressure = (without_pressure c y).pressure }
relaxed c a y k is h = ap (without_pressure c) is ∙ pick (nat_eq a.channel c && sounds a)
    ∙ ap (λ (x : Note). let z : Note = record a { captured = k; pressure = (without_pressure c x).pressure } in z) (sym is)
  where
    pick : (b : Bool) → cond b (record a { captured = k; pressure = 0 }) (record a { captured = k }) ≡ record a {
      captured = k;
      pressure =
          (cond b (record a { captured = k; pressure = 0 }) (record a { captured = k })).pressure;
    }
    pick true = refl
    pick false = refl

relaxed_elsewhere : (c : ℕ) (a : Note) → a.channel ≢ c → without_pressure c a ≡ a
relaxed_elsewhere c a h = ap (λ b. cond (b && sounds a) (record a { pressure = 0 }) a) (ne_eqb a.channel c h)

reset_note : (c : ℕ) (now after : Channel) (a : Note) → control_of after 66 ≡ 0 →
    IsCaptured c now after a (without_pressure c (sostenuto no_zones c (control_of now 66) 0 a))
reset_note c now after a h =
    record {
      pressure = (without_pressure c (sostenuto no_zones c (control_of now 66) 0 a)).pressure;
      here = λ e. relaxed c a (sostenuto no_zones c (control_of now 66) 0 a) (turned_captured (control_of now 66)
          (control_of after 66) a.release a.captured a.ended) (sostenuto_turns c 0 now after a h e) e;
      elsewhere = λ e. ap (without_pressure c) (sostenuto_elsewhere c (control_of now 66) 0 a e) ∙ relaxed_elsewhere c a e;
    }

controller_captures : (m : Music) (t c n v : ℕ) (r : Role) → Brings r → m.zones ≡ no_zones → length (channel_at m c).controls ≡ 120 →
    Captures m c (controlled (channel_at m c) n v r) (notes_turned m t c n v r)
controller_captures m t c n v Stored b z l = stored m c n v (nat_eq n 66) refl z l
controller_captures m t c n v ResetControllers b z l = record {
  turn = λ a. without_pressure c (sostenuto no_zones c (control_of (channel_at m c) 66) 0 a);
  notes = ap (λ w. map (λ a. without_pressure c (sostenuto w c (control_of (channel_at m c) 66) 0 a)) m.notes) z;
  each = λ a. reset_note c (channel_at m c) (controlled (channel_at m c) n v ResetControllers) a (reset_pedal (channel_at m c).controls l);
}
controller_captures m t c n v EntryHigh b z l = same_notes m c (controlled (channel_at m c) n v EntryHigh) refl
controller_captures m t c n v EntryLow b z l = same_notes m c (controlled (channel_at m c) n v EntryLow) refl
controller_captures m t c n v NrpnLow b z l = same_notes m c (controlled (channel_at m c) n v NrpnLow) refl
controller_captures m t c n v NrpnHigh b z l = same_notes m c (controlled (channel_at m c) n v NrpnHigh) refl
controller_captures m t c n v RpnLow b z l = same_notes m c (controlled (channel_at m c) n v RpnLow) refl
controller_captures m t c n v RpnHigh b z l = same_notes m c (controlled (channel_at m c) n v RpnHigh) refl
controller_captures m t c n v Ignored b z l = same_notes m c (controlled (channel_at m c) n v Ignored) refl
controller_captures m t c n v AllSoundOff b z l = absurd b
controller_captures m t c n v AllNotesOff b z l = absurd b

-- ---- all messages that bring

abbrev pub IsBringing : Msg → Type 0
IsBringing (NoteOn c k v) = ⊥
IsBringing (NoteOff c k v) = ⊥
IsBringing (Control c n v) = Brings (role n)
IsBringing _ = Unit {0}

message_captures : (m : Music) (t : ℕ) (msg : Msg) → IsBringing msg → m.zones ≡ no_zones → length (channel_at m (channel_of msg)).controls ≡ 120 →
    Captures m (channel_of msg) (apply (channel_at m (channel_of msg)) msg) (notes_after m t msg)
message_captures m t (NoteOn c k v) b z l = absurd b
message_captures m t (NoteOff c k v) b z l = absurd b
message_captures m t (KeyPressure c k v) b z l = record {
  turn = with_pressure c k v;
  notes = refl;
  each =
      λ a. pressed_note c k v (channel_at m c) a;
}
message_captures m t (Control c n v) b z l = controller_captures m t c n v (role n) b z l
message_captures m t (Program c p) b z l = same_notes m c (apply (channel_at m c) (Program c p)) refl
message_captures m t (Pressure c v) b z l = same_notes m c (apply (channel_at m c) (Pressure c v)) refl
message_captures m t (Bend c v) b z l = same_notes m c (apply (channel_at m c) (Bend c v)) refl

pub message_turns : (m : Music) (t : ℕ) (msg : Msg) → IsBringing msg → m.zones ≡ no_zones → IsSettled m → asks m msg ≡ None → channel_of msg < 16 →
    length (channel_at m (channel_of msg)).controls ≡ 120 →
    IsTurnedBy (channel_of msg) t m (advance t (Plays msg) m)
message_turns m t msg b z s h low l = message_turned m t msg z s h low (message_captures m t msg b z l)
