-- What an event does to each note: it never changes channel, key and onset, and leaves a note that ended as it was.
use Rattle.std.proofs.Common.{◌≡◌, ℕ, zero, suc, Bool, true, false, cond, not, ◌&&◌, List, [], ◌++◌, Some, is_some, refl, ap, sym, ◌∙◌, map, nat_eq}
use Rattle.std.proofs.lemmas.Bool.{cond_both, and_right, and_left}
use Rattle.std.proofs.lemmas.List.{append-nil}
use Rattle.mt_base.specs.declared.event.Msg.{Msg}
use Rattle.mt_base.specs.declared.event.Msg.TheVariants.{NoteOn, NoteOff, KeyPressure, Control, Program, Pressure, Bend}
use Rattle.midi_model.specs.Sysex.{Doing, Plays, Resets, Tunes, Nothing}
use Rattle.midi_model.specs.Channel.{Channel, control_of, role, Role, Stored, EntryHigh, EntryLow, NrpnLow, NrpnHigh, RpnLow, RpnHigh, AllSoundOff, ResetControllers, AllNotesOff, Ignored}
use Rattle.midi_model.specs.Zones.{Zones, governor}
use Rattle.midi_model.specs.Notes.{Note, sounds, is_down, is_at, hears, is_pedal_down, ending, releasing, cut_off, release_key, with_pressure, sostenuto, without_pressure, end_all, release_all}
use Rattle.midi_model.specs.Music.{Music, channel_at, channels_after, zones_after, notes_turned, notes_after, is_over, settle_note, advance}
use Rattle.midi_model.specs.MusicLaws.{begun_by}
use Rattle.bend_laws.proofs.Lists.{map_same, map_map, map_append}

pub record SameKey (n x : Note) : Type 0 where
  pub channel : x.channel ≡ n.channel
  pub key : x.key ≡ n.key
  pub onset : x.onset ≡ n.onset

pub record IsTouched (n x : Note) : Type 0 where
  pub same : SameKey n x
  pub silent : sounds n ≡ false → x ≡ n

same_itself : (n : Note) → SameKey n n
same_itself n = record { channel = refl; key = refl; onset = refl }

itself : (n : Note) → IsTouched n n
itself n = record { same = same_itself n; silent = λ h. refl }

then_too : (n x y : Note) → IsTouched n x → IsTouched x y → IsTouched n y
then_too n x y h k = record {
  same = record { channel = k.same.channel ∙ h.same.channel; key = k.same.key ∙ h.same.key; onset = k.same.onset ∙ h.same.onset };
  silent = λ s. k.silent (ap sounds (h.silent s) ∙ s) ∙ h.silent s;
}

one_if : (b : Bool) (n x : Note) → IsTouched n x → IsTouched n (cond b x n)
one_if b n x h = cond_both b x n (IsTouched n) (λ e. h) (λ e. itself n)

-- only a note that sounds
sounding_if : (b : Bool) (n x : Note) → (sounds n ≡ false → b ≡ false) → SameKey n x → IsTouched n (cond b x n)
sounding_if b n x h k = record { same = cond_both b x n (SameKey n) (λ e. k) (λ e. same_itself n); silent = λ s. ap (λ q. cond q x n) (h s) }

end_touches : (t : ℕ) (n : Note) → IsTouched n (ending t n)
end_touches t n = sounding_if (sounds n) n (record n { ended = Some t }) (λ s. s) (record { channel = refl; key = refl; onset = refl })

lift_touches : (t v : ℕ) (n : Note) → IsTouched n (releasing t v n)
lift_touches t v n = sounding_if (is_down n) n (record n { release = Some (t, v) }) (λ s. and_left (sounds n) (not (is_some n.release)) s)
    (record { channel = refl; key = refl; onset = refl })

press_touches : (c k v : ℕ) (n : Note) → IsTouched n (with_pressure c k v n)
press_touches c k v n = sounding_if (is_at c k n && sounds n) n (record n { pressure = v }) (λ s. and_right (is_at c k n) (sounds n) s)
    (record { channel = refl; key = refl; onset = refl })

relax_touches : (c : ℕ) (n : Note) → IsTouched n (without_pressure c n)
relax_touches c n = sounding_if (nat_eq n.channel c && sounds n) n (record n { pressure = 0 }) (λ s. and_right (nat_eq n.channel c) (sounds n) s)
    (record { channel = refl; key = refl; onset = refl })

pedal_touches : (z : Zones) (c x v : ℕ) (n : Note) → IsTouched n (sostenuto z c x v n)
pedal_touches z c x v n =
    let free : Note = record n { captured = false } in
    let held : Note = record n { captured = true } in
    let down : Note = cond (is_pedal_down v) n free in
    let up : Note = cond (is_pedal_down v && is_down n) held n in
    let to_free : SameKey n free = record { channel = refl; key = refl; onset = refl } in
    let to_held : SameKey n held = record { channel = refl; key = refl; onset = refl } in
    sounding_if (nat_eq (governor z n.channel) c && sounds n) n (cond (is_pedal_down x) down up)
    (λ s. and_right (nat_eq (governor z n.channel) c) (sounds n) s)
    (cond_both (is_pedal_down x) down up (SameKey n) (λ e. cond_both (is_pedal_down v) n free (SameKey n) (λ f. same_itself n) (λ f. to_free))
    (λ e. cond_both (is_pedal_down v && is_down n) held n (SameKey n) (λ f. to_held) (λ f. same_itself n)))

-- ---- all notes of a music

pub record GrowsTo (m : Music) (new xs : List Note) : Type 0 where
  pub turn : Note → Note
  pub notes : xs ≡ map turn m.notes ++ new
  pub each : (n : Note) → IsTouched n (turn n)

mapped : (m : Music) (f : Note → Note) → ((n : Note) → IsTouched n (f n)) → GrowsTo m [] (map f m.notes)
mapped m f h = record { turn = f; notes = sym (append-nil (map f m.notes)); each = h }

unchanged : (m : Music) → GrowsTo m [] m.notes
unchanged m = record { turn = λ n. n; notes = sym (append-nil (map (λ n. n) m.notes) ∙ map_same (λ n. n) (λ n. refl) m.notes); each = itself }

turned_touches : (m : Music) (t c n v : ℕ) (r : Role) → GrowsTo m [] (notes_turned m t c n v r)
turned_touches m t c n v Stored = cond_both (nat_eq n 66)
    (map (sostenuto m.zones c (control_of (channel_at m c) 66) v) m.notes) m.notes (GrowsTo m [])
    (λ e. mapped m (sostenuto m.zones c (control_of (channel_at m c) 66) v) (pedal_touches m.zones c (control_of (channel_at m c) 66) v))
    (λ e. unchanged m)
turned_touches m t c n v ResetControllers =
    let x : ℕ = control_of (channel_at m c) 66 in
    mapped m (λ a. without_pressure c (sostenuto m.zones c x 0 a)) (λ a. then_too a (sostenuto m.zones c x 0 a)
    (without_pressure c (sostenuto m.zones c x 0 a)) (pedal_touches m.zones c x 0 a) (relax_touches c (sostenuto m.zones c x 0 a)))
turned_touches m t c n v AllSoundOff = mapped m (end_all t m.zones c) (λ a. one_if (hears m.zones c a) a (ending t a) (end_touches t a))
turned_touches m t c n v AllNotesOff = mapped m (release_all t m.zones c) (λ a. one_if (hears m.zones c a) a (releasing t 64 a) (lift_touches t 64 a))
turned_touches m t c n v EntryHigh = unchanged m
turned_touches m t c n v EntryLow = unchanged m
turned_touches m t c n v NrpnLow = unchanged m
turned_touches m t c n v NrpnHigh = unchanged m
turned_touches m t c n v RpnLow = unchanged m
turned_touches m t c n v RpnHigh = unchanged m
turned_touches m t c n v Ignored = unchanged m

message_touches : (m : Music) (t : ℕ) (msg : Msg) → GrowsTo m (begun_by m t (Plays msg)) (notes_after m t msg)
message_touches m t (NoteOn c k zero) = mapped m (release_key t c k 64) (λ a. one_if (is_at c k a) a (releasing t 64 a) (lift_touches t 64 a))
message_touches m t (NoteOn c k (suc v)) = record {
  turn = cut_off t c k;
  notes = refl;
  each = λ a. one_if (is_at c k a) a (ending t a)
      (end_touches t a);
}
message_touches m t (NoteOff c k v) = mapped m (release_key t c k v) (λ a. one_if (is_at c k a) a (releasing t v a) (lift_touches t v a))
message_touches m t (KeyPressure c k v) = mapped m (with_pressure c k v) (press_touches c k v)
message_touches m t (Control c n v) = turned_touches m t c n v (role n)
message_touches m t (Program c p) = unchanged m
message_touches m t (Pressure c v) = unchanged m
message_touches m t (Bend c v) = unchanged m

settle_new : (ss : List Channel) (z : Zones) (m : Music) (t : ℕ) (msg : Msg) → map (settle_note ss z t)
    (begun_by m t (Plays msg)) ≡ begun_by m t (Plays msg)
settle_new ss z m t (NoteOn c k zero) = refl
settle_new ss z m t (NoteOn c k (suc v)) = refl
settle_new ss z m t (NoteOff c k v) = refl
settle_new ss z m t (KeyPressure c k v) = refl
settle_new ss z m t (Control c n v) = refl
settle_new ss z m t (Program c p) = refl
settle_new ss z m t (Pressure c v) = refl
settle_new ss z m t (Bend c v) = refl

pub event_touches : (m : Music) (t : ℕ) (d : Doing) → GrowsTo m (begun_by m t d) (advance t d m).notes
event_touches m t (Plays msg) =
    let ss : List Channel = channels_after m msg in
    let z : Zones = zones_after m msg in
    let g : GrowsTo m (begun_by m t (Plays msg)) (notes_after m t msg) = message_touches m t msg in
    let f : Note → Note = settle_note ss z t in
    record {
      turn = λ n. f (g.turn n);
      notes = ap (map f) g.notes ∙ map_append f (map g.turn m.notes) (begun_by m t (Plays msg)) ∙ ap (λ xs. xs ++ map f (begun_by m t (Plays msg)))
          (map_map f g.turn m.notes)
          ∙ ap (λ xs. map (λ n. f (g.turn n)) m.notes ++ xs) (settle_new ss z m t msg);
      each = λ n. then_too n (g.turn n) (f (g.turn n)) (g.each n) (one_if (is_over ss z (g.turn n)) (g.turn n) (ending t (g.turn n))
          (end_touches t (g.turn n)));
    }
event_touches m t Resets = mapped m (ending t) (end_touches t)
event_touches m t (Tunes r) = unchanged m
event_touches m t Nothing = unchanged m
