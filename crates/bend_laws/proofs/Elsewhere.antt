-- What a message does to the notes of other channels: nothing. So kept drums, which are played on a channel that is no part's,
-- leave all that is matched as it was.
use Rattle.std.proofs.Common.{◌≡◌, ◌≢◌, ℕ, zero, suc, Bool, true, false, cond, ◌&&◌, ◌||◌, List, [], ◌∷◌, ◌++◌, Some, None, refl, ap, sym, ◌∙◌, subst, map, nat_eq, set, inl, inr}
use Rattle.std.specs.List.{AllByRecursion}
use Rattle.std.proofs.lemmas.Bool.{cases_eq, both_ways, ne_eqb, cond_both}
use Rattle.std.proofs.lemmas.List.{append-nil, get_or-set_other}
use Rattle.retune_model.specs.Pairs.{Pair}
use Rattle.mt_base.specs.declared.event.Msg.{Msg}
use Rattle.mt_base.specs.declared.event.Msg.TheVariants.{NoteOn, NoteOff, KeyPressure, Control, Program, Pressure, Bend}
use Rattle.mt_base.specs.Midi.{Says, MidiEvent, channel_of}
use Rattle.midi_model.specs.Sysex.{Plays}
use Rattle.midi_model.specs.Channel.{Channel, default_channel, control_of, apply, role, Role, Stored, EntryHigh, EntryLow, NrpnLow, NrpnHigh, RpnLow, RpnHigh, AllSoundOff, ResetControllers, AllNotesOff, Ignored, State}
use Rattle.midi_model.specs.Zones.{no_zones, governor}
use Rattle.midi_model.specs.Notes.{Note, sounds, is_down, is_at, hears, ending, releasing, cut_off, release_key, with_pressure, sostenuto, without_pressure, end_all, release_all}
use Rattle.midi_model.specs.Music.{Music, channel_at, asks, begun, notes_turned, notes_after, is_over, settle_note, advance, step, play}
use Rattle.midi_model.specs.MusicLaws.{IsSettled, begun_by}
use Rattle.retune_model.specs.Options.{Options}
use Rattle.retune_model.specs.PlaysTheSame.{Pairwise}
use Rattle.retune_model.specs.Faults.{Targets, is_part, is_zone_entry}
use Rattle.channel_model.specs.BendOutput.{placed_at}
use Rattle.bend_laws.specs.Moments.{Moment, Both, part_causes, port_block, next_both}
use Rattle.bend_laws.specs.Follows.{IsPlayedBy, IsMatched, AreTwo, AreApart, Begins, IsGiven, AreUsed, Follows}
use Rattle.bend_laws.proofs.Lists.{map_same, map_map, map_append, all_weaker, all_always, pair_map, pair_along, pair_with_second, pair_append}
use Rattle.bend_laws.proofs.Turned.{said, Stays, all_stay, sostenuto_here, sostenuto_elsewhere, settle_elsewhere, governs_not}
use Rattle.bend_laws.proofs.Playing.{reached_play, settled_reached}
use Rattle.bend_laws.proofs.Keys.{apart_fades}
use Rattle.bend_laws.proofs.Altered.{ending_channel}
use Rattle.bend_laws.proofs.Stepping.{follows_next, quiet_moment}
use Rattle.bend_laws.proofs.Given.{Laws}
use Rattle.bend_laws.proofs.Changing.{said_at}
use Rattle.bend_laws.proofs.Still.{StandsStill, still_stepped}

-- a note before and after a message of channel c
pub record IsElsewhere (c : ℕ) (n x : Note) : Type 0 where
  pub stays : n.channel ≢ c → x ≡ n
  pub channel : x.channel ≡ n.channel

itself : (c : ℕ) (n : Note) → IsElsewhere c n n
itself c n = record { stays = λ h. refl; channel = refl }

one_if : (c : ℕ) (b : Bool) (n x : Note) → (n.channel ≢ c → b ≡ false) → x.channel ≡ n.channel → IsElsewhere c n (cond b x n)
one_if c b n x h g = record {
  stays = λ e. ap (λ q. cond q x n) (h e);
  channel = cond_both b x n (λ (y : Note). y.channel ≡ n.channel) (λ e. g)
      (λ e. refl);
}

then_too : (c : ℕ) (n x y : Note) → IsElsewhere c n x → IsElsewhere c x y → IsElsewhere c n y
then_too c n x y h k = record { stays = λ e. k.stays (λ i. e (sym h.channel ∙ i)) ∙ h.stays e; channel = k.channel ∙ h.channel }

-- ---- each kind of change

not_at : (c k : ℕ) (n : Note) → n.channel ≢ c → is_at c k n ≡ false
not_at c k n h = ap (λ b. b && nat_eq n.key k) (ne_eqb n.channel c h)

not_heard : (c : ℕ) (n : Note) → n.channel ≢ c → hears no_zones c n ≡ false
not_heard c n h = ap (λ b. b || nat_eq (governor no_zones n.channel) c) (ne_eqb n.channel c h) ∙ governs_not c n h

pub releasing_channel : (t v : ℕ) (n : Note) → (releasing t v n).channel ≡ n.channel
releasing_channel t v n = cond_both (is_down n) (record n { release = Some (t, v) }) n (λ (y : Note). y.channel ≡ n.channel) (λ e. refl) (λ e. refl)

cut_else : (t c k : ℕ) (n : Note) → IsElsewhere c n (cut_off t c k n)
cut_else t c k n = one_if c (is_at c k n) n (ending t n) (not_at c k n) (ending_channel t n)

release_else : (t c k v : ℕ) (n : Note) → IsElsewhere c n (release_key t c k v n)
release_else t c k v n = one_if c (is_at c k n) n (releasing t v n) (not_at c k n) (releasing_channel t v n)

press_else : (c k v : ℕ) (n : Note) → IsElsewhere c n (with_pressure c k v n)
press_else c k v n = one_if c (is_at c k n && sounds n) n (record n { pressure = v }) (λ e. ap (λ b. b && sounds n) (not_at c k n e)) refl

end_else : (t c : ℕ) (n : Note) → IsElsewhere c n (end_all t no_zones c n)
end_else t c n = one_if c (hears no_zones c n) n (ending t n) (not_heard c n) (ending_channel t n)

off_else : (t c : ℕ) (n : Note) → IsElsewhere c n (release_all t no_zones c n)
off_else t c n = one_if c (hears no_zones c n) n (releasing t 64 n) (not_heard c n) (releasing_channel t 64 n)

relax_else : (c : ℕ) (n : Note) → IsElsewhere c n (without_pressure c n)
relax_else c n = one_if c (nat_eq n.channel c && sounds n) n (record n { pressure = 0 }) (λ e. ap (λ b. b && sounds n) (ne_eqb n.channel c e)) refl

sostenuto_else : (c x v : ℕ) (n : Note) → IsElsewhere c n (sostenuto no_zones c x v n)
sostenuto_else c x v n = record {
  stays = sostenuto_elsewhere c x v n;
  channel = elim (cases_eq n.channel c) [
    | inl e ↦ ap (λ (y : Note). y.channel) (sostenuto_here c x v n e)
    | inr e ↦ ap (λ (y : Note). y.channel) (sostenuto_elsewhere c x v n e)
  ];
}

-- ---- the notes after a message

pub record AreElsewhere (m : Music) (c : ℕ) (new xs : List Note) : Type 0 where
  pub turn : Note → Note
  pub notes : xs ≡ map turn m.notes ++ new
  pub each : (n : Note) → IsElsewhere c n (turn n)

mapped : (m : Music) (c : ℕ) (f : Note → Note) (xs : List Note) → xs ≡ map f m.notes → ((n : Note) → IsElsewhere c n (f n)) → AreElsewhere m c [] xs
mapped m c f xs h g = record { turn = f; notes = h ∙ sym (append-nil (map f m.notes)); each = g }

unchanged : (m : Music) (c : ℕ) → AreElsewhere m c [] m.notes
unchanged m c = mapped m c (λ n. n) m.notes (sym (map_same (λ n. n) (λ n. refl) m.notes)) (itself c)

turned_else : (m : Music) (t c n v : ℕ) (r : Role) → m.zones ≡ no_zones → AreElsewhere m c [] (notes_turned m t c n v r)
turned_else m t c n v Stored z = cond_both (nat_eq n 66)
    (map (sostenuto m.zones c (control_of (channel_at m c) 66) v) m.notes) m.notes (AreElsewhere m c [])
    (λ e. mapped m c (sostenuto no_zones c (control_of (channel_at m c) 66) v)
    (map (sostenuto m.zones c (control_of (channel_at m c) 66) v) m.notes)
    (ap (λ w. map (sostenuto w c (control_of (channel_at m c) 66) v) m.notes) z) (sostenuto_else c (control_of (channel_at m c) 66) v))
    (λ e. unchanged m c)
turned_else m t c n v ResetControllers z =
    let x : ℕ = control_of (channel_at m c) 66 in
    mapped m c (λ a. without_pressure c (sostenuto no_zones c x 0 a)) (map (λ a. without_pressure c (sostenuto m.zones c x 0 a)) m.notes)
    (ap (λ w. map (λ a. without_pressure c (sostenuto w c x 0 a)) m.notes) z)
    (λ a. then_too c a (sostenuto no_zones c x 0 a) (without_pressure c (sostenuto no_zones c x 0 a)) (sostenuto_else c x 0 a)
    (relax_else c (sostenuto no_zones c x 0 a)))
turned_else m t c n v AllSoundOff z = mapped m c (end_all t no_zones c) (map (end_all t m.zones c) m.notes)
    (ap (λ w. map (end_all t w c) m.notes) z) (end_else t c)
turned_else m t c n v AllNotesOff z = mapped m c (release_all t no_zones c) (map (release_all t m.zones c) m.notes)
    (ap (λ w. map (release_all t w c) m.notes) z) (off_else t c)
turned_else m t c n v EntryHigh z = unchanged m c
turned_else m t c n v EntryLow z = unchanged m c
turned_else m t c n v NrpnLow z = unchanged m c
turned_else m t c n v NrpnHigh z = unchanged m c
turned_else m t c n v RpnLow z = unchanged m c
turned_else m t c n v RpnHigh z = unchanged m c
turned_else m t c n v Ignored z = unchanged m c

message_else : (m : Music) (t : ℕ) (msg : Msg) → m.zones ≡ no_zones → AreElsewhere m (channel_of msg) (begun_by m t (Plays msg)) (notes_after m t msg)
message_else m t (NoteOn c k zero) z = mapped m c (release_key t c k 64) (map (release_key t c k 64) m.notes) refl (release_else t c k 64)
message_else m t (NoteOn c k (suc v)) z = record { turn = cut_off t c k; notes = refl; each = cut_else t c k }
message_else m t (NoteOff c k v) z = mapped m c (release_key t c k v) (map (release_key t c k v) m.notes) refl (release_else t c k v)
message_else m t (KeyPressure c k v) z = mapped m c (with_pressure c k v) (map (with_pressure c k v) m.notes) refl (press_else c k v)
message_else m t (Control c n v) z = turned_else m t c n v (role n) z
message_else m t (Program c p) z = unchanged m c
message_else m t (Pressure c v) z = unchanged m c
message_else m t (Bend c v) z = unchanged m c

-- and after they settled
pub record GoesOn (m : Music) (c : ℕ) (new : List Note) (x : Music) : Type 0 where
  pub turn : Note → Note
  pub notes : x.notes ≡ map turn m.notes ++ new
  pub each : AllByRecursion (λ n. IsElsewhere c n (turn n)) m.notes
  pub others : (d : ℕ) → d ≢ c → channel_at x d ≡ channel_at m d
  pub zones : x.zones ≡ no_zones

new_settles : (ss : List Channel) (m : Music) (t : ℕ) (msg : Msg) → map (settle_note ss no_zones t)
    (begun_by m t (Plays msg)) ≡ begun_by m t (Plays msg)
new_settles ss m t (NoteOn c k zero) = refl
new_settles ss m t (NoteOn c k (suc v)) = refl
new_settles ss m t (NoteOff c k v) = refl
new_settles ss m t (KeyPressure c k v) = refl
new_settles ss m t (Control c n v) = refl
new_settles ss m t (Program c p) = refl
new_settles ss m t (Pressure c v) = refl
new_settles ss m t (Bend c v) = refl

settle_channel : (ss : List Channel) (t : ℕ) (n : Note) → (settle_note ss no_zones t n).channel ≡ n.channel
settle_channel ss t n = cond_both (is_over ss no_zones n) (ending t n) n (λ (y : Note). y.channel ≡ n.channel) (λ e. ending_channel t n) (λ e. refl)

pub goes_on : (m : Music) (t : ℕ) (msg : Msg) → m.zones ≡ no_zones → IsSettled m → asks m msg ≡ None → GoesOn m (channel_of msg)
    (begun_by m t (Plays msg)) (advance t (Plays msg) m)
goes_on m t msg z s h =
    let c : ℕ = channel_of msg in
    let own : Channel = apply (channel_at m c) msg in
    let ss : List Channel = set m.channels c own in
    let new : List Note = begun_by m t (Plays msg) in
    let k : AreElsewhere m c new (notes_after m t msg) = message_else m t msg z in
    let x : Music = record { channels = ss; zones = m.zones; notes = map (settle_note ss m.zones t) (notes_after m t msg) } in
    let is : GoesOn m c new x = record {
      turn = λ n. settle_note ss no_zones t (k.turn n);
      notes = ap (λ w. map (settle_note ss w t) (notes_after m t msg)) z ∙ ap (map (settle_note ss no_zones t)) k.notes
          ∙ map_append (settle_note ss no_zones t) (map k.turn m.notes) new
          ∙ ap (λ ns. ns ++ map (settle_note ss no_zones t) new) (map_map (settle_note ss no_zones t) k.turn m.notes)
          ∙ ap (λ ns. map (λ n. settle_note ss no_zones t (k.turn n)) m.notes ++ ns) (new_settles ss m t msg);
      each = all_weaker (Stays m.channels) (λ n. IsElsewhere c n (settle_note ss no_zones t (k.turn n)))
          (λ n g. record {
            stays = λ e. ap (settle_note ss no_zones t) ((k.each n).stays e) ∙ settle_elsewhere m.channels c own t n e g;
            channel = settle_channel ss t (k.turn n) ∙ (k.each n).channel;
          }) m.notes (all_stay m z s);
      others = λ d e. get_or-set_other m.channels c d own default_channel e;
      zones = z;
    } in
    subst (GoesOn m c new) (sym (said m t msg h)) is

-- ---- drums

pub drum_block : (port : ℕ) (o : Options) (table : Targets) (k : Moment) (before out : Music) (t track : ℕ) (msg : Msg) →
    is_part o (channel_of msg) ≡ false → port_block port o table k before out (said_at t track msg) ≡ said_at t track msg ∷ []
drum_block port o table k before out t track msg h =
    ap (λ b. placed_at (said_at t track msg) (cond b (map Says (part_causes port o table k before (step before (said_at t track msg)) out t msg))
    (Says msg ∷ []))) h

pub no_entry : (o : Options) (m : Music) (msg : Msg) → is_part o (channel_of msg) ≡ false → is_zone_entry o m msg ≡ false
no_entry o m (NoteOn c k v) h = refl
no_entry o m (NoteOff c k v) h = refl
no_entry o m (KeyPressure c k v) h = refl
no_entry o m (Control c n v) h = cc
no_entry o m (Program c p) h = refl
no_entry o m (Pressure c v) h = refl
no_entry o m (Bend c v) h = refl

pub drum_begins : (port : ℕ) (o : Options) (table : Targets) (t : ℕ) (msg : Msg) → is_part o (channel_of msg) ≡ false → (p : Pair) →
    Begins port o table t (Says msg) p → ⊥
drum_begins port o table t (NoteOn c k zero) h p b = b
drum_begins port o table t (NoteOn c k (suc v)) h p b = both_ways (is_part o c) h b.0
drum_begins port o table t (NoteOff c k v) h p b = b
drum_begins port o table t (KeyPressure c k v) h p b = b
drum_begins port o table t (Control c n v) h p b = b
drum_begins port o table t (Program c x) h p b = b
drum_begins port o table t (Pressure c v) h p b = b
drum_begins port o table t (Bend c v) h p b = b

drum_new : (port : ℕ) (o : Options) (table : Targets) (place : Pair → ℕ) (m x : Music) (t : ℕ) (msg : Msg) → is_part o (channel_of msg) ≡ false →
    Pairwise (IsMatched port o table place) (begun_by m t (Plays msg)) (begun_by x t (Plays msg))
drum_new port o table place m x t (NoteOn c k zero) h = tt
drum_new port o table place m x t (NoteOn c k (suc v)) h = (record { retuned = refl; played = λ p. absurd (both_ways (is_part o c) h p) }, tt)
drum_new port o table place m x t (NoteOff c k v) h = tt
drum_new port o table place m x t (KeyPressure c k v) h = tt
drum_new port o table place m x t (Control c n v) h = tt
drum_new port o table place m x t (Program c p) h = tt
drum_new port o table place m x t (Pressure c v) h = tt
drum_new port o table place m x t (Bend c v) h = tt

-- a note that is no part's stands apart from all
pub apart_append : (o : Options) (table : Targets) (ns : List Note) (n : Note) → AreApart o table ns →
    AllByRecursion (λ a. AreTwo o table a n) ns → AreApart o table (ns ++ n ∷ [])
apart_append o table [] n h g = (tt, tt)
apart_append o table (a ∷ rest) n h g = (all_append_one rest h.0 g.0, apart_append o table rest n h.1 g.1)
  where
    all_append_one : (bs : List Note) → AllByRecursion (AreTwo o table a) bs → AreTwo o table a n → AllByRecursion (AreTwo o table a) (bs ++ n ∷ [])
    all_append_one [] q r = (r, tt)
    all_append_one (b ∷ bs) q r = (q.0, all_append_one bs q.1 r)

apart_none : (o : Options) (table : Targets) (ns : List Note) → AreApart o table ns → AreApart o table (ns ++ [])
apart_none o table ns h = subst (AreApart o table) (sym (append-nil ns)) h

pub drum_apart : (o : Options) (table : Targets) (m : Music) (t : ℕ) (msg : Msg) → is_part o (channel_of msg) ≡ false → AreApart o table m.notes →
    AreApart o table (m.notes ++ begun_by m t (Plays msg))
drum_apart o table m t (NoteOn c k zero) h a = apart_none o table m.notes a
drum_apart o table m t (NoteOn c k (suc v)) h a =
    apart_append o table m.notes (begun m t c k (suc v)) a (all_always (λ n. AreTwo o table n (begun m t c k (suc v)))
    (λ n. record {
      key = λ s r p e. absurd (both_ways (is_part o c) h (ap (is_part o) (sym e) ∙ p));
      target = λ s r p e. absurd (both_ways (is_part o c) h (ap (is_part o) (sym e) ∙ p));
    }) m.notes)
drum_apart o table m t (NoteOff c k v) h a = apart_none o table m.notes a
drum_apart o table m t (KeyPressure c k v) h a = apart_none o table m.notes a
drum_apart o table m t (Control c n v) h a = apart_none o table m.notes a
drum_apart o table m t (Program c p) h a = apart_none o table m.notes a
drum_apart o table m t (Pressure c v) h a = apart_none o table m.notes a
drum_apart o table m t (Bend c v) h a = apart_none o table m.notes a

drum_matched : (port : ℕ) (o : Options) (table : Targets) (place : Pair → ℕ) (c : ℕ) (f g : Note → Note) (a b : Note) → is_part o c ≡ false →
    (IsMatched port o table place a b × IsElsewhere c a (f a)) × IsElsewhere c b (g b) → IsMatched port o table place (f a) (g b)
drum_matched port o table place c f g a b h ((m, i), j) = record {
  retuned = ap (is_part o) j.channel ∙ m.retuned ∙ ap (is_part o) (sym i.channel);
  played = λ p.
      let part : is_part o a.channel ≡ true = ap (is_part o) (sym i.channel) ∙ p in
      let a_same : f a ≡ a = i.stays (λ e. both_ways (is_part o c) h (ap (is_part o) (sym e) ∙ part)) in
      let b_same : g b ≡ b = j.stays (λ e. both_ways (is_part o c) h (ap (is_part o) (sym e) ∙ (m.retuned ∙ part))) in
      subst (λ x. IsPlayedBy port o table place x (g b)) (sym a_same) (subst (λ x. IsPlayedBy port o table place a x) (sym b_same) (m.played part));
}

pub drum_follows : (Good : State → Type 0) → Laws Good → (port : ℕ) (o : Options) (table : Targets) (used : ℕ → Bool) → AreUsed o used →
    (k : Moment) (b : Both) (t track : ℕ) (msg : Msg) → is_part o (channel_of msg) ≡ false →
    Follows Good port o table used k.old k.was b → IsGiven Good port o table used k b.source (said_at t track msg) →
    Follows Good port o table used k.new k.is (next_both port o table k b (said_at t track msg))
drum_follows Good laws port o table used row k b t track msg drum follows sound =
    let e : MidiEvent = said_at t track msg in
    let c : ℕ = channel_of msg in
    let after : Music = step b.source e in
    let out : Music = advance t (Plays msg) b.out in
    let s : GoesOn b.source c (begun_by b.source t (Plays msg)) after =
    goes_on b.source t msg follows.source_zones follows.source_settled (laws.zones o b.source msg (no_entry o b.source msg drum)) in
    let x : GoesOn b.out c (begun_by b.out t (Plays msg)) out =
    goes_on b.out t msg follows.out_zones (settled_reached laws.settle b.out follows.out_reached)
    (laws.zones o b.out msg (no_entry o b.out msg drum)) in
    let not_drum : (d : ℕ) → is_part o d ≡ true → d ≢ c = λ d p i. both_ways (is_part o c) drum (ap (is_part o) (sym i) ∙ p) in
    let old : Pairwise (IsMatched port o table k.old) (map s.turn b.source.notes) (map x.turn b.out.notes) =
    pair_map (λ a y. (IsMatched port o table k.old a y × IsElsewhere c a (s.turn a)) × IsElsewhere c y (x.turn y))
    (IsMatched port o table k.old) s.turn x.turn (λ a y q. drum_matched port o table k.old c s.turn x.turn a y drum q) b.source.notes b.out.notes
    (pair_with_second (λ a y. IsMatched port o table k.old a y × IsElsewhere c a (s.turn a))
    (λ y. IsElsewhere c y (x.turn y)) b.source.notes b.out.notes
    (pair_along (IsMatched port o table k.old) (λ a. IsElsewhere c a (s.turn a)) b.source.notes b.out.notes follows.notes s.each) x.each) in
    let all : Pairwise (IsMatched port o table k.old) (map s.turn b.source.notes ++ begun_by b.source t (Plays msg))
    (map x.turn b.out.notes ++ begun_by b.out t (Plays msg)) =
    pair_append (IsMatched port o table k.old) (map s.turn b.source.notes) (begun_by b.source t (Plays msg)) (map x.turn b.out.notes)
    (begun_by b.out t (Plays msg)) old (drum_new port o table k.old b.source b.out t msg drum) in
    let still : StandsStill port o table used k b after out = record {
      notes = subst (λ ns. Pairwise (IsMatched port o table k.old) ns out.notes) (sym s.notes)
          (subst (λ ns. Pairwise (IsMatched port o table k.old) (map s.turn b.source.notes ++ begun_by b.source t (Plays msg)) ns)
          (sym x.notes) all);
      apart = apart_fades o table (b.source.notes ++ begun_by b.source t (Plays msg)) after.notes (laws.fade b.source t (Plays msg))
          (drum_apart o table b.source t msg drum follows.apart);
      source = λ d p. s.others d (not_drum d p);
      out = λ d u. x.others d (not_drum d (row.retuned d u));
      source_zones = s.zones;
      source_settled = laws.settle b.source e follows.source_settled;
      out_zones = x.zones;
      out_reached = reached_play b.out (e ∷ []) (sound.valid, tt) follows.out_reached;
    } in
    let same : play b.out (port_block port o table k b.source b.out e) ≡ out = ap (play b.out)
    (drum_block port o table k b.source b.out t track msg drum) in
    follows_next Good port o table used k b e follows sound refl
    (still_stepped Good port o table used k b e (play b.out (port_block port o table k b.source b.out e)) follows sound
    (quiet_moment Good port o table used k b.source e sound (drum_begins port o table t msg drum))
    (subst (StandsStill port o table used k b after) (sym same) still))
