-- What a message does to the notes that no part's message reaches: nothing; with any zones. So kept drums, and the messages of parts
use Rattle.std.proofs.Common.{◌≡◌, ◌≢◌, ℕ, zero, suc, Bool, true, false, cond, ◌&&◌, ◌||◌, List, [], ◌∷◌, ◌++◌, Some, None, refl, ap, sym, ◌∙◌, subst, map, nat_eq, get_or}
use Rattle.std.proofs.lemmas.Bool.{both_ways, ne_eqb, cond_both}
use Rattle.std.proofs.lemmas.List.{append-nil, get_or-set_other}
use Rattle.retune_model.specs.Pairs.{Pair}
use Rattle.mt_base.specs.declared.event.Msg.{Msg}
use Rattle.mt_base.specs.declared.event.Msg.TheVariants.{NoteOn, NoteOff, KeyPressure, Control, Program, Pressure, Bend}
use Rattle.mt_base.specs.Midi.{Says, MidiEvent, channel_of}
use Rattle.midi_model.specs.Sysex.{Plays}
use Rattle.midi_model.specs.Channel.{Channel, default_channel, control_of, apply, role, Role, Stored, EntryHigh, EntryLow, NrpnLow, NrpnHigh, RpnLow, RpnHigh, AllSoundOff, ResetControllers, AllNotesOff, Ignored}
use Rattle.midi_model.specs.Zones.{Zones, no_zones, governor}
use Rattle.midi_model.specs.Notes.{Note, sounds, is_at, hears, ending, releasing, cut_off, release_key, with_pressure, sostenuto, without_pressure, end_all, release_all}
use Rattle.midi_model.specs.Music.{Music, channel_at, notes_turned, notes_after, advance, step, play}
use Rattle.midi_model.specs.MusicLaws.{begun_by}
use Rattle.retune_model.specs.Options.{Options}
use Rattle.retune_model.specs.PlaysTheSame.{Pairwise}
use Rattle.retune_model.specs.Faults.{Targets, is_part}
use Rattle.channel_model.specs.BendOutput.{placed_at}
use Rattle.channel_model.specs.MpeOutput.{Zone, master_of, zone_of, in_zone, mpe_block}
use Rattle.bend_laws.specs.Moments.{Moment}
use Rattle.bend_laws.specs.Follows.{IsPlayedBy, Begins}
use Rattle.bend_laws.proofs.Equal.{own_governor}
use Rattle.bend_laws.proofs.Lists.{map_same, pair_map, pair_append}
use Rattle.bend_laws.proofs.Turned.{plain}
use Rattle.bend_laws.proofs.Keys.{apart_after, apart_fades}
use Rattle.bend_laws.proofs.Altered.{ending_channel}
use Rattle.bend_laws.proofs.Given.{IsFine, fine}
use Rattle.bend_laws.proofs.Changing.{said_at}
use Rattle.bend_laws.proofs.Elsewhere.{no_entry, drum_begins, drum_apart}
use Rattle.mpe_laws.specs.Zoned.{planned, AreZones}
use Rattle.mpe_laws.specs.Follows.{Follows, IsGiven}
use Rattle.mpe_laws.proofs.Ops.{Governed, sustains, sustains_form, governed_moved, zoned_moved}
use Rattle.bend_laws.proofs.Elsewhere.{releasing_channel}
use Rattle.mpe_laws.proofs.Steering.{zonal}
use Rattle.mpe_laws.proofs.Standing.{Laws, all_governed, Stands, still_follows, told, channels_told, source_told, out_told, part_block}
use Rattle.mpe_laws.proofs.Forwarding.{Settles, notes_told, masters_told, settled_told}

-- that have no zone, leave all that is matched as it was.

-- neither the channel nor its governor is c
pub record IsAway (W : Zones) (c : ℕ) (n : Note) : Type 0 where
  pub own : n.channel ≢ c
  pub governed : governor W n.channel ≢ c

pub record Spares (W : Zones) (c : ℕ) (n x : Note) : Type 0 where
  pub stays : IsAway W c n → x ≡ n
  pub channel : x.channel ≡ n.channel

itself : (W : Zones) (c : ℕ) (n : Note) → Spares W c n n
itself W c n = record { stays = λ h. refl; channel = refl }

one_if : (W : Zones) (c : ℕ) (b : Bool) (n x : Note) → (IsAway W c n → b ≡ false) → x.channel ≡ n.channel → Spares W c n (cond b x n)
one_if W c b n x h g = record {
  stays = λ e. ap (λ q. cond q x n) (h e);
  channel = cond_both b x n (λ (y : Note). y.channel ≡ n.channel) (λ e. g)
      (λ e. refl);
}

not_at : (W : Zones) (c k : ℕ) (n : Note) → IsAway W c n → is_at c k n ≡ false
not_at W c k n h = ap (λ b. b && nat_eq n.key k) (ne_eqb n.channel c h.own)

not_heard : (W : Zones) (c : ℕ) (n : Note) → IsAway W c n → hears W c n ≡ false
not_heard W c n h = ap (λ b. b || nat_eq (governor W n.channel) c) (ne_eqb n.channel c h.own) ∙ ne_eqb (governor W n.channel) c h.governed

sostenuto_spares : (W : Zones) (c x v : ℕ) (n : Note) → Spares W c n (sostenuto W c x v n)
sostenuto_spares W c x v n = record {
  stays = λ h. ap (λ b. sustains x v b n) (ne_eqb (governor W n.channel) c h.governed);
  channel = ap (λ (y : Note). y.channel) (sustains_form x v (nat_eq (governor W n.channel) c) n);
}

relax_spares : (W : Zones) (c : ℕ) (n : Note) → Spares W c n (without_pressure c n)
relax_spares W c n = one_if W c (nat_eq n.channel c && sounds n) n (record n { pressure = 0 }) (λ e. ap (λ b. b && sounds n)
    (ne_eqb n.channel c e.own)) refl

-- a note that keeps its channel is as far away as it was
then_too : (W : Zones) (c : ℕ) (n x y : Note) → Spares W c n x → Spares W c x y → Spares W c n y
then_too W c n x y h k = record {
  stays = λ e. k.stays (record { own = λ i. e.own (sym h.channel ∙ i); governed = λ i. e.governed (ap (governor W) (sym h.channel) ∙ i) })
      ∙ h.stays e;
  channel = k.channel ∙ h.channel;
}

-- ---- the notes after a message

pub record Leaves (W : Zones) (c : ℕ) (ns new xs : List Note) : Type 0 where
  pub turn : Note → Note
  pub notes : xs ≡ map turn ns ++ new
  pub each : (n : Note) → Spares W c n (turn n)

by_map : (W : Zones) (c : ℕ) (ns : List Note) (f : Note → Note) → ((n : Note) → Spares W c n (f n)) → Leaves W c ns [] (map f ns)
by_map W c ns f g = record { turn = f; notes = sym (append-nil (map f ns)); each = g }

unchanged : (W : Zones) (c : ℕ) (ns : List Note) → Leaves W c ns [] ns
unchanged W c ns = record { turn = λ n. n; notes = sym (map_same (λ n. n) (λ n. refl) ns) ∙ sym (append-nil (map (λ n. n) ns)); each = itself W c }

abbrev made : Zones → List Channel → List Note → Music
made W ss ns = record { channels = ss; zones = W; notes = ns }

turned_leaves : (W : Zones) (ss : List Channel) (ns : List Note) (t c n v : ℕ) (r : Role) → Leaves W c ns [] (notes_turned (made W ss ns) t c n v r)
turned_leaves W ss ns t c n v Stored = cond_both (nat_eq n 66) (map (sostenuto W c (control_of (get_or ss c default_channel) 66) v) ns) ns
    (Leaves W c ns [])
    (λ e. by_map W c ns (sostenuto W c (control_of (get_or ss c default_channel) 66) v) (sostenuto_spares W c (control_of
    (get_or ss c default_channel) 66) v)) (λ e. unchanged W c ns)
turned_leaves W ss ns t c n v ResetControllers =
    let x : ℕ = control_of (get_or ss c default_channel) 66 in
    by_map W c ns (λ a. without_pressure c (sostenuto W c x 0 a)) (λ a. then_too W c a (sostenuto W c x 0 a) (without_pressure c
    (sostenuto W c x 0 a)) (sostenuto_spares W c x 0 a) (relax_spares W c (sostenuto W c x 0 a)))
turned_leaves W ss ns t c n v AllSoundOff = by_map W c ns (end_all t W c) (λ a. one_if W c (hears W c a) a (ending t a) (not_heard W c a)
    (ending_channel t a))
turned_leaves W ss ns t c n v AllNotesOff = by_map W c ns (release_all t W c) (λ a. one_if W c (hears W c a) a (releasing t 64 a)
    (not_heard W c a) (releasing_channel t 64 a))
turned_leaves W ss ns t c n v EntryHigh = unchanged W c ns
turned_leaves W ss ns t c n v EntryLow = unchanged W c ns
turned_leaves W ss ns t c n v NrpnLow = unchanged W c ns
turned_leaves W ss ns t c n v NrpnHigh = unchanged W c ns
turned_leaves W ss ns t c n v RpnLow = unchanged W c ns
turned_leaves W ss ns t c n v RpnHigh = unchanged W c ns
turned_leaves W ss ns t c n v Ignored = unchanged W c ns

pub message_leaves : (W : Zones) (ss : List Channel) (ns : List Note) (t : ℕ) (msg : Msg) → Leaves W (channel_of msg) ns (begun_by
    (made W ss ns) t (Plays msg)) (notes_after (made W ss ns) t msg)
message_leaves W ss ns t (NoteOn c k zero) = by_map W c ns (release_key t c k 64) (λ a. one_if W c (is_at c k a) a (releasing t 64 a)
    (not_at W c k a) (releasing_channel t 64 a))
message_leaves W ss ns t (NoteOn c k (suc v)) = record {
  turn = cut_off t c k;
  notes = refl;
  each = λ a. one_if W c (is_at c k a) a (ending t a)
      (not_at W c k a) (ending_channel t a);
}
message_leaves W ss ns t (NoteOff c k v) = by_map W c ns (release_key t c k v) (λ a. one_if W c (is_at c k a) a (releasing t v a) (not_at W c k a)
    (releasing_channel t v a))
message_leaves W ss ns t (KeyPressure c k v) = by_map W c ns (with_pressure c k v) (λ a. one_if W c (is_at c k a && sounds a) a
    (record a { pressure = v }) (λ e. ap (λ b. b && sounds a) (not_at W c k a e)) refl)
message_leaves W ss ns t (Control c n v) = turned_leaves W ss ns t c n v (role n)
message_leaves W ss ns t (Program c p) = unchanged W c ns
message_leaves W ss ns t (Pressure c v) = unchanged W c ns
message_leaves W ss ns t (Bend c v) = unchanged W c ns

-- ---- both sides

pub aside_pair : (port : ℕ) (o : Options) (table : Targets) (zones : List Zone) (place : Pair → ℕ) (a b x y : Note) →
    Governed port o table zones place a b → x.channel ≡ a.channel → y.channel ≡ b.channel → (is_part o a.channel ≡ true → x ≡ a) →
    (is_part o b.channel ≡ true → y ≡ b) → Governed port o table zones place x y
aside_pair port o table zones place a b x y g c d p q = record {
  matched = record {
    retuned = ap (is_part o) d ∙ g.matched.retuned ∙ ap (is_part o) (sym c);
    played = λ h. (let i : is_part o a.channel ≡ true = ap (is_part o) (sym c) ∙ h in
        subst (λ n. IsPlayedBy port o table place n y) (sym (p i)) (subst (IsPlayedBy port o table place a) (sym (q (g.matched.retuned ∙ i)))
        (g.matched.played i)));
  };
  governed = λ h s. (let i : is_part o a.channel ≡ true = ap (is_part o) (sym c) ∙ h in governed_moved zones a b x y c d (g.governed i (ap sounds
      (sym (p i)) ∙ s)));
  zoned = λ h. (let i : is_part o a.channel ≡ true = ap (is_part o) (sym c) ∙ h in zoned_moved zones a x c (ap (λ (n : Note). n.pressure) (p i))
      (g.zoned i));
}

drum_new : (port : ℕ) (o : Options) (table : Targets) (zones : List Zone) (place : Pair → ℕ) (m x : Music) (t : ℕ) (msg : Msg) → is_part o
    (channel_of msg) ≡ false → Pairwise (Governed port o table zones place) (begun_by m t (Plays msg)) (begun_by x t (Plays msg))
drum_new port o table zones place m x t (NoteOn c k zero) h = tt
drum_new port o table zones place m x t (NoteOn c k (suc v)) h = (
  record {
    matched = record { retuned = refl; played = λ p. absurd (both_ways (is_part o c) h p) };
    governed = λ p s. absurd (both_ways (is_part o c) h p);
    zoned = λ p. absurd (both_ways (is_part o c) h p);
  },
  tt,
)
drum_new port o table zones place m x t (NoteOff c k v) h = tt
drum_new port o table zones place m x t (KeyPressure c k v) h = tt
drum_new port o table zones place m x t (Control c n v) h = tt
drum_new port o table zones place m x t (Program c p) h = tt
drum_new port o table zones place m x t (Pressure c v) h = tt
drum_new port o table zones place m x t (Bend c v) h = tt

-- ---- kept drums

drum_block : (port : ℕ) (o : Options) (table : Targets) (zones : List Zone) (k : Moment) (m x : Music) (t track : ℕ) (msg : Msg) → is_part o
    (channel_of msg) ≡ false → play x (mpe_block port o table zones k.was true m x k.old k.new (said_at t track msg)) ≡ advance t (Plays msg) x
drum_block port o table zones k m x t track msg h =
    ap (λ b. play x (placed_at (said_at t track msg) (cond b (map Says (in_zone port o table k.was m x k.old k.new t msg (zone_of
    (channel_of msg) zones))) (Says msg ∷ []) ++ []))) h

pub drum_follows : Laws → (port : ℕ) (o : Options) (table : Targets) (zones : List Zone) → AreZones o zones → (k : Moment) (m x : Music)
    (t track : ℕ) (msg : Msg) → is_part o (channel_of msg) ≡ false →
    Follows port o table zones k.old k.was m x → IsGiven port o table zones k m (said_at t track msg) → Follows port o table zones k.new k.is
    (step m (said_at t track msg)) (play x (mpe_block port o table zones k.was true m x k.old k.new (said_at t track msg)))
drum_follows laws port o table zones row k m x t track msg drum follows sound =
    let e : MidiEvent = said_at t track msg in
    let c : ℕ = channel_of msg in
    let after : Music = advance t (Plays msg) m in
    let y : Music = advance t (Plays msg) x in
    let not_drum : (d : ℕ) → is_part o d ≡ true → d ≢ c = λ d p i. both_ways (is_part o c) drum (ap (is_part o) (sym i) ∙ p) in
    let ss : List Channel = channels_told m.channels msg in
    let us : List Channel = channels_told x.channels msg in
    let s : Leaves no_zones c m.notes (begun_by (plain m.channels m.notes) t (Plays msg)) (notes_after
    (plain m.channels m.notes) t msg) = message_leaves no_zones m.channels m.notes t msg in
    let u : Leaves (planned zones) c x.notes (begun_by (zonal zones x.channels x.notes) t (Plays msg)) (notes_after
    (zonal zones x.channels x.notes) t msg) = message_leaves (planned zones) x.channels x.notes t msg in
    let source : after ≡ told no_zones ss t (notes_after (plain m.channels m.notes) t msg) = source_told m t msg follows.source_zones
    (laws.zones o m msg (no_entry o m msg drum)) in
    let out : y ≡ told (planned zones) us t (notes_after (zonal zones x.channels x.notes) t msg) = out_told zones x t msg follows.out_zones
    (laws.zones o x msg (no_entry o x msg drum)) in
    let old : Pairwise (Governed port o table zones k.old) (map s.turn m.notes) (map u.turn x.notes) =
    pair_map (Governed port o table zones k.old) (Governed port o table zones k.old) s.turn u.turn
    (λ a b g. aside_pair port o table zones k.old a b (s.turn a) (u.turn b) g (s.each a).channel (u.each b).channel
    (λ p. (s.each a).stays (record { own = not_drum a.channel p; governed = λ i. not_drum a.channel p (sym (own_governor a.channel) ∙ i) }))
    (λ p. (u.each b).stays (record {
      own = not_drum b.channel p;
      governed = not_drum (governor (planned zones) b.channel)
          (row.retuned_governor b.channel p);
    })))
    m.notes x.notes (all_governed port o table zones row k m x e follows sound) in
    let both : Pairwise (Governed port o table zones k.old) (notes_after (plain m.channels m.notes) t msg) (notes_after
    (zonal zones x.channels x.notes) t msg) =
    subst (λ ns. Pairwise (Governed port o table zones k.old) ns (notes_after (zonal zones x.channels x.notes) t msg)) (sym s.notes)
    (subst (Pairwise (Governed port o table zones k.old) (map s.turn m.notes ++ begun_by (plain m.channels m.notes) t (Plays msg))) (sym u.notes)
    (pair_append (Governed port o table zones k.old) (map s.turn m.notes) (begun_by (plain m.channels m.notes) t (Plays msg)) (map u.turn x.notes)
    (begun_by (zonal zones x.channels x.notes) t (Plays msg)) old
    (drum_new port o table zones k.old (plain m.channels m.notes) (zonal zones x.channels x.notes) t msg drum))) in
    let tells : Settles port o table zones k.old t after y = record {
      ss = ss;
      us = us;
      ns = notes_after (plain m.channels m.notes) t msg;
      xs = notes_after (zonal zones x.channels x.notes) t msg;
      source = source;
      out = out;
      notes = both;
      masters = λ q w h.
          get_or-set_other x.channels c (master_of w) (apply (get_or x.channels c default_channel) msg) default_channel (not_drum (master_of w)
          (row.retuned_master q w h)) ∙ follows.masters q w h
          ∙ sym (get_or-set_other m.channels c q (apply (get_or m.channels c default_channel) msg) default_channel (not_drum q
          (row.retuned_part q w h)));
    } in
    let stands : Stands port o table zones k x after y = record {
      notes = notes_told port o table zones k.old t after y tells;
      apart = apart_fades o table (m.notes ++ begun_by m t (Plays msg)) after.notes (laws.fade m t (Plays msg))
          (drum_apart o table m t msg drum follows.apart);
      masters = masters_told port o table zones k.old t after y tells;
      members = λ q g low h. ap (λ (n : Music). channel_at n q) out ∙ get_or-set_other x.channels c q (apply
          (get_or x.channels c default_channel) msg) default_channel (not_drum q (row.retuned_member q g h));
      source_zones = ap (λ (n : Music). n.zones) source;
      source_settled = laws.settle m e follows.source_settled;
      out_zones = ap (λ (n : Music). n.zones) out;
      out_settled = laws.settle x e follows.out_settled;
    } in
    subst (Follows port o table zones k.new k.is after) (sym (drum_block port o table zones k m x t track msg drum))
    (still_follows port o table zones k m x e y follows sound (drum_begins port o table t msg drum) stands)

-- ---- a message of a part without a zone

pub none_follows : Laws → (port : ℕ) (o : Options) (table : Targets) (zones : List Zone) → AreZones o zones → (k : Moment) (m x : Music)
    (t track : ℕ) (msg : Msg) → is_part o (channel_of msg) ≡ true → zone_of (channel_of msg) zones ≡ None →
    begun_by m t (Plays msg) ≡ [] → begun_by (plain m.channels m.notes) t (Plays msg) ≡ [] → ((p : Pair) → Begins port o table t (Says msg) p → ⊥) →
    Follows port o table zones k.old k.was m x → IsGiven port o table zones k m (said_at t track msg) → Follows port o table zones k.new k.is
    (step m (said_at t track msg)) (play x (mpe_block port o table zones k.was true m x k.old k.new (said_at t track msg)))
none_follows laws port o table zones row k m x t track msg part none new new_plain begins follows sound =
    let e : MidiEvent = said_at t track msg in
    let c : ℕ = channel_of msg in
    let after : Music = advance t (Plays msg) m in
    let fit : IsFine port o table m after k.is t msg = fine port o table m after k.is t msg sound.faultless in
    let ss : List Channel = channels_told m.channels msg in
    let ns : List Note = notes_after (plain m.channels m.notes) t msg in
    let other : (d : ℕ) (w : Zone) → zone_of d zones ≡ Some w → d ≢ c = λ d w h i. no_zone w (ap (λ q. zone_of q zones) (sym i) ∙ h) in
    let s : Leaves no_zones c m.notes (begun_by (plain m.channels m.notes) t (Plays msg)) ns = message_leaves no_zones m.channels m.notes t msg in
    let source : after ≡ told no_zones ss t ns = source_told m t msg follows.source_zones (laws.zones o m msg fit.zone) in
    let old : Pairwise (Governed port o table zones k.old) (map s.turn m.notes) (map (λ (n : Note). n) x.notes) =
    pair_map (Governed port o table zones k.old) (Governed port o table zones k.old) s.turn (λ n. n)
    (λ a b g. aside_pair port o table zones k.old a b (s.turn a) b g (s.each a).channel refl
    (λ p. (s.each a).stays (let i : a.channel ≢ c = other a.channel (g.zoned p).1.0 (g.zoned p).1.1 in record {
      own = i;
      governed = λ q. i (sym
          (own_governor a.channel) ∙ q);
    }))
    (λ p. refl))
    m.notes x.notes (all_governed port o table zones row k m x e follows sound) in
    let both : Pairwise (Governed port o table zones k.old) ns x.notes =
    subst (λ l. Pairwise (Governed port o table zones k.old) l x.notes) (sym (s.notes ∙ ap (λ l. map s.turn m.notes ++ l) new_plain ∙ append-nil
    (map s.turn m.notes)))
    (subst (Pairwise (Governed port o table zones k.old) (map s.turn m.notes)) (map_same (λ n. n) (λ n. refl) x.notes) old) in
    let tells : Settles port o table zones k.old t after x = record {
      ss = ss;
      us = x.channels;
      ns = ns;
      xs = x.notes;
      source = source;
      out = settled_told (planned zones) x t follows.out_zones follows.out_settled;
      notes = both;
      masters = λ q w h. follows.masters q w h ∙ sym (get_or-set_other m.channels c q (apply
          (get_or m.channels c default_channel) msg) default_channel (other q w h));
    } in
    let stands : Stands port o table zones k x after x = record {
      notes = notes_told port o table zones k.old t after x tells;
      apart = apart_after laws.fade o table m t (Plays msg) new follows.apart;
      masters = masters_told port o table zones k.old t after x tells;
      members = λ q g low h. refl;
      source_zones = ap (λ (n : Music). n.zones) source;
      source_settled = laws.settle m e follows.source_settled;
      out_zones = follows.out_zones;
      out_settled = follows.out_settled;
    } in
    subst (Follows port o table zones k.new k.is after) (sym (part_block port o table zones k m x t track msg [] part (ap
    (in_zone port o table k.was m x k.old k.new t msg) none))) (still_follows port o table zones k m x e x follows sound begins stands)
  where
    no_zone : (w : Zone) → zone_of (channel_of msg) zones ≡ Some w → ⊥
    no_zone w h = cc
