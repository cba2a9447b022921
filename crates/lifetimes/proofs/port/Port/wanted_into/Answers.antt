use Rattle.std.proofs.Common.{◌≡◌, ◌<◌, ◌∙◌, ap, ℕ, pos, ◌+ℤ◌, List, nat_eq, true, cond, rules, w32, to_z, of_z}
use Rattle.std.specs.Prelude.{filter, slice_index}
use Rattle.std.proofs.lemmas.Int.{to_z-of_z}
use Rattle.std.proofs.lemmas.Nat.Bits.{bit_at_ones}
use Rattle.midi_model.specs.Channel.{Channel, State}
use Rattle.midi_model.specs.Params.{rpn, put}
use Rattle.midi_model.specs.Music.{channel_at, key_pressures}
use Rattle.midi_model.specs.Receiver.{after}
use Rattle.retune_model.specs.Source.{bend_in_steps}
use Rattle.retune_model.specs.Faults.{is_part, int_eq}
use Rattle.retune_model.specs.Pairs.{sounding}
use Rattle.retune_model.specs.Ports.{events_on}
use Rattle.channel_model.specs.Choice.{bend_value, wanted_keys}
use Rattle.receiver.specs.Notes.{has}
use Rattle.receiver.specs.State.{own_of}
use Rattle.lifetimes.specs.Port.{listed_in}
use Rattle.lifetimes.specs.Pressing.{pressed_by_all}
use Rattle.lifetimes.specs.Stands.{heard_on, pair_on}
use Rattle.lifetimes.specs.Told.{music_on}
use Rattle.lifetimes.proofs.HeardParts.{heard_channel}
use Rattle.lifetimes.proofs.NotesKept.{keys_low}
use Rattle.lifetimes.proofs.TargetsApart.{alone}
use Rattle.lifetimes.proofs.WantedKeys.{IsBent, keys_wanted, have_targets}
use Rattle.lifetimes.proofs.port.Port.wanted_into.Goals as goal

-- the mask of all keys
has_all : (k : ℕ) → k < 128 → has 340282366920938463463374607431768211455 k ≡ true
has_all k low = ap (λ b. nat_eq b 1) (bit_at_ones 128 k low)

pub returns-clause-state : goal.returns-clause-state
returns-clause-state c = λ o table es valid order faultless stands range bends part.
    let port = c.args.self.now in
    let z = port.number in
    let ch = c.args.channel in
    let q = c.args.steps in
    let m = music_on z es in
    let low : ch < 16 = search rules in
    let steps : to_z w32 (of_z w32 q) ≡ q = to_z-of_z w32 q c.ranges.steps in
    let with : Channel → ℕ → ℕ → Channel = λ s r b. record s { params = put (rpn 0) (r, 0) s.params; bend = b } in
    let full : ℕ = bend_value ((pos 8192 +ℤ q) +ℤ bend_in_steps o.range (channel_at m ch)) in
    let moved = c.moved-moved.ensures.bend o table es stands part ∙ ap (λ r. bend_in_steps r (channel_at m ch)) range in
    let bend : c.bend_value.result ≡ full = c.bend_value.ensures.value
    ∙ (ap (λ x. bend_value ((pos 8192 +ℤ x) +ℤ to_z w32 (of_z w32 c.moved-moved.result))) steps
    ∙ ap (λ x. bend_value ((pos 8192 +ℤ q) +ℤ x)) (to_z-of_z w32 c.moved-moved.result (record { sfits = c.moved-moved.type_inv }) ∙ moved)) in
    let copied : own_of c.take_over.new.self ≡ channel_at m ch = c.take_over.ensures.own
    ∙ (c.state.ensures.own (heard_on o z es) stands.player ∙ heard_channel c.drums_stand_apart.ensures.music o z es ch part) in
    let own : own_of c.press_targets.new.state ≡ with (channel_at m ch) o.range full =
    c.press_targets.ensures.own ∙ (c.relax.ensures.own ∙ (c.untune.ensures.own ∙ (c.set_bend.ensures.own
    ∙ (ap (λ (s : Channel). let r : Channel = record s { bend = c.bend_value.result } in r) c.bend_range.ensures.own
    ∙ (ap (λ s. with s c.args.range c.bend_value.result) copied
    ∙ (ap (λ r. with (channel_at m ch) r c.bend_value.result) range ∙ ap (with (channel_at m ch) o.range) bend)))))) in
    let bent : IsBent o table es port ch = record {
      stands = stands;
      bends = bends;
      low = low;
      part = part;
      alone = alone (record {
        names = c.port_laws.ensures.port;
        at = c.position_laws.ensures.music;
        own = c.position_laws.ensures.own;
        other = c.position_laws.ensures.other;
        fade = c.music_laws.ensures.fade;
        fine = c.sound_sources.ensures.fine;
      }) o table es z bends faultless;
      targets = have_targets c.music_laws.ensures.fade o table z es (c.sound_sources.ensures.aimed o (is_part o) table es z (λ d h. h)
          (record { bends = bends; in_order = order; faultless = faultless })).aimed;
      keys = keys_low c.music_laws.ensures.fade z es valid;
      one = c.receiver_laws.ensures.one_note (events_on z es) ch;
    } in
    let relaxed = c.relax.new.self.keys.items in
    let given = key_pressures (after (heard_on o z es)).music.notes ch 0 128 in
    let keys : c.press_targets.new.state.keys.items ≡ wanted_keys o table (pair_on z ch q) (sounding o m) =
    c.press_targets.ensures.keys (heard_on o z es) stands.player
    ∙ (ap (λ x. pressed_by_all given (filter (λ s. int_eq s.steps x) (listed_in port ch)) relaxed) steps
    ∙ keys_wanted c.drums_stand_apart.ensures.music o table es port ch q relaxed bent c.well_formed-2.ensures.formed.keys
    (λ k kl. c.relax.ensures.keys k kl ∙ ap (λ b. cond b 0 (slice_index c.untune.new.self.keys.items k)) (has_all k kl))) in
    ap (λ (s : Channel). let r : State = record { own = s; keys = c.press_targets.new.state.keys.items } in r) own
    ∙ ap (λ (ks : List ℕ). let r : State = record { own = with (channel_at m ch) o.range full; keys = ks } in r) keys
