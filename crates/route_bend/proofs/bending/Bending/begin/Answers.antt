use Rattle.std.proofs.Common.{to_z, of_z, w32, rules, ◌≡◌, ◌≢◌, ◌-◌, ◌++◌, ◌∙◌, ℕ, suc, false, List, Some, None, take, refl, sym, ap, subst, arith}
use Rattle.std.specs.Prelude.{OnOk, Result, Ok, Err}
use Rattle.mt_base.specs.declared.event.Msg.{Msg}
use Rattle.midi_model.specs.Channel.{State}
use Rattle.retune_model.specs.Table.{BendTarget}
use Rattle.retune_model.specs.Pairs.{Pair}
use Rattle.channel_model.specs.Choice.{wanted}
use Rattle.channel_model.specs.BendOutput.{pair_with}
use Rattle.mt_base.specs.declared.event.Msg.TheVariants.{NoteOn}
use Rattle.mt_base.specs.Midi.{Says}
use Rattle.lifetimes.specs.Stands.{asked, table_in}
use Rattle.lifetimes.specs.Told.{port_on, music_on}
use Rattle.route_bend.specs.Channels.{is_on, BeginsOn, IsFresh}
use Rattle.route_bend.specs.Sent.{begun_on}
use Rattle.route_bend.specs.Standing.{IsAt, runs_by, found_in}
use Rattle.route_bend.specs.Preparing.{IsFoundAt}
use Rattle.route_bend.specs.declared.channels.Channels.{Channels}
use Rattle.route_bend.specs.declared.sending.Sending.{Sending}
use Rattle.route_bend.proofs.Everywhere.{all_replaced}
use Rattle.route_bend.proofs.Taking.{sends_it}
use Rattle.route_bend.proofs.Beginning.{never_missed, never_free, port_is, aim_is, steps_is, place_is, goes, causes, ready_here, all_opened}
use Rattle.route_bend.proofs.bending.Bending.begin.Goals as goal

pub returns-in_default : goal.returns-in_default
returns-in_default g c = λ allowed es k e bending comes within valid what positive stands begun ready.
    let o = asked c.args.parts.now in
    let table = g.T.Aims.table (table_in c.args.parts.now) in
    let plan = c.args.plan.now in
    let at : IsAt o allowed table es plan k e (port_on (take k es) e) = record { bending = bending; comes = comes; within = within; port = refl } in
    let v = c.args.velocity - 1 in
    let more : c.args.velocity ≡ suc v = omega (arith, positive) in
    let says : e.what ≡ Says (NoteOn c.args.part c.args.begun.now.key (suc v)) =
    what ∙ ap (λ n. Says (NoteOn c.args.part c.args.begun.now.key n)) more in
    absurd (never_free c.turning.ensures.turn c.turning.ensures.wait c.turning.ensures.seen c.turning.ensures.given c.turning.ensures.ignored o
    allowed table es plan k e at
    c.args.part c.args.begun.now.key v says c.requires.part
    c.args.begun.now begun (sym c.channel.ensures ∙ c.in_default.is))

pub returns-in_default-target : goal.returns-in_default-target
returns-in_default-target g c = λ allowed es k e bending comes within valid what positive stands begun ready.
    let o = asked c.args.parts.now in
    let table = g.T.Aims.table (table_in c.args.parts.now) in
    let plan = c.args.plan.now in
    let at : IsAt o allowed table es plan k e (port_on (take k es) e) = record { bending = bending; comes = comes; within = within; port = refl } in
    let v = c.args.velocity - 1 in
    let more : c.args.velocity ≡ suc v = omega (arith, positive) in
    let says : e.what ≡ Says (NoteOn c.args.part c.args.begun.now.key (suc v)) =
    what ∙ ap (λ n. Says (NoteOn c.args.part c.args.begun.now.key n)) more in
    absurd (never_missed c.turning.ensures.turn c.turning.ensures.wait c.turning.ensures.seen c.turning.ensures.given c.turning.ensures.ignored o
    allowed table es plan k e at
    c.args.part c.args.begun.now.key v says c.requires.part
    c.requires.bends c.args.begun.now begun c.in_default-target.not-Bend)

both_ok : {A E : Type 0} (r : Result A E) (P Q R : Type 0) → (P → Q → R) → OnOk r P → OnOk r Q → OnOk r R
both_ok (Ok a) P Q R f p q = f p q
both_ok (Err e) P Q R f p q = tt

later_ok : {A E : Type 0} (r : Result A E) (P Q : Type 0) → (P → OnOk r Q) → OnOk r (P → Q)
later_ok (Ok a) P Q f = f
later_ok (Err e) P Q f = tt

pub returns : goal.returns
returns g c = λ allowed es k e bending comes within valid what positive stands begun ready.
    let o = asked c.args.parts.now in
    let table = g.T.Aims.table (table_in c.args.parts.now) in
    let plan = c.args.plan.now in
    let at : IsAt o allowed table es plan k e (port_on (take k es) e) = record { bending = bending; comes = comes; within = within; port = refl } in
    let v = c.args.velocity - 1 in
    let more : c.args.velocity ≡ suc v = omega (arith, positive) in
    let says : e.what ≡ Says (NoteOn c.args.part c.args.begun.now.key (suc v)) =
    what ∙ ap (λ n. Says (NoteOn c.args.part c.args.begun.now.key n)) more in
    let z = port_on (take k es) e in
    let b = c.args.begun.now in
    let old = c.args.self.now in
    let ports = c.open.new.self.ports.items in
    let place = c.in_ok-place.place in
    let s = c.index_mut.result.now in
    let y = c.begin.new.self in
    let ch = c.in-Some.channel in
    let a = c.args.part in
    let x : BendTarget = record { key = c.in-Bend.key; steps = c.in-Bend.steps } in
    let p : Pair = pair_with z a x in
    let d = (runs_by o allowed table es plan z).channel (suc k) p in
    let port : b.pair.part.port ≡ z = port_is c.turning.ensures.turn c.turning.ensures.wait c.turning.ensures.seen c.turning.ensures.given
    c.turning.ensures.ignored o allowed table es plan k e at
    c.args.part c.args.begun.now.key v says c.requires.part
    b begun c.requires.bends c.in-Bend.key c.in-Bend.steps c.in-Bend.is in
    let steps : b.pair.steps ≡ c.in-Bend.steps = steps_is c.turning.ensures.turn c.turning.ensures.wait c.turning.ensures.seen
    c.turning.ensures.given c.turning.ensures.ignored o allowed table es plan k e at
    c.args.part c.args.begun.now.key v says c.requires.part
    b begun c.requires.bends c.in-Bend.key c.in-Bend.steps c.in-Bend.is in
    let there : ch ≡ d = place_is c.turning.ensures.turn c.turning.ensures.wait c.turning.ensures.seen c.turning.ensures.given
    c.turning.ensures.ignored o allowed table es plan k e at
    c.args.part c.args.begun.now.key v says c.requires.part
    b begun c.requires.bends c.in-Bend.key c.in-Bend.steps c.in-Bend.is
    ch (sym c.channel.ensures ∙ c.in-Some.is) in
    let aim = aim_is c.turning.ensures.turn c.turning.ensures.wait c.turning.ensures.seen c.turning.ensures.given c.turning.ensures.ignored o allowed
    table es plan k e at
    c.args.part c.args.begun.now.key v says c.requires.part
    b begun c.requires.bends c.in-Bend.key c.in-Bend.steps c.in-Bend.is in
    let raw = to_z w32 (of_z w32 b.pair.steps) in
    let trip : raw ≡ b.pair.steps = search rules in
    let told : Pair = record { part = record { port = b.pair.part.port; channel = a }; steps = raw } in
    let pairs : told ≡ p =
    ap (λ n. let r : Pair = record { part = record { port = n; channel = a }; steps = raw } in r) port
    ∙ ap (λ i. let r : Pair = record { part = record { port = z; channel = a }; steps = i } in r) (trip ∙ steps) in
    let found : IsFoundAt ports z place = subst (λ n. IsFoundAt ports n place) port c.in_ok-place.ensures.found in
    let is : found_in ports z ≡ Some s = found.found s ∙ ap Some (sym c.index_mut.ensures.value) in
    let same = subst (λ n. (r : Channels) → found_in old.ports.items n ≡ Some r → found_in ports n ≡ Some r) port c.in_ok-place.ensures.same in
    let fresh = subst (λ n. (r : Channels) → found_in old.ports.items n ≡ None → found_in ports n ≡ Some r → (r.port ≡ n) × IsFresh r) port
    c.in_ok-place.ensures.fresh in
    let others = subst (λ n. (i : ℕ) → i ≢ n → found_in ports i ≡ found_in old.ports.items i) port c.in_ok-place.ensures.others in
    let here = ready_here c.turning.ensures.turn c.turning.ensures.wait c.turning.ensures.seen c.turning.ensures.given c.turning.ensures.ignored o
    allowed table es plan k e at
    c.args.part c.args.begun.now.key v says c.requires.part old ready ports s is same fresh in
    let all = all_opened c.turning.ensures.turn c.turning.ensures.wait c.turning.ensures.seen c.turning.ensures.given c.turning.ensures.ignored o
    allowed table es plan k e at
    c.args.part c.args.begun.now.key v says c.requires.part old.ports.items ports s ready.stands others is here.0 in
    let front = take (suc k) es in
    let needs : Pair → State = wanted o table (music_on z front) in
    let on : is_on s told ch ≡ is_on s p d = ap (λ r. is_on s r ch) pairs ∙ ap (λ i. is_on s p i) there in
    let msgs : begun_on (wanted o table (music_on b.pair.part.port front) told) s told ch c.in-Bend.key c.args.velocity
    ≡ begun_on (needs p) s p d c.in-Bend.key (suc v) =
    ap (λ n. begun_on (wanted o table (music_on n front) told) s told ch c.in-Bend.key c.args.velocity) port
    ∙ ap (λ r. begun_on (needs r) s r ch c.in-Bend.key c.args.velocity) pairs
    ∙ ap (λ i. begun_on (needs p) s p i c.in-Bend.key c.args.velocity) there
    ∙ ap (λ w. begun_on (needs p) s p d c.in-Bend.key w) more in
    both_ok c.begin.result _ (is_on s told ch ≡ false → BeginsOn told ch (wanted o table (music_on b.pair.part.port front) told) s y) _
    (λ h begins. (let own = goes c.turning.ensures.turn c.turning.ensures.wait c.turning.ensures.seen c.turning.ensures.given
    c.turning.ensures.ignored o allowed table es plan k e at
    c.args.part c.args.begun.now.key v says c.requires.part
    x aim s here.0 here.1.0 y (λ i. c.begin.ensures.same (on ∙ i))
    (λ i. subst (λ r. BeginsOn p r (needs p) s y) there (subst (λ r. BeginsOn r ch (needs r) s y) pairs
    (subst (λ n. BeginsOn told ch (wanted o table (music_on n front) told) s y) port (begins (on ∙ i))))) in
    record {
      stands = all_replaced c.turning.ensures.turn c.turning.ensures.wait o allowed table es plan k e at ports place y all found own.port own;
      sent = sends_it c.turning.ensures.turn c.turning.ensures.wait c.turning.ensures.seen o allowed table es plan k e at
          (NoteOn a b.key (suc v)) says c.requires.part c.begin.new.out.messages.items
          (h ∙ ap (λ (l : List Msg). l ++ begun_on (wanted o table (music_on b.pair.part.port front) told) s told ch c.in-Bend.key c.args.velocity)
          (ap (λ (u : Sending). u.messages.items) c.in_ok-place.ensures.out ∙ here.1.1) ∙ msgs
          ∙ sym (causes c.turning.ensures.turn c.turning.ensures.wait c.turning.ensures.seen c.turning.ensures.given c.turning.ensures.ignored o
          allowed table es plan k e at
          c.args.part c.args.begun.now.key v says c.requires.part
          x aim s here.0 here.1.0));
    }))
    (c.begin.ensures.sent front stands) (later_ok c.begin.result _ _ (λ i. c.begin.ensures.begins front stands i))
