use Rattle.std.proofs.Common.{◌≡◌, ◌++◌, ◌∙◌, suc, take, sym, ap, subst}
use Rattle.std.proofs.lemmas.Result.{on_ok_weaker}
use Rattle.std.specs.Prelude.{OnOk, Result, Ok, Err}
use Rattle.mt_base.specs.Midi.{channel_of}
use Rattle.retune_model.specs.Dump.{from_up}
use Rattle.channel_model.specs.Choice.{wanted}
use Rattle.lifetimes.specs.Stands.{asked, table_in}
use Rattle.lifetimes.specs.Told.{music_on}
use Rattle.route_bend.specs.Channels.{Leaves, Renews}
use Rattle.route_bend.specs.Sent.{brought, sent}
use Rattle.route_bend.specs.Preparing.{still_held}
use Rattle.route_bend.specs.declared.port.Use.TheVariants.{State as OfState}
use Rattle.route_bend.proofs.Ready.{is_of_state}
use Rattle.route_bend.proofs.Along.{brings, sends, ignores, state_else}
use Rattle.route_bend.proofs.port.follow.Goals.{in-Control+in-State, in_default}
use Rattle.route_bend.proofs.port.follow.Goals as goal

pub returns-in-Notes : goal.returns-in-Notes
returns-in-Notes g c = λ allowed es plan k e at is stands ready.
    let o = asked c.args.parts.now in
    let table = g.T.Aims.table (table_in c.args.parts.now) in
    let s = c.args.channels.now in
    let x = c.end_rests.new.channels in
    let m = c.args.message.now in
    let ms = c.args.out.now.messages.items in
    let part : c.channel-part.result ≡ channel_of m = c.channel-part.ensures in
    let leaves = subst (λ d. Leaves (still_held o table (take (suc k) es)) d s x) part (c.end_rests.ensures (take (suc k) es) stands) in
    on_ok_weaker c.send.result (λ h. sends c.turning.ensures.turn c.turning.ensures.seen o allowed table es plan k e s.port at
    c.turning.ensures.ignored m is c.requires.plain s x ms ready leaves
    c.in-Control.channel c.in-Control.number c.in-Control.value c.in-Control.is (sym c.use_of.ensures ∙ c.in-Notes.is) c.send.new.out.messages.items
    (h ∙ ap (λ d. ms ++ sent x d c.in-Control.number c.in-Control.value (from_up 0 16)) part)) c.send.ensures

pub returns-in-Nothing : goal.returns-in-Nothing
returns-in-Nothing g c = λ allowed es plan k e at is stands ready.
    let o = asked c.args.parts.now in
    let table = g.T.Aims.table (table_in c.args.parts.now) in
    let s = c.args.channels.now in
    let x = c.end_rests.new.channels in
    let m = c.args.message.now in
    let ms = c.args.out.now.messages.items in
    let part : c.channel-part.result ≡ channel_of m = c.channel-part.ensures in
    let leaves = subst (λ d. Leaves (still_held o table (take (suc k) es)) d s x) part (c.end_rests.ensures (take (suc k) es) stands) in
    ignores c.turning.ensures.turn c.turning.ensures.seen o allowed table es plan k e s.port at c.turning.ensures.ignored m is c.requires.plain s x
    ms ready leaves
    c.in-Control.channel c.in-Control.number c.in-Control.value c.in-Control.is (sym c.use_of.ensures ∙ c.in-Nothing.is)

both_ok : {A E : Type 0} (r : Result A E) (P Q R : Type 0) → (P → Q → R) → OnOk r P → OnOk r Q → OnOk r R
both_ok (Ok a) P Q R f p q = f p q
both_ok (Err e) P Q R f p q = tt

pub returns : goal.returns
returns g c = λ allowed es plan k e at is stands ready.
    let o = asked c.args.parts.now in
    let table = g.T.Aims.table (table_in c.args.parts.now) in
    let s = c.args.channels.now in
    let x = c.end_rests.new.channels in
    let m = c.args.message.now in
    let ms = c.args.out.now.messages.items in
    let part : c.channel-part.result ≡ channel_of m = c.channel-part.ensures in
    let leaves = subst (λ d. Leaves (still_held o table (take (suc k) es)) d s x) part (c.end_rests.ensures (take (suc k) es) stands) in
    let needs = wanted o table (music_on x.port (take (suc k) es)) in
    let y = c.bring.new.self in
    let out = c.bring.new.out.messages.items in
    let state : is_of_state m OfState = elim c.match-message.branch [
      | in-Control+in-State w ↦ subst (λ n. is_of_state n OfState) (sym w.in-Control.is) (sym w.use_of.ensures ∙ w.in-State.is)
      | in_default w ↦ state_else m w.in_default.not-Control
    ] in
    both_ok c.bring.result (out ≡ ms ++ brought needs x c.channel-part.result (from_up 0 16)) (Renews needs c.channel-part.result x y) _
    (λ h renews. brings c.turning.ensures.turn c.turning.ensures.seen o allowed table es plan k e s.port at c.turning.ensures.ignored m is
    c.requires.plain s x ms ready leaves
    state y (subst (λ d. Renews needs d x y) part renews) out (h ∙ ap (λ d. ms ++ brought needs x d (from_up 0 16)) part))
    (c.bring.ensures.sent (take (suc k) es) stands) (c.bring.ensures.states (take (suc k) es) stands)
