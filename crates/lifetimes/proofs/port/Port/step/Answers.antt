use Rattle.std.proofs.Common.{◌≤◌, ◌+◌, rules, ◌≡◌, ◌∙◌, ◌++◌, ◌∷◌, [], ℕ, Bool, length, slice_index, sym, ap, subst}
use Rattle.mt_base.specs.Midi.{view_what}
use Rattle.retune_model.specs.Rests.{is_within_tail}
use Rattle.receiver.specs.Notes.{has}
use Rattle.receiver.specs.Stands.{PlayerStands, begun_in}
use Rattle.lifetimes.specs.Lists.{ListsSounding, struck_at}
use Rattle.lifetimes.specs.OnePart.{IsKeptOrLost}
use Rattle.lifetimes.specs.Port.{ListsAll, struck_in, listed_in, rests_in, is_reset_of, is_left, sounds_then, struck_after}
use Rattle.lifetimes.specs.Resting.{end_kept}
use Rattle.lifetimes.proofs.PartEnding.{then_still}
use Rattle.lifetimes.proofs.EachPart.{ended_struck, ended_listed, ended_rests, ended_still, ended_kept, ended_place, forgotten_struck, forgotten_listed, forgotten_rests, forgotten_still, forgotten_kept}
use Rattle.lifetimes.proofs.port.Port.step.Goals as goal

pub returns : goal.returns
returns c =
    let what = view_what c.args.what.now in
    let reset = is_reset_of what in
    let strike = c.args.strike.now in
    let ends = c.step_into.new.ends in
    let tick = c.args.tick in
    let tail = c.args.tail in
    let which : ℕ → ℕ → Bool = λ d. has (slice_index ends.keys d) in
    let old = c.args.self.now in
    let mid = c.let_go.new.self in
    let begun = c.begin.new.self in
    let new = c.run_out.new.self in
    let lo : length old.parts ≡ 16 = search rules in
    let lm : length mid.parts ≡ 16 = c.let_go.ensures.many in
    let lb : length begun.parts ≡ 16 = c.begin.ensures.many ∙ lm in
    let ln : length new.parts ≡ 16 = c.run_out.ensures.many in
    let gone = c.let_go.ensures.parts in
    let lost = c.run_out.ensures.parts in
    let player = c.run_out.ensures.player ∙ (c.begin.ensures.player ∙ c.let_go.ensures.player) in
    record {
      takes = record {
        number = c.run_out.ensures.number ∙ (c.begin.ensures.number ∙ c.let_go.ensures.number);
        plays = λ es e st t w. record {
          stands = subst (λ r. PlayerStands r (es ++ e ∷ [])) (sym player) (c.step_into.ensures.stands es e st t w);
          ends = c.step_into.ensures.ends es e st t w;
        };
        struck = λ d k low below.
            ap (λ ss. struck_at ss k) (forgotten_struck tick tail begun new lb ln lost d low)
            ∙ c.begin.ensures.struck d k low below
            ∙ ap (λ ss. struck_after strike c.args.note d k (struck_at ss k)) (ended_struck reset which tick tail old mid lo lm gone d low);
        listed = λ at l sub apart d low.
            (let then : ListsAll begun (sounds_then what ends strike at) =
            c.begin.ensures.listed (is_left what ends at) (ended_listed reset which tick tail old mid lo lm gone at l) apart in
            subst (λ ss. ListsSounding ss (listed_in new d) (sounds_then what ends strike at d))
            (sym (forgotten_struck tick tail begun new lb ln lost d low))
            (subst (λ xs. ListsSounding (struck_in begun d) xs (sounds_then what ends strike at d))
            (sym (forgotten_listed tick tail begun new lb ln lost d low)) (then d low)));
        rests = λ at l sub some d q t low le.
            forgotten_rests tick tail begun new lb ln lost d q t low le
            ∙ ap (λ rs. is_within_tail tail t (end_kept rs q)) (c.begin.ensures.rests d low)
            ∙ ap (is_within_tail tail t) (ended_rests reset which tick tail old mid lo lm gone at l sub some d q low);
        still = λ unkept d q low.
            then_still (ended_still reset which tick tail old mid lo lm gone unkept d q low)
            (subst (λ rs. IsKeptOrLost (end_kept rs q) (end_kept (rests_in new d) q)) (c.begin.ensures.rests d low)
            (forgotten_still tick tail begun new lb ln lost d q low));
      };
      kept = forgotten_kept tick tail begun new lb ln lost tail
          (c.begin.ensures.kept tail (ended_place reset which tick tail old mid lo lm gone strike c.requires.alone c.requires.place)
          (ended_kept reset which tick tail old mid lo lm gone c.requires.kept));
      begun = subst (λ r. begun_in r ≤ begun_in old.player + 1) (sym player) c.step_into.ensures.begun;
    }
