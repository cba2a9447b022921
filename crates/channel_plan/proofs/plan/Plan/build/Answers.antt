use Rattle.std.proofs.Common.{◌≡◌, ◌∙◌, ap, refl, subst, sym, map}
use Rattle.retune_model.specs.Options.{Options}
use Rattle.retune_model.specs.SourceFaults.{IsFaultless}
use Rattle.std.specs.Vec.{with_items}
use Rattle.std.proofs.lemmas.List.{with_items_is}
use Rattle.lifetimes.specs.Views.{options_of}
use Rattle.lifetimes.specs.Stands.{asked, table_in}
use Rattle.channel_plan.specs.declared.plan.Plan.{Plan}
use Rattle.channel_plan.specs.Layouts.{IsLayoutOf, allows}
use Rattle.channel_plan.specs.Passing.{AreAsked}
use Rattle.channel_plan.specs.Finding.{ArePlanned}
use Rattle.channel_plan.specs.Giving.{Gives, without_runs}
use Rattle.channel_plan.specs.Refused.{IsRefused}
use Rattle.channel_plan.specs.Surveys.{Surveys}
use Rattle.channel_plan.specs.Surveyed.{AreNeeds}
use Rattle.channel_plan.proofs.Noting.{PairLaws}
use Rattle.channel_plan.proofs.Ported.{handed_on}
use Rattle.channel_plan.proofs.Composing.{is_plan, all_alike, as_many}
use Rattle.channel_plan.proofs.plan.Plan.build.Goals as goal

pub returns-in_err-needs-clause-refused : goal.returns-in_err-needs-clause-refused
returns-in_err-needs-clause-refused g c =
    let o = asked c.args.parts in
    let table = g.T.Aims.table (table_in c.args.parts) in
    let es = g.S.EventStream.all c.args.stream.now in
    let same : options_of c.options-options.result ≡ o = c.options-options.ensures ∙ c.look_through.ensures.options in
    let P : Options → Type 0 = (λ x. Surveys x table es c.in_ok-survey.survey → AreAsked es → IsFaultless x table es
    → IsLayoutOf x.route c.args.layout → IsRefused x (allows c.args.layout) table es c.in_err-needs.field-0.0) in
    handed_on c.from_residual-in_err-needs.result c.in_err-needs.field-0.0 (IsRefused o (allows c.args.layout) table es)
    c.from_residual-in_err-needs.ensures.1
    (subst P same (c.in_err-needs.ensures.fault table es) c.in_ok-survey.ensures.surveys c.requires.asked c.in_ok-survey.ensures.faultless
    c.requires.layout)

pub give-requires : goal.give-requires
give-requires g c κs =
    let o = asked c.args.parts in
    let table = g.T.Aims.table (table_in c.args.parts) in
    let es = g.S.EventStream.all c.args.stream.now in
    let same : options_of c.options-options.result ≡ o = c.options-options.ensures ∙ c.look_through.ensures.options in
    let P : Options → Type 0 = (λ x. Surveys x table es c.in_ok-survey.survey → AreAsked es → IsFaultless x table es
    → IsLayoutOf x.route c.args.layout → AreNeeds x (allows c.args.layout) table es c.in_ok-needs.needs) in
    let needs : AreNeeds o (allows c.args.layout) table es c.in_ok-needs.needs = subst P same (c.in_ok-needs.ensures.plan table es)
    c.in_ok-survey.ensures.surveys c.requires.asked c.in_ok-survey.ensures.faultless c.requires.layout in
    let to = all_alike o (asked c.restart.new.self) table (g.T.Aims.table (table_in c.restart.new.self)) es
    (g.S.EventStream.all c.look_through.new.stream) (sym (c.restart.ensures.options ∙ c.look_through.ensures.options))
    (sym (ap g.T.Aims.table (c.restart.ensures.table ∙ c.look_through.ensures.table))) (sym c.look_through.ensures.all) in (
      (refl, tt),
      (
        c.restart.ensures.stands,
        (
          to (λ o table es. AreAsked es) c.requires.asked,
          (
            to (λ o table es. IsLayoutOf o.route c.args.layout) c.requires.layout,
            (
              to IsFaultless c.in_ok-survey.ensures.faultless,
              subst (ArePlanned (asked c.restart.new.self) (allows c.args.layout) (g.T.Aims.table (table_in c.restart.new.self))
                  (g.S.EventStream.all c.look_through.new.stream)) (sym c.as_mut_slice.ensures.value)
                  (to (λ o table es. ArePlanned o (allows c.args.layout) table es c.in_ok-needs.needs.ports.items) needs.planned),
            ),
          ),
        ),
      ),
    )

pub returns-clause-plan : goal.returns-clause-plan
returns-clause-plan g c =
    let laws : PairLaws = record {
      told = c.pair_laws.ensures.told;
      runs = c.rests_are_runs.ensures.one_begins;
      next = c.held_laws.ensures.next;
      was = c.held_laws.ensures.within;
      aimed = c.sound_sources.ensures.aimed;
    } in
    let o = asked c.args.parts in
    let table = g.T.Aims.table (table_in c.args.parts) in
    let es = g.S.EventStream.all c.args.stream.now in
    let same : options_of c.options-options.result ≡ o = c.options-options.ensures ∙ c.look_through.ensures.options in
    let P : Options → Type 0 = (λ x. Surveys x table es c.in_ok-survey.survey → AreAsked es → IsFaultless x table es
    → IsLayoutOf x.route c.args.layout → AreNeeds x (allows c.args.layout) table es c.in_ok-needs.needs) in
    let needs : AreNeeds o (allows c.args.layout) table es c.in_ok-needs.needs = subst P same (c.in_ok-needs.ensures.plan table es)
    c.in_ok-survey.ensures.surveys c.requires.asked c.in_ok-survey.ensures.faultless c.requires.layout in
    let plan : Plan = record {
      numbers = c.in_ok-needs.needs.numbers;
      ports = with_items c.in_ok-needs.needs.ports c.give.new.ports;
      given = c.in_ok-given.given;
      runs = c.in_ok-given.runs;
    } in
    let from = all_alike (asked c.restart.new.self) o (g.T.Aims.table (table_in c.restart.new.self)) table
    (g.S.EventStream.all c.look_through.new.stream) es (c.restart.ensures.options ∙ c.look_through.ensures.options)
    (ap g.T.Aims.table (c.restart.ensures.table ∙ c.look_through.ensures.table)) c.look_through.ensures.all in
    let alike = c.give.ensures.ports ∙ ap (map without_runs) c.as_mut_slice.ensures.value in
    let many = as_many c.give.new.ports c.in_ok-needs.needs.ports.items alike ∙ sym c.in_ok-needs.needs.ports.ok.0 in
    let items : plan.ports.items ≡ c.give.new.ports = with_items_is c.in_ok-needs.needs.ports c.give.new.ports many in
    is_plan laws o (allows c.args.layout) table es c.requires.asked c.in_ok-survey.ensures.faultless
    c.in_ok-needs.needs.ports.items needs.planned plan
    (ap (map without_runs) items ∙ alike) needs.numbers
    (from (λ o table es. Gives o (allows c.args.layout) table es plan) (c.in_ok-given.ensures.gives plan items refl refl))

pub returns-clause-taken : goal.returns-clause-taken
returns-clause-taken g c =
    let o = asked c.args.parts in
    let table = g.T.Aims.table (table_in c.args.parts) in
    let es = g.S.EventStream.all c.args.stream.now in
    let same : options_of c.options-options.result ≡ o = c.options-options.ensures ∙ c.look_through.ensures.options in
    let P : Options → Type 0 = (λ x. Surveys x table es c.in_ok-survey.survey → AreAsked es → IsFaultless x table es
    → IsLayoutOf x.route c.args.layout → AreNeeds x (allows c.args.layout) table es c.in_ok-needs.needs) in
    let needs : AreNeeds o (allows c.args.layout) table es c.in_ok-needs.needs = subst P same (c.in_ok-needs.ensures.plan table es)
    c.in_ok-survey.ensures.surveys c.requires.asked c.in_ok-survey.ensures.faultless c.requires.layout in
    record { faultless = c.in_ok-survey.ensures.faultless; fits = needs.planned.fits }
