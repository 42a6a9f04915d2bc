-- What is taken back leaves nothing chosen.
use Rattle.std.proofs.Common.{ap, ◌∙◌}
use Rattle.vc_plan.specs.declared.plans.Named.TheVariants.{Var}
use Rattle.vc_session.specs.Edits.{given_alone, taken}
use Rattle.vc_app_gen.proofs.AskingLaws.{taken_back}
use Rattle.vc_app_gen.proofs.asking.tally_chosen.Goals as goal

pub returns-clause-none : goal.returns-clause-none
returns-clause-none g c =
    let named = Var c.args.var in
    let value = c.args.value in
    c.in_ok-retract.ensures.takes.1
    ∙ ap (λ users. taken users named) c.in_ok-set.ensures.gives.1
    ∙ ap (λ users. taken (given_alone users named value) named) c.requires.none
    ∙ taken_back c.args.plan.now c.args.var value
