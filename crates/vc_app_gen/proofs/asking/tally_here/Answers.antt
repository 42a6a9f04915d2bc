-- A valid plan has few variables, and a session in which all stages settled tells what the evaluation reached.
use Rattle.std.proofs.Common.{sym, ◌∙◌}
use Rattle.vc_show.proofs.FittingLaws.{valid_plans_show}
use Rattle.vc_app_gen.proofs.AskingLaws.{tally_settled}
use Rattle.vc_app_gen.proofs.asking.tally_here.Goals as goal

pub tally_of-requires : goal.tally_of-requires
tally_of-requires c = (valid_plans_show c.args.plan.now c.requires.valid).vars

pub returns-in-None-clause-value : goal.returns-in-None-clause-value
returns-in-None-clause-value c =
    c.tally_of.ensures.value
    ∙ tally_settled c.args.plan.now c.args.session.now c.requires.valid c.requires.of
    (sym c.broken.ensures ∙ c.in-None.is)
