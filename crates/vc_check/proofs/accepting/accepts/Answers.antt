-- A list is accepted just where no step is refused.
use Rattle.std.proofs.Common.{ap, ◌∙◌}
use Rattle.std.specs.Prelude.{is_none}
use Rattle.vc_check.proofs.FollowingLemmas.{unrefused}
use Rattle.vc_check.proofs.accepting.accepts.Goals as goal

pub returns : goal.returns
returns c =
    c.is_nothing.ensures
    ∙ (ap is_none c.in_ok-number.ensures.is ∙ unrefused c.args.plan.now c.args.sources.now c.args.list.now)
