-- One grain at most holds the value.
use Rattle.std.proofs.Common.{◌∙◌, ap, not, sym}
use Rattle.std.specs.Prelude.{None, Some}
use Rattle.vc_net_standing.specs.Standing.{seen_by}
use Rattle.vc_net_log.proofs.HoldLaws.{left_told}
use Rattle.vc_net_log.proofs.coming.lies_in_left.Goals as goal

pub returns-in-Some : goal.returns-in-Some
returns-in-Some c =
    ap not c.out.ensures
    ∙ left_told c.args.plan.now (seen_by c.args.standing.now) c.args.var c.args.value c.requires.proper
    (Some c.in-Some.grain) (sym c.in-Some.is ∙ c.grain_of.ensures)

pub returns-in-None : goal.returns-in-None
returns-in-None c =
    left_told c.args.plan.now (seen_by c.args.standing.now) c.args.var c.args.value c.requires.proper None
    (sym c.in-None.is ∙ c.grain_of.ensures)
