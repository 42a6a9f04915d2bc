-- A variable's domain is one of the plan's, and a number of 32 bits counts its grains.
use Rattle.vc_rule_grains.proofs.FindingLemmas.{domain_few, domain_proper}
use Rattle.vc_rule_grains.proofs.finding.grain_of.Goals as goal

pub grain_in-requires-clause-proper : goal.grain_in-requires-clause-proper
grain_in-requires-clause-proper c =
    domain_proper c.args.plan.now c.in-Some.x.now.domain c.in-Some-element.domain.now c.as_slice-in-Some.result.now
    c.requires.proper c.as_slice-in-Some.ensures c.in-Some-element.ensures.some

pub grain_in-requires-clause-few : goal.grain_in-requires-clause-few
grain_in-requires-clause-few c =
    domain_few c.args.plan.now c.args.var c.in-Some.x.now c.in-Some-element.domain.now c.as_slice.result.now
    c.as_slice-in-Some.result.now c.requires.few c.as_slice.ensures c.as_slice-in-Some.ensures c.in-Some.ensures.some
    c.in-Some-element.ensures.some
