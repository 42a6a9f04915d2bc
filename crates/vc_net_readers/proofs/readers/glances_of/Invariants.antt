-- What is told of the rules so far.
use Rattle.std.proofs.Common.{◌≡◌, map}
use Rattle.vc_plan.specs.Domains.{numbers_below}
use Rattle.vc_net_readers.specs.Glances.{glance_by}
use Rattle.vc_net_readers.proofs.readers.glances_of.Given as goal

abbrev pub invariant-loop-rule : goal.invariant-loop-rule
invariant-loop-rule l = l.glances ≡ map (glance_by l.plan) (numbers_below l.rule)
