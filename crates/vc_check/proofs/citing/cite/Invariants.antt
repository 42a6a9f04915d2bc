-- What is cited so far, with what the numbers from here on cite, is all.
use Rattle.std.proofs.Common.{◌≡◌, length}
use Rattle.vc_base.specs.Chains.{cited}
use Rattle.vc_plan_reasons.specs.Checking.{concluded}
use Rattle.vc_check.specs.Citing.{with_cited}
use Rattle.vc_check.proofs.citing.cite.Given as goal

abbrev pub invariant-loop-rest : goal.invariant-loop-rest
invariant-loop-rest l =
    with_cited l.set (cited (concluded l.earlier) l.rest) ≡ with_cited l.fn.set (cited (concluded l.earlier) l.numbers)

abbrev pub decreases-loop-rest : goal.decreases-loop-rest
decreases-loop-rest l = length l.rest
