-- What the keys from here on say is what all say.
use Rattle.std.proofs.Common.{◌≡◌, length}
use Rattle.std.specs.Prelude.{slice_get}
use Rattle.std.specs.List.{list_any}
use Rattle.vc_plan.specs.Writes.{term_sums}
use Rattle.vc_proc.proofs.summing.keys_sum.Given as goal

abbrev pub invariant-loop-rest : goal.invariant-loop-rest
invariant-loop-rest l =
    list_any (λ key. term_sums (slice_get l.plan.terms key.term)) l.rest
    ≡ list_any (λ key. term_sums (slice_get l.plan.terms key.term)) l.keys

abbrev pub decreases-loop-rest : goal.decreases-loop-rest
decreases-loop-rest l = length l.rest
