use Rattle.std.proofs.Common.{◌≡◌, ◌==◌, length}
use Rattle.std.specs.List.{list_any}
use Rattle.vc_plan_users.specs.Choosing.{held_texts}
use Rattle.vc_plan_users.proofs.users.holds_among.Given as goal

abbrev pub invariant-loop-rest : goal.invariant-loop-rest
invariant-loop-rest l = list_any (λ t. t == l.text) (held_texts l.rest)
    ≡ list_any (λ t. t == l.text) (held_texts l.listed)

abbrev pub decreases-loop-rest : goal.decreases-loop-rest
decreases-loop-rest l = length l.rest
