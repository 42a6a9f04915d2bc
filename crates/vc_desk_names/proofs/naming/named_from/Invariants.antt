-- The first of those to come that is called so is the first of those from the place on.
use Rattle.std.proofs.Common.{◌≡◌, drop}
use Rattle.std.specs.Prelude.{slice_get}
use Rattle.std.specs.List.{find}
use Rattle.vc_desk_names.specs.Meant.{is_called}
use Rattle.vc_desk_names.proofs.naming.named_from.Given as goal

abbrev pub invariant-loop-at : goal.invariant-loop-at
invariant-loop-at l =
    find (λ c. is_called l.name (slice_get l.plan.characteristics c)) (drop l.at l.class)
    ≡ find (λ c. is_called l.name (slice_get l.plan.characteristics c)) (drop l.fn.place l.class)
