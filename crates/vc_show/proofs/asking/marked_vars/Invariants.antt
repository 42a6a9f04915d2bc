-- Those so far are the marked ones below here.
use Rattle.std.proofs.Common.{◌≡◌}
use Rattle.std.specs.List.{filter}
use Rattle.vc_plan.specs.declared.plans.Named.TheVariants.{Var}
use Rattle.vc_plan.specs.Domains.{numbers_below}
use Rattle.vc_plan.specs.Showing.{characteristic_of, is_marked}
use Rattle.vc_show.proofs.asking.marked_vars.Given as goal

abbrev pub invariant-loop-var : goal.invariant-loop-var
invariant-loop-var l =
    l.marked ≡ filter (λ v. is_marked (characteristic_of l.plan (Var v))) (numbers_below l.var)
