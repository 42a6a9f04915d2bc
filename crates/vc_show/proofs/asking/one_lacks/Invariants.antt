-- Whether one of those to come lacks is whether one of all does.
use Rattle.std.proofs.Common.{◌≡◌, drop}
use Rattle.std.specs.List.{list_any}
use Rattle.vc_plan.specs.declared.plans.Named.TheVariants.{Var}
use Rattle.vc_plan.specs.Readings.{full_reading}
use Rattle.vc_show.specs.Asking.{lacks_marked}
use Rattle.vc_show.proofs.asking.one_lacks.Given as goal

abbrev pub invariant-loop-var : goal.invariant-loop-var
invariant-loop-var g l =
    let seen = g.R.View.seen l.reading in
    let reading = full_reading l.plan seen (g.R.Reading.holdings l.reading) in
    list_any (λ v. lacks_marked l.plan seen reading (Var v)) (drop l.var-index l.vars)
    ≡ list_any (λ v. lacks_marked l.plan seen reading (Var v)) l.vars
