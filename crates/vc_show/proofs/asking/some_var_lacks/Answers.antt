-- What lacks is marked.
use Rattle.std.proofs.Common.{◌∙◌, ap}
use Rattle.std.specs.List.{list_any}
use Rattle.vc_plan.specs.declared.plans.Named.TheVariants.{Var}
use Rattle.vc_plan.specs.Readings.{full_reading}
use Rattle.vc_show.specs.Asking.{lacks_marked}
use Rattle.vc_show.proofs.AskingLaws.{marked_lack}
use Rattle.vc_show.proofs.asking.some_var_lacks.Goals as goal

pub returns : goal.returns
returns g c =
    let plan = c.args.plan.now in
    let seen = g.R.View.seen c.args.reading.now in
    let reading = full_reading plan seen (g.R.Reading.holdings c.args.reading.now) in
    c.one_lacks.ensures
    ∙ (ap (list_any (λ v. lacks_marked plan seen reading (Var v))) c.requires.marked ∙ marked_lack plan seen reading)
