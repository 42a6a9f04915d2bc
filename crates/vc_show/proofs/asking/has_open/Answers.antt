-- What is asked for is what is marked, or what a selection condition demands.
use Rattle.std.proofs.Common.{◌∙◌}
use Rattle.vc_plan.specs.Readings.{full_reading}
use Rattle.vc_show.proofs.AskingLaws.{open_lacks}
use Rattle.vc_show.proofs.asking.has_open.Goals as goal

pub returns : goal.returns
returns g c =
    let plan = c.args.plan.now in
    let seen = g.R.View.seen c.args.reading.now in
    c.lacks_some.ensures ∙ open_lacks plan seen (full_reading plan seen (g.R.Reading.holdings c.args.reading.now))
