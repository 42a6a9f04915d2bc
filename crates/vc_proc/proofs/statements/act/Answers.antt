use Rattle.vc_plan.specs.Parts.{procedure_reading}
use Rattle.vc_proc.specs.Writing.{place_from}
use Rattle.vc_proc.proofs.FindLemmas.{looked_up}
use Rattle.vc_proc.proofs.statements.act.Goals as goal

pub returns-in-LookUp : goal.returns-in-LookUp
returns-in-LookUp g c =
    let plan = c.args.plan.now in
    let seen = g.R.View.seen c.args.stage.now in
    let holds = g.R.Reading.holdings c.args.stage.now in
    looked_up plan seen (procedure_reading plan seen c.args.overlay.now holds) (place_from c.args.place)
    c.args.action.now c.in-LookUp.table
    c.in-LookUp.keys c.as_slice.result.now c.in-LookUp.filled c.as_slice-in-LookUp.result.now c.args.overlay.now
    c.look_up.new.overlay
    c.in-LookUp.is c.as_slice.ensures c.as_slice-in-LookUp.ensures c.look_up.ensures
