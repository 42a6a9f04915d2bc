-- The first row decides, or those after it.
use Rattle.std.proofs.Common.{ap, sym, ◌∙◌}
use Rattle.vc_plan.specs.Parts.{procedure_reading}
use Rattle.vc_plan.specs.Statements.{has_keys}
use Rattle.vc_proc.proofs.FindLemmas.{find_here, find_later}
use Rattle.vc_proc.proofs.looking_up.find_by_walk.Goals as goal

pub returns-then-has_keys-clause-some : goal.returns-then-has_keys-clause-some
returns-then-has_keys-clause-some g c =
    let reading
    = procedure_reading c.args.plan.now (g.R.View.seen c.args.stage.now) c.args.overlay.now
    (g.R.Reading.holdings c.args.stage.now) in
    let test = has_keys c.args.plan.now reading c.args.keys.now in
    sym c.loop-rest.invariant
    ∙ find_here test c.loop-rest.rest.now c.row-item.result c.as_slice-then-has_keys.result.now
    c.in-len1-up.len_at_least c.row-item.is
    c.as_slice-then-has_keys.ensures
    (ap test (c.as_slice-then-has_keys.ensures ∙ sym c.as_slice.ensures)
    ∙ (sym c.has_keys.ensures ∙ c.if-has_keys.true))

pub loop-rest-preserved : goal.loop-rest-preserved
loop-rest-preserved g c =
    let reading
    = procedure_reading c.args.plan.now (g.R.View.seen c.args.stage.now) c.args.overlay.now
    (g.R.Reading.holdings c.args.stage.now) in
    let test = has_keys c.args.plan.now reading c.args.keys.now in
    find_later test c.loop-rest.rest.now c.row-item.result c.as_slice.result.now c.in-len1-up.len_at_least c.row-item.is
    c.as_slice.ensures (sym c.has_keys.ensures ∙ c.if-has_keys.false)
    ∙ c.loop-rest.invariant
