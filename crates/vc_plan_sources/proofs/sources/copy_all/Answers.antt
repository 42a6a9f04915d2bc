-- The element at the place is copied; the length stays.
use Rattle.vc_plan_sources.proofs.CopyLemmas.{copy_step}
use Rattle.vc_plan_sources.proofs.sources.copy_all.Goals as goal

pub loop-place-preserved : goal.loop-place-preserved
loop-place-preserved g c =
    copy_step c.args.from.now c.args.list.now c.loop-place.list c.set.new.self c.index-from-place.result
    c.loop-place.place c.loop-place-test.true c.requires c.loop-place.invariant.0 c.loop-place.invariant.1
    c.index-from-place.is c.set.ensures
