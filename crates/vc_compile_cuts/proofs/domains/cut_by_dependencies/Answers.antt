use Rattle.std.proofs.Common.{refl}
use Rattle.vc_compile_cuts.specs.Cutting.{domains_seen, marks_of_all}
use Rattle.std.specs.Prelude.{slice_get}
use Rattle.vc_compile_plan.specs.Cuts.{marks_if}
use Rattle.vc_compile_plan.specs.Layouts.{tree_of}
use Rattle.vc_compile_cuts.proofs.CuttingLemmas.{cut_next, cut_last}
use Rattle.vc_compile_cuts.proofs.domains.cut_by_dependencies.Goals as goal

pub loop-number-preserved : goal.loop-number-preserved
loop-number-preserved c =
    cut_next (λ d. marks_if c.args.names.now.model.now c.args.rows.now.tables.now
    (tree_of c.args.names.now.model.now d))
    c.args.numbers.now c.loop-number.number-index 0 _ _ _ c.loop-number-test.true
    c.in_ok-cut_by_dependency.ensures c.loop-number.invariant

pub returns : goal.returns
returns c =
    cut_last (marks_of_all c.args.names.now.model.now c.args.rows.now.tables.now) c.args.numbers.now
    c.loop-number.number-index (domains_seen c.loop-number.all.items) _ refl
    c.loop-number-test.false c.loop-number.invariant
