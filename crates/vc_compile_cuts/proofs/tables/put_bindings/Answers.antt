use Rattle.vc_syntax_tree.specs.Trees.{binding_of, table_call_of}
use Rattle.vc_types_meanings.specs.Seen.{seen}
use Rattle.vc_compile_plan.specs.Cuts.{binding_marks}
use Rattle.vc_compile_cuts.proofs.MarkLemmas.{next_marks}
use Rattle.vc_compile_cuts.proofs.tables.put_bindings.Goals as goal

pub loop-binding-preserved : goal.loop-binding-preserved
loop-binding-preserved c =
    let setting = seen c.args.setting.now in
    next_marks (binding_marks setting.model c.args.rows.now.tables.now setting.variables
    (table_call_of c.args.call.now))
    binding_of c.as_slice-binding-items.result.now c.loop-binding.binding-index c.binding-item.result
    c.loop-binding.out c.put_binding.new.out _ c.loop-binding-test.true c.binding-item.is
    c.in_ok-put_binding.ensures c.loop-binding.invariant
