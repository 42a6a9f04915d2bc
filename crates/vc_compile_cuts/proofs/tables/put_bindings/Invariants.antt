use Rattle.std.proofs.Common.{◌≡◌, ◌++◌, drop, map, flat_map}
use Rattle.vc_syntax_tree.specs.Trees.{binding_of, table_call_of}
use Rattle.vc_compile_plan.specs.Cuts.{binding_marks}
use Rattle.vc_compile_cuts.specs.Marks.{marks_seen}
use Rattle.vc_types_meanings.specs.Seen.{seen}
use Rattle.vc_compile_cuts.proofs.tables.put_bindings.Given as goal

abbrev pub invariant-loop-binding : goal.invariant-loop-binding
invariant-loop-binding l =
    marks_seen l.out
    ++ flat_map
    (binding_marks (seen l.setting).model l.rows.tables.now (seen l.setting).variables (table_call_of l.call))
    (map binding_of (drop l.binding-index l.binding-items))
    ≡ marks_seen l.fn.out
    ++ flat_map
    (binding_marks (seen l.setting).model l.rows.tables.now (seen l.setting).variables (table_call_of l.call))
    (map binding_of l.binding-items)
