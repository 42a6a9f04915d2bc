use Rattle.std.proofs.Common.{◌≡◌, drop, map, flat_map, Some, is_some}
use Rattle.std.specs.List.{filter_map, list_any}
use Rattle.vc_syntax_tree.specs.Trees.{binding_of, table_call_of}
use Rattle.vc_types.specs.PlaceFaults.{bound_column, is_other}
use Rattle.vc_types_meanings.specs.Seen.{seen}
use Rattle.vc_types_faults.proofs.columns.binds_some_other.Given as goal

abbrev pub invariant-loop-binding : goal.invariant-loop-binding
invariant-loop-binding l =
    list_any (λ b. is_other (bound_column (seen l.setting) (table_call_of l.call) b))
    (map binding_of (drop l.binding-index l.bindings))
    ≡ list_any (λ b. is_other (bound_column (seen l.setting) (table_call_of l.call) b)) (map binding_of l.bindings)
