use Rattle.std.proofs.Common.{◌≡◌, drop, map, flat_map, Some, is_some}
use Rattle.std.specs.List.{filter_map, list_any}
use Rattle.vc_syntax_tree.specs.Trees.{binding_of}
use Rattle.vc_types.specs.Looking.{characteristic_named}
use Rattle.vc_types.specs.PlaceFaults.{is_number}
use Rattle.vc_types_meanings.specs.Seen.{seen}
use Rattle.vc_types_faults.proofs.columns.names_column.Given as goal

abbrev pub invariant-loop-binding : goal.invariant-loop-binding
invariant-loop-binding l =
    list_any (λ b. is_number l.column.characteristic (characteristic_named (seen l.setting).model b.column.name))
    (map binding_of (drop l.binding-index l.bindings))
    ≡ list_any (λ b. is_number l.column.characteristic (characteristic_named (seen l.setting).model b.column.name))
    (map binding_of l.bindings)
