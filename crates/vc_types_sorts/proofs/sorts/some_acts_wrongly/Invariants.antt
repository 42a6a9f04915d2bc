use Rattle.std.proofs.Common.{◌≡◌, drop, map, flat_map, Some, is_some}
use Rattle.std.specs.List.{filter_map, list_any}
use Rattle.vc_syntax_tree.specs.Trees.{statement_of}
use Rattle.vc_types.specs.SortFaults.{acts_wrongly}
use Rattle.vc_types_meanings.specs.Seen.{seen}
use Rattle.vc_types_sorts.proofs.sorts.some_acts_wrongly.Given as goal

abbrev pub invariant-loop-statement : goal.invariant-loop-statement
invariant-loop-statement l =
    list_any (λ s. acts_wrongly (seen l.setting) s.action) (map statement_of (drop l.statement-index l.statements))
    ≡ list_any (λ s. acts_wrongly (seen l.setting) s.action) (map statement_of l.statements)
