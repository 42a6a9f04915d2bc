use Rattle.std.proofs.Common.{◌≡◌, ◌+◌, ◌++◌, [], length, drop, map, flat_map, slice_get, Some}
use Rattle.vc_syntax_tree.specs.Trees.{binding_of, statement_of}
use Rattle.vc_plan.specs.declared.procedures.Trigger.TheVariants.{Anyway}
use Rattle.vc_compile_plan.specs.Numbering.{keys_from, procedure_brings, procedure_from, statement_brings}
use Rattle.vc_compile_plan.specs.Numbering.{statement_from}
use Rattle.vc_compile_plan.specs.Procedures.{filled_by, key_of, procedures_among, procedures_at, statement_at}
use Rattle.vc_compile_plan.specs.Procedures.{trigger_of, uses_in, value_procedures}
use Rattle.vc_compile_plan.specs.Variables.{by_slot}
use Rattle.vc_compile_numbering.specs.Growing.{kept, seen, with_drafts, with_terms}
use Rattle.vc_compile_layout.specs.Standing.{layout_seen}
use Rattle.vc_compile_sites.specs.Standing.{entry_seen, site_seen}
use Rattle.vc_compile_procedures.specs.Doing.{seen_with}
use Rattle.vc_compile_procedures.proofs.statements.statements_at.Given as goal

abbrev pub invariant-loop-statement : goal.invariant-loop-statement
invariant-loop-statement l =
    with_drafts statement_brings statement_from (seen_with l.trees l.all)
    (map (statement_at (layout_seen l.layout) (site_seen l.site))
    (map statement_of (drop l.statement-index l.statements)))
    ≡ with_drafts statement_brings statement_from (seen_with l.fn.trees [])
    (map (statement_at (layout_seen l.layout) (site_seen l.site)) (map statement_of l.statements))
