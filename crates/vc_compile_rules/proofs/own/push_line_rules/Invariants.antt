use Rattle.std.proofs.Common.{◌≡◌, drop}
use Rattle.vc_compile_plan.specs.Rules.{slot_drafts_from}
use Rattle.vc_compile_numbering.specs.Growing.{seen}
use Rattle.vc_compile_layout.specs.Standing.{layout_seen}
use Rattle.vc_compile_rules.proofs.RuleLemmas.{with_rules}
use Rattle.vc_compile_rules.proofs.own.push_line_rules.Given as goal

abbrev pub invariant-loop-slot : goal.invariant-loop-slot
invariant-loop-slot l =
    with_rules (seen l.out) (slot_drafts_from (layout_seen l.layout) l.slot (drop l.slot l.standings))
    ≡ with_rules (seen l.fn.out) (slot_drafts_from (layout_seen l.layout) 0 l.standings)
