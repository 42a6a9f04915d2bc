use Rattle.std.proofs.Common.{◌≡◌, ◌+◌, drop, map}
use Rattle.vc_compile_plan.specs.Rules.{line_drafts_from}
use Rattle.vc_compile_numbering.specs.Growing.{seen}
use Rattle.vc_compile_layout.specs.Standing.{layout_seen}
use Rattle.vc_compile_sites.specs.Standing.{asked_seen, site_seen}
use Rattle.vc_compile_rules.proofs.RuleLemmas.{with_rules}
use Rattle.vc_compile_rules.proofs.own.push_selections.Given as goal

abbrev pub invariant-loop-place : goal.invariant-loop-place
invariant-loop-place l =
    with_rules (seen l.out)
    (line_drafts_from (layout_seen l.layout) (site_seen l.site) l.slot (1 + l.place)
    (map asked_seen (drop l.place l.selections)))
    ≡ with_rules (seen l.fn.out)
    (line_drafts_from (layout_seen l.layout) (site_seen l.site) l.slot 1 (map asked_seen l.selections))
