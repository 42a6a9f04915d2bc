use Rattle.std.proofs.Common.{◌≡◌, ◌-◌, length, map}
use Rattle.std.specs.List.{range_with_len}
use Rattle.vc_compile_plan.specs.Rules.{last, last_drafts, own_draft}
use Rattle.vc_compile_numbering.specs.Growing.{seen}
use Rattle.vc_compile_layout.specs.Standing.{layout_seen}
use Rattle.vc_compile_rules.proofs.RuleLemmas.{with_rules}
use Rattle.vc_compile_rules.proofs.own.push_last_rules.Given as goal

abbrev pub invariant-loop-var : goal.invariant-loop-var
invariant-loop-var l =
    with_rules (seen l.out) (map (λ v. own_draft (last v)) (range_with_len l.var (length l.layout.vars - l.var)))
    ≡ with_rules (seen l.fn.out) (last_drafts (layout_seen l.layout))
