use Rattle.std.proofs.Common.{◌-◌, arith, length, map}
use Rattle.std.specs.List.{range_with_len}
use Rattle.vc_compile_plan.specs.Rules.{last, last_drafts, own_draft}
use Rattle.vc_compile_numbering.specs.Growing.{seen}
use Rattle.vc_compile_layout.specs.Standing.{layout_seen}
use Rattle.vc_compile_rules.proofs.RuleLemmas.{last_more, some_left, too_many_if}
use Rattle.vc_compile_rules.proofs.own.push_last_rules.Goals as goal

pub returns-then-len-ge-MOST_RULES : goal.returns-then-len-ge-MOST_RULES
returns-then-len-ge-MOST_RULES c =
    let count = length c.args.layout.now.vars in
    let var = c.loop-var.var in
    too_many_if (seen c.args.out.now) (seen c.loop-var.out) (last_drafts (layout_seen c.args.layout.now))
    (map (λ v. own_draft (last v)) (range_with_len var (count - var))) c.loop-var.invariant
    (omega (arith, c.len.ensures, c.if-len-ge-MOST_RULES.true))
    (some_left var count (omega (arith, c.loop-var-test.true, c.var_count-var-end.ensures)))

pub loop-var-preserved : goal.loop-var-preserved
loop-var-preserved c =
    last_more _ (seen c.loop-var.out) (seen c.push_last.new.out) c.loop-var.var (length c.args.layout.now.vars)
    (omega (arith, c.loop-var-test.true, c.var_count-var-end.ensures)) c.loop-var.invariant c.in_ok-push_last.ensures
