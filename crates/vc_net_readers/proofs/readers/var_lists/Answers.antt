-- When all rules were put, each list is wanted.
use Rattle.std.proofs.Common.{◌≡◌, ◌∙◌, [], ap, arith, length, replicate}
use Rattle.vc_net_readers.specs.Filing.{filed_below}
use Rattle.vc_net_readers.specs.Touched.{vars_by}
use Rattle.vc_net_readers.proofs.WaiterLemmas.{vars_filed}
use Rattle.vc_net_readers.proofs.readers.var_lists.Goals as goal

pub returns : goal.returns
returns c =
    let plan = c.args.plan.now in
    let all : c.loop-rule.rule ≡ length plan.rules
    = omega (arith, c.loop-rule-test.false, c.loop-rule.auto.rule-end, c.len-rule-end.ensures) in
    c.loop-rule.invariant
    ∙ (ap (λ n. filed_below (vars_by plan) n (replicate (length plan.vars) [])) all ∙ vars_filed plan)
