-- When all variables were put, each list is wanted.
use Rattle.std.proofs.Common.{◌≡◌, ◌∙◌, [], ap, arith, length, replicate}
use Rattle.vc_net_readers.specs.Filing.{filed_below}
use Rattle.vc_net_readers.specs.Readers.{touched_with}
use Rattle.vc_net_readers.proofs.WaiterLemmas.{awaited_filed}
use Rattle.vc_net_readers.proofs.readers.awaited_from.Goals as goal

pub returns : goal.returns
returns c =
    let plan = c.args.plan.now in
    let all : c.loop-var.var ≡ length plan.vars
    = omega (arith, c.loop-var-test.false, c.loop-var.auto.var-end, c.len-var-end.ensures) in
    c.loop-var.invariant
    ∙ (ap (λ n. filed_below (touched_with plan) n (replicate (length plan.vars) [])) all ∙ awaited_filed plan)
