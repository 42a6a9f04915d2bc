-- The variables of the slot stand together: all before are none of it and full, and past the first of a later slot
-- all are.
use Rattle.std.proofs.Common.{◌∙◌, ◌^◌, ◌<◌, List, arith, false, length, subst, sym}
use Rattle.vc_plan.specs.declared.plans.Var.{Var}
use Rattle.vc_net_places.proofs.PlaceLaws.Numbering.{small}
use Rattle.vc_net_log.proofs.ScanLaws.{walked_all, walked_full, walked_past}
use Rattle.vc_net_log.proofs.coming.has_full.Goals as goal

abbrev nobody : Var
nobody = record { slot = 0; characteristic = 0; domain = 0; restrictable = false }

pub overflow_cast-var : goal.overflow_cast-var
overflow_cast-var c =
    let vars = c.as_slice-vars.ensures in
    let low : c.loop-var.var < length c.args.plan.now.vars
    = subst (λ (xs : List Var). c.loop-var.var < length xs) vars c.loop-var-test.true in
    let few = (small c.args.plan.now c.loop-var.var (2 ^ 32) low c.requires.few).var in
    omega (arith, few)

pub returns-then-is_full : goal.returns-then-is_full
returns-then-is_full c =
    walked_full c.args.plan.now c.args.outs.now c.args.slot c.as_slice-vars.result.now c.as_slice-vars.ensures
    c.requires.ordered c.loop-var.var nobody c.loop-var-test.true c.if-vars-var.true
    (sym c.is_full.ensures ∙ c.if-is_full.true)

pub returns-else-vars-var : goal.returns-else-vars-var
returns-else-vars-var c =
    walked_past c.args.plan.now c.args.outs.now c.args.slot c.as_slice-vars.result.now c.as_slice-vars.ensures
    c.requires.ordered c.loop-var.var nobody c.loop-var-test.true c.loop-var.invariant.0 c.loop-var.invariant.1
    c.if-vars-var.false

pub returns-after-loop-var : goal.returns-after-loop-var
returns-after-loop-var c =
    walked_all c.args.plan.now c.args.outs.now c.args.slot c.as_slice-vars.result.now c.as_slice-vars.ensures
    c.requires.ordered c.loop-var.var nobody c.loop-var.invariant.0 (omega (arith, c.loop-var-test.false))
