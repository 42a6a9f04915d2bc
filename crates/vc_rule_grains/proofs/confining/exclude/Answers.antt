-- The grain at hand is excluded, or stays.
use Rattle.std.proofs.Common.{ℕ, cond, not, ◌∙◌, ap, arith}
use Rattle.vc_plan.specs.declared.atoms.Atom.TheVariants.{Out}
use Rattle.vc_plan.specs.Domains.{numbers_below, is_grain_with}
use Rattle.vc_rule_yield.specs.Yielding.{concluded}
use Rattle.vc_rule_grains.proofs.SayLemmas.{exclude_step, excludes_walked}
use Rattle.vc_rule_grains.proofs.Walking.{walked, walk_on, walk_done}
use Rattle.vc_rule_grains.proofs.confining.exclude.Goals as goal

pub loop-grain-preserved : goal.loop-grain-preserved
loop-grain-preserved g c =
    let p = λ (n : ℕ). not (is_grain_with c.args.plan.now c.args.var (g.T.Test.passes c.args.test.now) n) in
    let now = c.loop-grain.out in
    walk_on (exclude_step (g.V.View.seen c.args.view.now) p c.args.var) c.args.out.now now c.conclude_if.new.out
    c.loop-grain.grain c.grain_count-count.result
    c.loop-grain.invariant (omega arith)
    (c.conclude_if.ensures
    ∙ ap (λ b. cond b (concluded now (Out c.args.var c.loop-grain.grain)) now) c.is_excluded-excluded.ensures)

pub returns : goal.returns
returns g c =
    let p = λ (n : ℕ). not (is_grain_with c.args.plan.now c.args.var (g.T.Test.passes c.args.test.now) n) in
    let seen = g.V.View.seen c.args.view.now in
    walk_done (exclude_step seen p c.args.var) c.args.out.now c.loop-grain.out c.loop-grain.grain
    c.grain_count-count.result c.loop-grain.invariant (omega arith)
    ∙ (ap (λ n. walked (exclude_step seen p c.args.var) c.args.out.now (numbers_below n)) c.grain_count-count.ensures
    ∙ excludes_walked seen p c.args.var c.args.out.now (numbers_below _))
