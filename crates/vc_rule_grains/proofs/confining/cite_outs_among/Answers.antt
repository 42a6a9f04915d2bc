-- The grain at hand is cited, or isn't.
use Rattle.std.proofs.Common.{ℕ, cond, ◌&&◌, ◌∙◌, ap, arith}
use Rattle.vc_plan.specs.declared.atoms.Atom.TheVariants.{Out}
use Rattle.vc_plan.specs.Domains.{numbers_below, is_grain_with}
use Rattle.vc_rule_yield.specs.Yielding.{cited}
use Rattle.vc_rule_grains.proofs.SayLemmas.{cite_step, cites_walked}
use Rattle.vc_rule_grains.proofs.Walking.{walked, walk_on, walk_done}
use Rattle.vc_rule_grains.proofs.confining.cite_outs_among.Goals as goal

pub loop-grain-preserved : goal.loop-grain-preserved
loop-grain-preserved g c =
    let p
    = λ (n : ℕ). (g.V.View.seen c.args.view.now).out c.args.var n
    && is_grain_with c.args.plan.now c.args.var (g.T.Test.passes c.args.test.now) n in
    let now = c.loop-grain.out in
    walk_on (cite_step p c.args.var) c.args.out.now now c.cite_if.new.out c.loop-grain.grain c.grain_count-count.result
    c.loop-grain.invariant (omega arith)
    (c.cite_if.ensures ∙ ap (λ b. cond b (cited now (Out c.args.var c.loop-grain.grain)) now)
    c.is_out_with-cites.ensures)

pub returns : goal.returns
returns g c =
    let p
    = λ (n : ℕ). (g.V.View.seen c.args.view.now).out c.args.var n
    && is_grain_with c.args.plan.now c.args.var (g.T.Test.passes c.args.test.now) n in
    walk_done (cite_step p c.args.var) c.args.out.now c.loop-grain.out c.loop-grain.grain c.grain_count-count.result
    c.loop-grain.invariant (omega arith)
    ∙ (ap (λ n. walked (cite_step p c.args.var) c.args.out.now (numbers_below n)) c.grain_count-count.ensures
    ∙ cites_walked p c.args.var c.args.out.now (numbers_below _))
