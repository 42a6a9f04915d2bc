-- The grain at hand is counted, or isn't; with a second there are several.
use Rattle.std.proofs.Common.{ℕ, cond, ◌&&◌, ◌∙◌, ap, sym, arith}
use Rattle.std.specs.Prelude.{None}
use Rattle.std.specs.List.{filter}
use Rattle.vc_plan.specs.Domains.{numbers_below, is_grain_with}
use Rattle.vc_plan.specs.Seen.{is_left_by}
use Rattle.vc_rule_grains.specs.Remaining.{remaining_of, with_one}
use Rattle.vc_rule_grains.specs.declared.remaining.Remaining.TheVariants.{Nothing}
use Rattle.vc_rule_grains.proofs.SayLemmas.{count_step, remaining_walked, several_ends}
use Rattle.vc_rule_grains.proofs.Walking.{walked, walk_on, walk_done}
use Rattle.vc_rule_grains.proofs.remaining.remaining_among.Goals as goal

pub loop-grain-preserved : goal.loop-grain-preserved
loop-grain-preserved g c =
    let p = λ (n : ℕ). is_left_by c.args.plan.now (g.V.View.seen c.args.view.now) c.args.var n None
    && is_grain_with c.args.plan.now c.args.var (g.T.Test.passes c.args.test.now) n in
    let now = c.loop-grain.remaining in
    walk_on (count_step p) Nothing now c.count_if-remaining.result c.loop-grain.grain c.grain_count-count.result
    c.loop-grain.invariant (omega arith)
    (c.count_if-remaining.ensures
    ∙ ap (λ b. cond b (with_one now c.loop-grain.grain) now) c.is_left_with-counts.ensures)

pub returns-then-is_several : goal.returns-then-is_several
returns-then-is_several g c =
    let p = λ (n : ℕ). is_left_by c.args.plan.now (g.V.View.seen c.args.view.now) c.args.var n None
    && is_grain_with c.args.plan.now c.args.var (g.T.Test.passes c.args.test.now) n in
    let now = c.loop-grain.remaining in
    several_ends p now c.count_if-remaining.result c.loop-grain.grain c.grain_count-count.result
    c.loop-grain.invariant (omega arith)
    (c.count_if-remaining.ensures
    ∙ ap (λ b. cond b (with_one now c.loop-grain.grain) now) c.is_left_with-counts.ensures)
    (sym c.is_several.ensures ∙ c.if-is_several.true)
    ∙ ap (λ n. remaining_of (filter p (numbers_below n))) c.grain_count-count.ensures

pub returns : goal.returns
returns g c =
    let p = λ (n : ℕ). is_left_by c.args.plan.now (g.V.View.seen c.args.view.now) c.args.var n None
    && is_grain_with c.args.plan.now c.args.var (g.T.Test.passes c.args.test.now) n in
    walk_done (count_step p) Nothing c.loop-grain.remaining c.loop-grain.grain c.grain_count-count.result
    c.loop-grain.invariant (omega arith)
    ∙ (ap (λ n. walked (count_step p) Nothing (numbers_below n)) c.grain_count-count.ensures
    ∙ remaining_walked p (numbers_below _))
