-- What the restriction allows is what is tested.
use Rattle.std.proofs.Common.{◌≡◌, Bool, true, false, cond, ap, sym, ◌∙◌}
use Rattle.vc_plan.specs.declared.conditions.Piece.{Piece}
use Rattle.vc_plan.specs.Answers.{nothing, clash_if, is_nothing}
use Rattle.vc_plan.specs.Restrictions.{is_inferred, allows, left_with, confined}
use Rattle.vc_check_gives.proofs.kinds.among.Goals as goal

pub returns-then-is_inferred : goal.returns-then-is_inferred
returns-then-is_inferred g c =
    let plan = c.args.plan.now in
    let v = c.args.var in
    let seen = g.V.View.seen c.args.view.now in
    let test = allows plan v c.args.restriction.now in
    let is : is_inferred c.args.rule.now v ≡ true = sym c.is_inferred.ensures ∙ c.if-is_inferred.true in
    c.confined.ensures
    ∙ (ap (λ (t : Piece → Bool). confined plan seen v t) c.allowed_of-test.ensures
    ∙ ap (λ b. cond b (confined plan seen v test) (clash_if (is_nothing (left_with plan seen v test)) nothing))
    (sym is))

pub returns-else-is_inferred : goal.returns-else-is_inferred
returns-else-is_inferred g c =
    let plan = c.args.plan.now in
    let v = c.args.var in
    let seen = g.V.View.seen c.args.view.now in
    let test = allows plan v c.args.restriction.now in
    let is : is_inferred c.args.rule.now v ≡ false = sym c.is_inferred.ensures ∙ c.if-is_inferred.false in
    c.clash_if_none.ensures
    ∙ (ap (λ (t : Piece → Bool). clash_if (is_nothing (left_with plan seen v t)) nothing) c.allowed_of-test.ensures
    ∙ ap (λ b. cond b (confined plan seen v test) (clash_if (is_nothing (left_with plan seen v test)) nothing))
    (sym is))
