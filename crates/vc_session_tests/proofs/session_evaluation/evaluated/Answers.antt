-- The lamp's plan is valid, and nothing chosen fits it.
use Rattle.std.proofs.Common.{◌∙◌, ap, length, refl, sym}
use Rattle.vc_plan.specs.Fitting.{users_fit}
use Rattle.vc_plan_lamp.proofs.LampLaws.{lamp_is_valid}
use Rattle.vc_plan_users.specs.Choosing.{none_chosen, users_of}
use Rattle.vc_session_tests.proofs.session_evaluation.evaluated.Goals as goal

pub new-requires-2 : goal.new-requires-2
new-requires-2 g c = lamp_is_valid c.args.plan.now c.requires.plan

pub evaluate-requires-clause-valid : goal.evaluate-requires-clause-valid
evaluate-requires-clause-valid g c = lamp_is_valid c.args.plan.now c.requires.plan

pub evaluate-requires-clause-users : goal.evaluate-requires-clause-users
evaluate-requires-clause-users g c =
    ap (λ users. length users.values) c.in_ok-users.ensures
    ∙ ap (λ plan. length (none_chosen plan).values) c.requires.plan
    ∙ ap (λ plan. length plan.vars) (sym c.requires.plan)

pub evaluate-requires-clause-fit : goal.evaluate-requires-clause-fit
evaluate-requires-clause-fit g c =
    ap (λ users. users_fit c.args.plan.now (users_of users)) c.in_ok-users.ensures
    ∙ ap (λ plan. users_fit plan (users_of (none_chosen plan))) c.requires.plan

pub evaluate_at-requires-clause-valid : goal.evaluate_at-requires-clause-valid
evaluate_at-requires-clause-valid g c = lamp_is_valid c.args.plan.now c.requires.plan

pub evaluate_at-requires-clause-users : goal.evaluate_at-requires-clause-users
evaluate_at-requires-clause-users g c =
    ap (λ users. length users.values) c.in_ok-users.ensures
    ∙ ap (λ plan. length (none_chosen plan).values) c.requires.plan
    ∙ ap (λ plan. length plan.vars) (sym c.requires.plan)

pub evaluate_at-requires-clause-fit : goal.evaluate_at-requires-clause-fit
evaluate_at-requires-clause-fit g c =
    ap (λ users. users_fit c.args.plan.now (users_of users)) c.in_ok-users.ensures
    ∙ ap (λ plan. users_fit plan (users_of (none_chosen plan))) c.requires.plan

pub evaluate_at-requires-clause-touched : goal.evaluate_at-requires-clause-touched
evaluate_at-requires-clause-touched g c = record {
  before = c.in_ok-users.users.values;
  taken = c.evaluate.ensures.taken;
  same = λ v none. refl;
}
