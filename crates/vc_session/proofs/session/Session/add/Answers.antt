-- What the user chose stays of the plan, and is evaluated.
use Rattle.std.proofs.Common.{◌∙◌, subst, sym}
use Rattle.vc_plan_users.specs.Choosing.{users_of}
use Rattle.vc_session_evaluation.specs.Costing.{EvaluationCosts}
use Rattle.vc_session.specs.Edits.{touched_by}
use Rattle.vc_session.specs.Sessions.{AreUsersOf, IsSessionOf, Opened}
use Rattle.vc_session.proofs.UserLaws.{edit_differs, given_of, given_touches, may_give}
use Rattle.vc_session.proofs.session.Session.add.Goals as goal

pub evaluate_edit-requires-clause-users : goal.evaluate_edit-requires-clause-users
evaluate_edit-requires-clause-users g c =
    let plan = c.args.plan.now in
    let of : IsSessionOf plan
    (record { users = c.self.inside.users; stages = c.self.inside.stages; marked = c.self.inside.marked }) =
    subst (IsSessionOf plan) (sym c.self.view_is) c.requires.of in
    let users : AreUsersOf plan c.give.new.users =
    subst (AreUsersOf plan) (sym c.give.ensures) (given_of plan c.self.inside.users c.args.named c.args.value of.users
    (may_give plan c.args.self.now c.args.named c.args.value (sym c.fault.ensures ∙ c.in-None.is))) in
    users

pub evaluate_edit-requires-clause-touched : goal.evaluate_edit-requires-clause-touched
evaluate_edit-requires-clause-touched g c =
    let plan = c.args.plan.now in
    let session : Opened =
    record { users = c.self.inside.users; stages = c.self.inside.stages; marked = c.self.inside.marked } in
    edit_differs plan session (touched_by c.args.named) c.give.new.users _
    (subst (IsSessionOf plan) (sym c.self.view_is) c.requires.of) c.give.ensures
    (given_touches c.self.inside.users c.args.named c.args.value)

pub returns-in-None-clause-of : goal.returns-in-None-clause-of
returns-in-None-clause-of g c =
    let plan = c.args.plan.now in
    let of : IsSessionOf plan
    (record { users = c.self.inside.users; stages = c.self.inside.stages; marked = c.self.inside.marked }) =
    subst (IsSessionOf plan) (sym c.self.view_is) c.requires.of in
    let users : AreUsersOf plan c.give.new.users =
    subst (AreUsersOf plan) (sym c.give.ensures) (given_of plan c.self.inside.users c.args.named c.args.value of.users
    (may_give plan c.args.self.now c.args.named c.args.value (sym c.fault.ensures ∙ c.in-None.is))) in
    record {
      users = users;
      stages = c.evaluate_edit.ensures.of;
      evaluated = c.evaluate_edit.ensures.evaluated;
      taken = c.evaluate_edit.ensures.taken;
      marked = of.marked;
    }

pub returns-in-None-clause-cost : goal.returns-in-None-clause-cost
returns-in-None-clause-cost g c =
    subst (λ (old : Opened). EvaluationCosts c.args.plan.now (users_of c.give.new.users) old.stages.nets.items
    c.evaluate_edit.new.stages c.args.steps.now c.evaluate_edit.new.steps) c.self.view_is c.evaluate_edit.ensures.cost
