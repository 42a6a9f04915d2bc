-- What the user chose stays of the plan, and is evaluated.
use Rattle.std.proofs.Common.{subst, sym}
use Rattle.vc_plan_users.specs.Choosing.{users_of}
use Rattle.vc_session_evaluation.specs.Costing.{EvaluationCosts}
use Rattle.vc_session.specs.Edits.{touched_by}
use Rattle.vc_session.specs.Sessions.{AreUsersOf, IsSessionOf, Opened}
use Rattle.vc_session.proofs.UserLaws.{edit_differs, taken_value_of, taken_value_touches}
use Rattle.vc_session.proofs.session.Session.drop_value.Goals as goal

pub evaluate_edit-requires-clause-users : goal.evaluate_edit-requires-clause-users
evaluate_edit-requires-clause-users g c =
    let plan = c.args.plan.now in
    let of : IsSessionOf plan
    (record { users = c.self.inside.users; stages = c.self.inside.stages; marked = c.self.inside.marked }) =
    subst (IsSessionOf plan) (sym c.self.view_is) c.requires.of in
    let users : AreUsersOf plan c.take_value.new.users =
    subst (AreUsersOf plan) (sym c.take_value.ensures)
    (taken_value_of plan c.self.inside.users c.args.named c.args.value of.users) in
    users

pub evaluate_edit-requires-clause-touched : goal.evaluate_edit-requires-clause-touched
evaluate_edit-requires-clause-touched g c =
    let plan = c.args.plan.now in
    let session : Opened =
    record { users = c.self.inside.users; stages = c.self.inside.stages; marked = c.self.inside.marked } in
    edit_differs plan session (touched_by c.args.named) c.take_value.new.users _
    (subst (IsSessionOf plan) (sym c.self.view_is) c.requires.of) c.take_value.ensures
    (taken_value_touches c.self.inside.users c.args.named c.args.value)

pub returns-clause-of : goal.returns-clause-of
returns-clause-of g c =
    let plan = c.args.plan.now in
    let of : IsSessionOf plan
    (record { users = c.self.inside.users; stages = c.self.inside.stages; marked = c.self.inside.marked }) =
    subst (IsSessionOf plan) (sym c.self.view_is) c.requires.of in
    let users : AreUsersOf plan c.take_value.new.users =
    subst (AreUsersOf plan) (sym c.take_value.ensures)
    (taken_value_of plan c.self.inside.users c.args.named c.args.value of.users) in
    record {
      users = users;
      stages = c.evaluate_edit.ensures.of;
      evaluated = c.evaluate_edit.ensures.evaluated;
      taken = c.evaluate_edit.ensures.taken;
      marked = of.marked;
    }

pub returns-clause-cost : goal.returns-clause-cost
returns-clause-cost g c =
    subst (λ (old : Opened). EvaluationCosts c.args.plan.now (users_of c.take_value.new.users) old.stages.nets.items
    c.evaluate_edit.new.stages c.args.steps.now c.evaluate_edit.new.steps) c.self.view_is c.evaluate_edit.ensures.cost
