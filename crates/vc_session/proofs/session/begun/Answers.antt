-- Nothing chosen is of the plan, and is evaluated.
use Rattle.std.proofs.Common.{subst, sym}
use Rattle.vc_plan_users.specs.Choosing.{users_of}
use Rattle.vc_session_evaluation.proofs.StartLaws.{nets_start_behind}
use Rattle.vc_show.proofs.FittingLaws.{valid_plans_show}
use Rattle.vc_session.specs.Sessions.{AreUsersOf}
use Rattle.vc_session.proofs.UserLaws.{none_of}
use Rattle.vc_session.proofs.session.begun.Goals as goal

pub evaluate-requires-clause-fit : goal.evaluate-requires-clause-fit
evaluate-requires-clause-fit g c =
    let users : AreUsersOf c.args.plan.now c.in_ok-users.users
    = subst (AreUsersOf c.args.plan.now) (sym c.in_ok-users.ensures) (none_of c.args.plan.now) in
    users.fit

pub marked_vars-requires : goal.marked_vars-requires
marked_vars-requires g c = valid_plans_show c.args.plan.now c.requires.valid

pub returns-clause-of : goal.returns-clause-of
returns-clause-of g c =
    let users : AreUsersOf c.args.plan.now c.in_ok-users.users
    = subst (AreUsersOf c.args.plan.now) (sym c.in_ok-users.ensures) (none_of c.args.plan.now) in
    record {
      users = users;
      stages = c.evaluate.ensures.of;
      evaluated = c.evaluate.ensures.evaluated;
      taken = c.evaluate.ensures.taken;
      marked = c.in_ok-marked.ensures;
    }

pub returns-clause-behind : goal.returns-clause-behind
returns-clause-behind g c =
    nets_start_behind c.args.plan.now (users_of c.in_ok-users.users) 0 _ _ _ _ _ c.evaluate.ensures.cost
    c.in_ok-stages.ensures.behind
