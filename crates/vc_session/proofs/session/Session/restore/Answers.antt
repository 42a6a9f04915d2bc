-- What is restored is of the plan, and is evaluated.
use Rattle.std.proofs.Common.{subst, sym}
use Rattle.vc_plan_users.specs.Choosing.{users_of}
use Rattle.vc_session_evaluation.specs.Costing.{EvaluationCosts}
use Rattle.vc_session.specs.Sessions.{IsSessionOf, Opened}
use Rattle.vc_session.proofs.session.Session.restore.Goals as goal

pub returns-clause-of : goal.returns-clause-of
returns-clause-of g c =
    let of : IsSessionOf c.args.plan.now (record {
      users = c.self.inside.users;
      stages = c.self.inside.stages;
      marked = c.self.inside.marked;
    }) = subst (IsSessionOf c.args.plan.now) (sym c.self.view_is) c.requires.of in
    record {
      users = c.requires.users;
      stages = c.evaluate.ensures.of;
      evaluated = c.evaluate.ensures.evaluated;
      taken = c.evaluate.ensures.taken;
      marked = of.marked;
    }

pub returns-clause-cost : goal.returns-clause-cost
returns-clause-cost g c =
    subst (λ (old : Opened). EvaluationCosts c.args.plan.now (users_of c.args.users) old.stages.nets.items
    c.evaluate.new.self c.args.steps.now c.evaluate.new.steps) c.self.view_is c.evaluate.ensures.cost
