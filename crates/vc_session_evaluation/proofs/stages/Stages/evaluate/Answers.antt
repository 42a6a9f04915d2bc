-- The user's values are put into the sources, and all stages gone through.
use Rattle.std.proofs.Common.{None, ◌∙◌, ap, arith, refl, replicate}
use Rattle.vc_net_going.proofs.PlanFacts.{vars_fit}
use Rattle.vc_plan.specs.Sources.{Sources}
use Rattle.vc_plan_users.specs.Choosing.{users_of}
use Rattle.vc_session_evaluation.proofs.CostLaws.{took}
use Rattle.vc_session_evaluation.proofs.GoingLaws.{users_put}
use Rattle.vc_session_evaluation.proofs.stages.Stages.evaluate.Goals as goal

pub fill_users-requires-clause-vars : goal.fill_users-requires-clause-vars
fill_users-requires-clause-vars g c = vars_fit c.args.plan.now c.requires.valid

pub go_through-requires-clause-of : goal.go_through-requires-clause-of
go_through-requires-clause-of g c =
    users_put c.args.plan.now c.args.self.now _ c.args.users.now.values c.requires.of c.requires.users refl
    c.clear.ensures
    c.fill_users.ensures refl refl refl

pub go_through-requires-clause-may : goal.go_through-requires-clause-may
go_through-requires-clause-may g c = record {
  users = c.requires.users;
  fit = c.requires.fit;
  cleared = c.clear.ensures ∙ ap (λ n. replicate n None) c.requires.of.overlay;
  taken = ap (λ (s : Sources). s.user) c.fill_users.ensures;
  follow = λ k net below at. absurd (omega (arith, below));
}

pub returns-clause-taken : goal.returns-clause-taken
returns-clause-taken g c = record {
  sources = c.go_through.ensures.gone.taken;
  blank = c.go_through.ensures.gone.blank;
  nets = λ k net below at.
      took c.args.plan.now (users_of c.args.users.now) 0 _ _ _ _ _ c.go_through.ensures.gone.cost k net below at;
}
