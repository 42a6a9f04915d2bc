-- The stages before this one have settled, and the nets from it on are as before.
use Rattle.std.proofs.Common.{◌≡◌, None}
use Rattle.vc_plan_users.specs.Choosing.{users_of}
use Rattle.vc_session_evaluation.specs.Costing.{GoOn}
use Rattle.vc_session_evaluation.proofs.GoingLaws.{IsAt}
use Rattle.vc_session_evaluation.proofs.ListLemmas.{StayFrom}
use Rattle.vc_session_evaluation.proofs.stages.Stages.go_on.Given as goal

abbrev pub invariant-loop-stage : goal.invariant-loop-stage
invariant-loop-stage g l = record {
  at : IsAt l.plan (users_of l.users) l.self l.stage;
  calm : l.self.broken ≡ None;
  taken : l.self.sources.user ≡ l.users.values;
  later : StayFrom l.stage l.fn.self.nets.items l.self.nets.items;
  cost : GoOn l.plan (users_of l.users) 0 l.stage l.fn.self.nets.items l.self.nets.items l.fn.steps l.steps;
}
