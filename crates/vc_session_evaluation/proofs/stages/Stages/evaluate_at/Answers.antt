-- The user's values are put into the sources, and all stages gone through.
use Rattle.std.proofs.Common.{None, ◌∙◌, ap, refl, replicate, subst, sym}
use Rattle.vc_net.specs.Differing.{SameBeside}
use Rattle.vc_plan.specs.Sources.{Sources}
use Rattle.vc_plan_users.specs.Choosing.{users_of}
use Rattle.vc_session_evaluation.specs.Writing.{IsBlankBeside}
use Rattle.vc_session_evaluation.proofs.CostLaws.{took}
use Rattle.vc_session_evaluation.proofs.FollowLaws.{all_follow}
use Rattle.vc_session_evaluation.proofs.GoingLaws.{users_put}
use Rattle.vc_session_evaluation.proofs.stages.Stages.evaluate_at.Goals as goal

pub fill_users_at-requires-clause-beside : goal.fill_users_at-requires-clause-beside
fill_users_at-requires-clause-beside g c =
    subst (λ own. SameBeside c.args.touched.now own c.args.users.now.values)
    (sym c.requires.touched.taken.sources) c.requires.touched.same

pub clear_at-requires : goal.clear_at-requires
clear_at-requires g c =
    subst (λ vars. IsBlankBeside vars c.args.self.now.overlay) (sym c.as_slice.ensures) c.requires.touched.taken.blank

pub go_through-requires-clause-of : goal.go_through-requires-clause-of
go_through-requires-clause-of g c =
    users_put c.args.plan.now c.args.self.now _ c.args.users.now.values c.requires.of c.requires.users refl
    c.clear_at.ensures
    c.fill_users_at.ensures refl refl refl

pub go_through-requires-clause-may : goal.go_through-requires-clause-may
go_through-requires-clause-may g c = record {
  users = c.requires.users;
  fit = c.requires.fit;
  cleared = c.clear_at.ensures ∙ ap (λ n. replicate n None) c.requires.of.overlay;
  taken = ap (λ (s : Sources). s.user) c.fill_users_at.ensures;
  follow = all_follow c.args.touched.now c.args.self.now c.args.users.now.values c.nets_asked-following.result _
      c.requires.touched c.nets_asked-following.ensures refl;
}

pub returns-clause-taken : goal.returns-clause-taken
returns-clause-taken g c = record {
  sources = c.go_through.ensures.gone.taken;
  blank = c.go_through.ensures.gone.blank;
  nets = λ k net below at.
      took c.args.plan.now (users_of c.args.users.now) 0 _ _ _ _ _ c.go_through.ensures.gone.cost k net below at;
}
