-- From stage to stage.
use Rattle.std.proofs.Common.{◌≡◌, ◌∙◌, ℕ, suc, ◌+◌, ◌-◌, None, ap, arith, refl, subst, sym}
use Rattle.vc_plan.specs.Evaluate.{sources_of}
use Rattle.vc_plan.specs.Sources.{Sources}
use Rattle.vc_plan_reasons.specs.Fitting.{sources_fit}
use Rattle.vc_plan_users.specs.Choosing.{users_of}
use Rattle.vc_session_evaluation.specs.Evaluating.{EndsAt}
use Rattle.vc_session_evaluation.specs.Going.{SettlesAt}
use Rattle.vc_session_evaluation.specs.Costing.{GoOn, nets_asked}
use Rattle.vc_session_evaluation.proofs.CostLaws.{stage_next}
use Rattle.vc_session_evaluation.proofs.BlankLaws.{entries_blank}
use Rattle.vc_session_evaluation.proofs.FollowLaws.{follows_on}
use Rattle.vc_session_evaluation.proofs.ListLemmas.{stay_next}
use Rattle.vc_session_evaluation.proofs.GoingLaws.{IsAt, begins, breaks, ends, goes_on, lies_at, nets_apart}
use Rattle.vc_session_evaluation.proofs.stages.Stages.go_on.Goals as goal

pub loop-stage-init : goal.loop-stage-init
loop-stage-init g c = record {
  at = begins c.args.plan.now (users_of c.args.users.now) c.args.self.now _ c.requires.valid c.requires.may.fit
      c.requires.of c.requires.some refl refl refl refl refl refl c.requires.may.cleared;
  calm = c.requires.calm;
  taken = c.requires.may.taken;
  later = λ i h. refl;
  cost = (refl, refl);
}

pub write-requires-clause-lies : goal.write-requires-clause-lies
write-requires-clause-lies g c =
    let plan = c.args.plan.now in
    let users = users_of c.args.users.now in
    lies_at plan users c.loop-stage.stage c.loop-stage.self c.settle.new.self c.requires.valid
    (omega (
      arith,
      c.loop-stage-test.true,
      c.stages-last.ensures,
      nets_apart plan c.loop-stage.self c.loop-stage.invariant.at.of c.loop-stage.invariant.at.some,
    ))
    (subst (SettlesAt plan users c.loop-stage.stage c.loop-stage.self c.settle.new.self) c.if-not-settle.false
    c.settle.ensures.settles)

pub loop-stage-preserved : goal.loop-stage-preserved
loop-stage-preserved g c =
    let plan = c.args.plan.now in
    let users = users_of c.args.users.now in
    let next : suc c.loop-stage.stage ≡ c.loop-stage.stage + 1 = omega arith in
    record {
      at = goes_on plan users c.loop-stage.stage c.loop-stage.self c.settle.new.self c.write.new.self c.requires.valid
          c.requires.may.fit
          (omega (arith, c.loop-stage-test.true, c.stages-last.ensures)) c.loop-stage.invariant.at
          (subst (SettlesAt plan users c.loop-stage.stage c.loop-stage.self c.settle.new.self) c.if-not-settle.false
          c.settle.ensures.settles)
          c.write.ensures;
      calm = c.write.ensures.broken ∙ c.settle.ensures.settles.broken ∙ c.loop-stage.invariant.calm;
      taken = ap (λ (s : Sources). s.user) (c.write.ensures.sources ∙ c.settle.ensures.settles.sources);
      later = stay_next c.args.self.now.nets.items c.loop-stage.self.nets.items c.write.new.self.nets.items
          c.loop-stage.stage c.settle.ensures.settles.net c.loop-stage.invariant.later
          (c.write.ensures.nets ∙ c.settle.ensures.settles.nets);
      cost = subst (λ nets. GoOn plan users 0 (c.loop-stage.stage + 1) c.args.self.now.nets.items nets
          c.args.steps.now c.settle.new.steps) (sym c.write.ensures.nets)
          (subst (λ n. GoOn plan users 0 n c.args.self.now.nets.items c.settle.new.self.nets.items
          c.args.steps.now c.settle.new.steps) next
          (stage_next plan users c.loop-stage.stage c.args.self.now.nets.items c.loop-stage.self c.settle.new.self
          c.args.steps.now c.loop-stage.steps c.settle.new.steps
          (omega (arith, c.loop-stage-test.true, c.stages-last.ensures)) c.loop-stage.invariant.at
          c.loop-stage.invariant.cost c.settle.ensures.syncs));
    }

pub settle-requires-clause-follows : goal.settle-requires-clause-follows
settle-requires-clause-follows g c =
    follows_on c.args.touched.now c.args.users.now.values c.args.following c.loop-stage.stage c.loop-stage.stage
    c.args.self.now.nets.items c.loop-stage.self.nets.items c.requires.may.follow c.loop-stage.invariant.later
    (omega arith)

pub returns-then-not-settle-clause-gone : goal.returns-then-not-settle-clause-gone
returns-then-not-settle-clause-gone g c =
    let plan = c.args.plan.now in
    let users = users_of c.args.users.now in
    let stage = c.loop-stage.stage in
    let mid = c.settle.new.self in
    let at = c.loop-stage.invariant.at in
    let settles = subst (SettlesAt plan users stage c.loop-stage.self mid) c.if-not-settle.true
    c.settle.ensures.settles in
    record {
      evaluated = breaks plan users stage c.loop-stage.self mid _
          (omega (arith, c.loop-stage-test.true, c.stages-last.ensures)) at settles refl refl;
      cost = stage_next plan users stage c.args.self.now.nets.items c.loop-stage.self mid
          c.args.steps.now c.loop-stage.steps c.settle.new.steps
          (omega (arith, c.loop-stage-test.true, c.stages-last.ensures)) at
          c.loop-stage.invariant.cost c.settle.ensures.syncs;
      taken = ap (λ (s : Sources). s.user) settles.sources;
      blank = entries_blank plan users mid.overlay mid.written settles.of.writes
          (ap (λ entries. sources_fit plan (sources_of users entries)) settles.overlay ∙ at.fits);
    }

pub returns-then-settle-clause-gone : goal.returns-then-settle-clause-gone
returns-then-settle-clause-gone g c =
    let plan = c.args.plan.now in
    let users = users_of c.args.users.now in
    let last : ℕ = c.stages-last.result - 1 in
    let mid = c.settle-2.new.self in
    let new = c.mark_late.new.self in
    let marks = c.mark_late.ensures in
    let there : c.loop-stage.stage ≡ last = omega (arith, c.loop-stage-test.false, c.loop-stage.auto.stage-end) in
    let at = subst (IsAt plan users c.loop-stage.self) there c.loop-stage.invariant.at in
    let settles = subst (SettlesAt plan users last c.loop-stage.self mid) c.if-settle.true
    c.settle-2.ensures.settles in
    let calm : new.broken ≡ None = marks.broken ∙ settles.broken ∙ c.loop-stage.invariant.calm in
    let all : suc last ≡ nets_asked new.nets.items new.broken =
    (omega (arith, c.stages-last.ensures, nets_apart plan new marks.of c.requires.some))
    ∙ ap (nets_asked new.nets.items) (sym calm) in
    record {
      evaluated = subst (EndsAt plan users new) (sym calm)
          (ends plan users last c.loop-stage.self mid new (omega (arith, c.stages-last.ensures)) at settles marks);
      cost = subst (λ n. GoOn plan users 0 n c.args.self.now.nets.items new.nets.items c.args.steps.now
          c.settle-2.new.steps) all
          (subst (λ nets. GoOn plan users 0 (suc last) c.args.self.now.nets.items nets c.args.steps.now
          c.settle-2.new.steps) (sym marks.nets)
          (stage_next plan users last c.args.self.now.nets.items c.loop-stage.self mid
          c.args.steps.now c.loop-stage.steps c.settle-2.new.steps (omega (arith, c.stages-last.ensures)) at
          (subst (λ n. GoOn plan users 0 n c.args.self.now.nets.items c.loop-stage.self.nets.items c.args.steps.now
          c.loop-stage.steps) there c.loop-stage.invariant.cost) c.settle-2.ensures.syncs));
      taken = ap (λ (s : Sources). s.user) (marks.sources ∙ settles.sources);
      blank = entries_blank plan users new.overlay new.written marks.of.writes
          (ap (λ entries. sources_fit plan (sources_of users entries)) (marks.overlay ∙ settles.overlay) ∙ at.fits);
    }

pub returns-else-settle-clause-gone : goal.returns-else-settle-clause-gone
returns-else-settle-clause-gone g c =
    let plan = c.args.plan.now in
    let users = users_of c.args.users.now in
    let last : ℕ = c.stages-last.result - 1 in
    let mid = c.settle-2.new.self in
    let there : c.loop-stage.stage ≡ last = omega (arith, c.loop-stage-test.false, c.loop-stage.auto.stage-end) in
    let at = subst (IsAt plan users c.loop-stage.self) there c.loop-stage.invariant.at in
    let settles = subst (SettlesAt plan users last c.loop-stage.self mid) c.if-settle.false
    c.settle-2.ensures.settles in
    record {
      evaluated = breaks plan users last c.loop-stage.self mid _ (omega (arith, c.stages-last.ensures)) at settles refl
          refl;
      cost = stage_next plan users last c.args.self.now.nets.items c.loop-stage.self mid
          c.args.steps.now c.loop-stage.steps c.settle-2.new.steps (omega (arith, c.stages-last.ensures)) at
          (subst (λ n. GoOn plan users 0 n c.args.self.now.nets.items c.loop-stage.self.nets.items c.args.steps.now
          c.loop-stage.steps) there c.loop-stage.invariant.cost) c.settle-2.ensures.syncs;
      taken = ap (λ (s : Sources). s.user) settles.sources;
      blank = entries_blank plan users mid.overlay mid.written settles.of.writes
          (ap (λ entries. sources_fit plan (sources_of users entries)) settles.overlay ∙ at.fits);
    }
