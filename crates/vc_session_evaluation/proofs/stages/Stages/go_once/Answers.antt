-- All stages at once.
use Rattle.std.proofs.Common.{◌≡◌, ◌∙◌, ap, length, refl, subst, sym}
use Rattle.vc_plan.specs.Entries.{no_entries}
use Rattle.vc_plan.specs.Evaluate.{sources_of}
use Rattle.vc_plan.specs.Sources.{Sources}
use Rattle.vc_plan_reasons.specs.Fitting.{sources_fit}
use Rattle.vc_plan_reasons.proofs.ReasonLaws.Fitting.{stages_fit}
use Rattle.vc_plan_users.specs.Choosing.{users_of}
use Rattle.vc_proc.proofs.StageLaws.{none_are_replicas}
use Rattle.vc_session_evaluation.specs.Costing.{GoOn, nets_asked}
use Rattle.vc_session_evaluation.specs.Going.{SettlesAt, with_late}
use Rattle.vc_session_evaluation.proofs.BlankLaws.{none_blank}
use Rattle.vc_session_evaluation.proofs.OnceLaws.{once_breaks, once_evaluated, once_goes_on, one_net}
use Rattle.vc_session_evaluation.proofs.stages.Stages.go_once.Goals as goal

pub settle-requires-clause-fits : goal.settle-requires-clause-fits
settle-requires-clause-fits g c =
    let plan = c.args.plan.now in
    let users = users_of c.args.users.now in
    let blank : c.args.self.now.overlay ≡ no_entries plan =
    c.requires.may.cleared ∙ sym (none_are_replicas plan) in
    ap (λ entries. sources_fit plan (sources_of users entries)) blank
    ∙ (stages_fit plan users c.requires.valid.own_writes c.requires.may.fit).first

pub returns-then-settle-clause-gone : goal.returns-then-settle-clause-gone
returns-then-settle-clause-gone g c =
    let plan = c.args.plan.now in
    let users = users_of c.args.users.now in
    let mid = c.settle.new.self in
    let blank = c.requires.may.cleared ∙ sym (none_are_replicas plan) in
    let settles = subst (SettlesAt plan users 0 _ mid) c.if-settle.true c.settle.ensures.settles in
    let all : nets_asked mid.nets.items mid.broken ≡ 1 =
    ap (nets_asked mid.nets.items) (settles.broken ∙ c.requires.calm)
    ∙ one_net plan mid settles.of c.requires.none in
    record {
      evaluated = once_evaluated plan users _ mid (with_late mid c.flag_none.new.late) c.requires.none
          (one_net plan c.args.self.now c.requires.of c.requires.none) blank settles refl refl c.flag_none.ensures
          (settles.broken ∙ c.requires.calm);
      cost = subst (λ n. GoOn plan users 0 n c.args.self.now.nets.items mid.nets.items c.args.steps.now
          c.settle.new.steps) (sym all)
          (once_goes_on plan users _ mid c.args.steps.now c.settle.new.steps blank c.settle.ensures.syncs);
      taken = ap (λ (s : Sources). s.user) settles.sources;
      blank = none_blank mid.written mid.overlay (length plan.vars) (settles.overlay ∙ c.requires.may.cleared);
    }

pub returns-else-settle-clause-gone : goal.returns-else-settle-clause-gone
returns-else-settle-clause-gone g c =
    let plan = c.args.plan.now in
    let users = users_of c.args.users.now in
    let mid = c.settle.new.self in
    let blank = c.requires.may.cleared ∙ sym (none_are_replicas plan) in
    let settles = subst (SettlesAt plan users 0 _ mid) c.if-settle.false c.settle.ensures.settles in
    record {
      evaluated = once_breaks plan users _ mid _ (one_net plan c.args.self.now c.requires.of c.requires.none) blank
          settles refl refl;
      cost = once_goes_on plan users _ mid c.args.steps.now c.settle.new.steps blank c.settle.ensures.syncs;
      taken = ap (λ (s : Sources). s.user) settles.sources;
      blank = none_blank mid.written mid.overlay (length plan.vars) (settles.overlay ∙ c.requires.may.cleared);
    }
