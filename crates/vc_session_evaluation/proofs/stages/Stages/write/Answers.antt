-- What procedures write is written.
use Rattle.std.proofs.Common.{◌≡◌, ◌∙◌, ◌+◌, arith, ap, length, refl, subst, sym}
use Rattle.std.specs.Prelude.{Some, slice_get}
use Rattle.std.proofs.lemmas.Option.{slice_get_read}
use Rattle.vc_plan_users.specs.Choosing.{users_of}
use Rattle.vc_proc_look_ups.specs.LookUps.{AreLookUpsOf}
use Rattle.vc_session_evaluation.proofs.GoingLaws.{nets_apart, wrote}
use Rattle.vc_session_evaluation.proofs.stages.Stages.write.Goals as goal

pub run_stage-requires-clause-orders : goal.run_stage-requires-clause-orders
run_stage-requires-clause-orders c =
    subst (AreLookUpsOf c.args.plan.now) (sym (c.orders.ensures ∙ ap (λ s. s.look_ups) c.flag_before.ensures))
    c.requires.of.look_ups

pub returns : goal.returns
returns c =
    let nets = c.flag_before.new.self.nets.items in
    let net = c.index.result.now in
    let many = ap (λ s. length s.nets.items) c.flag_before.ensures in
    let found : slice_get nets c.args.stage ≡ Some net =
    slice_get_read nets (length nets) c.args.stage net refl
    (omega (
      arith,
      many,
      nets_apart c.args.plan.now c.args.self.now c.requires.of c.requires.some,
      c.requires.last,
      c.requires.there,
    )) c.index.ensures in
    wrote c.args.plan.now (users_of c.args.users.now) c.args.stage (c.args.stage + 1) c.args.self.now
    c.flag_before.new.self _ net
    c.as_slice.result.now c.requires.of c.flag_before.ensures refl found c.as_slice.ensures
    refl refl refl refl refl refl
    c.run_stage.ensures.is c.run_stage.ensures.lie
