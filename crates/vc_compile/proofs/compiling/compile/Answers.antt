-- What is found on the way to the plan tells whether the model has one.
use Rattle.std.proofs.Common.{◌≡◌, ap, ◌∙◌, subst, sym}
use Rattle.std.proofs.lemmas.Result.{err_from_is_err_and}
use Rattle.vc_compile_plan.specs.Layouts.{layout_of}
use Rattle.vc_compile_layout.specs.Standing.{layout_seen}
use Rattle.vc_compile.specs.Compiled.{IsFaultOver, IsLaidOut, IsPlanWithin}
use Rattle.vc_compile.proofs.RefusalLaws.{layout_refuses, plan_is_sound}
use Rattle.vc_compile.proofs.ValidLaws.{plan_is_valid}
use Rattle.vc_compile.proofs.compiling.compile.Goals as goal

pub returns-in_err-standings-clause-fault : goal.returns-in_err-standings-clause-fault
returns-in_err-standings-clause-fault c =
    let p = err_from_is_err_and c.from_residual.result c.from_residual.ensures.1 in
    rw (p.1, p.2) (c.in_err-standings.ensures.fault c.args.tables.now)

pub layout_over-requires : goal.layout_over-requires
layout_over-requires c =
    subst (λ model. IsLaidOut model c.in_ok-standings.standings) (sym c.in_ok-names.ensures)
    c.in_ok-standings.ensures.standings

pub returns-in_err-plan-clause-fault : goal.returns-in_err-plan-clause-fault
returns-in_err-plan-clause-fault c =
    let p = err_from_is_err_and c.from_residual-in_err-plan.result c.from_residual-in_err-plan.ensures.1 in
    let its : layout_seen c.in_ok-layout.layout ≡ layout_of c.args.model.now
    = c.in_ok-layout.ensures ∙ ap layout_of c.in_ok-names.ensures in
    let fault = c.in_err-plan.field-0.0 in
    rw (p.1, p.2) (layout_refuses c.args.model.now c.args.tables.now c.in_ok-standings.standings fault
    c.in_ok-standings.ensures.standings
    (subst (λ layout. IsFaultOver layout c.args.tables.now fault) its c.in_err-plan.ensures.fault))

pub returns-clause-plan : goal.returns-clause-plan
returns-clause-plan c =
    let its : layout_seen c.in_ok-layout.layout ≡ layout_of c.args.model.now
    = c.in_ok-layout.ensures ∙ ap layout_of c.in_ok-names.ensures in
    (subst (λ layout. IsPlanWithin layout c.args.tables.now c.in_ok-plan.plan) its c.in_ok-plan.ensures.plan).is_its

pub returns-clause-sound : goal.returns-clause-sound
returns-clause-sound c =
    let its : layout_seen c.in_ok-layout.layout ≡ layout_of c.args.model.now
    = c.in_ok-layout.ensures ∙ ap layout_of c.in_ok-names.ensures in
    plan_is_sound c.args.model.now c.args.tables.now c.in_ok-standings.standings c.in_ok-plan.plan
    c.in_ok-standings.ensures.standings
    (subst (λ layout. IsPlanWithin layout c.args.tables.now c.in_ok-plan.plan) its c.in_ok-plan.ensures.plan)

pub returns-clause-within : goal.returns-clause-within
returns-clause-within c = (c.in_ok-plan.ensures.plan).within

pub returns-clause-valid : goal.returns-clause-valid
returns-clause-valid c =
    let its : layout_seen c.in_ok-layout.layout ≡ layout_of c.args.model.now
    = c.in_ok-layout.ensures ∙ ap layout_of c.in_ok-names.ensures in
    plan_is_valid c.args.model.now c.args.tables.now c.in_ok-standings.standings c.in_ok-plan.plan
    c.in_ok-standings.ensures.standings
    (subst (λ layout. IsPlanWithin layout c.args.tables.now c.in_ok-plan.plan) its c.in_ok-plan.ensures.plan)
