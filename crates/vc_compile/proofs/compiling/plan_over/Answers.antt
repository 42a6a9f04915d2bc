-- What isn't typed, or too large, refuses the layout.
use Rattle.std.proofs.lemmas.Result.{err_from_is_err_and}
use Rattle.vc_compile_layout.specs.Standing.{layout_seen}
use Rattle.vc_compile.proofs.RefusalLaws.{size_refuses}
use Rattle.vc_compile.proofs.compiling.plan_over.Goals as goal

pub returns-in_err-typed-clause-fault : goal.returns-in_err-typed-clause-fault
returns-in_err-typed-clause-fault c =
    let p = err_from_is_err_and c.from_residual.result c.from_residual.ensures.1 in
    rw (p.1, p.2) (c.in_err-typed.ensures.fault c.args.tables.now)

pub returns-in_err-plan-in-Some-2-clause-fault : goal.returns-in_err-plan-in-Some-2-clause-fault
returns-in_err-plan-in-Some-2-clause-fault c =
    let p
    = err_from_is_err_and c.from_residual-in_err-plan-in-Some-2.result
    c.from_residual-in_err-plan-in-Some-2.ensures.1 in
    rw (p.1, p.2) (size_refuses (layout_seen c.args.layout) c.args.tables.now c.in_ok-plan-in-Some.plan
    c.in_err-plan-in-Some-2.field-0.0
    c.in_ok-typed.ensures.typed c.in_ok-plan-in-Some.ensures c.in_err-plan-in-Some-2.ensures.fault)
