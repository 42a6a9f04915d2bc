-- There are few statements.
use Rattle.std.proofs.Common.{◌^◌, Bool, length, ap, subst, arith}
use Rattle.std.specs.Prelude.{nat_lt}
use Rattle.std.proofs.lemmas.Bool.{ltb-true}
use Rattle.vc_plan.specs.declared.procedures.Procedure.{Procedure}
use Rattle.vc_plan_values.proofs.TermLemmas.{PassesIf, all_get}
use Rattle.vc_proc.proofs.running.run_whole.Goals as goal

abbrev few : Procedure → Bool
few procedure = nat_lt (length procedure.statements) (2 ^ 32)

pub run_statements-requires-clause-few : goal.run_statements-requires-clause-few
run_statements-requires-clause-few g c =
    let one
    = subst (PassesIf few) c.requires.there
    (all_get few c.args.plan.now.procedures c.args.proc c.requires.can.few_statements) in
    let below = ltb-true (length c.args.procedure.now.statements) (2 ^ 32) one in
    let same = ap length c.as_slice.ensures in
    omega (arith, below, same)
