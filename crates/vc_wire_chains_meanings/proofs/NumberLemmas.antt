-- Numbers of 32 bits name what a valid plan has.
use Rattle.std.proofs.Common.{◌≤◌, length, arith}
use Rattle.std.proofs.lemmas.Bool.{leb-true, ltb-true}
use Rattle.vc_plan.specs.declared.plans.Plan.{Plan}
use Rattle.vc_plan.specs.Domains.{atom_count}
use Rattle.vc_plan.specs.Valid.{IsValid}
use Rattle.vc_plan.proofs.PlanLaws.Counts.{vars_within}
use Rattle.vc_wire_chains_meanings.specs.Meant.{HasNumbers}

pub have_numbers : (plan : Plan) → IsValid plan → HasNumbers plan
have_numbers plan valid = record {
  characteristics = let most : length plan.characteristics ≤ 2_000 = leb-true _ _ valid.characteristic_limit in
      omega (arith, most);
  dependencies = let most : length plan.dependencies ≤ 2_000 = leb-true _ _ valid.dependency_limit in
      omega (arith, most);
  vars =
      let most : atom_count plan ≤ 40_000 = leb-true (atom_count plan) 40_000 valid.atom_limit in
      let within = vars_within plan (length plan.vars) in
      omega (arith, most, within);
  rules = let most : length plan.rules ≤ 20_000 = leb-true (length plan.rules) 20_000 valid.rule_limit in
      omega (arith, most);
  procedures = ltb-true _ _ valid.procedure_limit;
  atoms = let most : atom_count plan ≤ 40_000 = leb-true (atom_count plan) 40_000 valid.atom_limit in
      omega (arith, most);
}
