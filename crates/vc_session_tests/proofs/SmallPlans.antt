-- Procedures can run of a plan with one list of two texts and one procedure.
use Rattle.std.proofs.Common.{◌≡◌, ℕ, zero, suc, ◌^◌, ◌<◌, ◌≤◌, true, ◌&&◌, List, [], ◌∷◌, length, map, refl, ◌∙◌, ap}
use Rattle.std.proofs.Common.{arith}
use Rattle.std.specs.Prelude.{nat_le, nat_lt, Option, None, Some, slice_get}
use Rattle.std.specs.List.{list_all}
use Rattle.vc_value.specs.declared.table_header.Domain.{Domain}
use Rattle.vc_value.specs.declared.table_header.Domain.TheVariants.{Texts}
use Rattle.vc_value.specs.declared.value.Value.TheVariants.{Text}
use Rattle.vc_plan.specs.declared.conditions.Condition.TheVariants.{Always}
use Rattle.vc_plan.specs.declared.plans.Plan.{Plan}
use Rattle.vc_plan.specs.declared.plans.Table.{Table}
use Rattle.vc_plan.specs.declared.plans.Var.{Var}
use Rattle.vc_plan.specs.declared.procedures.Procedure.{Procedure}
use Rattle.vc_plan.specs.declared.terms.Term.TheVariants.{Literal}
use Rattle.vc_plan.specs.Domains.{domain_of, grains_in}
use Rattle.vc_plan.specs.Orders.{are_in_order}
use Rattle.vc_plan.specs.Ranges.{condition_there, domain_there, term_there}
use Rattle.vc_plan.specs.Sizes.{condition_small, is_small}
use Rattle.vc_proc.specs.Stages.{CanRun}

grains_few : (domains : List Domain) (d : ℕ) → domains ≡ Texts (0 ∷ 1 ∷ []) ∷ []
    → length (grains_in (slice_get domains d)) ≤ 2
grains_few [] d e = omega arith
grains_few (domain ∷ []) zero e =
    let one : domain ≡ Texts (0 ∷ 1 ∷ []) = cc in
    let two = ap (λ x. length (grains_in (Some x))) one in omega (arith, two)
grains_few (domain ∷ []) (suc d) e = omega arith
grains_few (domain ∷ other ∷ domains) d e = absurd (cc)

few_each : (procedures : List Procedure) → map (λ procedure. length procedure.statements) procedures ≡ 4 ∷ []
    → list_all (λ procedure. nat_lt (length procedure.statements) (2 ^ 32)) procedures ≡ true
few_each [] e = absurd (cc)
few_each (p ∷ []) e = let four : length p.statements ≡ 4 = cc in ap (λ n. nat_lt n (2 ^ 32) && true) four
few_each (p ∷ q ∷ procedures) e = absurd (cc)

few_in_all : (procedures : List Procedure) → map (λ procedure. length procedure.statements) procedures ≡ 4 ∷ []
    → length procedures < 2 ^ 32
few_in_all [] e = absurd (cc)
few_in_all (p ∷ []) e = omega arith
few_in_all (p ∷ q ∷ procedures) e = absurd (cc)

one_by_slot : (procedures : List Procedure) → map (λ procedure. length procedure.statements) procedures ≡ 4 ∷ []
    → are_in_order (λ a b. nat_le a.slot b.slot) procedures ≡ true
one_by_slot [] e = refl
one_by_slot (p ∷ []) e = refl
one_by_slot (p ∷ q ∷ procedures) e = absurd (cc)

pub few_rows : (tables : List Table) → map (λ table. length table.rows) tables ≡ 3 ∷ []
    → list_all (λ table. nat_lt (length table.rows) (2 ^ 32)) tables ≡ true
few_rows [] e = absurd (cc)
few_rows (t ∷ []) e = let three : length t.rows ≡ 3 = cc in ap (λ n. nat_lt n (2 ^ 32) && true) three
few_rows (t ∷ u ∷ tables) e = absurd (cc)

one_stands : (vars : List Var) → length vars ≡ 1 → are_in_order (λ a b. nat_le a.slot b.slot) vars ≡ true
one_stands [] e = refl
one_stands (x ∷ []) e = refl
one_stands (x ∷ y ∷ vars) e = absurd (omega (arith, e))

pub texts_can_run : (plan : Plan) → length plan.texts ≡ 2 → plan.domains ≡ Texts (0 ∷ 1 ∷ []) ∷ []
    → length plan.slots ≡ 1
    → length plan.vars ≡ 1 → plan.conditions ≡ Always ∷ [] → plan.terms ≡ Literal (Text 1) ∷ Literal (Text 0) ∷ []
    → map (λ procedure. length procedure.statements) plan.procedures ≡ 4 ∷ [] → CanRun plan
texts_can_run plan texts domains slots vars conditions terms procedures = record {
  sums = record {
    terms = record {
      domains_there = ap (list_all (domain_there plan)) domains
          ∙ ap (λ n. (nat_lt 0 n && (nat_lt 1 n && true)) && true) texts;
      conditions_there = ap (list_all (condition_there plan)) conditions;
      terms_there = ap (list_all (term_there plan)) terms ∙ ap (λ n. nat_lt 1 n && (nat_lt 0 n && true)) texts;
      conditions_small = ap (list_all (condition_small plan)) conditions;
      terms_small = ap (list_all (is_small plan)) terms;
    };
    few_slots = omega (arith, slots);
    few_vars = omega (arith, vars);
    vars_by_slot = one_stands plan.vars vars;
  };
  grains = λ v. by (slice_get plan.vars v);
  few_procedures = few_in_all plan.procedures procedures;
  by_slot = one_by_slot plan.procedures procedures;
  few_statements = few_each plan.procedures procedures;
}
  where
    by : (x : Option Var) → length (grains_in (domain_of plan x)) < 2 ^ 32
    by None = omega arith
    by (Some x) = let few = grains_few plan.domains x.domain domains in omega (arith, few)
