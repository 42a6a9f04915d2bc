-- A plan with one condition that always holds, and one literal for a term, can be computed.
use Rattle.std.proofs.Common.{◌≡◌, true, [], ◌∷◌, length, ap, ◌∙◌, arith}
use Rattle.std.specs.List.{list_all}
use Rattle.vc_value.specs.declared.decimal.Dec.{Dec}
use Rattle.vc_value.specs.declared.value.Value.TheVariants.{Num}
use Rattle.vc_plan.specs.declared.conditions.Condition.TheVariants.{Always}
use Rattle.vc_plan.specs.declared.plans.Plan.{Plan}
use Rattle.vc_plan.specs.declared.terms.Term.TheVariants.{Literal}
use Rattle.vc_plan.specs.Ranges.{condition_there, domain_there, is_stored, term_there}
use Rattle.vc_plan.specs.Sizes.{condition_small, is_small}
use Rattle.vc_rule_readings.specs.Finding.{stands_by}
use Rattle.vc_rule_readings.specs.Summing.{SumsFit}

pub plain_fits : (plan : Plan) (n : Dec) → plan.domains ≡ [] → plan.conditions ≡ Always ∷ []
    → plan.terms ≡ Literal (Num n) ∷ []
    → is_stored n ≡ true → length plan.slots ≡ 2 → plan.vars ≡ [] → SumsFit plan
plain_fits plan n domains conditions terms stored slots vars = record {
  terms = record {
    domains_there = ap (list_all (domain_there plan)) domains;
    conditions_there = ap (list_all (condition_there plan)) conditions;
    terms_there = ap (list_all (term_there plan)) terms ∙ (let h = stored in cc);
    conditions_small = ap (list_all (condition_small plan)) conditions;
    terms_small = ap (list_all (is_small plan)) terms;
  };
  few_slots = omega (arith, slots);
  few_vars = let none = ap length vars in omega (arith, none);
  vars_by_slot = ap (stands_by (λ x. x.slot)) vars;
}
