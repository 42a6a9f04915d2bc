-- All that conditions, terms, rules and procedures of a plan name is there.
use Rattle.std.proofs.Common.{◌≡◌, true, List}
use Rattle.vc_model_parts.specs.declared.parts.Model.{Model}
use Rattle.vc_plan.specs.LookUps.{trigger_listed, writes_own}
use Rattle.vc_plan.specs.ProcedureRanges.{procedure_there}
use Rattle.vc_plan.specs.Ranges.{condition_there, term_there}
use Rattle.vc_plan.specs.RuleRanges.{rule_there}
use Rattle.vc_plan.specs.RuleShapes.{stays_at_its_slots}
use Rattle.vc_plan.specs.declared.plans.Plan.{Plan}
use Rattle.vc_plan.specs.declared.procedures.Procedure.{Procedure}
use Rattle.vc_plan.specs.declared.rules.Rule.{Rule}
use Rattle.vc_syntax_tree.specs.Trees as syntax
use Rattle.vc_table.specs.declared.table.VariantTable.{VariantTable}
use Rattle.vc_compile_plan.specs.Layouts.{layout_of}
use Rattle.vc_compile_plan.specs.PlanOf.{IsPlanOf}
use Rattle.vc_compile_plan.specs.Places.{site_at}
use Rattle.vc_compile_plan.specs.Rules.{constraint_site}
use Rattle.vc_compile_valid.specs.Domains.{HasLists}
use Rattle.vc_compile_valid.specs.Places.{HasPlaces}
use Rattle.vc_compile_valid.proofs.EachLaws.{each_both, each_passes, each_tested}
use Rattle.vc_compile_meant.specs.Scopes.{HasOwnSlots, HasScopes, IsTyped}
use Rattle.vc_compile_origins.proofs.OriginLaws.{conditions_pass, procedures_hold, rules_hold, terms_pass}
use Rattle.vc_compile_origins.proofs.Origins.{HoldsOfConditions, HoldsOfTerms}
use Rattle.vc_compile_ranges.specs.Numbers.{KeepsNumbers}
use Rattle.vc_compile_ranges.specs.Ranges.{HasRanges}
use Rattle.vc_compile_ranges.proofs.MeantLaws.{fit_at, fit_in, names_asked, names_demanded, names_meant, no_sets_in}
use Rattle.vc_compile_ranges.proofs.ProcedureLaws.{IsNamedProcedure, procedure_made, procedures_named}
use Rattle.vc_compile_ranges.proofs.RuleLaws.{IsNamedRule, rule_made, rules_named}
use Rattle.vc_compile_ranges.proofs.SaidLaws.{ConditionNames, TermNames, stored_condition, stored_term}

asks_there : (model : Model) (tables : List VariantTable) (plan : Plan) → IsPlanOf model tables plan
    → KeepsNumbers model
    → HoldsOfConditions (ConditionNames plan) model
asks_there model tables plan is keeps = record {
  always = (tt, tt);
  parts = λ c d h. ((h.0.0, h.1.0), (h.0.1, h.1.1));
  whole = λ c d h k. ((h.0, k.0), (h.1, k.1));
  at_slot = λ i slot place tree stands.
      names_asked model tables plan is (site_at (layout_of model) i slot place) tree
      (fit_at model tables plan is keeps i slot place tree stands);
  at_tuple = λ constraint tuple stands.
      names_asked model tables plan is (constraint_site (layout_of model) constraint tuple)
      (syntax.Constrains constraint)
      (fit_in model tables plan is keeps constraint tuple stands);
}

means_there : (model : Model) (tables : List VariantTable) (plan : Plan) → IsPlanOf model tables plan
    → KeepsNumbers model
    → HoldsOfTerms (TermNames plan) model
means_there model tables plan is keeps = record {
  at_slot = λ i slot place tree stands.
      names_meant model tables plan is (site_at (layout_of model) i slot place) tree
      (fit_at model tables plan is keeps i slot place tree stands);
  at_tuple = λ constraint tuple stands.
      names_demanded model tables plan is (constraint_site (layout_of model) constraint tuple)
      (syntax.Constrains constraint)
      (fit_in model tables plan is keeps constraint tuple stands) (no_sets_in model constraint tuple stands);
}

pub has_ranges : (model : Model) (tables : List VariantTable) (plan : Plan) → IsPlanOf model tables plan
    → KeepsNumbers model
    → HasLists plan → HasPlaces plan → HasScopes plan → HasOwnSlots plan → IsTyped model → HasRanges plan
has_ranges model tables plan is keeps lists places scopes slots sound =
    let Stays : Rule → Type 0 = λ x. stays_at_its_slots plan x ≡ true in
    let Ruled : Rule → Type 0 = λ x. stays_at_its_slots plan x ≡ true → rule_there plan x ≡ true in
    let Proper : Procedure → Type 0 = λ x. (writes_own plan x ≡ true) × (trigger_listed plan x.slot x.trigger ≡ true) in
    let Acted : Procedure → Type 0 = λ x. (writes_own plan x ≡ true) × (trigger_listed plan x.slot x.trigger ≡ true)
    → procedure_there plan x ≡ true in
    let Writes : Procedure → Type 0 = λ x. writes_own plan x ≡ true in
    let Listed : Procedure → Type 0 = λ x. trigger_listed plan x.slot x.trigger ≡ true in
    record {
      conditions_there = conditions_pass (ConditionNames plan) (condition_there plan)
          (λ c h. stored_condition plan c h.0 h.1) model tables plan
          is sound (asks_there model tables plan is keeps);
      terms_there = terms_pass (TermNames plan) (term_there plan)
          (λ t h. stored_term plan t h.0 h.1) model tables plan is sound
          (means_there model tables plan is keeps);
      rules_there = each_passes (λ x. Ruled x × Stays x) (rule_there plan) (λ x h. h.0 h.1) plan.rules
          (each_both Ruled Stays plan.rules
          (rules_hold (IsNamedRule plan) Ruled model tables plan is sound (rules_named model tables plan is keeps)
          (rule_made model tables plan is)) (each_tested (stays_at_its_slots plan) plan.rules slots.own_slots));
      procedures_there = each_passes (λ x. Acted x × Proper x) (procedure_there plan) (λ x h. h.0 h.1) plan.procedures
          (each_both Acted Proper plan.procedures
          (procedures_hold (IsNamedProcedure plan) Acted model tables plan is sound
          (procedures_named model tables plan is)
          (procedure_made model tables plan is lists.characteristics_there))
          (each_both Writes Listed plan.procedures (each_tested (writes_own plan) plan.procedures scopes.own_writes)
          (each_tested (λ x. trigger_listed plan x.slot x.trigger) plan.procedures places.triggers)));
    }
