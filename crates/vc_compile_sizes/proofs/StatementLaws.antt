-- The statements of procedures look up as they should.
use Rattle.std.proofs.Common.{◌≡◌, ℕ, Bool, true, false, List, [], ◌∷◌, flat_map, map, refl}
use Rattle.std.specs.List.{list_any}
use Rattle.std.proofs.lemmas.Bool.{or_parts}
use Rattle.vc_model_parts.specs.declared.parts.Model.{Model}
use Rattle.vc_plan.specs.LookUps.{action_proper}
use Rattle.vc_plan.specs.declared.plans.Plan.{Plan}
use Rattle.vc_syntax_tree.specs.Trees as syntax
use Rattle.vc_table.specs.declared.table.VariantTable.{VariantTable}
use Rattle.vc_types.specs.Looking.{table_named}
use Rattle.vc_types.specs.NameFaults.{is_unknown_call, names_column_twice, some_twice}
use Rattle.vc_types.specs.Occurrences.{call_of_action}
use Rattle.vc_types.specs.PlaceFaults.{looks_up_wrongly}
use Rattle.vc_types.specs.declared.place.At.TheVariants as at
use Rattle.vc_compile_plan.specs.Layouts.{layout_of}
use Rattle.vc_compile_plan.specs.Numbering.{action_from}
use Rattle.vc_compile_plan.specs.Places.{place_at, procedure_site}
use Rattle.vc_compile_plan.specs.PlanOf.{IsPlanOf}
use Rattle.vc_compile_plan.specs.Procedures.{Action, action_at}
use Rattle.vc_compile_plan.specs.Sites.{Site}
use Rattle.vc_compile_valid.proofs.EachLaws.{Each}
use Rattle.vc_compile_meant.specs.Scopes.{IsTyped}
use Rattle.vc_compile_meant.proofs.FaultLaws.{each_false, each_unflat, is_sound, names_known}
use Rattle.vc_compile_origins.proofs.OriginLaws.{statements_pass}
use Rattle.vc_compile_origins.proofs.Origins.{HoldsOfActions}
use Rattle.vc_compile_sizes.specs.LookUps.{HasColumnsApart, HasLookUps}
use Rattle.vc_compile_sizes.proofs.LookUpLaws.{look_up_proper}

abbrev IsProper : Plan → Action → Type 0
IsProper plan action = (t : ℕ) → action_proper plan (action_from t action) ≡ true

-- what is known of a statement's call
abbrev OfCalls : (syntax.TableCall → Type 0) → syntax.Statement → Type 0
OfCalls P s = Each P (call_of_action s.action)

action_is_proper : (model : Model) (tables : List VariantTable) (plan : Plan) → IsPlanOf model tables plan
    → HasColumnsApart plan
    → (site : Site) → site.setting.model ≡ model → (a : syntax.Action)
    → Each (λ call. is_unknown_call site.setting call ≡ false) (call_of_action a)
    → Each (λ call. names_column_twice call ≡ false) (call_of_action a)
    → Each (λ call. looks_up_wrongly site.setting call (table_named site.setting.model call.table.name) ≡ false)
    (call_of_action a)
    → IsProper plan (action_at (layout_of model) site a)
action_is_proper model tables plan is apart site of (syntax.Assign name term) known twice right t = refl
action_is_proper model tables plan is apart site of (syntax.SetDefault name term) known twice right t = refl
action_is_proper model tables plan is apart site of (syntax.DelDefault name term) known twice right t = refl
action_is_proper model tables plan is apart site of (syntax.Calls call) known twice right t =
    look_up_proper model tables plan is apart site of call known.0 twice.0 right.0 t

statements_proper : (model : Model) (tables : List VariantTable) (plan : Plan) → IsPlanOf model tables plan
    → HasColumnsApart plan
    → (site : Site) → site.setting.model ≡ model → (ss : List syntax.Statement)
    → Each (OfCalls (λ call. is_unknown_call site.setting call ≡ false)) ss
    → Each (OfCalls (λ call. names_column_twice call ≡ false)) ss
    → Each (OfCalls (λ call. looks_up_wrongly site.setting call (table_named site.setting.model call.table.name)
    ≡ false)) ss
    → Each (λ s. IsProper plan (action_at (layout_of model) site s.action)) ss
statements_proper model tables plan is apart site of [] known twice right = tt
statements_proper model tables plan is apart site of (s ∷ ss) known twice right = (
  action_is_proper model tables plan is apart site of s.action known.0 twice.0 right.0,
  statements_proper model tables plan is apart site of ss known.1 twice.1 right.1,
)

actions_hold : (model : Model) (tables : List VariantTable) (plan : Plan) → IsPlanOf model tables plan
    → HasColumnsApart plan
    → HoldsOfActions (IsProper plan) model
actions_hold model tables plan is apart = record {
  at_slot = λ i slot ss stands.
      let site = procedure_site (layout_of model) i slot in
      let tree = syntax.Procedure ss in
      let sound = is_sound model (place_at (layout_of model) slot at.Procedure) tree stands.sound in
      let calls = flat_map (λ s. call_of_action s.action) ss in
      let wrongly : syntax.TableCall → Bool
      = λ call. looks_up_wrongly site.setting call (table_named site.setting.model call.table.name) in
      let doubles
      = or_parts (some_twice (map (λ variable. variable.name) site.setting.variables))
      (list_any names_column_twice calls) sound.double in
      statements_proper model tables plan is apart site refl ss
      (each_unflat (λ call. is_unknown_call site.setting call ≡ false) (λ s. call_of_action s.action) ss
      (each_false (is_unknown_call site.setting) calls (names_known site.setting tree sound).1))
      (each_unflat (λ call. names_column_twice call ≡ false) (λ s. call_of_action s.action) ss
      (each_false names_column_twice calls doubles.1))
      (each_unflat (λ call. wrongly call ≡ false) (λ s. call_of_action s.action) ss
      (each_false wrongly calls sound.keys));
}

pub has_look_ups : (model : Model) (tables : List VariantTable) (plan : Plan) → IsPlanOf model tables plan
    → HasColumnsApart plan
    → IsTyped model → HasLookUps plan
has_look_ups model tables plan is apart sound = record {
  look_ups = statements_pass (IsProper plan) (λ statement. action_proper plan statement.action) model tables plan is
      sound
      (actions_hold model tables plan is apart) (λ c t d proper cs ts. proper t);
}
