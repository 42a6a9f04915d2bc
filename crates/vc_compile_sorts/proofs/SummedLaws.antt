-- Each sum over parts is of numbers that some part has: in all conditions and terms of a plan.
use Rattle.std.proofs.Common.{◌≡◌, ℕ, true, List, refl, ◌∙◌}
use Rattle.std.proofs.lemmas.Bool.{and_from, and_parts}
use Rattle.vc_model_parts.specs.declared.parts.Model.{Model}
use Rattle.vc_plan.specs.PartSums.{condition_sums_numbers, sums_numbers}
use Rattle.vc_plan.specs.declared.plans.Plan.{Plan}
use Rattle.vc_plan.specs.declared.plans.Slot.{Slot}
use Rattle.vc_syntax_tree.specs.Trees as syntax
use Rattle.vc_table.specs.declared.table.VariantTable.{VariantTable}
use Rattle.vc_types.specs.declared.place.At.{At}
use Rattle.vc_compile_plan.specs.Layouts.{layout_of}
use Rattle.vc_compile_plan.specs.PlanOf.{IsPlanOf}
use Rattle.vc_compile_plan.specs.Places.{site_at}
use Rattle.vc_compile_plan.specs.Rules.{constraint_site}
use Rattle.vc_compile_valid.specs.Domains.{HasLists}
use Rattle.vc_compile_valid.specs.Models.{KeepsParts}
use Rattle.vc_compile_meant.specs.Scopes.{IsTyped}
use Rattle.vc_compile_origins.proofs.Origins.{HoldsOfConditions, HoldsOfTerms, StandsAt, StandsIn}
use Rattle.vc_compile_origins.proofs.OriginLaws.{conditions_pass, terms_pass}
use Rattle.vc_compile_origins.proofs.SiteLaws.{slot_sound, tuple_sound}
use Rattle.vc_compile_origins.proofs.SumLaws.{no_sums}
use Rattle.vc_compile_sorts.specs.Sorts.{HasSums}
use Rattle.vc_compile_sorts.proofs.PartLaws.{slot_summed}
use Rattle.vc_compile_sorts.proofs.SumTrees.{IsSummed, IsSummedTree, asked_same, asks_sums, sums_same, sums_tree}
use Rattle.vc_compile_sorts.proofs.SumTrees.{tree_summed}

slot_tree : (model : Model) (tables : List VariantTable) (plan : Plan) → IsPlanOf model tables plan → KeepsParts model
    → HasLists plan
    → (i : ℕ) (slot : Slot) (place : At) (tree : syntax.Dependency) → StandsAt model i slot place tree
    → IsSummedTree plan (layout_of model) (site_at (layout_of model) i slot place) tree
slot_tree model tables plan is keeps lists i slot place tree stands =
    tree_summed plan (layout_of model) (site_at (layout_of model) i slot place) tree
    (slot_summed model tables plan is keeps lists i slot stands.there place tree stands.acts
    (slot_sound model i slot place tree stands))

-- no sum stands in a constraint
tuple_tree : (model : Model) (plan : Plan) (constraint : syntax.Constraint) (tuple : List ℕ)
    → StandsIn model constraint tuple
    → IsSummedTree plan (layout_of model) (constraint_site (layout_of model) constraint tuple)
    (syntax.Constrains constraint)
tuple_tree model plan constraint tuple stands =
    let sound = tuple_sound model constraint tuple stands in
    tree_summed plan (layout_of model) (constraint_site (layout_of model) constraint tuple)
    (syntax.Constrains constraint)
    (no_sums (IsSummed plan (layout_of model) (constraint_site (layout_of model) constraint tuple))
    (syntax.Constrains constraint) sound.sums)

pub has_sums : (model : Model) (tables : List VariantTable) (plan : Plan) → IsPlanOf model tables plan
    → KeepsParts model
    → HasLists plan
    → IsTyped model → HasSums plan
has_sums model tables plan is keeps lists sound =
    let conditions : HoldsOfConditions (λ c. asks_sums plan c ≡ true) model = record {
      always = refl;
      parts = λ c d h. and_parts (asks_sums plan c) (asks_sums plan d) h;
      whole = λ c d h k. and_from (asks_sums plan c) (asks_sums plan d) h k;
      at_slot = λ i slot place tree stands.
          (slot_tree model tables plan is keeps lists i slot place tree stands).conditions;
      at_tuple = λ constraint tuple stands. (tuple_tree model plan constraint tuple stands).conditions;
    } in
    let terms : HoldsOfTerms (λ t. sums_tree plan t ≡ true) model = record {
      at_slot = λ i slot place tree stands. (slot_tree model tables plan is keeps lists i slot place tree stands).terms;
      at_tuple = λ constraint tuple stands. (tuple_tree model plan constraint tuple stands).sides;
    } in
    record {
      sums_asked = conditions_pass (λ c. asks_sums plan c ≡ true) (condition_sums_numbers plan)
          (λ c h. asked_same plan c ∙ h) model tables plan
          is sound conditions;
      sums_meant = terms_pass (λ t. sums_tree plan t ≡ true) (sums_numbers plan)
          (λ t h. sums_same plan t ∙ h) model tables plan is sound terms;
    }
