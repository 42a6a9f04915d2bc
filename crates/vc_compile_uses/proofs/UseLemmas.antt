-- The numbers marked at slots are those of active constraints, and of what is used.
use Rattle.std.proofs.Common.{◌≡◌, ℕ, Bool, false, List, ◌++◌, map, flat_map, sym, ap, ◌∙◌, Result, Ok, Err, IfOk}
use Rattle.std.specs.Prelude.{slice_get}
use Rattle.vc_model_parts.specs.declared.parts.Model.{Model}
use Rattle.vc_plan.specs.declared.plans.Slot.{Slot}
use Rattle.vc_compile_plan.specs.Layouts.{layout_over}
use Rattle.vc_compile_plan.specs.Uses.{net_constraints, uses_of_object, is_active, is_used}
use Rattle.vc_compile_plan.specs.Uses.{active_constraints, used_dependencies}
use Rattle.vc_compile_plan.specs.declared.standings.Standing.{Standing}
use Rattle.vc_compile_uses.specs.Marks.{mark_all, marked_from}
use Rattle.vc_compile_uses.proofs.MarkLemmas.{mark_join, marked, one_of_all, one_of_both}

pub for_ok : {X E : Type 0} {P Q : X → Type 0} (r : Result X E) → ((x : X) → P x → Q x) → IfOk r P → IfOk r Q
for_ok (Ok x) more holds = more x holds
for_ok (Err e) more holds = holds

abbrev nets_at : Model → Slot → List ℕ
nets_at model slot = net_constraints model (slice_get model.objects slot.object)

abbrev uses_at : Model → Slot → List ℕ
uses_at model slot = uses_of_object model (slice_get model.objects slot.object)

pub active_are : (model : Model) (slots : List Slot) (standings : List Standing)
    (none marks : List Bool) (found : List ℕ)
    → none ≡ map (λ d. false) model.dependencies
    → marks ≡ mark_all none (flat_map (nets_at model) slots)
    → found ≡ marked_from 0 marks
    → found ≡ active_constraints (layout_over model standings slots)
active_are model slots standings none marks found unmarked active is =
    is ∙ ap (marked_from 0) (active ∙ ap (λ ms. mark_all ms (flat_map (nets_at model) slots)) unmarked)
    ∙ marked model.dependencies (flat_map (nets_at model) slots) (is_active (layout_over model standings slots))
    (one_of_all (nets_at model) slots)

pub used_are : (model : Model) (slots : List Slot) (standings : List Standing)
    (none some marks : List Bool) (found : List ℕ)
    → none ≡ map (λ d. false) model.dependencies
    → some ≡ mark_all none (flat_map (nets_at model) slots)
    → marks ≡ mark_all some (flat_map (uses_at model) slots)
    → found ≡ marked_from 0 marks
    → found ≡ used_dependencies (layout_over model standings slots)
used_are model slots standings none some marks found unmarked active used is =
    is ∙ ap (marked_from 0) all
    ∙ marked model.dependencies (flat_map (nets_at model) slots ++ flat_map (uses_at model) slots)
    (is_used (layout_over model standings slots))
    (one_of_both (nets_at model) (uses_at model) slots)
  where
    all : marks ≡ mark_all (map (λ d. false) model.dependencies)
        (flat_map (nets_at model) slots ++ flat_map (uses_at model) slots)
    all =
        used ∙ ap (λ ms. mark_all ms (flat_map (uses_at model) slots))
        (active ∙ ap (λ ms. mark_all ms (flat_map (nets_at model) slots)) unmarked)
        ∙ sym (mark_join (map (λ d. false) model.dependencies)
        (flat_map (nets_at model) slots) (flat_map (uses_at model) slots))
