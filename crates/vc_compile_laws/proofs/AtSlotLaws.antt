-- A slot has no more lines and operations than an object.
use Rattle.std.proofs.Common.{◌≡◌, ℕ, ◌+◌, ◌<◌, true, length, map}
use Rattle.std.proofs.Common.{Option, Some, None, refl, sym, ap, ◌∙◌, arith}
use Rattle.std.specs.Prelude.{◌==◌, nat_le, slice_get}
use Rattle.std.specs.List.{filter}
use Rattle.std.proofs.lemmas.Bool.{lt-ltb}
use Rattle.std.proofs.lemmas.List.{length-map}
use Rattle.std.proofs.lemmas.List.Folds.{list_all-map}
use Rattle.vc_model_parts.specs.declared.parts.Model.{Model}
use Rattle.vc_model_parts.specs.declared.parts.Object.{Object}
use Rattle.vc_model_drafts.specs.Seen.{seen_item, seen_model, seen_object, seen_operation}
use Rattle.vc_model_laws.specs.Keeps.{Keeps}
use Rattle.vc_model_laws.proofs.HeadersLaws.{there}
use Rattle.vc_model_laws.proofs.SpelledLaws.{spelled_keeps_all}
use Rattle.vc_model_laws.proofs.TextsLaws.{passes_at}
use Rattle.vc_plan.specs.Domains.{numbers_below}
use Rattle.vc_plan.specs.declared.plans.Slot.{Slot}
use Rattle.vc_compile_plan.specs.Layouts.{layout_of}
use Rattle.vc_compile_plan.specs.Numbering.{Drafts, drafts_of, item_brings, line_from, line_terms_begin, lines_begin}
use Rattle.vc_compile_plan.specs.Numbering.{operation_from, operation_terms_begin, operations_begin}
use Rattle.vc_compile_plan.specs.Shown.{line_at, line_drafts, operation_at, operation_drafts, operations_in}
use Rattle.vc_compile_plan.specs.Slots.{bill_in, bill_of, slots_of}
use Rattle.vc_compile_laws.specs.Compiles.{CompiledKeeps}
use Rattle.vc_compile_laws.specs.Orders.{HasFewLines}
use Rattle.vc_compile_valid.proofs.EachLaws.{each_mapped, each_of_all, each_passes}
use Rattle.vc_compile_valid.proofs.SlotwiseLaws.{at_slot, below_count, left_numbered}
use Rattle.vc_compile_laws.proofs.VariableLaws.{slots_same}

bill_few : (model : Model) → Keeps (seen_model model) → (o : ℕ) → nat_le (length (bill_of model o)) 1_000 ≡ true
bill_few model keeps o = by (slice_get model.objects o) refl
  where
    by : (x : Option Object) → slice_get model.objects o ≡ x → nat_le (length (bill_in x)) 1_000 ≡ true
    by None e = refl
    by (Some object) e =
        ap (λ n. nat_le n 1_000) (sym (length-map object.bill seen_item))
        ∙ passes_at (λ x. nat_le (length (map seen_item x.bill)) 1_000) model.objects o object
        (sym (list_all-map (λ x. nat_le (length x.bill) 1_000) seen_object model.objects) ∙ keeps.limits.items) e

routing_few : (model : Model) → Keeps (seen_model model) → (o : ℕ)
    → nat_le (length (operations_in (slice_get model.objects o))) 1_000 ≡ true
routing_few model keeps o = by (slice_get model.objects o) refl
  where
    by : (x : Option Object) → slice_get model.objects o ≡ x → nat_le (length (operations_in x)) 1_000 ≡ true
    by None e = refl
    by (Some object) e =
        ap (λ n. nat_le n 1_000) (sym (length-map object.operations seen_operation))
        ∙ passes_at (λ x. nat_le (length (map seen_operation x.operations)) 1_000) model.objects o object
        (sym (list_all-map (λ x. nat_le (length x.operations) 1_000) seen_object model.objects)
        ∙ keeps.limits.operations) e

pub has_few_lines : CompiledKeeps HasFewLines
has_few_lines text model tables plan spells read compiles =
    let is = compiles.is_its in
    let size = slots_same model tables plan is in
    record {
      line_limit = each_passes (λ i. i < 0 + length plan.slots)
          (λ i. nat_le (length (filter (λ l. l.slot == i) plan.lines)) 1_000)
          (λ i h. ap (λ ls. nat_le (length (filter (λ l. l.slot == i) ls)) 1_000) is.lines
          ∙ ap (λ n. nat_le n 1_000)
          (left_numbered item_brings line_from (λ l. l.slot == i) (λ d. d.slot == i) (λ c t d. refl)
          (lines_begin drafts) (line_terms_begin drafts) drafts.lines)
          ∙ lines_few i (there (slots_of model) i (lt-ltb i (length (slots_of model)) (omega (arith, h, size)))))
          (numbers_below (length plan.slots)) (below_count 0 (length plan.slots));
      operation_limit = each_passes (λ i. i < 0 + length plan.slots)
          (λ i. nat_le (length (filter (λ l. l.slot == i) plan.operations)) 1_000)
          (λ i h. ap (λ ls. nat_le (length (filter (λ l. l.slot == i) ls)) 1_000) is.operations
          ∙ ap (λ n. nat_le n 1_000)
          (left_numbered item_brings operation_from (λ l. l.slot == i) (λ d. d.slot == i) (λ c t d. refl)
          (operations_begin drafts) (operation_terms_begin drafts) drafts.operations)
          ∙ operations_few i (there (slots_of model) i (lt-ltb i (length (slots_of model)) (omega (arith, h, size)))))
          (numbers_below (length plan.slots)) (below_count 0 (length plan.slots));
    }
  where
    drafts : Drafts
    drafts = drafts_of (layout_of model)

    no_front : (i : ℕ) → i ≡ 0 + i
    no_front i = omega arith

    lines_few : (i : ℕ) → (slot : Slot) × (slice_get (slots_of model) i ≡ Some slot)
        → nat_le (length (filter (λ d. d.slot == i) (line_drafts (layout_of model)))) 1_000 ≡ true
    lines_few i found =
        ap (λ l. nat_le (length l) 1_000)
        (at_slot (λ d. d.slot) (λ i slot. map (line_at (layout_of model) i slot) (bill_of model slot.object))
        (λ i slot. each_mapped (λ x. x.slot ≡ i) (line_at (layout_of model) i slot) (bill_of model slot.object)
        (each_of_all (λ x. i ≡ i) (λ x. refl) (bill_of model slot.object))) 0 (slots_of model) i found.0 found.1 i
        (no_front i))
        ∙ ap (λ n. nat_le n 1_000) (length-map (bill_of model found.0.object) (line_at (layout_of model) i found.0))
        ∙ bill_few model (spelled_keeps_all text (seen_model model) spells) found.0.object

    operations_few : (i : ℕ) → (slot : Slot) × (slice_get (slots_of model) i ≡ Some slot)
        → nat_le (length (filter (λ d. d.slot == i) (operation_drafts (layout_of model)))) 1_000 ≡ true
    operations_few i found =
        ap (λ l. nat_le (length l) 1_000) (at_slot (λ d. d.slot)
        (λ i slot. map (operation_at (layout_of model) i slot) (operations_in (slice_get model.objects slot.object)))
        (λ i slot. each_mapped (λ x. x.slot ≡ i) (operation_at (layout_of model) i slot)
        (operations_in (slice_get model.objects slot.object))
        (each_of_all (λ x. i ≡ i) (λ x. refl) (operations_in (slice_get model.objects slot.object)))) 0 (slots_of model)
        i found.0 found.1 i
        (no_front i))
        ∙ ap (λ n. nat_le n 1_000)
        (length-map (operations_in (slice_get model.objects found.0.object)) (operation_at (layout_of model) i found.0))
        ∙ routing_few model (spelled_keeps_all text (seen_model model) spells) found.0.object
