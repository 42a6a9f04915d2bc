-- What holds of the rules of each configurable line without a fault holds of the rules of all slots.
use Rattle.std.proofs.Common.{◌≡◌, ℕ, zero, suc, ◌+◌, true, List, [], ◌∷◌, Option, Some, None, refl, sym, ap, ◌∙◌}
use Rattle.std.proofs.Common.{arith, subst}
use Rattle.std.specs.Prelude.{option_map, slice_get}
use Rattle.vc_model_parts.specs.declared.parts.Model.{Model}
use Rattle.vc_plan.specs.declared.plans.Slot.{Slot}
use Rattle.vc_syntax_tree.specs.Trees as syntax
use Rattle.vc_types.specs.Faults.{fault_of}
use Rattle.vc_types.specs.declared.place.At.TheVariants as at
use Rattle.vc_compile_plan.specs.Layouts.{Layout, layout_of, object_at}
use Rattle.vc_compile_plan.specs.Places.{Asked, selection_in, selections_among, site_at}
use Rattle.vc_compile_plan.specs.Rules.{Draft, drafts_of_line, drafts_of_slot, line, line_draft, line_drafts}
use Rattle.vc_compile_plan.specs.Rules.{line_drafts_from}
use Rattle.vc_compile_plan.specs.Rules.{own_draft, slot_drafts_from}
use Rattle.vc_compile_plan.specs.Sites.{Site}
use Rattle.vc_compile_plan.specs.Slots.{bill_if, bill_in, slot_of, standings_of}
use Rattle.vc_compile_plan.specs.declared.standings.Standing.{Standing}
use Rattle.vc_compile_valid.proofs.EachLaws.{Each, each_joined}
use Rattle.vc_compile_valid.proofs.PlacedLaws.{IsPart, IsPlacedBelow, placed_at, slot_at}
use Rattle.vc_compile_meant.specs.Scopes.{IsTyped}
use Rattle.vc_compile_meant.proofs.ComponentLaws.{configurable_is}
use Rattle.vc_compile_meant.proofs.FaultLaws.{IsTypedAt, each_here}
use Rattle.vc_compile_meant.proofs.ScopeLaws.{selection_is}
use Rattle.vc_compile_meant.proofs.SoundLaws.{IsSoundLine, asked_typed, line_place, sound_at}

-- a selection condition without a fault at a configurable line of the slot
abbrev IsSelected : Model → Slot → Asked → Type 0
IsSelected model owner a = fault_of model (line_place model owner true) (syntax.Selection a.condition) ≡ None

-- what holds of a line without conditions, and of each condition of a line
pub record OfLines (P : Draft → Type 0) (model : Model) : Type 0 where
  pub always : (i : ℕ) → P (own_draft (line i))
  pub asked : (p : ℕ) (owner : Slot) (i number : ℕ) (a : Asked) → IsSelected model owner a
      → P (line_draft (layout_of model) (site_at (layout_of model) p owner (at.Line true)) i number a)

drafts_from : (P : Draft → Type 0) (Q : Asked → Type 0) (layout : Layout) (site : Site) (i : ℕ)
    → ((number : ℕ) (a : Asked) → Q a → P (line_draft layout site i number a)) → (number : ℕ) (asks : List Asked)
    → Each Q asks → Each P (line_drafts_from layout site i number asks)
drafts_from P Q layout site i holds number [] h = tt
drafts_from P Q layout site i holds number (a ∷ asks) h =
    (holds number a h.0, drafts_from P Q layout site i holds (suc number) asks h.1)

of_line : (P : Draft → Type 0) (model : Model) → OfLines P model → (p : ℕ) (owner : Slot) (i : ℕ) (asks : List Asked)
    → Each (IsSelected model owner) asks
    → Each P (line_drafts (layout_of model) (site_at (layout_of model) p owner (at.Line true)) i asks)
of_line P model lines p owner i [] h = (lines.always i, tt)
of_line P model lines p owner i (a ∷ asks) h =
    drafts_from P (IsSelected model owner) (layout_of model) (site_at (layout_of model) p owner (at.Line true)) i
    (lines.asked p owner i) 1 (a ∷ asks) h

of_part : (P : Draft → Type 0) (model : Model) → IsTyped model → OfLines P model → (i p : ℕ) (s : Standing)
    → IsPart model (standings_of model) i p s → Each P (drafts_of_slot (layout_of model) i s (Some p))
of_part P model sound lines i p s part =
    let layout = layout_of model in
    let owner = slot_of model (standings_of model) part.above in
    let there = slot_at model p part.above part.there in
    let object : object_at layout p ≡ Some part.above.object = ap (option_map (λ slot. slot.object)) there in
    let one = each_here (IsSoundLine model owner) (bill_in (slice_get model.objects part.above.object)) s.item part.line
    (sound_at model sound p owner there).lines part.listed in
    subst (Each P)
    (sym (ap (λ o. drafts_of_line layout p i o (slice_get (bill_if model (object_at layout p)) s.item)) there
    ∙ ap (λ o. drafts_of_line layout p i (Some owner) (slice_get (bill_if model o) s.item)) object
    ∙ ap (λ o. drafts_of_line layout p i (Some owner) o) part.listed))
    (of_line P model lines p owner i (selections_among model part.line.uses)
    (asked_typed selection_in syntax.Selection selection_is refl model (λ tree. line_place model owner true)
    part.line.uses
    (subst (λ b. Each (IsTypedAt model (λ tree. line_place model owner b)) part.line.uses)
    (configurable_is part.line.component s.object part.object) one.uses)))

slots_from : (P : Draft → Type 0) (model : Model) → IsTyped model → OfLines P model
    → (i : ℕ) (standings : List Standing)
    → ((k : ℕ) (s : Standing) → slice_get standings k ≡ Some s → slice_get (standings_of model) (i + k) ≡ Some s)
    → Each P (slot_drafts_from (layout_of model) i standings)
slots_from P model sound lines i [] h = tt
slots_from P model sound lines i (s ∷ standings) h =
    each_joined P (drafts_of_slot (layout_of model) i s s.parent) (slot_drafts_from (layout_of model) (suc i) standings)
    (of_slot s.parent (placed_at model i s
    (subst (λ m. slice_get (standings_of model) m ≡ Some s) (no_more i) (h zero s refl))))
    (slots_from P model sound lines (suc i) standings
    (λ k x e. subst (λ m. slice_get (standings_of model) m ≡ Some x) (one_more i k) (h (suc k) x e)))
  where
    one_more : (n k : ℕ) → n + suc k ≡ suc n + k
    one_more n k = omega arith

    no_more : (n : ℕ) → n + 0 ≡ n
    no_more n = omega arith

    of_slot : (o : Option ℕ) → IsPlacedBelow model (standings_of model) i s o
        → Each P (drafts_of_slot (layout_of model) i s o)
    of_slot None placed = tt
    of_slot (Some p) placed = of_part P model sound lines i p s placed

pub slot_rules : (P : Draft → Type 0) (model : Model) → IsTyped model → OfLines P model
    → Each P (slot_drafts_from (layout_of model) 0 (standings_of model))
slot_rules P model sound lines =
    slots_from P model sound lines 0 (standings_of model)
    (λ k s e. subst (λ m. slice_get (standings_of model) m ≡ Some s) (none_before k) e)
  where
    none_before : (k : ℕ) → k ≡ 0 + k
    none_before k = omega arith
