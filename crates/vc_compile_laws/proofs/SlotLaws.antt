-- The slots of a plan name slots and objects that it has, and are of at most four levels.
use Rattle.std.proofs.Common.{◌≡◌, ℕ, ◌+◌, ◌<◌, ◌≤◌, Bool, true, nat_lt, List, length, map, Option, Some, None, refl}
use Rattle.std.proofs.Common.{sym, ap, ◌∙◌, arith}
use Rattle.std.specs.Prelude.{slice_get}
use Rattle.std.specs.List.{list_all}
use Rattle.std.proofs.lemmas.Bool.{and_from, lt-ltb, ltb-true}
use Rattle.std.proofs.lemmas.List.{length-map}
use Rattle.std.proofs.lemmas.List.Folds.{list_all-map}
use Rattle.vc_model_parts.specs.declared.parts.BillItem.{BillItem}
use Rattle.vc_model_parts.specs.declared.parts.Component.{Component}
use Rattle.vc_model_parts.specs.declared.parts.Component.TheVariants as components
use Rattle.vc_model_parts.specs.declared.parts.Model.{Model}
use Rattle.vc_model_parts.specs.declared.parts.Object.{Object}
use Rattle.vc_model_drafts.specs.Seen.{seen_item, seen_model, seen_object}
use Rattle.vc_model_laws.specs.Indices.{is_component_there}
use Rattle.vc_model_laws.specs.Keeps.{Keeps}
use Rattle.vc_model_laws.proofs.SpelledLaws.{spelled_keeps_all}
use Rattle.vc_model_laws.proofs.TextsLaws.{passes_at, weaker}
use Rattle.vc_plan.specs.Ranges.{is_of, is_of_if, slot_there}
use Rattle.vc_plan.specs.Slots.{is_root}
use Rattle.vc_plan.specs.declared.plans.Plan.{Plan}
use Rattle.vc_plan.specs.declared.plans.Slot.{Slot}
use Rattle.vc_table.specs.declared.table.VariantTable.{VariantTable}
use Rattle.vc_compile_plan.specs.declared.standings.Standing.{Standing}
use Rattle.vc_compile_plan.specs.PlanOf.{IsPlanOf}
use Rattle.vc_compile_plan.specs.Slots.{bill_in, bill_of, object_in, slot_of, standings_of}
use Rattle.vc_compile_laws.specs.Compiles.{CompiledKeeps}
use Rattle.vc_compile_laws.specs.Slots.{HasSlots}
use Rattle.vc_compile_valid.proofs.EachLaws.{Each, each_passes}
use Rattle.vc_compile_laws.proofs.StandingLaws.{Goes, Stand, stand_pass}
use Rattle.vc_compile_laws.proofs.ThingLaws.{object_count}

-- the parent of a slot is one of so many, its object one of so many, and its level one of four
pub record Fits (slots objects : ℕ) (s : Stand) : Type 0 where
  pub parent : (p : ℕ) → s.parent ≡ Some p → p < slots
  pub object : s.object < objects
  pub levels : s.depth + s.levels ≤ 4
  pub end : s.end ≤ slots

pub record Stands (slots objects : ℕ) (s : Standing) : Type 0 where
  pub parent : (p : ℕ) → s.parent ≡ Some p → p < slots
  pub object : s.object < objects
  pub depth : s.depth < 4

-- the object of a line is there
component_there : (model : Model) → Keeps (seen_model model) → (o k : ℕ) (line : BillItem) (c : ℕ)
    → slice_get (bill_of model o) k ≡ Some line → object_in line.component ≡ Some c → c < length model.objects
component_there model keeps o k line c at is = of_object (slice_get model.objects o) refl at
  where
    all : list_all (λ object. list_all (λ item. is_component_there (length model.objects) item.component) object.bill)
        model.objects ≡ true
    all =
        weaker (λ object. list_all (λ item. is_component_there (length model.objects) item.component)
        (map seen_item object.bill))
        (λ object. list_all (λ item. is_component_there (length model.objects) item.component) object.bill)
        model.objects
        (λ object h. sym (list_all-map (λ item. is_component_there (length model.objects) item.component) seen_item
        object.bill) ∙ h)
        (sym (list_all-map (λ object. list_all (λ item. is_component_there (length model.objects) item.component)
        object.bill)
        seen_object model.objects)
        ∙ ap (λ n. list_all (λ object. list_all (λ item. is_component_there n item.component) object.bill)
        (map seen_object model.objects))
        (sym (length-map model.objects seen_object)) ∙ keeps.indices.components)

    of_component : (x : Component) → object_in x ≡ Some c → is_component_there (length model.objects) x ≡ true
        → c < length model.objects
    of_component (components.Object d) e h =
        let same : d ≡ c = cc in
        let below = ltb-true d (length model.objects) h in omega (arith, same, below)
    of_component (components.Plain material) e h = absurd (cc)

    of_object : (x : Option Object) → slice_get model.objects o ≡ x → slice_get (bill_in x) k ≡ Some line
        → c < length model.objects
    of_object None e f = absurd (cc)
    of_object (Some object) e f =
        of_component line.component is
        (passes_at (λ item. is_component_there (length model.objects) item.component) object.bill k line
        (passes_at (λ object. list_all (λ item. is_component_there (length model.objects) item.component) object.bill)
        model.objects o object all e) f)

fit_goes : (model : Model) → Keeps (seen_model model) → (slots : ℕ) → Goes model (Fits slots (length model.objects))
fit_goes model keeps slots s levels is fits k line o number end at has low within high =
    let f = fits.levels in
    let g = fits.end in
    record {
      parent = λ p e. let same : s.number ≡ p = cc in omega (arith, same, low, within, high, g);
      object = component_there model keeps s.object k line o at has;
      levels = omega (arith, is, f);
      end = omega (arith, high, g);
    }

pub all_stand : (model : Model) → Keeps (seen_model model)
    → Each (Stands (length (standings_of model)) (length model.objects)) (standings_of model)
all_stand model keeps =
    let slots = length (standings_of model) in
    let root = ltb-true model.root (length (map seen_object model.objects)) keeps.indices.root in
    let count = length-map model.objects seen_object in
    stand_pass model (Fits slots (length model.objects)) (Stands slots (length model.objects))
    (λ s n is low fits.
    let f = fits.levels in
    record { parent = fits.parent; object = fits.object; depth = omega (arith, is, f) })
    (fit_goes model keeps slots) 4 None 0 0 0 slots model.root (omega arith)
    (record {
      parent = λ p e. absurd (cc);
      object = omega (arith, root, count);
      levels = omega arith;
      end =
          omega arith;
    })

parent_there : (slots : ℕ) (xs : List Slot) (o : Option ℕ) → length xs ≡ slots → ((p : ℕ) → o ≡ Some p → p < slots)
    → is_of_if xs o ≡ true
parent_there slots xs None size h = refl
parent_there slots xs (Some p) size h = let below = h p refl in lt-ltb p (length xs) (omega (arith, below, size))

pub slot_count : (model : Model) (tables : List VariantTable) (plan : Plan) → IsPlanOf model tables plan
    → length plan.slots ≡ length (standings_of model)
slot_count model tables plan is =
    ap length is.slots ∙ length-map (standings_of model) (slot_of model (standings_of model))

slots : (model : Model) (tables : List VariantTable) (plan : Plan) → Keeps (seen_model model)
    → IsPlanOf model tables plan
    → HasSlots plan
slots model tables plan keeps is = record {
  slots_there = pass (slot_there plan) (λ s h.
      and_from (is_of_if plan.slots s.parent) (is_of plan.objects s.object)
      (parent_there (length (standings_of model)) plan.slots s.parent (slot_count model tables plan is) h.parent)
      (let count = ap length is.objects ∙ object_count model 0 model.objects in
      let below = h.object in lt-ltb s.object (length plan.objects) (omega (arith, below, count))));
  root = ap (λ xs. is_root (slice_get xs 0)) is.slots ∙ refl;
  levels = pass (λ slot. nat_lt slot.depth 4) (λ s h. let below = h.depth in lt-ltb s.depth 4 below);
}
  where
    pass : (test : Slot → Bool)
        → ((s : Standing) → Stands (length (standings_of model)) (length model.objects) s
        → test (slot_of model (standings_of model) s) ≡ true)
        → list_all test plan.slots ≡ true
    pass test h =
        ap (list_all test) is.slots
        ∙ list_all-map test (slot_of model (standings_of model)) (standings_of model)
        ∙ each_passes (Stands (length (standings_of model)) (length model.objects))
        (λ s. test (slot_of model (standings_of model) s)) h (standings_of model) (all_stand model keeps)

pub has_slots : CompiledKeeps HasSlots
has_slots text model tables plan spells read compiles =
    slots model tables plan (spelled_keeps_all text (seen_model model) spells) compiles.is_its
