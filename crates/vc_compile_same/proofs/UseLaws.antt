-- Constraints match the same tuples, and the same dependencies are used, in two models of which the same is seen.
use Rattle.std.proofs.Common.{◌≡◌, ℕ, ◌&&◌, ◌||◌, List, [], ◌∷◌, ◌++◌, length, flat_map, slice_get, refl}
use Rattle.std.proofs.Common.{Option, None, Some, option_map}
use Rattle.std.specs.Prelude.{filter_map}
use Rattle.std.specs.List.{filter, list_all, list_any}
use Rattle.vc_model_parts.specs.declared.parts.Model.{Model}
use Rattle.vc_model_parts.specs.declared.parts.Object.{Object as Configurable}
use Rattle.vc_model_drafts.specs.Seen.{SeenObject, seen_dependency, seen_item, seen_object, seen_operation}
use Rattle.vc_syntax_tree.specs.declared.Object.{Object}
use Rattle.vc_syntax_tree.specs.declared.ObjectKind.{ObjectKind}
use Rattle.vc_syntax_tree.specs.declared.ObjectKind.TheVariants as objects
use Rattle.vc_syntax_tree.specs.Trees.{Condition, Or, And, Not, Related, Specified, PartOf, Constraint, Dependency}
use Rattle.vc_types.specs.Looking.{class_named}
use Rattle.vc_types.specs.Occurrences.{if_there}
use Rattle.vc_types.specs.PlaceFaults.{joined_parts}
use Rattle.vc_plan.specs.Domains.{numbers_below}
use Rattle.vc_plan.specs.declared.plans.Slot.{Slot}
use Rattle.vc_compile_plan.specs.Layouts.{object_at}
use Rattle.vc_compile_plan.specs.Places.{asked_by}
use Rattle.vc_compile_plan.specs.Tuples.{are_different, are_of_kinds, are_parts_met, are_same, is_of_kind, is_part_met}
use Rattle.vc_compile_plan.specs.Tuples.{matches, slot_above, slot_called, tuples_from, tuples_of}
use Rattle.vc_compile_plan.specs.Uses.{active_constraints, constraints_in, is_active, is_one_of, is_used}
use Rattle.vc_compile_plan.specs.Uses.{net_constraints}
use Rattle.vc_compile_plan.specs.Uses.{object_of_slot, used_dependencies, uses_of_characteristic}
use Rattle.vc_compile_plan.specs.Uses.{uses_of_object}
use Rattle.vc_compile_plan.specs.Variables.{members_if}
use Rattle.vc_compile_same.specs.Twins.{Laid, Twins, laid_out, other}
use Rattle.vc_compile_same.proofs.ListLaws.{flat_mapped, got, length_same}
use Rattle.vc_compile_same.proofs.NameLaws.{class_of_same, object_named_same}
use Rattle.vc_compile_same.proofs.SlotLaws.{tree_same}

-- what is used at what is seen of an object
abbrev seen_constraints : Model → Option SeenObject → List ℕ
seen_constraints model None = []
seen_constraints model (Some object) = flat_map (λ net. constraints_in (slice_get model.nets net)) object.nets

constraints_seen : (model : Model) (o : Option Configurable)
    → net_constraints model o ≡ seen_constraints model (option_map seen_object o)
constraints_seen model None = refl
constraints_seen model (Some object) = refl

abbrev seen_uses : Model → Option SeenObject → List ℕ
seen_uses model None = []
seen_uses model (Some object) =
    (object.procedures
    ++ flat_map (λ c. uses_of_characteristic (slice_get model.characteristics c))
    (members_if model (Some object.class)))
    ++ (flat_map (λ line. line.uses) object.bill ++ flat_map (λ operation. operation.uses) object.operations)

uses_seen : (model : Model) (o : Option Configurable)
    → uses_of_object model o ≡ seen_uses model (option_map seen_object o)
uses_seen model None = refl
uses_seen model (Some object) = λ i.
    (object.procedures
    ++ flat_map (λ c. uses_of_characteristic (slice_get model.characteristics c))
    (members_if model (Some object.class)))
    ++ (flat_mapped seen_item (λ line. line.uses) object.bill i
    ++ flat_mapped seen_operation (λ operation. operation.uses) object.operations i)

pub asked_same : (t : Twins) (asks : Option Dependency → Option Condition) (uses : List ℕ)
    → asked_by asks t.one uses ≡ asked_by asks (other t) uses
asked_same t asks uses = λ i.
    filter_map (λ d. option_map (λ condition. record { dependency = d; condition = condition })
    (asks (tree_same t d i))) uses

pub dependencies_count_same : (t : Twins) → length (t.one).dependencies ≡ length t.dependencies
dependencies_count_same t = length_same seen_dependency (t.one).dependencies t.dependencies t.same_dependencies

module _ (t : Twins) (l : Laid) where
  -- tuples
  is_of_kind_same : (kind : ObjectKind) (o : Option ℕ)
      → is_of_kind (laid_out t.one l) kind o ≡ is_of_kind (laid_out (other t) l) kind o
  is_of_kind_same (objects.Class leaf) o = λ i. are_same (class_named t.one leaf.name) (class_of_same t o i)
  is_of_kind_same (objects.Material leaf) o = λ i. are_same (object_named_same t leaf.text i) o

  are_of_kinds_same : (declared : List Object) (tuple : List ℕ)
      → are_of_kinds (laid_out t.one l) declared tuple ≡ are_of_kinds (laid_out (other t) l) declared tuple
  are_of_kinds_same [] tuple = refl
  are_of_kinds_same (object ∷ declared) [] = refl
  are_of_kinds_same (object ∷ declared) (n ∷ tuple) = λ i.
      is_of_kind_same object.kind (object_at (laid_out t.one l) n) i && are_of_kinds_same declared tuple i

  slot_above_same : (n : Option ℕ) → slot_above (laid_out t.one l) n ≡ slot_above (laid_out (other t) l) n
  slot_above_same None = refl
  slot_above_same (Some n) = refl

  part_met_same : (declared : List Object) (tuple : List ℕ) (condition : Condition)
      → is_part_met (laid_out t.one l) declared tuple condition
      ≡ is_part_met (laid_out (other t) l) declared tuple condition
  part_met_same declared tuple (PartOf part whole) = λ i.
      are_same (slot_called declared tuple whole.name) (slot_above_same (slot_called declared tuple part.name) i)
  part_met_same declared tuple (Or left right) = refl
  part_met_same declared tuple (And left right) = refl
  part_met_same declared tuple (Not condition) = refl
  part_met_same declared tuple (Related relation) = refl
  part_met_same declared tuple (Specified operand) = refl

  parts_met_same : (declared : List Object) (condition : Option Condition) (tuple : List ℕ)
      → are_parts_met (laid_out t.one l) declared condition tuple
      ≡ are_parts_met (laid_out (other t) l) declared condition tuple
  parts_met_same declared condition tuple = λ i.
      list_all (λ c. part_met_same declared tuple c i) (if_there joined_parts condition)

  matches_same : (constraint : Constraint) (tuple : List ℕ)
      → matches (laid_out t.one l) constraint tuple ≡ matches (laid_out (other t) l) constraint tuple
  matches_same constraint tuple = λ i.
      (are_of_kinds_same constraint.objects tuple i && are_different tuple)
      && parts_met_same constraint.objects constraint.condition tuple i

  pub tuples_same : (constraint : Constraint)
      → tuples_of (laid_out t.one l) constraint ≡ tuples_of (laid_out (other t) l) constraint
  tuples_same constraint = λ i.
      filter (λ tuple. matches_same constraint tuple i)
      (tuples_from (numbers_below (length l.slots)) (length constraint.objects))

  -- what is active and used
  constraints_at_same : (slot : Slot)
      → net_constraints t.one (object_of_slot (laid_out t.one l) slot)
      ≡ net_constraints (other t) (object_of_slot (laid_out (other t) l) slot)
  constraints_at_same slot =
      got seen_object (net_constraints t.one) (net_constraints (other t)) (seen_constraints t.one)
      (constraints_seen t.one) cross (t.one).objects t.objects t.same_objects
      slot.object
    where
      cross : (o : Option Configurable)
          → net_constraints (other t) o ≡ seen_constraints t.one (option_map seen_object o)
      cross None = refl
      cross (Some object) = refl

  is_active_same : (d : ℕ) → is_active (laid_out t.one l) d ≡ is_active (laid_out (other t) l) d
  is_active_same d = λ i. list_any (λ slot. is_one_of (constraints_at_same slot i) d) l.slots

  pub active_same : active_constraints (laid_out t.one l) ≡ active_constraints (laid_out (other t) l)
  active_same = λ i. filter (λ d. is_active_same d i) (numbers_below (dependencies_count_same t i))

  uses_at_same : (slot : Slot)
      → uses_of_object t.one (object_of_slot (laid_out t.one l) slot)
      ≡ uses_of_object (other t) (object_of_slot (laid_out (other t) l) slot)
  uses_at_same slot =
      got seen_object (uses_of_object t.one) (uses_of_object (other t)) (seen_uses t.one) (uses_seen t.one) cross
      (t.one).objects t.objects t.same_objects
      slot.object
    where
      cross : (o : Option Configurable) → uses_of_object (other t) o ≡ seen_uses t.one (option_map seen_object o)
      cross None = refl
      cross (Some object) = uses_seen (other t) (Some object)

  is_used_same : (d : ℕ) → is_used (laid_out t.one l) d ≡ is_used (laid_out (other t) l) d
  is_used_same d = λ i. is_active_same d i || list_any (λ slot. is_one_of (uses_at_same slot i) d) l.slots

  pub used_same : used_dependencies (laid_out t.one l) ≡ used_dependencies (laid_out (other t) l)
  used_same = λ i. filter (λ d. is_used_same d i) (numbers_below (dependencies_count_same t i))
