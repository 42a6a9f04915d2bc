-- What an operand means at a slot: a characteristic of the class of the slot that it names.
use Rattle.std.proofs.Common.{◌≡◌, ℕ, ◌+◌, ◌⊎◌, inl, inr, Bool, true, false, cond, ◌||◌, List, [], ◌∷◌, Option, Some}
use Rattle.std.proofs.Common.{None, refl, sym, ap, ◌∙◌, arith}
use Rattle.std.specs.Prelude.{◌==◌, find, option_map, slice_get}
use Rattle.std.specs.List.{list_any}
use Rattle.std.proofs.lemmas.Bool.{eq-eqb, or_left, or_right}
use Rattle.vc_model_parts.specs.declared.parts.Class.{Class}
use Rattle.vc_model_parts.specs.declared.parts.Model.{Model}
use Rattle.vc_plan.specs.declared.plans.Slot.{Slot}
use Rattle.vc_plan.specs.declared.plans.TextSet.{TextSet}
use Rattle.vc_plan.specs.declared.plans.Var.{Var}
use Rattle.vc_syntax_tree.specs.declared.Operand.{Operand}
use Rattle.vc_syntax_tree.specs.declared.Operand.TheVariants as operands
use Rattle.vc_syntax_tree.specs.declared.Owner.TheVariants as owners
use Rattle.vc_types.specs.Looking.{characteristic_named, class_of, member_in, member_of}
use Rattle.vc_types.specs.Meanings.{known, of_object, of_parent}
use Rattle.vc_types.specs.Settings.{is_constraint, is_line, is_multiple, meaning}
use Rattle.vc_types.specs.declared.meaning.Meaning.TheVariants as meanings
use Rattle.vc_types.specs.declared.place.At.{At}
use Rattle.vc_types.specs.declared.place.At.TheVariants as at
use Rattle.vc_compile_plan.specs.Layouts.{layout_of, object_if}
use Rattle.vc_compile_plan.specs.Places.{site_at}
use Rattle.vc_compile_plan.specs.Sites.{Site, characteristic_in, number_or_zero, set_meant, slot_meant, var_meant}
use Rattle.vc_compile_plan.specs.Slots.{slots_of}
use Rattle.vc_compile_plan.specs.Variables.{members_if, members_in, members_of, set_number, sets_of, var_number}
use Rattle.vc_compile_plan.specs.Variables.{vars_of}
use Rattle.vc_compile_valid.proofs.NamedLaws.{set_found, var_found}

-- an operand that means a characteristic of the class of the slot that it names
pub record IsMeant (model : Model) (site : Site) (operand : Operand) (c : ℕ) : Type 0 where
  pub slot : Slot
  pub there : slice_get (slots_of model) (slot_meant site operand) ≡ Some slot
  pub member : list_any (λ d. c == d) (members_of model slot.object) ≡ true

-- a characteristic that a class has is one of its members
found_member : (members : List ℕ) (c d : ℕ) → find (λ member. member == c) members ≡ Some d
    → list_any (λ e. d == e) members ≡ true
found_member [] c d e = absurd (cc)
found_member (m ∷ members) c d e = by (m == c) refl e (λ f. found_member members c d f)
  where
    by : (b : Bool) → (m == c) ≡ b → cond b (Some m) (find (λ member. member == c) members) ≡ Some d
        → (find (λ member. member == c) members ≡ Some d → list_any (λ e. d == e) members ≡ true)
        → ((d == m) || list_any (λ e. d == e) members) ≡ true
    by true same f later =
        let one : m ≡ d = cc in or_left (d == m) (list_any (λ e. d == e) members) (eq-eqb d m (sym one))
    by false other f later = or_right (d == m) (list_any (λ e. d == e) members) (later f)

pub known_is : (o : Option ℕ) (c : ℕ) → known o ≡ meanings.Characteristic c → o ≡ Some c
known_is None c e = absurd (cc)
known_is (Some d) c e = let same : d ≡ c = cc in ap Some same

pub class_has : (model : Model) (name : List ℕ) (class : Option ℕ) (c : ℕ) → member_of model name class ≡ Some c
    → list_any (λ d. c == d) (members_if model class) ≡ true
class_has model name None c e = absurd (cc)
class_has model name (Some k) c e = by (slice_get model.classes k) (characteristic_named model name) e
  where
    by : (class : Option Class) (o : Option ℕ) → member_in class o ≡ Some c
        → list_any (λ d. c == d) (members_in class) ≡ true
    by class None f = absurd (cc)
    by None (Some d) f = absurd (cc)
    by (Some class) (Some d) f = found_member class.members d c f

pub object_has : (model : Model) (name : List ℕ) (o c : ℕ) → of_object model name (Some o) ≡ meanings.Characteristic c
    → list_any (λ d. c == d) (members_of model o) ≡ true
object_has model name o c e =
    class_has model name (class_of model (Some o)) c (known_is (member_of model name (class_of model (Some o))) c e)

-- which slot it names: this one, the root, or the one above where the place is no line
abbrev pub Where : Slot → ℕ → At → ℕ → Type 0
Where slot i at k = (k ≡ i) ⊎ ((k ≡ 0) ⊎ ((is_line at ≡ false) × (slot.parent ≡ Some k)))

pub record IsMeantAt (model : Model) (i : ℕ) (slot : Slot) (at : At) (operand : Operand) (c : ℕ) : Type 0 where
  pub meant : IsMeant model (site_at (layout_of model) i slot at) operand c
  pub place : Where slot i at (slot_meant (site_at (layout_of model) i slot at) operand)

own_meant : (model : Model) (i : ℕ) (slot : Slot) (at : At) (operand : Operand) (c : ℕ) (name : List ℕ)
    → slice_get (slots_of model) i ≡ Some slot → slot_meant (site_at (layout_of model) i slot at) operand ≡ i
    → of_object model name (Some slot.object) ≡ meanings.Characteristic c → IsMeantAt model i slot at operand c
own_meant model i slot at operand c name there is e = record {
  meant = record {
    slot = slot;
    there = ap (slice_get (slots_of model)) is ∙ there;
    member = object_has model name slot.object c e;
  };
  place = inl is;
}

root_meant : (model : Model) (i : ℕ) (slot : Slot) (at : At) (operand : Operand) (c : ℕ) (name : List ℕ)
    → slot_meant (site_at (layout_of model) i slot at) operand ≡ 0
    → of_object model name (Some model.root) ≡ meanings.Characteristic c → IsMeantAt model i slot at operand c
root_meant model i slot at operand c name is e =
    let root : (s : Slot) × (slice_get (slots_of model) 0 ≡ Some s) × (s.object ≡ model.root) = (_, refl, refl) in
    record {
      meant = record {
        slot = root.0;
        there = ap (slice_get (slots_of model)) is ∙ root.1;
        member = ap (λ o. list_any (λ d. c == d) (members_of model o)) root.2 ∙ object_has model name model.root c e;
      };
      place = inr (inl is);
    }

parent_meant : (model : Model) (i : ℕ) (slot : Slot) (at : At) (operand : Operand) (c : ℕ) (name : List ℕ)
    → is_line at ≡ false
    → slot_meant (site_at (layout_of model) i slot at) operand ≡ number_or_zero slot.parent
    → of_parent model name (object_if (layout_of model) slot.parent) ≡ meanings.Characteristic c
    → IsMeantAt model i slot at operand c
parent_meant model i slot at operand c name line is e = by slot.parent refl
  where
    above : (p : ℕ) → slot.parent ≡ Some p → (o : Option Slot) → slice_get (slots_of model) p ≡ o
        → of_parent model name (option_map (λ s. s.object) o) ≡ meanings.Characteristic c
        → IsMeantAt model i slot at operand c
    above p parent None there f = absurd (cc)
    above p parent (Some s) there f = record {
      meant = record {
        slot = s;
        there = ap (slice_get (slots_of model)) (is ∙ ap number_or_zero parent) ∙ there;
        member = object_has model name s.object c f;
      };
      place = inr (inr (line, parent ∙ ap Some (sym (is ∙ ap number_or_zero parent))));
    }

    by : (o : Option ℕ) → slot.parent ≡ o → IsMeantAt model i slot at operand c
    by None parent = absurd (let none : of_parent model name None ≡ meanings.Characteristic c =
        sym (ap (λ p. of_parent model name (object_if (layout_of model) p)) parent) ∙ e in cc)
    by (Some p) parent =
        above p parent (slice_get (slots_of model) p) refl
        (sym (ap (λ p. of_parent model name (object_if (layout_of model) p)) parent) ∙ e)

pub meant_at : (model : Model) (i : ℕ) (slot : Slot) → slice_get (slots_of model) i ≡ Some slot → (at : At)
    → is_constraint at ≡ false → (operand : Operand) (c : ℕ)
    → meaning (site_at (layout_of model) i slot at).setting operand ≡ meanings.Characteristic c
    → IsMeantAt model i slot at operand c
meant_at model i slot there at.Constraint h operand c e = absurd (cc)
meant_at model i slot there at.Characteristic h (operands.Plain leaf) c e =
    own_meant model i slot at.Characteristic (operands.Plain leaf) c leaf.name there refl e
meant_at model i slot there at.Procedure h (operands.Plain leaf) c e =
    own_meant model i slot at.Procedure (operands.Plain leaf) c leaf.name there refl e
meant_at model i slot there (at.Line b) h (operands.Plain leaf) c e =
    own_meant model i slot (at.Line b) (operands.Plain leaf) c leaf.name there refl e
meant_at model i slot there at.Operation h (operands.Plain leaf) c e =
    own_meant model i slot at.Operation (operands.Plain leaf) c leaf.name there refl e
meant_at model i slot there at.Characteristic h (operands.Owned owners.Itself leaf) c e =
    own_meant model i slot at.Characteristic (operands.Owned owners.Itself leaf) c leaf.name there refl e
meant_at model i slot there at.Procedure h (operands.Owned owners.Itself leaf) c e =
    own_meant model i slot at.Procedure (operands.Owned owners.Itself leaf) c leaf.name there refl e
meant_at model i slot there (at.Line b) h (operands.Owned owners.Itself leaf) c e = absurd (cc)
meant_at model i slot there at.Operation h (operands.Owned owners.Itself leaf) c e =
    own_meant model i slot at.Operation (operands.Owned owners.Itself leaf) c leaf.name there refl e
meant_at model i slot there at.Characteristic h (operands.Owned owners.Parent leaf) c e =
    parent_meant model i slot at.Characteristic (operands.Owned owners.Parent leaf) c leaf.name refl refl e
meant_at model i slot there at.Procedure h (operands.Owned owners.Parent leaf) c e =
    parent_meant model i slot at.Procedure (operands.Owned owners.Parent leaf) c leaf.name refl refl e
meant_at model i slot there (at.Line b) h (operands.Owned owners.Parent leaf) c e =
    own_meant model i slot (at.Line b) (operands.Owned owners.Parent leaf) c leaf.name there refl e
meant_at model i slot there at.Operation h (operands.Owned owners.Parent leaf) c e =
    parent_meant model i slot at.Operation (operands.Owned owners.Parent leaf) c leaf.name refl refl e
meant_at model i slot there at.Characteristic h (operands.Owned owners.Root leaf) c e =
    root_meant model i slot at.Characteristic (operands.Owned owners.Root leaf) c leaf.name refl e
meant_at model i slot there at.Procedure h (operands.Owned owners.Root leaf) c e =
    root_meant model i slot at.Procedure (operands.Owned owners.Root leaf) c leaf.name refl e
meant_at model i slot there (at.Line b) h (operands.Owned owners.Root leaf) c e =
    root_meant model i slot (at.Line b) (operands.Owned owners.Root leaf) c leaf.name refl e
meant_at model i slot there at.Operation h (operands.Owned owners.Root leaf) c e =
    root_meant model i slot at.Operation (operands.Owned owners.Root leaf) c leaf.name refl e
meant_at model i slot there at.Characteristic h (operands.Member variable leaf) c e = absurd (cc)
meant_at model i slot there at.Procedure h (operands.Member variable leaf) c e = absurd (cc)
meant_at model i slot there (at.Line b) h (operands.Member variable leaf) c e = absurd (cc)
meant_at model i slot there at.Operation h (operands.Member variable leaf) c e = absurd (cc)
meant_at model i slot there at.Characteristic h (operands.Variable leaf) c e = absurd (cc)
meant_at model i slot there at.Procedure h (operands.Variable leaf) c e = absurd (cc)
meant_at model i slot there (at.Line b) h (operands.Variable leaf) c e = absurd (cc)
meant_at model i slot there at.Operation h (operands.Variable leaf) c e = absurd (cc)

-- the variable, or the set, that it is
pub var_is : (model : Model) (site : Site) (operand : Operand) (c : ℕ)
    → meaning site.setting operand ≡ meanings.Characteristic c
    → IsMeant model site operand c → is_multiple model c ≡ false
    → (x : Var) × (slice_get (vars_of model (slots_of model)) (var_meant (layout_of model) site operand) ≡ Some x)
    × (x.slot ≡ slot_meant site operand) × (x.characteristic ≡ c)
var_is model site operand c means meant single =
    let k = slot_meant site operand in
    let found = var_found model k meant.slot meant.there c meant.member single in (
      found.0,
      ap (λ d. slice_get (vars_of model (slots_of model)) (var_number (vars_of model (slots_of model)) k d))
          (ap characteristic_in means)
          ∙ ap (λ j. slice_get (vars_of model (slots_of model)) (var_number (vars_of model (slots_of model)) j c))
          (no_front k) ∙ found.1,
      found.2 ∙ sym (no_front k),
      found.3,
    )
  where
    no_front : (j : ℕ) → j ≡ 0 + j
    no_front j = omega arith

pub set_is : (model : Model) (site : Site) (operand : Operand) (c : ℕ)
    → meaning site.setting operand ≡ meanings.Characteristic c
    → IsMeant model site operand c → is_multiple model c ≡ true
    → (x : TextSet) × (slice_get (sets_of model (slots_of model)) (set_meant (layout_of model) site operand) ≡ Some x)
    × (x.slot ≡ slot_meant site operand) × (x.characteristic ≡ c)
set_is model site operand c means meant multiple =
    let k = slot_meant site operand in
    let found = set_found model k meant.slot meant.there c meant.member multiple in (
      found.0,
      ap (λ d. slice_get (sets_of model (slots_of model)) (set_number (sets_of model (slots_of model)) k d))
          (ap characteristic_in means)
          ∙ ap (λ j. slice_get (sets_of model (slots_of model)) (set_number (sets_of model (slots_of model)) j c))
          (no_front k) ∙ found.1,
      found.2 ∙ sym (no_front k),
      found.3,
    )
  where
    no_front : (j : ℕ) → j ≡ 0 + j
    no_front j = omega arith
