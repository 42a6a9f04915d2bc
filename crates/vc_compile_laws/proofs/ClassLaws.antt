-- A slot has a set for each characteristic of its class that has several values, and a variable for each other.
use Rattle.std.proofs.Common.{◌≡◌, ℕ, ◌+◌, ◌<◌, Bool, true, false, cond, not, List, [], ◌∷◌, length, map}
use Rattle.std.proofs.Common.{Some, refl, sym, ap, ◌∙◌, arith}
use Rattle.std.specs.Prelude.{◌==◌, slice_get}
use Rattle.std.specs.List.{filter, list_any}
use Rattle.std.proofs.lemmas.Bool.{eq-eqb, lt-ltb, not-true}
use Rattle.vc_model_parts.specs.declared.parts.Model.{Model}
use Rattle.vc_model_drafts.specs.Seen.{seen_model}
use Rattle.vc_model_laws.specs.Keeps.{Keeps}
use Rattle.vc_model_laws.proofs.HeadersLaws.{there}
use Rattle.vc_model_laws.proofs.SpelledLaws.{spelled_keeps_all}
use Rattle.vc_plan.specs.Classes as classes
use Rattle.vc_plan.specs.Classes.{class_at, class_in, has_its_sets, has_its_vars, has_sets}
use Rattle.vc_plan.specs.Domains.{numbers_below}
use Rattle.vc_plan.specs.Orders.{same_numbers}
use Rattle.vc_plan.specs.declared.plans.Plan.{Plan}
use Rattle.vc_plan.specs.declared.plans.Slot.{Slot}
use Rattle.vc_types.specs.Settings.{is_multiple}
use Rattle.vc_compile_plan.specs.Slots.{slots_of}
use Rattle.vc_compile_plan.specs.Variables.{members_of, set_at, sets_at, sets_of, var_at, vars_at}
use Rattle.vc_compile_laws.specs.Classes.{HasClasses}
use Rattle.vc_compile_laws.specs.Compiles.{CompiledKeeps}
use Rattle.vc_compile_valid.proofs.PlaceLaws.{class_same}
use Rattle.vc_compile_valid.proofs.SlotwiseLaws.{at_slot, below_count}
use Rattle.vc_compile_valid.proofs.EachLaws.{Each, each_mapped, each_more, each_of_all, each_passes}
use Rattle.vc_compile_valid.proofs.NamedLaws.{any_by_slot, any_made, each_among}
use Rattle.vc_compile_valid.proofs.DomainLaws.{numbers_same}
use Rattle.vc_compile_laws.proofs.VariableLaws.{all_sets, no_sets, slots_same}

filter_same : (p q : ℕ → Bool) (xs : List ℕ) → Each (λ x. p x ≡ q x) xs → filter p xs ≡ filter q xs
filter_same p q [] h = refl
filter_same p q (x ∷ xs) h =
    ap (λ b. cond b (x ∷ filter p xs) (filter p xs)) h.0 ∙ ap (λ l. cond (q x) (x ∷ l) l) (filter_same p q xs h.1)

vars_back : (model : Model) (i : ℕ) (cs : List ℕ) → map (λ x. x.characteristic) (map (var_at model i) cs) ≡ cs
vars_back model i [] = refl
vars_back model i (c ∷ cs) = ap (λ l. c ∷ l) (vars_back model i cs)

sets_back : (i : ℕ) (cs : List ℕ) → map (λ x. x.characteristic) (map (set_at i) cs) ≡ cs
sets_back i [] = refl
sets_back i (c ∷ cs) = ap (λ l. c ∷ l) (sets_back i cs)

-- a characteristic of a slot's class has sets where it may have several values
has_sets_same : (model : Model) (plan : Plan) → Keeps (seen_model model) → plan.sets ≡ sets_of model (slots_of model)
    → (k : ℕ)
    (slot : Slot) → slice_get (slots_of model) k ≡ Some slot → (c : ℕ)
    → list_any (λ d. c == d) (members_of model slot.object) ≡ true → has_sets plan c ≡ is_multiple model c
has_sets_same model plan keeps is k slot at c member =
    ap (list_any (λ x. x.characteristic == c)) is ∙ by (is_multiple model c) refl
  where
    by : (b : Bool) → is_multiple model c ≡ b
        → list_any (λ x. x.characteristic == c) (sets_of model (slots_of model)) ≡ is_multiple model c
    by true e =
        any_by_slot (λ x. x.characteristic == c) (sets_at model) 0 (slots_of model) k slot at
        (any_made (λ x. x.characteristic == c) (set_at (0 + k)) (is_multiple model) c (eq-eqb c c refl) e
        (members_of model slot.object)
        member) ∙ sym e
    by false e =
        not-true (list_any (λ x. x.characteristic == c) (sets_of model (slots_of model)))
        (no_sets model (length (slots_of model)) c (sets_of model (slots_of model)) (all_sets model keeps) e) ∙ sym e

same_from : (xs ys : List ℕ) → xs ≡ ys → same_numbers xs ys ≡ true
same_from xs ys e = ap (λ l. same_numbers l ys) e ∙ numbers_same ys

pub has_classes : CompiledKeeps HasClasses
has_classes text model tables plan spells read compiles = record {
  class_vars = each_passes (λ i. i < 0 + length plan.slots) (has_its_vars plan)
      (λ i h. vars_own i (there (slots_of model) i (lt-ltb i (length (slots_of model)) (omega (arith, h, size)))))
      (numbers_below (length plan.slots)) (below_count 0 (length plan.slots));
  class_sets = each_passes (λ i. i < 0 + length plan.slots) (has_its_sets plan)
      (λ i h. sets_own i (there (slots_of model) i (lt-ltb i (length (slots_of model)) (omega (arith, h, size)))))
      (numbers_below (length plan.slots)) (below_count 0 (length plan.slots));
}
  where
    size : length plan.slots ≡ length (slots_of model)
    size = slots_same model tables plan compiles.is_its

    no_front : (i : ℕ) → i ≡ 0 + i
    no_front i = omega arith

    class_is : (i : ℕ) (slot : Slot) → slice_get (slots_of model) i ≡ Some slot
        → class_at plan (slice_get plan.slots i) ≡ members_of model slot.object
    class_is i slot e =
        ap (λ ss. class_at plan (slice_get ss i)) compiles.is_its.slots ∙ ap (class_at plan) e
        ∙ ap (λ os. class_in (slice_get os slot.object)) compiles.is_its.objects ∙ class_same model slot.object

    tests : (i : ℕ) (slot : Slot) → slice_get (slots_of model) i ≡ Some slot
        → Each (λ c. has_sets plan c ≡ is_multiple model c) (members_of model slot.object)
    tests i slot e =
        each_more (λ c. list_any (λ d. c == d) (members_of model slot.object) ≡ true)
        (λ c. has_sets plan c ≡ is_multiple model c)
        (λ c h. has_sets_same model plan (spelled_keeps_all text (seen_model model) spells) compiles.is_its.sets i slot
        e c h)
        (members_of model slot.object)
        (each_among (λ c d. c == d) (λ c. eq-eqb c c refl) (members_of model slot.object))

    vars_own : (i : ℕ) → (slot : Slot) × (slice_get (slots_of model) i ≡ Some slot) → has_its_vars plan i ≡ true
    vars_own i found =
        let single : ℕ → Bool = λ c. not (is_multiple model c) in
        let class = members_of model found.0.object in
        same_from (classes.vars_at plan i)
        (filter (λ c. not (has_sets plan c)) (class_at plan (slice_get plan.slots i)))
        (ap (λ xs. map (λ x. x.characteristic) (filter (λ x. x.slot == i) xs)) compiles.is_its.vars
        ∙ ap (map (λ x. x.characteristic)) (at_slot (λ x. x.slot) (vars_at model)
        (λ i slot. each_mapped (λ x. x.slot ≡ i) (var_at model i) (filter single (members_of model slot.object))
        (each_of_all (λ x. i ≡ i) (λ x. refl) (filter single (members_of model slot.object)))) 0 (slots_of model) i
        found.0 found.1 i
        (no_front i))
        ∙ vars_back model i (filter single class)
        ∙ sym (ap (filter (λ c. not (has_sets plan c))) (class_is i found.0 found.1)
        ∙ filter_same (λ c. not (has_sets plan c)) single class
        (each_more (λ c. has_sets plan c ≡ is_multiple model c) (λ c. not (has_sets plan c) ≡ not (is_multiple model c))
        (λ c h. ap not h) class (tests i found.0 found.1))))

    sets_own : (i : ℕ) → (slot : Slot) × (slice_get (slots_of model) i ≡ Some slot) → has_its_sets plan i ≡ true
    sets_own i found =
        let class = members_of model found.0.object in
        same_from (classes.sets_at plan i) (filter (has_sets plan) (class_at plan (slice_get plan.slots i)))
        (ap (λ xs. map (λ x. x.characteristic) (filter (λ x. x.slot == i) xs)) compiles.is_its.sets
        ∙ ap (map (λ x. x.characteristic)) (at_slot (λ x. x.slot) (sets_at model)
        (λ i slot. each_mapped (λ x. x.slot ≡ i) (set_at i) (filter (is_multiple model) (members_of model slot.object))
        (each_of_all (λ x. i ≡ i) (λ x. refl) (filter (is_multiple model) (members_of model slot.object)))) 0
        (slots_of model) i
        found.0 found.1 i (no_front i))
        ∙ sets_back i (filter (is_multiple model) class)
        ∙ sym (ap (filter (has_sets plan)) (class_is i found.0 found.1)
        ∙ filter_same (has_sets plan) (is_multiple model) class (tests i found.0 found.1)))
