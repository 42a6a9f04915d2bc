-- What a set says that another one, which is clear, has as a part.
use Rattle.std.proofs.Common.{◌≡◌, ℕ, true, false, cond, not, List, [], ◌∷◌, refl, sym, ◌∙◌, ap, subst, inl, inr}
use Rattle.std.specs.Prelude.{Option, None, Some, ◌==◌, slice_get}
use Rattle.std.proofs.lemmas.Bool.{and_from, and_cases, not-true, not-false, not_from_false, false_from_ne_true}
use Rattle.std.proofs.lemmas.Bool.{eqb-true, eq-eqb}
use Rattle.vc_base.specs.Sets.{has, Within}
use Rattle.vc_base.proofs.SetLaws.{both, has_first, has_more, has_cases}
use Rattle.vc_value.specs.declared.value.Value.{Value}
use Rattle.vc_plan.specs.declared.atoms.Atom.{Atom}
use Rattle.vc_plan.specs.declared.atoms.Atom.TheVariants.{Here, Out, Is}
use Rattle.vc_plan.specs.declared.plans.Plan.{Plan}
use Rattle.vc_plan.specs.Clear.{is_exhausted, is_clear}
use Rattle.vc_plan.specs.Domains.{is_grain_with}
use Rattle.vc_plan.specs.Pieces.{same_value, lies_in}
use Rattle.vc_plan.specs.Seen.{Seen, same_atom, seen_of, value_in, is_value, says, slot_in, parent_in, is_here}
use Rattle.vc_plan.specs.Seen.{is_parent_here, is_left_by, is_left}
use Rattle.vc_plan.proofs.PlanLaws.Atoms.{value_exact, atom_exact, atom_itself}
use Rattle.vc_plan.proofs.PlanLaws.Facts.{Facts, facts, slot_stays}

-- a value that is read stands
pub value_has : (set : List Atom) (v : ℕ) (a : Value) → value_in set v ≡ Some a → has same_atom set (Is v a) ≡ true
value_has [] v a e = absurd (cc)
value_has (Here i ∷ set) v a e = has_more same_atom atom_exact atom_itself (Here i) set (Is v a) (value_has set v a e)
value_has (Out w g ∷ set) v a e = has_more same_atom atom_exact atom_itself (Out w g) set (Is v a) (value_has set v a e)
value_has (Is w x ∷ set) v a e =
    elim (w == v) as (λ b. (w == v) ≡ b → cond b (Some x) (value_in set v) ≡ Some a
    → has same_atom (Is w x ∷ set) (Is v a) ≡ true) [
      | true ↦ λ q k.
          let same : x ≡ a = cc in
          let first : has same_atom (Is w x ∷ set) (Is w x) ≡ true
          = has_first same_atom atom_exact atom_itself (Is w x) set in
          subst (λ z. has same_atom (Is w x ∷ set) z ≡ true) (ap (λ n. Is n x) (eqb-true w v q) ∙ ap (Is v) same) first
      | false ↦ λ q k. has_more same_atom atom_exact atom_itself (Is w x) set (Is v a) (value_has set v a k)
    ] refl e

-- where a value stands, one is read
pub value_read : (set : List Atom) (v : ℕ) (a : Value) → has same_atom set (Is v a) ≡ true
    → (b : Value) × (value_in set v ≡ Some b)
value_read [] v a h = absurd (cc)
value_read (Here i ∷ set) v a h = value_read set v a h
value_read (Out w g ∷ set) v a h = value_read set v a h
value_read (Is w x ∷ set) v a h =
    elim (w == v) as (λ b. (w == v) ≡ b → (c : Value) × (cond b (Some x) (value_in set v) ≡ Some c)) [
      | true ↦ λ q. (x, refl)
      | false ↦ λ q. elim (has_cases same_atom atom_exact atom_itself (Is w x) set (Is v a) h) [
        | inl e ↦
            let same : v ≡ w = cc in
            absurd (both (eq-eqb w v (sym same)) q)
        | inr k ↦ value_read set v a k
      ]
    ] refl

-- what is said stands
pub says_has : (set : List Atom) (a : Atom) → says (seen_of set) a ≡ true → has same_atom set a ≡ true
says_has set (Here i) h = h
says_has set (Out v g) h = h
says_has set (Is v a) h = by (value_in set v) refl h
  where
    by : (o : Option Value) → value_in set v ≡ o → is_value a o ≡ true → has same_atom set (Is v a) ≡ true
    by None e k = absurd (cc)
    by (Some b) e k = value_has set v a (e ∙ ap Some (sym (value_exact a b k)))

-- the second says all that the first says: a value stays the same, what is left was left, and no variable is exhausted
pub record Extends (plan : Plan) (s t : Seen) : Type 0 where
  pub here : (i : ℕ) → s.here i ≡ true → t.here i ≡ true
  pub out : (v g : ℕ) → s.out v g ≡ true → t.out v g ≡ true
  pub value : (v : ℕ) (a : Value) → s.value v ≡ Some a → t.value v ≡ Some a
  pub left : (v g : ℕ) → is_left plan t v g ≡ true → is_left plan s v g ≡ true
  pub room : (v : ℕ) → is_exhausted plan t v ≡ false

-- two values of a variable that stand in a clear set are one
pub one_value : (plan : Plan) (set : List Atom) → Facts plan set → (v : ℕ) (a b : Value)
    → has same_atom set (Is v a) ≡ true
    → has same_atom set (Is v b) ≡ true → a ≡ b
one_value plan set f v a b h k =
    elim (and_cases (v == v) (not (same_value a b)) (f.apart (Is v a) (Is v b) h k)) [
      | inl e ↦ absurd (both (eq-eqb v v refl) e)
      | inr e ↦ value_exact a b (not-false (same_value a b) e)
    ]

value_stays : (plan : Plan) (part set : List Atom) → Within same_atom part set → Facts plan set → (v : ℕ) (a : Value)
    → value_in part v ≡ Some a → value_in set v ≡ Some a
value_stays plan part set within f v a e =
    let stands : has same_atom set (Is v a) ≡ true = within (Is v a) (value_has part v a e) in
    let r : (b : Value) × (value_in set v ≡ Some b) = value_read set v a stands in
    r.1 ∙ ap Some (sym (one_value plan set f v a r.0 stands (value_has set v r.0 r.1)))

left_stays : (plan : Plan) (part set : List Atom) → Within same_atom part set → Facts plan set
    → (v g : ℕ) (o p : Option Value)
    → value_in part v ≡ o → value_in set v ≡ p → is_left_by plan (seen_of set) v g p ≡ true
    → is_left_by plan (seen_of part) v g o ≡ true
left_stays plan part set within f v g None None e k h =
    not_from_false (has same_atom part (Out v g))
    (false_from_ne_true (has same_atom part (Out v g))
    (λ q. both (within (Out v g) q) (not-true (has same_atom set (Out v g)) h)))
left_stays plan part set within f v g None (Some b) e k h =
    not_from_false (has same_atom part (Out v g))
    (false_from_ne_true (has same_atom part (Out v g)) (λ q.
    both (and_from (v == v) (is_grain_with plan v (lies_in b) g) (eq-eqb v v refl) h)
    (f.apart (Is v b) (Out v g) (value_has set v b k) (within (Out v g) q))))
left_stays plan part set within f v g (Some a) None e k h =
    let now : value_in set v ≡ Some a = value_stays plan part set within f v a e in
    let no : None ≡ Some a = sym k ∙ now in
    absurd (cc)
left_stays plan part set within f v g (Some a) (Some b) e k h =
    let now : Some b ≡ Some a = sym k ∙ value_stays plan part set within f v a e in
    let same : b ≡ a = cc in
    subst (λ z. is_grain_with plan v (lies_in z) g ≡ true) same h

pub extends : (plan : Plan) (part set : List Atom) → is_clear plan set ≡ true → Within same_atom part set
    → Extends plan (seen_of part) (seen_of set)
extends plan part set clear within =
    let f : Facts plan set = facts plan set clear in
    record {
      here = λ i h. within (Here i) h;
      out = λ v g h. within (Out v g) h;
      value = λ v a e. value_stays plan part set within f v a e;
      left = λ v g h. left_stays plan part set within f v g (value_in part v) (value_in set v) refl refl h;
      room = f.room;
    }

-- a variable's slot, and the parent of a slot, stay here
pub here_stays : (plan : Plan) (s t : Seen) → Extends plan s t → (v : ℕ) → is_here plan s v ≡ true
    → is_here plan t v ≡ true
here_stays plan s t x v h = slot_stays s t x.here (slot_in (slice_get plan.vars v)) h

pub parent_stays : (plan : Plan) (s t : Seen) → Extends plan s t → (i : ℕ) → is_parent_here plan s i ≡ true
    → is_parent_here plan t i ≡ true
parent_stays plan s t x i h = slot_stays s t x.here (parent_in (slice_get plan.slots i)) h
