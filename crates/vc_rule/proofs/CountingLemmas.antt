-- How many premises are cited at most: of each variable one value, of each grain that it is out.
use Rattle.std.proofs.Common.{◌≡◌, ℕ, ◌+◌, ◌≤◌, Bool, true, false, cond, not, ◌&&◌, ◌⊎◌, List, [], ◌∷◌, ◌++◌, length}
use Rattle.std.proofs.Common.{map, refl, sym, subst, inl, inr, arith, length-append}
use Rattle.std.specs.Prelude.{◌==◌, nat_eq, Option, None, Some, slice_get}
use Rattle.std.specs.List.{filter, list_any}
use Rattle.std.specs.Option.{option_to_list}
use Rattle.std.proofs.lemmas.Bool.{or_cases, eqb-true}
use Rattle.std.proofs.lemmas.List.{length-map}
use Rattle.std.proofs.lemmas.List.Filters.{length-filter_both}
use Rattle.std.proofs.lemmas.List.FromFn.{length-range_with_len}
use Rattle.vc_base.specs.Sets.{has, Within}
use Rattle.vc_base.proofs.ListLaws.{number_exact, number_itself}
use Rattle.vc_base.proofs.SetLaws.{has_either, has_front, has_back, has_cases, has_first, has_more}
use Rattle.vc_value.specs.declared.value.Value.{Value}
use Rattle.vc_plan.specs.declared.atoms.Atom.{Atom}
use Rattle.vc_plan.specs.declared.atoms.Atom.TheVariants.{Here, Out, Is}
use Rattle.vc_plan.specs.declared.conditions.Condition.{Condition}
use Rattle.vc_plan.specs.declared.conditions.Piece.{Piece}
use Rattle.vc_plan.specs.declared.plans.Plan.{Plan}
use Rattle.vc_plan.specs.declared.rules.Rule.{Rule}
use Rattle.vc_plan.specs.Answers.{value_atoms, last_atoms, only_value}
use Rattle.vc_plan.specs.Bounds.{distinct, condition_size, acting_size}
use Rattle.vc_plan.specs.Domains.{numbers_below, grains_of, count_of, is_grain_with}
use Rattle.vc_plan.specs.Pieces.{lies_in}
use Rattle.vc_plan.specs.Reads.{vars_of_condition}
use Rattle.vc_plan.specs.Seen.{Seen, same_atom}
use Rattle.vc_plan.proofs.PlanLaws.Atoms.{atom_exact, atom_itself}
use Rattle.vc_plan_values.specs.Computing.{LiesInGrains}
use Rattle.vc_rule_premises.specs.Cited.{cited_once}
use Rattle.vc_rule_premises.specs.Citing.{value_of, values_of, deciding_if, why_it_acts}
use Rattle.vc_rule_premises.proofs.CitedLaws.{nothing_else_is_cited, few_are_cited}
use Rattle.vc_rule_premises.proofs.DecidingLaws.{deciding_is_read}
use Rattle.vc_rule_grains.specs.Confining.{outs_with, why_left_by, why_left}

-- two parts that lie within two lists lie within both together
pub both_within : (xs ys whole more : List Atom) → Within same_atom xs whole → Within same_atom ys more
    → Within same_atom (xs ++ ys) (whole ++ more)
both_within xs ys whole more f g a h =
    elim (has_either same_atom atom_exact atom_itself xs ys a h) [
      | inl k ↦ has_front same_atom atom_exact atom_itself whole more a (f a k)
      | inr k ↦ has_back same_atom atom_exact atom_itself whole more a (g a k)
    ]

pub few_cited : (premises all : List Atom) → Within same_atom premises all → length (cited_once premises) ≤ length all
few_cited premises all f =
    few_are_cited premises all (λ a h. let k : (has same_atom premises a ≡ true) × (same_atom (Here 0) a ≡ false) =
    nothing_else_is_cited premises a h in f a k.0)

-- a list with each number once has the same numbers, and isn't longer
any_has : (x : ℕ) (xs : List ℕ) → list_any (λ y. y == x) xs ≡ true → has nat_eq xs x ≡ true
any_has x [] e = e
any_has x (y ∷ ys) e =
    elim (or_cases (y == x) (list_any (λ z. z == x) ys) e) [
      | inl q ↦ subst (λ z. has nat_eq (z ∷ ys) x ≡ true) (sym (eqb-true y x q))
          (has_first nat_eq number_exact number_itself x ys)
      | inr q ↦ has_more nat_eq number_exact number_itself y ys x (any_has x ys q)
    ]

pub distinct_has : (xs : List ℕ) → Within nat_eq xs (distinct xs)
distinct_has [] a h = h
distinct_has (x ∷ xs) a h = by (distinct_has xs a) (list_any (λ y. y == x) xs) refl
    (has_cases nat_eq number_exact number_itself x xs a h)
  where
    by : (has nat_eq xs a ≡ true → has nat_eq (distinct xs) a ≡ true) → (b : Bool) → list_any (λ y. y == x) xs ≡ b
        → (a ≡ x) ⊎ (has nat_eq xs a ≡ true) → has nat_eq (cond b (distinct xs) (x ∷ distinct xs)) a ≡ true
    by f true e (inl q) = f (subst (λ z. has nat_eq xs z ≡ true) (sym q) (any_has x xs e))
    by f true e (inr k) = f k
    by f false e (inl q) = subst (λ z. has nat_eq (x ∷ distinct xs) z ≡ true) (sym q)
        (has_first nat_eq number_exact number_itself x (distinct xs))
    by f false e (inr k) = has_more nat_eq number_exact number_itself x (distinct xs) a (f k)

pub distinct_short : (xs : List ℕ) → length (distinct xs) ≤ length xs
distinct_short [] = omega arith
distinct_short (x ∷ xs) =
    let h = distinct_short xs in
    elim (list_any (λ y. y == x) xs) as (λ b. length (cond b (distinct xs) (x ∷ distinct xs)) ≤ length (x ∷ xs)) [
      | true ↦ omega arith
      | false ↦ omega arith
    ]

-- of each variable one value
value_few : (v : ℕ) (o : Option Value) → length (value_atoms v o) ≤ 1
value_few v None = omega arith
value_few v (Some a) = omega arith

pub values_few : (seen : Seen) (vs : List ℕ) → length (values_of seen vs) ≤ length vs
values_few seen [] = omega arith
values_few seen (v ∷ vs) =
    let one = value_few v (seen.value v) in
    let more = values_few seen vs in
    let long : length (values_of seen (v ∷ vs)) ≡ length (value_of seen v) + length (values_of seen vs) =
    length-append (value_of seen v) (values_of seen vs) in
    omega arith

value_among : (seen : Seen) (ws : List ℕ) (v : ℕ) (a : Atom) → has nat_eq ws v ≡ true
    → has same_atom (value_of seen v) a ≡ true
    → has same_atom (values_of seen ws) a ≡ true
value_among seen [] v a h k = absurd (cc)
value_among seen (w ∷ ws) v a h k =
    elim (has_cases nat_eq number_exact number_itself w ws v h) [
      | inl q ↦ has_front same_atom atom_exact atom_itself (value_of seen w) (values_of seen ws) a
          (subst (λ z. has same_atom (value_of seen z) a ≡ true) q k)
      | inr q ↦ has_back same_atom atom_exact atom_itself (value_of seen w) (values_of seen ws) a
          (value_among seen ws v a q k)
    ]

pub values_within : (seen : Seen) (vs ws : List ℕ) → Within nat_eq vs ws
    → Within same_atom (values_of seen vs) (values_of seen ws)
values_within seen [] ws f a h = absurd (cc)
values_within seen (v ∷ vs) ws f a h =
    elim (has_either same_atom atom_exact atom_itself (value_of seen v) (values_of seen vs) a h) [
      | inl k ↦ value_among seen ws v a (f v (has_first nat_eq number_exact number_itself v vs)) k
      | inr k ↦ values_within seen vs ws (λ w i. f w (has_more nat_eq number_exact number_itself v vs w i)) a k
    ]

-- why a rule acts is no more than its slots and the values of the different variables that its condition reads
abbrev acting_all : Plan → Seen → Rule → List Atom
acting_all plan seen rule =
    map Here rule.slots ++ values_of seen (distinct (vars_of_condition (slice_get plan.conditions rule.condition)))

condition_within : (seen : Seen) (o : Option Condition)
    → Within nat_eq (deciding_if seen o) (distinct (vars_of_condition o))
condition_within seen None a h = h
condition_within seen (Some c) a h = distinct_has (vars_of_condition (Some c)) a (deciding_is_read seen true c a h)

acting_within : (plan : Plan) (seen : Seen) (rule : Rule)
    → Within same_atom (why_it_acts plan seen rule) (acting_all plan seen rule)
acting_within plan seen rule =
    let o = slice_get plan.conditions rule.condition in
    both_within (map Here rule.slots) (values_of seen (deciding_if seen o)) (map Here rule.slots)
    (values_of seen (distinct (vars_of_condition o)))
    (λ a h. h) (values_within seen (deciding_if seen o) (distinct (vars_of_condition o)) (condition_within seen o))

acting_short : (plan : Plan) (seen : Seen) (rule : Rule) → length (acting_all plan seen rule) ≤ acting_size plan rule
acting_short plan seen rule =
    let vs = distinct (vars_of_condition (slice_get plan.conditions rule.condition)) in
    let slots : length (map Here rule.slots) ≡ length rule.slots = length-map rule.slots Here in
    let values = values_few seen vs in
    let long : length (acting_all plan seen rule) ≡ length (map Here rule.slots) + length (values_of seen vs) =
    length-append (map Here rule.slots) (values_of seen vs) in
    let size : condition_size plan rule ≡ length vs = refl in
    omega arith

-- so with premises that lie within others there are no more than both
pub acting_few : (plan : Plan) (seen : Seen) (rule : Rule) (own all : List Atom) (n : ℕ) → Within same_atom own all
    → length all ≤ n
    → length (cited_once (why_it_acts plan seen rule ++ own)) ≤ acting_size plan rule + n
acting_few plan seen rule own all n f few =
    let cites = few_cited (why_it_acts plan seen rule ++ own) (acting_all plan seen rule ++ all)
    (both_within (why_it_acts plan seen rule) own (acting_all plan seen rule) all (acting_within plan seen rule) f) in
    let long : length (acting_all plan seen rule ++ all) ≡ length (acting_all plan seen rule) + length all =
    length-append (acting_all plan seen rule) all in
    let short = acting_short plan seen rule in
    omega arith

-- of a variable no more grains are out than it has
pub filter_short : (p : ℕ → Bool) (xs : List ℕ) → length (filter p xs) ≤ length xs
filter_short p xs = let h = length-filter_both p (λ x. not (p x)) (λ x. refl) xs in omega arith

pub fewer : (p q : ℕ → Bool) → ((g : ℕ) → q g ≡ true → p g ≡ true) → (gs : List ℕ)
    → length (filter q gs) ≤ length (filter p gs)
fewer p q f [] = omega arith
fewer p q f (g ∷ gs) = by (q g) (p g) refl refl (fewer p q f gs)
  where
    by : (b c : Bool) → q g ≡ b → p g ≡ c → length (filter q gs) ≤ length (filter p gs)
        → length (cond b (g ∷ filter q gs) (filter q gs)) ≤ length (cond c (g ∷ filter p gs) (filter p gs))
    by true true e k h = omega arith
    by true false e k h = let no : p g ≡ true = f g e in absurd (cc)
    by false true e k h = omega arith
    by false false e k h = h

pub outs_few : (plan : Plan) (seen : Seen) (v : ℕ) (test : Piece → Bool)
    → length (outs_with plan seen v test) ≤ count_of plan v
outs_few plan seen v test =
    let p = λ (g : ℕ). seen.out v g && is_grain_with plan v test g in
    let those = filter p (numbers_below (count_of plan v)) in
    let same : length (map (Out v) those) ≡ length those = length-map those (Out v) in
    let short = filter_short p (numbers_below (count_of plan v)) in
    let all : length (numbers_below (count_of plan v)) ≡ count_of plan v = length-range_with_len 0 (count_of plan v) in
    omega arith

pub some_there : {A : Type 0} (p : A → Bool) (xs : List A) → list_any p xs ≡ true → 1 ≤ length xs
some_there p [] e = absurd (cc)
some_there p (x ∷ xs) e = omega arith

-- why no more grains are left is no more than there are
pub left_few : (plan : Plan) (seen : Seen) (v : ℕ) (test : Piece → Bool) → LiesInGrains plan seen
    → length (why_left plan seen v test) ≤ count_of plan v
left_few plan seen v test lies = by (seen.value v) refl
  where
    by : (o : Option Value) → seen.value v ≡ o → length (why_left_by plan seen v test o) ≤ count_of plan v
    by None e = outs_few plan seen v test
    by (Some a) e = some_there (lies_in a) (grains_of plan v) (lies v a e)

-- a last grain's value is the variable's
pub last_is : (plan : Plan) (v : ℕ) (gs : List ℕ) (a : Atom) → has same_atom (last_atoms plan v gs) a ≡ true
    → (b : Value) × (a ≡ Is v b)
last_is plan v [] a h = absurd (cc)
last_is plan v (g ∷ []) a h = by (only_value plan v g) h
  where
    by : (o : Option Value) → has same_atom (value_atoms v o) a ≡ true → (b : Value) × (a ≡ Is v b)
    by None k = absurd (cc)
    by (Some b) k = elim (has_cases same_atom atom_exact atom_itself (Is v b) [] a k) [
      | inl q ↦ (b, q)
      | inr q ↦
          absurd (cc)
    ]
last_is plan v (g ∷ (h ∷ more)) a k = absurd (cc)

-- what is mapped is of an element
pub mapped_is : (f : ℕ → Atom) (xs : List ℕ) (a : Atom) → has same_atom (map f xs) a ≡ true
    → (x : ℕ) × (a ≡ f x) × (has nat_eq xs x ≡ true)
mapped_is f [] a h = absurd (cc)
mapped_is f (x ∷ xs) a h =
    elim (has_cases same_atom atom_exact atom_itself (f x) (map f xs) a h) [
      | inl q ↦ (x, q, has_first nat_eq number_exact number_itself x xs)
      | inr q ↦ let r = mapped_is f xs a q in (r.0, r.1, has_more nat_eq number_exact number_itself x xs r.0 r.2)
    ]

-- of a slot that is here, if there is one
pub slot_few : (o : Option ℕ) → length (map Here (option_to_list o)) ≤ 1
slot_few None = omega arith
slot_few (Some i) = omega arith
