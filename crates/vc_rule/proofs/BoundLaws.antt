-- What is found by a rule has no more premises than its bound, kind by kind.
use Rattle.std.proofs.Common.{◌≡◌, ℕ, zero, suc, ◌+◌, ◌≤◌, Bool, true, false, cond, not, ◌&&◌, List, [], ◌∷◌, ◌++◌}
use Rattle.std.proofs.Common.{length, map, refl, sym, ◌∙◌, ap, subst, inl, inr, arith, length-append}
use Rattle.std.specs.Prelude.{◌==◌, max, min, nat_eq, nat_le, nat_lt, flat_map, is_none, is_some, Option, None, Some}
use Rattle.std.specs.Prelude.{slice_get}
use Rattle.std.specs.List.{filter, list_any, list_all, AllByRecursion}
use Rattle.std.proofs.lemmas.Bool.{and_parts, and_from, or_left, or_right, not_from_false, eqb-true, eq-eqb}
use Rattle.std.proofs.lemmas.List.{length-map}
use Rattle.std.proofs.lemmas.List.Filters.{length-filter_both}
use Rattle.std.proofs.lemmas.List.FromFn.{length-range_with_len}
use Rattle.vc_base.specs.Rounds.{Given, clash, atoms}
use Rattle.vc_base.specs.Sets.{has, Within}
use Rattle.vc_base.proofs.ListLaws.{number_exact, number_itself}
use Rattle.vc_base.proofs.SetLaws.{has_either, has_front, has_back, has_cases, has_first, has_more, has_filter}
use Rattle.vc_value.specs.declared.value.Value.{Value}
use Rattle.vc_plan.specs.declared.atoms.Atom.{Atom}
use Rattle.vc_plan.specs.declared.atoms.Atom.TheVariants.{Here, Out, Is}
use Rattle.vc_plan.specs.declared.conditions.Condition.{Condition}
use Rattle.vc_plan.specs.declared.conditions.Condition.TheVariants.{Always, Compared, IsIn, Specified, Holds, Filled}
use Rattle.vc_plan.specs.declared.conditions.Condition.TheVariants.{Not', And', Or'}
use Rattle.vc_plan.specs.declared.conditions.Piece.{Piece}
use Rattle.vc_plan.specs.declared.conditions.Relation.{Relation}
use Rattle.vc_plan.specs.declared.plans.Plan.{Plan}
use Rattle.vc_plan.specs.declared.rules.Binding.{Binding}
use Rattle.vc_plan.specs.declared.rules.Kind.{Kind}
use Rattle.vc_plan.specs.declared.rules.Kind.TheVariants.{Among, Compare, Equate, ByTable, Never, Last, Line}
use Rattle.vc_plan.specs.declared.rules.Restriction.{Restriction}
use Rattle.vc_plan.specs.declared.rules.Rule.{Rule}
use Rattle.vc_plan.specs.Answers.{nothing, clash_if, is_nothing, last_atoms}
use Rattle.vc_plan.specs.Bounds.{acting_size, bound_of, clash_bound, compare_bound, condition_size, distinct, place_for}
use Rattle.vc_plan.specs.Bounds.{equate_bound, greatest, is_narrowed, is_side, is_this, kind_clash_bound, only_if}
use Rattle.vc_plan.specs.Bounds.{place_bound, side_grains, sides_size}
use Rattle.vc_plan.specs.Domains.{numbers_below, grains_of, count_of, decimals_of, is_restrictable, is_grain_with}
use Rattle.vc_plan.specs.Gives.{acts, not_out}
use Rattle.vc_plan.specs.Kleene.{is_false}
use Rattle.vc_plan.specs.Pieces.{lies_in_some, turned}
use Rattle.vc_plan.specs.Readings.{net_reading}
use Rattle.vc_plan.specs.Reads.{vars_of_condition, vars_of_term}
use Rattle.vc_plan.specs.Restrictions.{is_inferred, failing, left_with, of_remaining, confined, allows, lone}
use Rattle.vc_plan.specs.Restrictions.{lone_inferred, decimals_in_side, differ, equal_to, rounded_value}
use Rattle.vc_plan.specs.Orders.{are_apart}
use Rattle.vc_plan.specs.RuleShapes.{asks_by_right, asks_nothing, is_last, is_of_constraint, rule_vars}
use Rattle.vc_plan.specs.RuleShapes.{stays_at_its_slots}
use Rattle.vc_plan.specs.RuleShapes as shapes
use Rattle.vc_plan.specs.Seen.{Seen, same_atom, says, is_here, is_parent_here, parent_in, slot_in}
use Rattle.vc_plan.specs.TableRows.{agreed, columns_of, first_cell, has_cell, is_column_of, is_possible_in}
use Rattle.vc_plan.specs.TableRows.{missing_grains, narrowed, other_columns, rows_of, value_if}
use Rattle.vc_plan.specs.Truth.{compared, value_at}
use Rattle.vc_plan.specs.Valid.{IsValid}
use Rattle.vc_plan.proofs.PlanLaws.Atoms.{atom_exact, atom_itself}
use Rattle.vc_plan.proofs.PlanLaws.Extending.{value_has}
use Rattle.vc_plan.proofs.PlanLaws.Facts.{facts}
use Rattle.vc_plan_values.specs.Computing.{LiesInGrains}
use Rattle.vc_plan_values.proofs.TermLemmas.{PassesIf, all_get}
use Rattle.vc_rule_yield.specs.Yielding.{Conclusion}
use Rattle.vc_rule_premises.specs.Cited.{cited_once}
use Rattle.vc_rule_premises.specs.Citing.{values_of, why_it_acts}
use Rattle.vc_rule_premises.specs.Saying.{Said, clashing, concluding, silent, together, clash_when, conclusion_from}
use Rattle.vc_rule_premises.specs.Saying.{said_from, conclusion_with, said_with}
use Rattle.vc_rule_grains.specs.Confining.{outs_with, why_left, why_confined}
use Rattle.vc_rule_grains.specs.Kinds.{slot_of, parent_of, any_piece, why_last}
use Rattle.vc_rule_sides.specs.Comparing.{values_in, may_relate, related_said}
use Rattle.vc_rule_table.specs.Laws.{IsFew, premises_at_most}
use Rattle.vc_rule_table.specs.Reasons.{rows_reasons}
use Rattle.vc_rule_table.specs.TableSaid.{cell_agreed, concluded_for, concluded_newly, grain_out, table_said}
use Rattle.vc_rule_table.proofs.FewLaws.{table_is_few}
use Rattle.vc_rule_table.proofs.FollowingLaws.{all_kept, all_joined}
use Rattle.vc_rule.specs.Evaluating.{kind_said, found_by}
use Rattle.vc_rule.specs.Bounding.{ClearLiesInGrains, IsWithin, IsWithinPlaces}
use Rattle.vc_rule.specs.Bounding.{FoundIsFew, FoundFitsPlaces, kind_bound}
use Rattle.vc_rule.proofs.CountingLemmas.{acting_few, both_within, distinct_has, fewer, last_is, left_few}
use Rattle.vc_rule.proofs.CountingLemmas.{mapped_is, slot_few, values_few, values_within}

pub clear_lies_in_grains : ClearLiesInGrains
clear_lies_in_grains plan set clear v a e = let f = facts plan set clear in f.named (Is v a) (value_has set v a e)

-- orders put together, and a number where a test holds
pub le : (a b c : ℕ) → a ≤ b → b ≤ c → a ≤ c
le a b c h k = omega arith

only : (b : Bool) (m n : ℕ) → b ≡ true → m ≤ n → m ≤ only_if b n
only true m n e h = h
only false m n e h = absurd (cc)

-- what is given allows so many premises: no more than the bound of a clash, or of each atom
abbrev AllowsFor : Plan → Rule → Kind → ℕ → Given Atom → Type 0
AllowsFor plan rule kind m clash = m ≤ kind_clash_bound plan rule kind
AllowsFor plan rule kind m (atoms xs) = (a : Atom) → has same_atom xs a ≡ true → m ≤ kind_bound plan rule kind a

module _ (plan : Plan) (seen : Seen) (rule : Rule) (kind : Kind) where
  abbrev why : List Atom
  why = why_it_acts plan seen rule

  -- what is said of what is given from premises
  from_few : (own : List Atom) (m : ℕ) (given : Given Atom) → length (cited_once (why ++ own)) ≤ m
      → AllowsFor plan rule kind m given
      → IsWithin plan rule kind (said_with why (said_from seen own given))
  from_few own m clash few allows = le (length (cited_once (why ++ own))) m (kind_clash_bound plan rule kind) few allows
  from_few own m (atoms xs) few allows =
      each (filter (λ a. not (says seen a)) xs)
      (λ a h. let k = has_filter same_atom atom_exact atom_itself (λ c. not (says seen c)) xs a h in allows a k.0)
    where
      each : (ys : List Atom) → ((a : Atom) → has same_atom ys a ≡ true → m ≤ kind_bound plan rule kind a)
          → AllByRecursion (λ (c : Conclusion). length c.premises ≤ kind_bound plan rule kind c.atom)
          (map (conclusion_with why) (map (conclusion_from own) ys))
      each [] f = tt
      each (y ∷ ys) f = (
        le (length (cited_once (why ++ own))) m (kind_bound plan rule kind y) few
            (f y (has_first same_atom atom_exact atom_itself y ys)),
        each ys (λ a h. f a (has_more same_atom atom_exact atom_itself y ys a h)),
      )

  together_few : (x y : Said) → IsWithin plan rule kind (said_with why x) → IsWithin plan rule kind (said_with why y)
      → IsWithin plan rule kind (said_with why (together x y))
  together_few (clashing premises) y h k = h
  together_few (concluding cs) (clashing premises) h k = k
  together_few (concluding cs) (concluding ds) h k = join cs h
    where
      few : Conclusion → Type 0
      few c = length c.premises ≤ kind_bound plan rule kind c.atom

      join : (es : List Conclusion) → AllByRecursion few (map (conclusion_with why) es)
          → AllByRecursion few (map (conclusion_with why) (es ++ ds))
      join [] i = k
      join (e ∷ es) i = (i.0, join es i.1)

  when_few : (b : Bool) (premises : List Atom) (x : Said)
      → length (cited_once (why ++ premises)) ≤ kind_clash_bound plan rule kind
      → IsWithin plan rule kind (said_with why x) → IsWithin plan rule kind (said_with why (clash_when b premises x))
  when_few true premises x h k = h
  when_few false premises x h k = k

-- Among
among_few : (plan : Plan) (seen : Seen) (rule : Rule) (v : ℕ) (restriction : Restriction) → LiesInGrains plan seen
    → IsWithin plan rule (Among v restriction)
    (said_with (why_it_acts plan seen rule) (kind_said plan seen rule (Among v restriction)))
among_few plan seen rule v restriction lies = by (is_inferred rule v) refl
  where
    kind : Kind
    kind = Among v restriction

    test : Piece → Bool
    test = allows plan v restriction

    all : ℕ
    all = acting_size plan rule + count_of plan v

    left : length (cited_once (why_it_acts plan seen rule ++ why_left plan seen v test)) ≤ all
    left = acting_few plan seen rule (why_left plan seen v test) (why_left plan seen v test) (count_of plan v)
        (λ a h. h) (left_few plan seen v test lies)

    excluded : is_inferred rule v ≡ true → is_restrictable plan v ≡ true
        → AllowsFor plan rule kind (acting_size plan rule + 0) (atoms (map (Out v) (failing plan v test)))
    excluded i r a h =
        let m = mapped_is (Out v) (failing plan v test) a h in
        let k = has_filter nat_eq number_exact number_itself (λ g. not (is_grain_with plan v test g))
        (numbers_below (count_of plan v)) m.0 m.2 in
        let t : (((v == v) && is_inferred rule v) && (is_restrictable plan v && not (is_grain_with plan v test m.0)))
        ≡ true =
        and_from ((v == v) && is_inferred rule v) (is_restrictable plan v && not (is_grain_with plan v test m.0))
        (and_from (v == v) (is_inferred rule v) (eq-eqb v v refl) i)
        (and_from (is_restrictable plan v) (not (is_grain_with plan v test m.0)) r k.1) in
        subst (λ z. acting_size plan rule + 0 ≤ kind_bound plan rule kind z) (sym m.1)
        (only (((v == v) && is_inferred rule v) && (is_restrictable plan v && not (is_grain_with plan v test m.0)))
        (acting_size plan rule + 0) (acting_size plan rule) t (omega arith))

    remaining : is_inferred rule v ≡ true → is_restrictable plan v ≡ false → (gs : List ℕ)
        → AllowsFor plan rule kind all (of_remaining plan v gs)
    remaining i r [] = omega arith
    remaining i r (g ∷ gs) = λ a h.
        let l = last_is plan v (g ∷ gs) a h in
        let t : (((v == v) && is_inferred rule v) && not (is_restrictable plan v)) ≡ true =
        and_from ((v == v) && is_inferred rule v) (not (is_restrictable plan v))
        (and_from (v == v) (is_inferred rule v) (eq-eqb v v refl) i)
        (not_from_false (is_restrictable plan v) r) in
        subst (λ z. all ≤ kind_bound plan rule kind z) (sym l.1)
        (only (((v == v) && is_inferred rule v) && not (is_restrictable plan v)) all all t (omega arith))

    told : (gs : List ℕ) → AllowsFor plan rule kind all (clash_if (is_nothing gs) nothing)
    told [] = omega arith
    told (g ∷ gs) = λ a h. absurd (cc)

    narrowed_by : is_inferred rule v ≡ true → (b : Bool) → is_restrictable plan v ≡ b
        → IsWithin plan rule kind (said_with (why_it_acts plan seen rule)
        (said_from seen (cond b [] (why_left plan seen v test))
        (cond b (atoms (map (Out v) (failing plan v test))) (of_remaining plan v (left_with plan seen v test)))))
    narrowed_by i true r =
        from_few plan seen rule kind [] (acting_size plan rule + 0) (atoms (map (Out v) (failing plan v test)))
        (acting_few plan seen rule [] [] 0 (λ a h. h) (omega arith)) (excluded i r)
    narrowed_by i false r =
        from_few plan seen rule kind (why_left plan seen v test) all
        (of_remaining plan v (left_with plan seen v test)) left
        (remaining i r (left_with plan seen v test))

    by : (b : Bool) → is_inferred rule v ≡ b
        → IsWithin plan rule kind (said_with (why_it_acts plan seen rule)
        (said_from seen (cond b (why_confined plan seen v test) (why_left plan seen v test))
        (cond b (confined plan seen v test) (clash_if (is_nothing (left_with plan seen v test)) nothing))))
    by true i = narrowed_by i (is_restrictable plan v) refl
    by false i =
        from_few plan seen rule kind (why_left plan seen v test) all
        (clash_if (is_nothing (left_with plan seen v test)) nothing) left
        (told (left_with plan seen v test))

-- two sides: the different variables that they read have a value each at most
module _ (plan : Plan) (seen : Seen) (rule : Rule) (a b : ℕ) where
  abbrev read : List ℕ
  read = vars_of_term (slice_get plan.terms a) ++ vars_of_term (slice_get plan.terms b)

  abbrev pub side_values : List Atom
  side_values = values_of seen (distinct read)

  pub side_values_few : length side_values ≤ sides_size plan a b
  side_values_few = values_few seen (distinct read)

  pub first_within : Within same_atom (values_in plan seen a) side_values
  first_within =
      values_within seen (vars_of_term (slice_get plan.terms a)) (distinct read)
      (λ v h. distinct_has read v (has_front nat_eq number_exact number_itself (vars_of_term (slice_get plan.terms a))
      (vars_of_term (slice_get plan.terms b)) v h))

  pub second_within : Within same_atom (values_in plan seen b) side_values
  second_within =
      values_within seen (vars_of_term (slice_get plan.terms b)) (distinct read)
      (λ v h. distinct_has read v (has_back nat_eq number_exact number_itself (vars_of_term (slice_get plan.terms a))
      (vars_of_term (slice_get plan.terms b)) v h))

  pub values_both_within : Within same_atom (values_in plan seen a ++ values_in plan seen b) side_values
  values_both_within x h =
      elim (has_either same_atom atom_exact atom_itself (values_in plan seen a) (values_in plan seen b) x h) [
        | inl k ↦ first_within x k
        | inr k ↦ second_within x k
      ]

-- what follows for a side that is a lone inferred variable
confined_few : (plan : Plan) (seen : Seen) (v : ℕ) (test : Piece → Bool) → LiesInGrains plan seen
    → length (why_confined plan seen v test) ≤ side_grains plan (Some v)
confined_few plan seen v test lies =
    elim (is_restrictable plan v) as (λ b. length (cond b [] (why_left plan seen v test)) ≤ cond b 0
    (count_of plan v)) [
      | true ↦ omega arith
      | false ↦ left_few plan seen v test lies
    ]

module _ (plan : Plan) (seen : Seen) (rule : Rule) (r : Relation) (a b : ℕ) (lies : LiesInGrains plan seen) where
  abbrev kind : Kind
  kind = Compare r a b

  -- the most premises for a side
  abbrev most : ℕ → ℕ
  most v = acting_size plan rule + (sides_size plan a b + side_grains plan (Some v))

  side_allows : (v : ℕ) (test : Piece → Bool) → is_side plan rule a b v ≡ true → most v ≤ compare_bound plan rule a b
      → (c : Bool) → is_restrictable plan v ≡ c
      → AllowsFor plan rule kind (most v) (cond c (atoms (map (Out v) (failing plan v test)))
      (of_remaining plan v (left_with plan seen v test)))
  side_allows v test side fits true e = λ x h.
      let m = mapped_is (Out v) (failing plan v test) x h in
      subst (λ z. most v ≤ kind_bound plan rule kind z) (sym m.1)
      (only (is_side plan rule a b v && is_restrictable plan v) (most v) (compare_bound plan rule a b)
      (and_from (is_side plan rule a b v) (is_restrictable plan v) side e) fits)
  side_allows v test side fits false e = by (left_with plan seen v test)
    where
      by : (gs : List ℕ) → AllowsFor plan rule kind (most v) (of_remaining plan v gs)
      by [] = fits
      by (g ∷ gs) = λ x h.
          let l = last_is plan v (g ∷ gs) x h in
          subst (λ z. most v ≤ kind_bound plan rule kind z) (sym l.1)
          (only (is_side plan rule a b v && not (is_restrictable plan v)) (most v) (compare_bound plan rule a b)
          (and_from (is_side plan rule a b v) (not (is_restrictable plan v)) side
          (not_from_false (is_restrictable plan v) e)) fits)

  side_few : (v : ℕ) (test : Piece → Bool) (others : List Atom) → is_side plan rule a b v ≡ true
      → most v ≤ compare_bound plan rule a b
      → Within same_atom others (side_values plan seen rule a b)
      → IsWithin plan rule kind (said_with (why_it_acts plan seen rule)
      (said_from seen (others ++ why_confined plan seen v test) (confined plan seen v test)))
  side_few v test others side fits f =
      let values = side_values plan seen rule a b in
      let confining = why_confined plan seen v test in
      let long : length (values ++ confining) ≡ length values + length confining = length-append values confining in
      let few = side_values_few plan seen rule a b in
      let own = confined_few plan seen v test lies in
      from_few plan seen rule kind (others ++ confining) (most v) (confined plan seen v test)
      (acting_few plan seen rule (others ++ confining) (values ++ confining)
      (sides_size plan a b + side_grains plan (Some v))
      (both_within others confining values confining f (λ x h. h)) (omega arith))
      (side_allows v test side fits (is_restrictable plan v) refl)

  related_few : (q : Relation) (o : Option ℕ) (others : List Atom) (x : Option Value)
      → ((v : ℕ) → o ≡ Some v → (is_side plan rule a b v ≡ true) × (most v ≤ compare_bound plan rule a b))
      → Within same_atom others (side_values plan seen rule a b)
      → IsWithin plan rule kind (said_with (why_it_acts plan seen rule) (related_said plan seen q o others x))
  related_few q None others x f w = tt
  related_few q (Some v) others None f w = tt
  related_few q (Some v) others (Some y) f w = let k = f v refl in side_few v (may_relate q y) others k.0 k.1 w

  first_side : (v : ℕ) → lone_inferred plan rule a ≡ Some v
      → (is_side plan rule a b v ≡ true) × (most v ≤ compare_bound plan rule a b)
  first_side v e =
      let grains : side_grains plan (lone_inferred plan rule a) ≡ side_grains plan (Some v) =
      ap (side_grains plan) e in (
        or_left (is_this v (lone_inferred plan rule a)) (is_this v (lone_inferred plan rule b))
            (ap (is_this v) e ∙ eq-eqb v v refl),
        omega arith,
      )

  second_side : (v : ℕ) → lone_inferred plan rule b ≡ Some v
      → (is_side plan rule a b v ≡ true) × (most v ≤ compare_bound plan rule a b)
  second_side v e =
      let grains : side_grains plan (lone_inferred plan rule b) ≡ side_grains plan (Some v) =
      ap (side_grains plan) e in (
        or_right (is_this v (lone_inferred plan rule a)) (is_this v (lone_inferred plan rule b))
            (ap (is_this v) e ∙ eq-eqb v v refl),
        omega arith,
      )

  clash_few : length (cited_once (why_it_acts plan seen rule ++ (values_in plan seen a ++ values_in plan seen b)))
      ≤ compare_bound plan rule a b
  clash_few =
      let few = acting_few plan seen rule (values_in plan seen a ++ values_in plan seen b)
      (side_values plan seen rule a b) (sides_size plan a b)
      (values_both_within plan seen rule a b) (side_values_few plan seen rule a b) in
      omega arith

  said_few : (t : Bool) (x y : Option Value)
      → IsWithin plan rule kind (said_with (why_it_acts plan seen rule)
      (clash_when t (values_in plan seen a ++ values_in plan seen b)
      (together (related_said plan seen r (lone_inferred plan rule a) (values_in plan seen b) y)
      (related_said plan seen (turned r) (lone_inferred plan rule b) (values_in plan seen a) x))))
  said_few t x y =
      let one = related_said plan seen r (lone_inferred plan rule a) (values_in plan seen b) y in
      let two = related_said plan seen (turned r) (lone_inferred plan rule b) (values_in plan seen a) x in
      when_few plan seen rule kind t (values_in plan seen a ++ values_in plan seen b) (together one two) clash_few
      (together_few plan seen rule kind one two
      (related_few r (lone_inferred plan rule a) (values_in plan seen b) y first_side
      (second_within plan seen rule a b))
      (related_few (turned r) (lone_inferred plan rule b) (values_in plan seen a) x second_side
      (first_within plan seen rule a b)))

-- Equate
module _ (plan : Plan) (seen : Seen) (rule : Rule) (a b : ℕ) where
  abbrev equation : Kind
  equation = Equate a b

  equal_allows : (o : Option ℕ) (x : Option Value) → ((v : ℕ) → o ≡ Some v → is_side plan rule a b v ≡ true)
      → AllowsFor plan rule equation (equate_bound plan rule a b) (equal_to plan o x)
  equal_allows None x f = λ y h. absurd (cc)
  equal_allows (Some v) None f = λ y h. absurd (cc)
  equal_allows (Some v) (Some z) f =
      by (lies_in_some (grains_of plan v) (rounded_value (decimals_of plan v) z))
    where
      value : Value
      value = rounded_value (decimals_of plan v) z

      by : (c : Bool) → AllowsFor plan rule equation (equate_bound plan rule a b)
          (cond c (atoms (Is v value ∷ [])) clash)
      by true = λ y h.
          elim (has_cases same_atom atom_exact atom_itself (Is v value) [] y h) [
            | inl q ↦ subst (λ w. equate_bound plan rule a b ≤ kind_bound plan rule equation w) (sym q)
                (only (is_side plan rule a b v) (equate_bound plan rule a b) (equate_bound plan rule a b) (f v refl)
                (omega arith))
            | inr q ↦ absurd (cc)
          ]
      by false = omega arith

  equal_few : (o : Option ℕ) (others : List Atom) (x : Option Value)
      → ((v : ℕ) → o ≡ Some v → is_side plan rule a b v ≡ true)
      → Within same_atom others (side_values plan seen rule a b)
      → IsWithin plan rule equation (said_with (why_it_acts plan seen rule) (said_from seen others (equal_to plan o x)))
  equal_few o others x f w =
      from_few plan seen rule equation others (equate_bound plan rule a b) (equal_to plan o x)
      (acting_few plan seen rule others (side_values plan seen rule a b) (sides_size plan a b) w
      (side_values_few plan seen rule a b))
      (equal_allows o x f)

  equation_few : (t : Bool) (x y : Option Value)
      → IsWithin plan rule equation (said_with (why_it_acts plan seen rule)
      (clash_when t (values_in plan seen a ++ values_in plan seen b)
      (together (said_from seen (values_in plan seen b) (equal_to plan (lone_inferred plan rule a) y))
      (said_from seen (values_in plan seen a) (equal_to plan (lone_inferred plan rule b) x)))))
  equation_few t x y =
      let one = said_from seen (values_in plan seen b) (equal_to plan (lone_inferred plan rule a) y) in
      let two = said_from seen (values_in plan seen a) (equal_to plan (lone_inferred plan rule b) x) in
      when_few plan seen rule equation t (values_in plan seen a ++ values_in plan seen b) (together one two)
      (acting_few plan seen rule (values_in plan seen a ++ values_in plan seen b) (side_values plan seen rule a b)
      (sides_size plan a b)
      (values_both_within plan seen rule a b) (side_values_few plan seen rule a b))
      (together_few plan seen rule equation one two
      (equal_few (lone_inferred plan rule a) (values_in plan seen b) y
      (λ v e. or_left (is_this v (lone_inferred plan rule a)) (is_this v (lone_inferred plan rule b))
      (ap (is_this v) e ∙ eq-eqb v v refl))
      (second_within plan seen rule a b))
      (equal_few (lone_inferred plan rule b) (values_in plan seen a) x
      (λ v e. or_right (is_this v (lone_inferred plan rule a)) (is_this v (lone_inferred plan rule b))
      (ap (is_this v) e ∙ eq-eqb v v refl))
      (first_within plan seen rule a b)))

-- a table: each conclusion is of a variable that is narrowed, its grains where it is restrictable, else its value
module _ (plan : Plan) (seen : Seen) (rule : Rule) (table : ℕ) (columns : List Binding) where
  abbrev call : Kind
  call = ByTable table columns

  abbrev IsNarrowed : Atom → Type 0
  IsNarrowed (Here i) = ⊥
  IsNarrowed (Out v g) = (is_narrowed rule columns v && is_restrictable plan v) ≡ true
  IsNarrowed (Is v x) = (is_narrowed rule columns v && not (is_restrictable plan v)) ≡ true

  grains_narrowed : (rows : List (List Value)) (v : ℕ) (gs : List ℕ)
      → (is_narrowed rule columns v && is_restrictable plan v) ≡ true
      → AllByRecursion (λ (c : Conclusion). IsNarrowed c.atom) (map (grain_out plan seen rows columns v) gs)
  grains_narrowed rows v [] e = tt
  grains_narrowed rows v (g ∷ gs) e = (e, grains_narrowed rows v gs e)

  cells_narrowed : (rows possible : List (List Value)) (v : ℕ)
      → (is_narrowed rule columns v && not (is_restrictable plan v)) ≡ true
      → AllByRecursion (λ (c : Conclusion). IsNarrowed c.atom)
      (map (cell_agreed plan seen rows columns v) (agreed plan v (columns_of v columns) possible))
  cells_narrowed rows [] v e = tt
  cells_narrowed rows (row ∷ possible) v e = by (first_cell (columns_of v columns) row)
    where
      test : Value → Bool
      test x = list_all (has_cell (columns_of v columns) x) (row ∷ possible) && lies_in_some (grains_of plan v) x

      by : (o : Option Value) → AllByRecursion (λ (c : Conclusion). IsNarrowed c.atom)
          (map (cell_agreed plan seen rows columns v) (value_if test v o))
      by None = tt
      by (Some x) =
          elim (test x) as (λ c. AllByRecursion (λ (d : Conclusion). IsNarrowed d.atom)
          (map (cell_agreed plan seen rows columns v) (cond c (Is v x ∷ []) []))) [
            | true ↦ (e, tt)
            | false ↦ tt
          ]

  has_any : (v : ℕ) (vs : List ℕ) → has nat_eq vs v ≡ true → list_any (λ w. w == v) vs ≡ true
  has_any v [] h = h
  has_any v (w ∷ vs) h =
      elim (has_cases nat_eq number_exact number_itself w vs v h) [
        | inl q ↦ or_left (w == v) (list_any (λ u. u == v) vs) (eq-eqb w v (sym q))
        | inr q ↦ or_right (w == v) (list_any (λ u. u == v) vs) (has_any v vs q)
      ]

  is_narrowed_there : (v : ℕ) → has nat_eq (narrowed rule columns) v ≡ true → is_narrowed rule columns v ≡ true
  is_narrowed_there v h =
      let k = has_filter nat_eq number_exact number_itself (λ w. list_any (is_column_of w) columns) rule.inferred v h in
      and_from (is_inferred rule v) (list_any (is_column_of v) columns) (has_any v rule.inferred k.0) k.1

  all_narrowed : (rows : List (List Value)) (vs : List ℕ) → Within nat_eq vs (narrowed rule columns)
      → AllByRecursion (λ (c : Conclusion). IsNarrowed c.atom) (flat_map (concluded_newly plan seen rows columns) vs)
  all_narrowed rows [] f = tt
  all_narrowed rows (v ∷ vs) f =
      let there = is_narrowed_there v (f v (has_first nat_eq number_exact number_itself v vs)) in
      all_joined (λ (c : Conclusion). IsNarrowed c.atom) (concluded_newly plan seen rows columns v)
      (flat_map (concluded_newly plan seen rows columns) vs)
      (all_kept (λ (c : Conclusion). IsNarrowed c.atom) (λ (c : Conclusion). not (says seen c.atom))
      (concluded_for plan seen rows columns v)
      (by (is_restrictable plan v) refl there))
      (all_narrowed rows vs (λ w h. f w (has_more nat_eq number_exact number_itself v vs w h)))
    where
      possible : List (List Value)
      possible = filter (is_possible_in plan seen (other_columns v columns)) rows

      by : (c : Bool) → is_restrictable plan v ≡ c → is_narrowed rule columns v ≡ true
          → AllByRecursion (λ (d : Conclusion). IsNarrowed d.atom)
          (cond c (map (grain_out plan seen rows columns v) (missing_grains plan v (columns_of v columns) possible))
          (map (cell_agreed plan seen rows columns v) (agreed plan v (columns_of v columns) possible)))
      by true e n = grains_narrowed rows v (missing_grains plan v (columns_of v columns) possible)
          (and_from (is_narrowed rule columns v) (is_restrictable plan v) n e)
      by false e n = cells_narrowed rows possible v
          (and_from (is_narrowed rule columns v) (not (is_restrictable plan v)) n
          (not_from_false (is_restrictable plan v) e))

  own_few : (own : List Atom) (n : ℕ) → length own ≤ n
      → length (cited_once (why_it_acts plan seen rule ++ own)) ≤ acting_size plan rule + n
  own_few own n h = acting_few plan seen rule own own n (λ x k. k) h

  atom_few : (own : List Atom) (x : Atom) → length own ≤ premises_at_most plan table columns x → IsNarrowed x
      → length (cited_once (why_it_acts plan seen rule ++ own)) ≤ kind_bound plan rule call x
  atom_few own (Here i) h n = absurd n
  atom_few own (Out v g) h n =
      only (is_narrowed rule columns v && is_restrictable plan v)
      (length (cited_once (why_it_acts plan seen rule ++ own)))
      (acting_size plan rule + premises_at_most plan table columns (Out v g)) n
      (own_few own (premises_at_most plan table columns (Out v g)) h)
  atom_few own (Is v y) h n =
      only (is_narrowed rule columns v && not (is_restrictable plan v))
      (length (cited_once (why_it_acts plan seen rule ++ own)))
      (acting_size plan rule + length (rows_of plan table)) n (own_few own (length (rows_of plan table)) h)

  those_few : (cs : List Conclusion) → AllByRecursion
      (λ (c : Conclusion). length c.premises ≤ premises_at_most plan table columns c.atom) cs
      → AllByRecursion (λ (c : Conclusion). IsNarrowed c.atom) cs
      → AllByRecursion (λ (c : Conclusion). length c.premises ≤ kind_bound plan rule call c.atom)
      (map (conclusion_with (why_it_acts plan seen rule)) cs)
  those_few [] h n = tt
  those_few (c ∷ cs) h n = (atom_few c.premises c.atom h.0 n.0, those_few cs h.1 n.1)

  table_few : IsValid plan → IsWithin plan rule call
      (said_with (why_it_acts plan seen rule) (table_said plan seen rule table columns))
  table_few valid = by (not (list_any (is_possible_in plan seen columns) rows))
      (table_is_few plan seen rule table columns valid)
    where
      rows : List (List Value)
      rows = rows_of plan table

      found : List Conclusion
      found = flat_map (concluded_newly plan seen rows columns) (narrowed rule columns)

      by : (t : Bool) → IsFew plan table columns (clash_when t (rows_reasons plan seen columns rows) (concluding found))
          → IsWithin plan rule call (said_with (why_it_acts plan seen rule)
          (clash_when t (rows_reasons plan seen columns rows) (concluding found)))
      by true h = own_few (rows_reasons plan seen columns rows) (length rows) h
      by false h = those_few found h (all_narrowed rows (narrowed rule columns) (λ v k. k))

-- a rule of a last grain or of a line stands at no slot, and that of a last grain asks nothing
slots_free : (plan : Plan) (rule : Rule) → is_of_constraint rule.kind ≡ false → stays_at_its_slots plan rule ≡ true
    → length rule.slots ≡ 0
slots_free plan rule e stays = by (is_of_constraint rule.kind) e stays
  where
    at_slots : Bool
    at_slots =
        (((nat_lt 0 (length rule.slots) && nat_le (length rule.slots) 4) && are_apart (λ i j. i == j) rule.slots)
        && (list_all (shapes.is_at plan rule.slots) (rule_vars plan rule) && list_all
        (shapes.is_at plan rule.slots) rule.inferred))
        && (is_some rule.dependency && are_apart (λ v w. v == w) rule.inferred)

    by : (b : Bool) → b ≡ false → cond b at_slots ((length rule.slots == 0) && (length rule.inferred == 0)) ≡ true
        → length rule.slots ≡ 0
    by true k h = absurd (cc)
    by false k h =
        let p : ((length rule.slots == 0) ≡ true) × ((length rule.inferred == 0) ≡ true) =
        and_parts (length rule.slots == 0) (length rule.inferred == 0) h in
        eqb-true (length rule.slots) 0 p.0

asks_none : (o : Option Condition) → asks_nothing o ≡ true → length (distinct (vars_of_condition o)) ≡ 0
asks_none None e = absurd (cc)
asks_none (Some Always) e = refl
asks_none (Some (Compared r a b)) e = absurd (cc)
asks_none (Some (IsIn v pieces)) e = absurd (cc)
asks_none (Some (Specified v)) e = absurd (cc)
asks_none (Some (Holds set text)) e = absurd (cc)
asks_none (Some (Filled set)) e = absurd (cc)
asks_none (Some (Not' p c)) e = absurd (cc)
asks_none (Some (And' p c q d)) e = absurd (cc)
asks_none (Some (Or' p c q d)) e = absurd (cc)

module _ (plan : Plan) (seen : Seen) (rule : Rule) where
  -- what is left for a Last: its slot, and all grains but one
  last_asks : length rule.slots ≡ 0 → cond (is_some rule.dependency) false
      (asks_nothing (slice_get plan.conditions rule.condition)) ≡ true
      → acting_size plan rule ≡ 0
  last_asks slots asks = by (is_some rule.dependency) asks
    where
      by : (c : Bool) → cond c false (asks_nothing (slice_get plan.conditions rule.condition)) ≡ true
          → acting_size plan rule ≡ 0
      by true e = absurd (cc)
      by false e = let c = asks_none (slice_get plan.conditions rule.condition) e in omega arith

  -- with one grain left, the others are out
  others_out : (v g : ℕ) → not_out plan seen v ≡ g ∷ [] → length (outs_with plan seen v any_piece) + 1 ≤ count_of plan v
  others_out v g e =
      let p = λ (h : ℕ). seen.out v h && is_grain_with plan v any_piece h in
      let nums = numbers_below (count_of plan v) in
      let both = length-filter_both p (λ h. not (p h)) (λ h. refl) nums in
      let all : length nums ≡ count_of plan v = length-range_with_len 0 (count_of plan v) in
      let same : length (outs_with plan seen v any_piece) ≡ length (filter p nums) =
      length-map (filter p nums) (Out v) in
      let left : length (not_out plan seen v) ≤ length (filter (λ h. not (p h)) nums) =
      fewer (λ h. not (p h)) (λ h. not (seen.out v h))
      (λ h k. still (seen.out v h) (is_grain_with plan v any_piece h) k) nums in
      let one : length (not_out plan seen v) ≡ 1 = ap length e in
      omega arith
    where
      still : (b c : Bool) → not b ≡ true → not (b && c) ≡ true
      still true c k = absurd (cc)
      still false c k = refl

  last_few : (v : ℕ) → acting_size plan rule ≡ 0
      → IsWithin plan rule (Last v) (said_with (why_it_acts plan seen rule) (kind_said plan seen rule (Last v)))
  last_few v free =
      from_few plan seen rule (Last v) (why_last plan seen v) (acting_size plan rule + length (why_last plan seen v))
      (atoms (cond (is_here plan seen v) (last_atoms plan v (not_out plan seen v)) []))
      (acting_few plan seen rule (why_last plan seen v) (why_last plan seen v) (length (why_last plan seen v))
      (λ a h. h) (omega arith))
      (by (is_here plan seen v) (not_out plan seen v) refl)
    where
      all : ℕ
      all = acting_size plan rule + length (why_last plan seen v)

      by : (b : Bool) (gs : List ℕ) → not_out plan seen v ≡ gs
          → AllowsFor plan rule (Last v) all (atoms (cond b (last_atoms plan v gs) []))
      by false gs e = λ a h. absurd (cc)
      by true [] e = λ a h. absurd (cc)
      by true (g ∷ (k ∷ more)) e = λ a h. absurd (cc)
      by true (g ∷ []) e = λ a h.
          let l = last_is plan v (g ∷ []) a h in
          let outs = others_out v g e in
          let slot = slot_few (slot_in (slice_get plan.vars v)) in
          let long : length (why_last plan seen v)
          ≡ length (slot_of plan v) + length (outs_with plan seen v any_piece) =
          length-append (slot_of plan v) (outs_with plan seen v any_piece) in
          subst (λ z. all ≤ kind_bound plan rule (Last v) z) (sym l.1)
          (only (v == v) all (count_of plan v) (eq-eqb v v refl) (omega arith))

  line_few : (i : ℕ) → length rule.slots ≡ 0 → IsWithin plan rule (Line i)
      (said_with (why_it_acts plan seen rule) (kind_said plan seen rule (Line i)))
  line_few i free =
      from_few plan seen rule (Line i) (parent_of plan i) (acting_size plan rule + 1)
      (atoms (cond (is_parent_here plan seen i) (Here i ∷ []) []))
      (acting_few plan seen rule (parent_of plan i) (parent_of plan i) 1 (λ a h. h)
      (slot_few (parent_in (slice_get plan.slots i))))
      (by (is_parent_here plan seen i))
    where
      by : (b : Bool) → AllowsFor plan rule (Line i) (acting_size plan rule + 1) (atoms (cond b (Here i ∷ []) []))
      by false = λ a h. absurd (cc)
      by true = λ a h.
          elim (has_cases same_atom atom_exact atom_itself (Here i) [] a h) [
            | inl q ↦ subst (λ z. acting_size plan rule + 1 ≤ kind_bound plan rule (Line i) z) (sym q)
                (only (i == i) (acting_size plan rule + 1) (1 + condition_size plan rule) (eq-eqb i i refl)
                (omega arith))
            | inr q ↦ absurd (cc)
          ]

-- a rule of a valid plan
module _ (plan : Plan) (seen : Seen) (valid : IsValid plan) (lies : LiesInGrains plan seen) (rule : Rule) where
  kind_few : (kind : Kind) → rule.kind ≡ kind → stays_at_its_slots plan rule ≡ true → asks_by_right plan rule ≡ true
      → IsWithin plan rule kind (said_with (why_it_acts plan seen rule) (kind_said plan seen rule kind))
  kind_few (Among v restriction) k stays asks = among_few plan seen rule v restriction lies
  kind_few (Compare r a b) k stays asks =
      said_few plan seen rule r a b lies (is_false
      (compared r (value_at plan (net_reading seen) a) (value_at plan (net_reading seen) b)))
      (value_at plan (net_reading seen) a) (value_at plan (net_reading seen) b)
  kind_few (Equate a b) k stays asks =
      equation_few plan seen rule a b
      ((is_none (lone_inferred plan rule a) && is_none (lone_inferred plan rule b))
      && differ (min (decimals_in_side plan (lone plan a)) (decimals_in_side plan (lone plan b)))
      (value_at plan (net_reading seen) a) (value_at plan (net_reading seen) b))
      (value_at plan (net_reading seen) a) (value_at plan (net_reading seen) b)
  kind_few (ByTable table columns) k stays asks = table_few plan seen rule table columns valid
  kind_few Never k stays asks =
      let few = acting_few plan seen rule [] [] 0 (λ a h. h) (omega arith) in omega arith
  kind_few (Last v) k stays asks =
      last_few plan seen rule v (last_asks plan seen rule (slots_free plan rule (ap is_of_constraint k) stays)
      (sym (ap (λ z. cond (is_some rule.dependency) (not (is_last z))
      (asks_nothing (slice_get plan.conditions rule.condition))) k) ∙ asks))
  kind_few (Line i) k stays asks = line_few plan seen rule i (slots_free plan rule (ap is_of_constraint k) stays)

  rule_few : stays_at_its_slots plan rule ≡ true → asks_by_right plan rule ≡ true
      → IsWithin plan rule rule.kind (found_by plan seen (Some rule))
  rule_few stays asks =
      elim (acts plan seen rule) as (λ b.
      IsWithin plan rule rule.kind (cond b (said_with (why_it_acts plan seen rule)
      (kind_said plan seen rule rule.kind)) silent)) [
        | true ↦ kind_few rule.kind refl stays asks
        | false ↦ tt
      ]

passes_at : {A : Type 0} (test : A → Bool) (o : Option A) (x : A) → PassesIf test o → o ≡ Some x → test x ≡ true
passes_at test None x h e = absurd (cc)
passes_at test (Some y) x h e = let is : y ≡ x = cc in subst (λ z. test z ≡ true) is h

pub found_is_few : FoundIsFew
found_is_few plan seen r rule valid lies e =
    subst (λ o. IsWithin plan rule rule.kind (found_by plan seen o)) (sym e)
    (rule_few plan seen valid lies rule
    (passes_at (stays_at_its_slots plan) (slice_get plan.rules r) rule
    (all_get (stays_at_its_slots plan) plan.rules r valid.own_slots) e)
    (passes_at (asks_by_right plan) (slice_get plan.rules r) rule
    (all_get (asks_by_right plan) plan.rules r valid.asked_by_right) e))

-- a bound of one rule is no more than the greatest
pub greatest_at : {X : Type 0} (f : X → ℕ) (xs : List X) (n : ℕ) (x : X) → slice_get xs n ≡ Some x → f x ≤ greatest f xs
greatest_at f [] n x e = absurd (cc)
greatest_at f (y ∷ xs) zero x e = let is : y ≡ x = cc in subst (λ z. f z ≤ max (f y) (greatest f xs)) is (omega arith)
greatest_at f (y ∷ xs) (suc n) x e = let h = greatest_at f xs n x e in omega arith

pub found_fits_places : FoundFitsPlaces
found_fits_places plan seen r valid lies = by (slice_get plan.rules r) refl
  where
    at_place : (rule : Rule) (a : Atom) → slice_get plan.rules r ≡ Some rule
        → kind_bound plan rule rule.kind a ≤ place_bound plan (place_for a)
    at_place rule (Here i) e = let h = greatest_at (λ x. bound_of plan x (place_for (Here i))) plan.rules r rule e in
        omega arith
    at_place rule (Out v g) e = let h = greatest_at
        (λ x. bound_of plan x (place_for (Out v g))) plan.rules r rule e in omega arith
    at_place rule (Is v x) e = let h = greatest_at (λ y. bound_of plan y (place_for (Is v x))) plan.rules r rule e in
        omega arith

    each : (rule : Rule) → slice_get plan.rules r ≡ Some rule → (cs : List Conclusion)
        → AllByRecursion (λ (c : Conclusion). length c.premises ≤ kind_bound plan rule rule.kind c.atom) cs
        → AllByRecursion (λ (c : Conclusion). length c.premises ≤ place_bound plan (place_for c.atom)) cs
    each rule e [] h = tt
    each rule e (c ∷ cs) h = (
      le (length c.premises) (kind_bound plan rule rule.kind c.atom) (place_bound plan (place_for c.atom)) h.0
          (at_place rule c.atom e),
      each rule e cs h.1,
    )

    all : (rule : Rule) → slice_get plan.rules r ≡ Some rule → (said : Said) → IsWithin plan rule rule.kind said
        → IsWithinPlaces plan said
    all rule e (clashing premises) h = le (length premises) (clash_bound plan rule)
        (greatest (clash_bound plan) plan.rules) h (greatest_at (clash_bound plan) plan.rules r rule e)
    all rule e (concluding cs) h = each rule e cs h

    by : (o : Option Rule) → slice_get plan.rules r ≡ o → IsWithinPlaces plan (found_by plan seen o)
    by None e = tt
    by (Some rule) e =
        all rule e (found_by plan seen (Some rule))
        (subst (λ o. IsWithin plan rule rule.kind (found_by plan seen o)) e
        (found_is_few plan seen r rule valid lies e))
