-- The rooms that are computed from a plan suffice for what is found by its rules, kind by kind.
use Rattle.std.proofs.Common.{◌≡◌, ℕ, zero, suc, ◌+◌, ◌*◌, ◌≤◌, Bool, true, false, cond, not, ◌&&◌, ◌||◌, List, [], ◌∷◌}
use Rattle.std.proofs.Common.{◌++◌, length, map, refl, ap, subst, inl, inr, arith, length-append}
use Rattle.std.specs.Prelude.{min, flat_map, is_none, Option, None, Some, slice_get}
use Rattle.std.specs.List.{filter, list_any, list_all, sum_by, AllByRecursion}
use Rattle.std.proofs.lemmas.Bool.{and_parts}
use Rattle.std.proofs.lemmas.List.{length-map}
use Rattle.std.proofs.lemmas.List.Filters.{length-filter_both}
use Rattle.std.proofs.lemmas.List.FromFn.{length-range_with_len}
use Rattle.std.proofs.lemmas.List.Sums.{sum_by-append, sum_by-cons}
use Rattle.std.proofs.lemmas.Nat.{mul-le}
use Rattle.vc_base.specs.Rounds.{clash, atoms}
use Rattle.vc_base.specs.Sets.{Within}
use Rattle.vc_base.proofs.SetLaws.{has_either}
use Rattle.vc_value.specs.declared.value.Value.{Value}
use Rattle.vc_plan.specs.declared.atoms.Atom.{Atom}
use Rattle.vc_plan.specs.declared.atoms.Atom.TheVariants.{Here, Out, Is}
use Rattle.vc_plan.specs.declared.conditions.Piece.{Piece}
use Rattle.vc_plan.specs.declared.conditions.Relation.{Relation}
use Rattle.vc_plan.specs.declared.plans.Plan.{Plan}
use Rattle.vc_plan.specs.declared.rules.Binding.{Binding}
use Rattle.vc_plan.specs.declared.rules.Kind.{Kind}
use Rattle.vc_plan.specs.declared.rules.Kind.TheVariants.{Among, Compare, Equate, ByTable, Never, Last, Line}
use Rattle.vc_plan.specs.declared.rules.Restriction.{Restriction}
use Rattle.vc_plan.specs.declared.rules.Rule.{Rule}
use Rattle.vc_plan.specs.Answers.{nothing, clash_if, is_nothing, last_atoms, only_value, value_atoms}
use Rattle.vc_plan.specs.Bounds.{sides_size}
use Rattle.vc_plan.specs.Domains.{numbers_below, grains_of, count_of, decimals_of, is_restrictable, is_grain_with}
use Rattle.vc_plan.specs.Gives.{acts, not_out}
use Rattle.vc_plan.specs.Kleene.{is_false}
use Rattle.vc_plan.specs.Pieces.{lies_in, lies_in_some, turned}
use Rattle.vc_plan.specs.Readings.{net_reading}
use Rattle.vc_plan.specs.Reads.{vars_of_condition, vars_of_term}
use Rattle.vc_plan.specs.Restrictions.{is_inferred, failing, left_with, of_remaining, confined, allows, lone}
use Rattle.vc_plan.specs.Restrictions.{lone_inferred, decimals_in_side, differ, equal_to, rounded_value}
use Rattle.vc_plan.specs.Seen.{Seen, same_atom, says, is_here, is_left, is_parent_here, parent_in, slot_in}
use Rattle.vc_plan.specs.TableRows.{agreed, cell_passes, columns_of, first_cell, has_cell, has_grain, is_column_of}
use Rattle.vc_plan.specs.TableRows.{is_possible_in, missing_grains, narrowed, other_columns, rows_of, value_if}
use Rattle.vc_plan.specs.Truth.{compared, value_at}
use Rattle.vc_plan.specs.Valid.{IsValid}
use Rattle.vc_plan.proofs.PlanLaws.Atoms.{atom_exact, atom_itself}
use Rattle.vc_plan_values.specs.Computing.{LiesInGrains}
use Rattle.vc_rule_yield.specs.Yielding.{Conclusion, Rooms}
use Rattle.vc_rule_premises.specs.Cited.{cited_once}
use Rattle.vc_rule_premises.specs.Citing.{why_it_acts}
use Rattle.vc_rule_premises.specs.Saying.{Said, clashing, concluding, silent, together, clash_when, said_from}
use Rattle.vc_rule_premises.specs.Saying.{conclusion_with, said_with, HasRoomFor}
use Rattle.vc_rule_grains.specs.Confining.{outs_with, why_left, why_confined}
use Rattle.vc_rule_grains.specs.Kinds.{slot_of, parent_of, any_piece, why_last}
use Rattle.vc_rule_sides.specs.Comparing.{values_in, may_relate, related_said}
use Rattle.vc_rule_table.specs.Laws.{IsFew, premises_at_most}
use Rattle.vc_rule_table.specs.Reasons.{rows_reasons}
use Rattle.vc_rule_table.specs.TableSaid.{cell_agreed, concluded_for, concluded_newly, grain_out, table_said}
use Rattle.vc_rule_table.proofs.FewLaws.{numbers_counted, table_is_few, variable_holds_once}
use Rattle.vc_rule.specs.Evaluating.{kind_said, found_by}
use Rattle.vc_rule.specs.Rooms.{acting_reads, grains_in_all, lone_grains, room_of_kind, rooms_of, rooms_of_rules}
use Rattle.vc_rule.specs.Rooms.{sides_reads}
use Rattle.vc_rule.specs.Rooming.{RoomsSuffice}
use Rattle.vc_rule.proofs.BoundLaws.{first_within, second_within, side_values, side_values_few, values_both_within}
use Rattle.vc_rule.proofs.CountingLemmas.{acting_few, both_within, distinct_short, filter_short, fewer, left_few}
use Rattle.vc_rule.proofs.CountingLemmas.{outs_few, slot_few, some_there}
use Rattle.vc_rule.proofs.TakingLemmas.{EachAtMost, Gives, Takes, each_more, from_takes, takes_room, times_both}
use Rattle.vc_rule.proofs.TakingLemmas.{times_next, together_takes, weight, weight_next, when_takes}

-- readings that are counted twice are no fewer
pub reads_few : (plan : Plan) (seen : Seen) (rule : Rule) (own all : List Atom) (n : ℕ) → Within same_atom own all
    → length all ≤ n
    → length (cited_once (why_it_acts plan seen rule ++ own)) ≤ acting_reads plan rule + n
reads_few plan seen rule own all n f few =
    let h = acting_few plan seen rule own all n f few in
    let k = distinct_short (vars_of_condition (slice_get plan.conditions rule.condition)) in
    omega arith

sides_few : (plan : Plan) (a b : ℕ) → sides_size plan a b ≤ sides_reads plan a b
sides_few plan a b =
    let vs = vars_of_term (slice_get plan.terms a) in
    let ws = vars_of_term (slice_get plan.terms b) in
    let h = distinct_short (vs ++ ws) in
    let long : length (vs ++ ws) ≡ length vs + length ws = length-append vs ws in
    omega arith

last_short : (plan : Plan) (v : ℕ) (gs : List ℕ) → length (last_atoms plan v gs) ≤ 1
last_short plan v [] = omega arith
last_short plan v (g ∷ []) = by (only_value plan v g)
  where
    by : (o : Option Value) → length (value_atoms v o) ≤ 1
    by None = omega arith
    by (Some a) = omega arith
last_short plan v (g ∷ (h ∷ more)) = omega arith

-- a list of at most one takes no more than that one
one_times : (n m : ℕ) → n ≤ 1 → n * m ≤ m
one_times n m h = let k : n * m ≤ 1 * m = mul-le n m 1 m h (omega arith) in omega arith

some_times : (n m : ℕ) → 1 ≤ n → m ≤ n * m
some_times n m h = let k : 1 * m ≤ n * m = mul-le 1 m n m h (omega arith) in omega arith

-- a variable that is to lie in grains that pass a test: the others out from the common premises, or one value from
-- these and
-- what is out
module _ (plan : Plan) (seen : Seen) (rule : Rule) (v : ℕ) (test : Piece → Bool) where
  abbrev why : List Atom
  why = why_it_acts plan seen rule

  abbrev n : ℕ
  n = count_of plan v

  left_short : length (left_with plan seen v test) ≤ n
  left_short =
      let h = filter_short (λ g. is_left plan seen v g && is_grain_with plan v test g) (numbers_below n) in
      let all : length (numbers_below n) ≡ n = length-range_with_len 0 n in
      omega arith

  failing_short : length (map (Out v) (failing plan v test)) ≤ n
  failing_short =
      let h = filter_short (λ g. not (is_grain_with plan v test g)) (numbers_below n) in
      let same : length (map (Out v) (failing plan v test)) ≡ length (failing plan v test) =
      length-map (failing plan v test) (Out v) in
      let all : length (numbers_below n) ≡ n = length-range_with_len 0 n in
      omega arith

  remaining_gives : (base : ℕ) (gs : List ℕ) → length gs ≤ n
      → Gives seen why (base + n) (base + n) n (n * base + n) (of_remaining plan v gs)
  remaining_gives base [] h = omega arith
  remaining_gives base (g ∷ gs) h =
      let one = last_short plan v (g ∷ gs) in
      let times = one_times (length (last_atoms plan v (g ∷ gs))) (base + n) one in
      let most = some_times n base (omega arith) in
      (omega arith, omega arith, omega arith)

  confined_takes : (base : ℕ) (others : List Atom) → length (cited_once (why ++ (others ++ []))) ≤ base
      → length (cited_once (why ++ (others ++ why_left plan seen v test))) ≤ base + n
      → Takes (base + n) n (n * base + n) (said_with why
      (said_from seen (others ++ why_confined plan seen v test) (confined plan seen v test)))
  confined_takes base others free bound = by (is_restrictable plan v)
    where
      by : (b : Bool) → Takes (base + n) n (n * base + n)
          (said_with why (said_from seen (others ++ cond b [] (why_left plan seen v test))
          (cond b (atoms (map (Out v) (failing plan v test))) (of_remaining plan v (left_with plan seen v test)))))
      by true =
          let short = failing_short in
          let times : length (map (Out v) (failing plan v test)) * base ≤ n * base =
          mul-le (length (map (Out v) (failing plan v test))) base n base short (omega arith) in
          from_takes seen why (others ++ []) base (base + n) n (n * base + n)
          (atoms (map (Out v) (failing plan v test))) free
          (omega arith, omega arith, omega arith)
      by false =
          from_takes seen why (others ++ why_left plan seen v test) (base + n) (base + n) n (n * base + n)
          (of_remaining plan v (left_with plan seen v test)) bound
          (remaining_gives base (left_with plan seen v test) left_short)

  told_takes : (base : ℕ) → length (cited_once (why ++ why_left plan seen v test)) ≤ base + n
      → Takes (base + n) n (n * base + n) (said_with why
      (said_from seen (why_left plan seen v test) (clash_if (is_nothing (left_with plan seen v test)) nothing)))
  told_takes base few =
      from_takes seen why (why_left plan seen v test) (base + n) (base + n) n (n * base + n)
      (clash_if (is_nothing (left_with plan seen v test)) nothing) few
      (by (is_nothing (left_with plan seen v test)))
    where
      by : (b : Bool) → Gives seen why (base + n) (base + n) n (n * base + n) (clash_if b nothing)
      by true = omega arith
      by false = (omega arith, omega arith, omega arith)

-- Among
among_takes : (plan : Plan) (seen : Seen) (rule : Rule) (v : ℕ) (restriction : Restriction) → LiesInGrains plan seen
    → Takes (acting_reads plan rule + count_of plan v) (count_of plan v)
    (count_of plan v * acting_reads plan rule + count_of plan v)
    (said_with (why_it_acts plan seen rule) (kind_said plan seen rule (Among v restriction)))
among_takes plan seen rule v restriction lies = by (is_inferred rule v)
  where
    test : Piece → Bool
    test = allows plan v restriction

    left : length (cited_once (why_it_acts plan seen rule ++ why_left plan seen v test))
        ≤ acting_reads plan rule + count_of plan v
    left = reads_few plan seen rule (why_left plan seen v test) (why_left plan seen v test) (count_of plan v)
        (λ a h. h) (left_few plan seen v test lies)

    by : (b : Bool)
        → Takes (acting_reads plan rule + count_of plan v) (count_of plan v)
        (count_of plan v * acting_reads plan rule + count_of plan v)
        (said_with (why_it_acts plan seen rule)
        (said_from seen (cond b (why_confined plan seen v test) (why_left plan seen v test))
        (cond b (confined plan seen v test) (clash_if (is_nothing (left_with plan seen v test)) nothing))))
    by true =
        let free = reads_few plan seen rule [] [] 0 (λ a h. h) (omega arith) in
        confined_takes plan seen rule v test (acting_reads plan rule) [] (omega arith) left
    by false = told_takes plan seen rule v test (acting_reads plan rule) left

-- Compare and Equate
module _ (plan : Plan) (seen : Seen) (rule : Rule) (a b : ℕ) (lies : LiesInGrains plan seen) where
  abbrev base : ℕ
  base = acting_reads plan rule + sides_reads plan a b

  abbrev reasons : List Atom
  reasons = why_it_acts plan seen rule

  free_few : (others : List Atom) → Within same_atom others (side_values plan seen rule a b)
      → length (cited_once (reasons ++ others)) ≤ base
  free_few others f =
      let short = side_values_few plan seen rule a b in
      let fits = sides_few plan a b in
      reads_few plan seen rule others (side_values plan seen rule a b) (sides_reads plan a b) f (omega arith)

  with_none : (others : List Atom) → Within same_atom others (side_values plan seen rule a b)
      → Within same_atom (others ++ []) (side_values plan seen rule a b)
  with_none others f x h =
      elim (has_either same_atom atom_exact atom_itself others [] x h) [ inl k ↦ f x k | inr k ↦ absurd (cc) ]

  bound_few : (v : ℕ) (test : Piece → Bool) (others : List Atom)
      → Within same_atom others (side_values plan seen rule a b)
      → length (cited_once (reasons ++ (others ++ why_left plan seen v test))) ≤ base + count_of plan v
  bound_few v test others f =
      let values = side_values plan seen rule a b in
      let left = why_left plan seen v test in
      let long : length (values ++ left) ≡ length values + length left = length-append values left in
      let short = side_values_few plan seen rule a b in
      let fits = sides_few plan a b in
      let own = left_few plan seen v test lies in
      let few = reads_few plan seen rule (others ++ left) (values ++ left) (sides_reads plan a b + count_of plan v)
      (both_within others left values left f (λ x h. h)) (omega arith) in
      omega arith

  takes_more : (c d n p : ℕ) (said : Said) → c ≤ d → Takes c n p said → Takes d n p said
  takes_more c d n p (clashing premises) h t = omega arith
  takes_more c d n p (concluding cs) h t = (each_more c d h cs t.0, t.1, t.2)

  related_takes : (q : Relation) (o : Option ℕ) (others : List Atom) (x : Option Value)
      → Within same_atom others (side_values plan seen rule a b)
      → Takes (base + lone_grains plan o) (lone_grains plan o) (lone_grains plan o * base + lone_grains plan o)
      (said_with reasons (related_said plan seen q o others x))
  related_takes q None others x f = (tt, omega arith, omega arith)
  related_takes q (Some v) others None f = (tt, omega arith, omega arith)
  related_takes q (Some v) others (Some y) f =
      confined_takes plan seen rule v (may_relate q y) base others (free_few (others ++ []) (with_none others f))
      (bound_few v (may_relate q y) others f)

  comparison_takes : (r : Relation) (t : Bool) (x y : Option Value)
      → let m = lone_grains plan (lone_inferred plan rule a) in
      let n = lone_grains plan (lone_inferred plan rule b) in
      Takes (base + (m + n)) (m + n) ((m * base + m) + (n * base + n))
      (said_with reasons (clash_when t (values_in plan seen a ++ values_in plan seen b)
      (together (related_said plan seen r (lone_inferred plan rule a) (values_in plan seen b) y)
      (related_said plan seen (turned r) (lone_inferred plan rule b) (values_in plan seen a) x))))
  comparison_takes r t x y =
      let m = lone_grains plan (lone_inferred plan rule a) in
      let n = lone_grains plan (lone_inferred plan rule b) in
      let one = related_said plan seen r (lone_inferred plan rule a) (values_in plan seen b) y in
      let two = related_said plan seen (turned r) (lone_inferred plan rule b) (values_in plan seen a) x in
      let clash = free_few (values_in plan seen a ++ values_in plan seen b) (values_both_within plan seen rule a b) in
      when_takes seen reasons (base + (m + n)) (m + n) ((m * base + m) + (n * base + n)) t
      (values_in plan seen a ++ values_in plan seen b)
      (together one two) (omega arith)
      (together_takes seen reasons (base + (m + n)) m n (m * base + m) (n * base + n) one two
      (takes_more (base + m) (base + (m + n)) m (m * base + m) (said_with reasons one) (omega arith)
      (related_takes r (lone_inferred plan rule a) (values_in plan seen b) y (second_within plan seen rule a b)))
      (takes_more (base + n) (base + (m + n)) n (n * base + n) (said_with reasons two) (omega arith)
      (related_takes (turned r) (lone_inferred plan rule b) (values_in plan seen a) x
      (first_within plan seen rule a b))))

  equal_gives : (o : Option ℕ) (x : Option Value) → Gives seen reasons base base 1 base (equal_to plan o x)
  equal_gives None x = (omega arith, omega arith, omega arith)
  equal_gives (Some v) None = (omega arith, omega arith, omega arith)
  equal_gives (Some v) (Some z) = by (lies_in_some (grains_of plan v) (rounded_value (decimals_of plan v) z))
    where
      by : (c : Bool) → Gives seen reasons base base 1 base
          (cond c (atoms (Is v (rounded_value (decimals_of plan v) z) ∷ [])) clash)
      by true = (omega arith, omega arith, omega arith)
      by false = omega arith

  equation_takes : (t : Bool) (x y : Option Value)
      → Takes base 2 (base + base) (said_with reasons (clash_when t (values_in plan seen a ++ values_in plan seen b)
      (together (said_from seen (values_in plan seen b) (equal_to plan (lone_inferred plan rule a) y))
      (said_from seen (values_in plan seen a) (equal_to plan (lone_inferred plan rule b) x)))))
  equation_takes t x y =
      let one = said_from seen (values_in plan seen b) (equal_to plan (lone_inferred plan rule a) y) in
      let two = said_from seen (values_in plan seen a) (equal_to plan (lone_inferred plan rule b) x) in
      when_takes seen reasons base 2 (base + base) t (values_in plan seen a ++ values_in plan seen b) (together one two)
      (free_few (values_in plan seen a ++ values_in plan seen b) (values_both_within plan seen rule a b))
      (together_takes seen reasons base 1 1 base base one two
      (from_takes seen reasons (values_in plan seen b) base base 1 base (equal_to plan (lone_inferred plan rule a) y)
      (free_few (values_in plan seen b) (second_within plan seen rule a b)) (equal_gives (lone_inferred plan rule a) y))
      (from_takes seen reasons (values_in plan seen a) base base 1 base (equal_to plan (lone_inferred plan rule b) x)
      (free_few (values_in plan seen a) (first_within plan seen rule a b)) (equal_gives (lone_inferred plan rule b) x)))

-- Last and Line
module _ (plan : Plan) (seen : Seen) (rule : Rule) where
  abbrev because : List Atom
  because = why_it_acts plan seen rule

  at_most_one : (m : ℕ) (b : Bool) (xs : List Atom) → length xs ≤ 1 → Gives seen because m m 1 m (atoms (cond b xs []))
  at_most_one m true xs h = let k = one_times (length xs) m h in (omega arith, h, k)
  at_most_one m false xs h = (omega arith, omega arith, omega arith)

  last_takes : (v : ℕ)
      → let m = acting_reads plan rule + (count_of plan v + 1) in
      Takes m 1 m (said_with because (kind_said plan seen rule (Last v)))
  last_takes v =
      let m = acting_reads plan rule + (count_of plan v + 1) in
      let outs = outs_few plan seen v any_piece in
      let slot = slot_few (slot_in (slice_get plan.vars v)) in
      let long : length (why_last plan seen v) ≡ length (slot_of plan v) + length (outs_with plan seen v any_piece) =
      length-append (slot_of plan v) (outs_with plan seen v any_piece) in
      from_takes seen because (why_last plan seen v) m m 1 m
      (atoms (cond (is_here plan seen v) (last_atoms plan v (not_out plan seen v)) []))
      (reads_few plan seen rule (why_last plan seen v) (why_last plan seen v) (count_of plan v + 1) (λ a h. h)
      (omega arith))
      (at_most_one m (is_here plan seen v) (last_atoms plan v (not_out plan seen v))
      (last_short plan v (not_out plan seen v)))

  line_takes : (i : ℕ) → let m = acting_reads plan rule + 1 in
      Takes m 1 m (said_with because (kind_said plan seen rule (Line i)))
  line_takes i =
      let m = acting_reads plan rule + 1 in
      from_takes seen because (parent_of plan i) m m 1 m (atoms (cond (is_parent_here plan seen i) (Here i ∷ []) []))
      (reads_few plan seen rule (parent_of plan i) (parent_of plan i) 1 (λ a h. h)
      (slot_few (parent_in (slice_get plan.slots i))))
      (at_most_one m (is_parent_here plan seen i) (Here i ∷ []) (omega arith))

-- of a row one grain of a variable at most has the cell
none_pass : (xs : List ℕ) → length (filter (λ g. false) xs) ≡ 0
none_pass [] = refl
none_pass (x ∷ xs) = none_pass xs

grain_once : (plan : Plan) → IsValid plan → (v : ℕ) (columns : List Binding) (row : List Value)
    → list_any (is_column_of v) columns ≡ true
    → length (filter (λ g. has_grain plan v (columns_of v columns) g row) (numbers_below (count_of plan v))) ≤ 1
grain_once plan valid v columns row some = by (columns_of v columns) (some_column columns some)
  where
    at_first : (c : Binding) (cs : List Binding) (b : Bool) → (b || list_any (is_column_of v) cs) ≡ true
        → (list_any (is_column_of v) cs ≡ true → 1 ≤ length (columns_of v cs))
        → 1 ≤ length (cond b (c ∷ columns_of v cs) (columns_of v cs))
    at_first c cs true k f = omega arith
    at_first c cs false k f = f k

    some_column : (cs : List Binding) → list_any (is_column_of v) cs ≡ true → 1 ≤ length (columns_of v cs)
    some_column [] e = absurd (cc)
    some_column (c ∷ cs) e = at_first c cs (is_column_of v c) e (some_column cs)

    nums : List ℕ
    nums = numbers_below (count_of plan v)

    rest : List Binding → ℕ → Bool
    rest cs g = list_all (λ c. cell_passes (λ a. is_grain_with plan v (lies_in a) g) (slice_get row c.column)) cs

    cell : (cs : List Binding) (o : Option Value)
        → length (filter (λ g. cell_passes (λ a. is_grain_with plan v (lies_in a) g) o && rest cs g) nums) ≤ 1
    cell cs None = let h = none_pass nums in omega arith
    cell cs (Some a) =
        let h = fewer (λ g. is_grain_with plan v (lies_in a) g) (λ g. is_grain_with plan v (lies_in a) g && rest cs g)
        (λ g k. let p : (is_grain_with plan v (lies_in a) g ≡ true) × (rest cs g ≡ true) =
        and_parts (is_grain_with plan v (lies_in a) g) (rest cs g) k in p.0) nums in
        let counted : length (filter (is_grain_with plan v (lies_in a)) nums)
        ≡ length (filter (lies_in a) (grains_of plan v)) =
        numbers_counted (lies_in a) [] (grains_of plan v) in
        let once = variable_holds_once plan valid.proper (slice_get plan.vars v) a in
        omega arith

    by : (own : List Binding) → 1 ≤ length own → length (filter (λ g. has_grain plan v own g row) nums) ≤ 1
    by [] h = absurd (omega arith)
    by (c ∷ cs) h = cell cs (slice_get row c.column)

-- so all grains together have no more rows than there are
module _ (h : ℕ → List Value → Bool) where
  abbrev rows_for_all : List (List Value) → List ℕ → ℕ
  rows_for_all rows gs = sum_by (λ g. length (filter (h g) rows)) gs

  no_rows : (gs : List ℕ) → rows_for_all [] gs ≡ 0
  no_rows [] = refl
  no_rows (g ∷ gs) = let k = no_rows gs in let e = sum_by-cons (λ n. length (filter (h n) [])) g gs in omega arith

  one_row : (row : List Value) (rows : List (List Value)) (gs : List ℕ)
      → rows_for_all (row ∷ rows) gs ≡ length (filter (λ g. h g row) gs) + rows_for_all rows gs
  one_row row rows [] = refl
  one_row row rows (g ∷ gs) = by (one_row row rows gs) (h g row) refl
    where
      all : rows_for_all (row ∷ rows) (g ∷ gs) ≡ length (filter (h g) (row ∷ rows)) + rows_for_all (row ∷ rows) gs
      all = sum_by-cons (λ n. length (filter (h n) (row ∷ rows))) g gs

      less : rows_for_all rows (g ∷ gs) ≡ length (filter (h g) rows) + rows_for_all rows gs
      less = sum_by-cons (λ n. length (filter (h n) rows)) g gs

      by : rows_for_all (row ∷ rows) gs ≡ length (filter (λ n. h n row) gs) + rows_for_all rows gs → (b : Bool)
          → h g row ≡ b
          → rows_for_all (row ∷ rows) (g ∷ gs) ≡ length (filter (λ n. h n row) (g ∷ gs)) + rows_for_all rows (g ∷ gs)
      by e true q =
          let row_there : length (filter (h g) (row ∷ rows)) ≡ suc (length (filter (h g) rows)) =
          ap (λ b. length (cond b (row ∷ filter (h g) rows) (filter (h g) rows))) q in
          let grain_there : length (filter (λ n. h n row) (g ∷ gs)) ≡ suc (length (filter (λ n. h n row) gs)) =
          ap (λ b. length (cond b (g ∷ filter (λ n. h n row) gs) (filter (λ n. h n row) gs))) q in
          let f = all in
          let k = less in
          omega arith
      by e false q =
          let row_there : length (filter (h g) (row ∷ rows)) ≡ length (filter (h g) rows) =
          ap (λ b. length (cond b (row ∷ filter (h g) rows) (filter (h g) rows))) q in
          let grain_there : length (filter (λ n. h n row) (g ∷ gs)) ≡ length (filter (λ n. h n row) gs) =
          ap (λ b. length (cond b (g ∷ filter (λ n. h n row) gs) (filter (λ n. h n row) gs))) q in
          let f = all in
          let k = less in
          omega arith

  rows_once : (gs : List ℕ) → ((row : List Value) → length (filter (λ g. h g row) gs) ≤ 1)
      → (rows : List (List Value)) → rows_for_all rows gs ≤ length rows
  rows_once gs f [] = let k = no_rows gs in omega arith
  rows_once gs f (row ∷ rows) =
      let k = rows_once gs f rows in
      let e = one_row row rows gs in
      let one = f row in
      omega arith

-- a table: for each inferred variable its grains, each from why the rule acts and the rows that have it, or one
-- value from all rows
module _ (plan : Plan) (seen : Seen) (rule : Rule) (table : ℕ) (columns : List Binding) (valid : IsValid plan) where
  abbrev acting : ℕ
  acting = acting_reads plan rule

  abbrev rows : List (List Value)
  rows = rows_of plan table

  abbrev with_why : Conclusion → Conclusion
  with_why = conclusion_with (why_it_acts plan seen rule)

  abbrev share : Conclusion → ℕ
  share c = acting + premises_at_most plan table columns c.atom

  abbrev Few : Conclusion → Type 0
  Few c = length c.premises ≤ premises_at_most plan table columns c.atom

  own_few : (own : List Atom) (n : ℕ) → length own ≤ n
      → length (cited_once (why_it_acts plan seen rule ++ own)) ≤ acting + n
  own_few own n h = reads_few plan seen rule own own n (λ x k. k) h

  at_most_rows : (a : Atom) → premises_at_most plan table columns a ≤ length rows
  at_most_rows (Here i) = omega arith
  at_most_rows (Out v g) =
      let p = has_grain plan v (columns_of v columns) g in
      let h = length-filter_both p (λ row. not (p row)) (λ row. refl) rows in
      omega arith
  at_most_rows (Is v a) = omega arith

  each_few : (cs : List Conclusion) → AllByRecursion Few cs → EachAtMost (acting + length rows) (map with_why cs)
  each_few [] f = tt
  each_few (c ∷ cs) f =
      let own = own_few c.premises (premises_at_most plan table columns c.atom) f.0 in
      let most = at_most_rows c.atom in
      (omega arith, each_few cs f.1)

  all_light : (cs : List Conclusion) → AllByRecursion Few cs → weight (map with_why cs) ≤ sum_by share cs
  all_light [] f = omega arith
  all_light (c ∷ cs) f =
      let own = own_few c.premises (premises_at_most plan table columns c.atom) f.0 in
      let later = all_light cs f.1 in
      let all = weight_next (with_why c) (map with_why cs) in
      let shares = sum_by-cons share c cs in
      omega arith

  all_counted : (cs : List Conclusion) → length (map with_why cs) ≡ length cs
  all_counted [] = refl
  all_counted (c ∷ cs) = ap suc (all_counted cs)

  -- what is new of conclusions is no more
  new_lighter : (test : Conclusion → Bool) (cs : List Conclusion)
      → (sum_by share (filter test cs) ≤ sum_by share cs) × (length (filter test cs) ≤ length cs)
  new_lighter test [] = (omega arith, omega arith)
  new_lighter test (c ∷ cs) = by (new_lighter test cs) (test c)
    where
      by : (sum_by share (filter test cs) ≤ sum_by share cs) × (length (filter test cs) ≤ length cs) → (b : Bool)
          → (sum_by share (cond b (c ∷ filter test cs) (filter test cs)) ≤ sum_by share (c ∷ cs))
          × (length (cond b (c ∷ filter test cs) (filter test cs)) ≤ length (c ∷ cs))
      by later true =
          let light : sum_by share (filter test cs) ≤ sum_by share cs = later.0 in
          let few : length (filter test cs) ≤ length cs = later.1 in
          let some = sum_by-cons share c (filter test cs) in
          let all = sum_by-cons share c cs in
          (omega arith, omega arith)
      by later false =
          let light : sum_by share (filter test cs) ≤ sum_by share cs = later.0 in
          let few : length (filter test cs) ≤ length cs = later.1 in
          let all = sum_by-cons share c cs in
          (omega arith, omega arith)

  -- a restrictable variable's grains
  grains_share : (v : ℕ) (gs : List ℕ)
      → sum_by share (map (grain_out plan seen rows columns v) gs)
      ≡ length gs * acting + rows_for_all (λ g. has_grain plan v (columns_of v columns) g) rows gs
  grains_share v [] = omega arith
  grains_share v (g ∷ gs) =
      let h = λ (n : ℕ). has_grain plan v (columns_of v columns) n in
      let later = grains_share v gs in
      let first = sum_by-cons share (grain_out plan seen rows columns v g)
      (map (grain_out plan seen rows columns v) gs) in
      let these = sum_by-cons (λ n. length (filter (h n) rows)) g gs in
      let times = times_next (length gs) acting in
      omega arith

  those_fewer : (h : ℕ → List Value → Bool) (p : ℕ → Bool) (gs : List ℕ)
      → rows_for_all h rows (filter p gs) ≤ rows_for_all h rows gs
  those_fewer h p [] = omega arith
  those_fewer h p (g ∷ gs) = by (those_fewer h p gs) (p g)
    where
      by : rows_for_all h rows (filter p gs) ≤ rows_for_all h rows gs → (b : Bool)
          → rows_for_all h rows (cond b (g ∷ filter p gs) (filter p gs)) ≤ rows_for_all h rows (g ∷ gs)
      by later true =
          let some = sum_by-cons (λ n. length (filter (h n) rows)) g (filter p gs) in
          let all = sum_by-cons (λ n. length (filter (h n) rows)) g gs in
          omega arith
      by later false =
          let all = sum_by-cons (λ n. length (filter (h n) rows)) g gs in
          omega arith

  mapped_long : (f : ℕ → Conclusion) (gs : List ℕ) → length (map f gs) ≡ length gs
  mapped_long f [] = refl
  mapped_long f (g ∷ gs) = ap suc (mapped_long f gs)

  abbrev IsLight : ℕ → List Conclusion → Type 0
  IsLight v cs = (sum_by share cs ≤ count_of plan v * acting + length rows) × (length cs ≤ count_of plan v)

  grains_light : (v : ℕ) (possible : List (List Value)) → list_any (is_column_of v) columns ≡ true
      → IsLight v (map (grain_out plan seen rows columns v) (missing_grains plan v (columns_of v columns) possible))
  grains_light v possible some =
      let own = columns_of v columns in
      let h = λ (g : ℕ). has_grain plan v own g in
      let p = λ (g : ℕ). not (list_any (has_grain plan v own g) possible) in
      let nums = numbers_below (count_of plan v) in
      let gs = filter p nums in
      let all : length nums ≡ count_of plan v = length-range_with_len 0 (count_of plan v) in
      let short = filter_short p nums in
      let long = mapped_long (grain_out plan seen rows columns v) gs in
      let shares = grains_share v gs in
      let fewer_rows = those_fewer h p nums in
      let once = rows_once h nums (λ row. grain_once plan valid v columns row some) rows in
      let times : length gs * acting ≤ count_of plan v * acting =
      mul-le (length gs) acting (count_of plan v) acting (omega arith) (omega arith) in
      (omega arith, omega arith)

  -- the value of one that isn't
  cell_light : (v : ℕ) (own : List Binding) (possible : List (List Value))
      → IsLight v (map (cell_agreed plan seen rows columns v) (agreed plan v own possible))
  cell_light v own [] = (omega arith, omega arith)
  cell_light v own (row ∷ possible) = by (first_cell own row)
    where
      test : Value → Bool
      test x = list_all (has_cell own x) (row ∷ possible) && lies_in_some (grains_of plan v) x

      by : (o : Option Value) → IsLight v (map (cell_agreed plan seen rows columns v) (value_if test v o))
      by None = (omega arith, omega arith)
      by (Some x) = at_test (test x) refl
        where
          at_test : (b : Bool) → test x ≡ b → IsLight v
              (map (cell_agreed plan seen rows columns v) (cond b (Is v x ∷ []) []))
          at_test true e =
              let p : (list_all (has_cell own x) (row ∷ possible) ≡ true) × (lies_in_some (grains_of plan v) x ≡ true) =
              and_parts (list_all (has_cell own x) (row ∷ possible)) (lies_in_some (grains_of plan v) x) e in
              let some : 1 ≤ count_of plan v = some_there (lies_in x) (grains_of plan v) p.1 in
              let most = some_times (count_of plan v) acting some in
              let one : sum_by share (map (cell_agreed plan seen rows columns v) (Is v x ∷ []))
              ≡ (acting + length rows) + 0 =
              sum_by-cons share (cell_agreed plan seen rows columns v (Is v x)) [] in
              (omega arith, omega arith)
          at_test false e = (omega arith, omega arith)

  -- so for one variable, and for all of a list
  variable_light : (v : ℕ) → list_any (is_column_of v) columns ≡ true
      → IsLight v (concluded_newly plan seen rows columns v)
  variable_light v some =
      let possible = filter (is_possible_in plan seen (other_columns v columns)) rows in
      let whole : IsLight v (concluded_for plan seen rows columns v) = by possible (is_restrictable plan v) in
      let part = new_lighter (λ (c : Conclusion). not (says seen c.atom)) (concluded_for plan seen rows columns v) in
      let light : sum_by share (concluded_for plan seen rows columns v) ≤ count_of plan v * acting + length rows =
      whole.0 in
      let few : length (concluded_for plan seen rows columns v) ≤ count_of plan v = whole.1 in
      let lighter : sum_by share (concluded_newly plan seen rows columns v) ≤ sum_by share
      (concluded_for plan seen rows columns v) = part.0 in
      let fewer_new : length (concluded_newly plan seen rows columns v) ≤ length
      (concluded_for plan seen rows columns v) = part.1 in
      (omega arith, omega arith)
    where
      by : (possible : List (List Value)) (b : Bool)
          → IsLight v (cond b (map (grain_out plan seen rows columns v)
          (missing_grains plan v (columns_of v columns) possible))
          (map (cell_agreed plan seen rows columns v) (agreed plan v (columns_of v columns) possible)))
      by possible true = grains_light v possible some
      by possible false = cell_light v (columns_of v columns) possible

  abbrev AreLight : List ℕ → List Conclusion → Type 0
  AreLight vs cs = (sum_by share cs ≤ grains_in_all plan vs * acting + length vs * length rows)
      × (length cs ≤ grains_in_all plan vs)

  joined_light : (v : ℕ) (vs : List ℕ) (xs ys : List Conclusion) → IsLight v xs → AreLight vs ys
      → AreLight (v ∷ vs) (xs ++ ys)
  joined_light v vs xs ys h k =
      let light : sum_by share xs ≤ count_of plan v * acting + length rows = h.0 in
      let few : length xs ≤ count_of plan v = h.1 in
      let later : sum_by share ys ≤ grains_in_all plan vs * acting + length vs * length rows = k.0 in
      let fewer_later : length ys ≤ grains_in_all plan vs = k.1 in
      let all = sum_by-append share xs ys in
      let long : length (xs ++ ys) ≡ length xs + length ys = length-append xs ys in
      let grains : (count_of plan v + grains_in_all plan vs) * acting
      ≡ count_of plan v * acting + grains_in_all plan vs * acting =
      times_both (count_of plan v) (grains_in_all plan vs) acting in
      let lists = times_next (length vs) (length rows) in
      (omega arith, omega arith)

  left_out : (v : ℕ) (vs : List ℕ) (ys : List Conclusion) → AreLight vs ys → AreLight (v ∷ vs) ys
  left_out v vs ys k =
      let later : sum_by share ys ≤ grains_in_all plan vs * acting + length vs * length rows = k.0 in
      let fewer_later : length ys ≤ grains_in_all plan vs = k.1 in
      let grains : (count_of plan v + grains_in_all plan vs) * acting
      ≡ count_of plan v * acting + grains_in_all plan vs * acting =
      times_both (count_of plan v) (grains_in_all plan vs) acting in
      let lists = times_next (length vs) (length rows) in
      (omega arith, omega arith)

  variables_light : (vs : List ℕ) → AreLight vs
      (flat_map (concluded_newly plan seen rows columns) (filter (λ v. list_any (is_column_of v) columns) vs))
  variables_light [] = (omega arith, omega arith)
  variables_light (v ∷ vs) = by (variables_light vs) (list_any (is_column_of v) columns) refl
    where
      later : List ℕ
      later = filter (λ w. list_any (is_column_of w) columns) vs

      by : AreLight vs (flat_map (concluded_newly plan seen rows columns) later) → (b : Bool)
          → list_any (is_column_of v) columns ≡ b
          → AreLight (v ∷ vs) (flat_map (concluded_newly plan seen rows columns) (cond b (v ∷ later) later))
      by k true e = joined_light v vs (concluded_newly plan seen rows columns v)
          (flat_map (concluded_newly plan seen rows columns) later)
          (variable_light v e) k
      by k false e = left_out v vs (flat_map (concluded_newly plan seen rows columns) later) k

  table_takes : Takes (acting + length rows) (grains_in_all plan rule.inferred)
      (grains_in_all plan rule.inferred * acting + length rule.inferred * length rows)
      (said_with (why_it_acts plan seen rule) (table_said plan seen rule table columns))
  table_takes = by (not (list_any (is_possible_in plan seen columns) rows))
      (table_is_few plan seen rule table columns valid)
    where
      found : List Conclusion
      found = flat_map (concluded_newly plan seen rows columns) (narrowed rule columns)

      by : (t : Bool) → IsFew plan table columns (clash_when t (rows_reasons plan seen columns rows) (concluding found))
          → Takes (acting + length rows) (grains_in_all plan rule.inferred)
          (grains_in_all plan rule.inferred * acting + length rule.inferred * length rows)
          (said_with (why_it_acts plan seen rule)
          (clash_when t (rows_reasons plan seen columns rows) (concluding found)))
      by true h = own_few (rows_reasons plan seen columns rows) (length rows) h
      by false h =
          let few = all_counted found in
          let light = all_light found h in
          let k = variables_light rule.inferred in
          let shares : sum_by share found ≤ grains_in_all plan rule.inferred * acting + length rule.inferred
          * length rows = k.0 in
          let count : length found ≤ grains_in_all plan rule.inferred = k.1 in
          (each_few found h, omega arith, omega arith)

-- each kind fits its room
module _ (plan : Plan) (seen : Seen) (valid : IsValid plan) (lies : LiesInGrains plan seen) (rule : Rule) where
  abbrev acts_by : ℕ
  acts_by = acting_reads plan rule

  kind_fits : (kind : Kind) → HasRoomFor (room_of_kind plan rule kind)
      (said_with (why_it_acts plan seen rule) (kind_said plan seen rule kind))
  kind_fits (Among v restriction) =
      let n = count_of plan v in
      let times = times_next n acts_by in
      takes_room (room_of_kind plan rule (Among v restriction)) (acts_by + n) n (n * acts_by + n)
      (said_with (why_it_acts plan seen rule) (kind_said plan seen rule (Among v restriction)))
      (omega arith) (omega arith) (omega arith) (omega arith) (among_takes plan seen rule v restriction lies)
  kind_fits (Compare r a b) =
      let m = lone_grains plan (lone_inferred plan rule a) in
      let n = lone_grains plan (lone_inferred plan rule b) in
      let base = acts_by + sides_reads plan a b in
      let times = times_next (m + n) base in
      let both = times_both m n base in
      takes_room (room_of_kind plan rule (Compare r a b)) (base + (m + n)) (m + n) ((m * base + m) + (n * base + n))
      (said_with (why_it_acts plan seen rule) (kind_said plan seen rule (Compare r a b)))
      (omega arith) (omega arith) (omega arith) (omega arith)
      (comparison_takes plan seen rule a b lies r
      (is_false (compared r (value_at plan (net_reading seen) a) (value_at plan (net_reading seen) b)))
      (value_at plan (net_reading seen) a) (value_at plan (net_reading seen) b))
  kind_fits (Equate a b) =
      let base = acts_by + sides_reads plan a b in
      takes_room (room_of_kind plan rule (Equate a b)) base 2 (base + base)
      (said_with (why_it_acts plan seen rule) (kind_said plan seen rule (Equate a b)))
      (omega arith) (omega arith) (omega arith) (omega arith)
      (equation_takes plan seen rule a b lies
      ((is_none (lone_inferred plan rule a) && is_none (lone_inferred plan rule b))
      && differ (min (decimals_in_side plan (lone plan a)) (decimals_in_side plan (lone plan b)))
      (value_at plan (net_reading seen) a) (value_at plan (net_reading seen) b))
      (value_at plan (net_reading seen) a) (value_at plan (net_reading seen) b))
  kind_fits (ByTable table columns) =
      let n = grains_in_all plan rule.inferred in
      let k = length rule.inferred in
      let rows = length (rows_of plan table) in
      let times = times_next n acts_by in
      let lists = times_next k rows in
      takes_room (room_of_kind plan rule (ByTable table columns)) (acts_by + rows) n (n * acts_by + k * rows)
      (said_with (why_it_acts plan seen rule) (kind_said plan seen rule (ByTable table columns)))
      (omega arith) (omega arith) (omega arith) (omega arith) (table_takes plan seen rule table columns valid)
  kind_fits Never =
      let few = reads_few plan seen rule [] [] 0 (λ a h. h) (omega arith) in
      (omega arith, omega arith)
  kind_fits (Last v) =
      let m = acts_by + (count_of plan v + 1) in
      takes_room (room_of_kind plan rule (Last v)) m 1 m
      (said_with (why_it_acts plan seen rule) (kind_said plan seen rule (Last v)))
      (omega arith) (omega arith) (omega arith) (omega arith) (last_takes plan seen rule v)
  kind_fits (Line i) =
      let m = acts_by + 1 in
      takes_room (room_of_kind plan rule (Line i)) m 1 m
      (said_with (why_it_acts plan seen rule) (kind_said plan seen rule (Line i)))
      (omega arith) (omega arith) (omega arith) (omega arith) (line_takes plan seen rule i)

  rule_fits : HasRoomFor (room_of_kind plan rule rule.kind) (found_by plan seen (Some rule))
  rule_fits =
      elim (acts plan seen rule) as (λ b.
      HasRoomFor (room_of_kind plan rule rule.kind)
      (cond b (said_with (why_it_acts plan seen rule) (kind_said plan seen rule rule.kind)) silent)) [
        | true ↦ kind_fits rule.kind
        | false ↦ (tt, omega arith, omega arith)
      ]

-- with more room there is room too
record IsNoMore (a b : Rooms) : Type 0 where
  cites : a.cites ≤ b.cites
  atoms : a.atoms ≤ b.atoms
  premises : a.premises ≤ b.premises

room_more : (a b : Rooms) → IsNoMore a b → (said : Said) → HasRoomFor a said → HasRoomFor b said
room_more a b n (clashing premises) h =
    let c : length premises ≤ a.cites = h.0 in
    let p : length premises ≤ a.premises = h.1 in
    let more = n.cites in
    let all = n.premises in
    (omega arith, omega arith)
room_more a b n (concluding cs) h =
    let k : length cs ≤ a.atoms = h.1 in
    let p : weight cs ≤ a.premises = h.2 in
    let more = n.atoms in
    let all = n.premises in
    (each_more a.cites b.cites n.cites cs h.0, omega arith, omega arith)

rule_within : (plan : Plan) (rules : List Rule) (r : ℕ) (rule : Rule) → slice_get rules r ≡ Some rule
    → IsNoMore (room_of_kind plan rule rule.kind) (rooms_of_rules plan rules)
rule_within plan [] r rule e = absurd (cc)
rule_within plan (first ∷ rules) zero rule e =
    let is : first ≡ rule = cc in
    subst (λ z. IsNoMore (room_of_kind plan z z.kind) (rooms_of_rules plan (first ∷ rules))) is
    (record { cites = omega arith; atoms = omega arith; premises = omega arith })
rule_within plan (first ∷ rules) (suc r) rule e =
    let h = rule_within plan rules r rule e in
    let cites = h.cites in
    let atoms = h.atoms in
    let premises = h.premises in
    record { cites = omega arith; atoms = omega arith; premises = omega arith }

pub rooms_suffice : RoomsSuffice
rooms_suffice plan seen r valid lies = by (slice_get plan.rules r) refl
  where
    by : (o : Option Rule) → slice_get plan.rules r ≡ o → HasRoomFor (rooms_of plan) (found_by plan seen o)
    by None e = (tt, omega arith, omega arith)
    by (Some rule) e =
        room_more (room_of_kind plan rule rule.kind) (rooms_of plan) (rule_within plan plan.rules r rule e)
        (found_by plan seen (Some rule))
        (rule_fits plan seen valid lies rule)
