-- Sums over parts are no larger than they may get, and their addends fit.
use Rattle.std.proofs.Common.{◌≡◌, ℕ, zero, suc, ◌+◌, ◌*◌, ◌/◌, ◌^◌, ◌≤◌, ℤ, unsigned_abs, Bool, true, false, ◌&&◌}
use Rattle.std.proofs.Common.{◌∷◌, length, map, refl, sym, subst, ap, arith}
use Rattle.std.specs.Prelude.{if◌then◌else◌, nat_lt, Option, None, Some, is_some, slice_get}
use Rattle.std.specs.List.{filter, range_with_len, sum_by}
use Rattle.std.proofs.lemmas.Bool.{leb-true, ltb-true}
use Rattle.std.proofs.lemmas.List.Sums.{sum_by-cons}
use Rattle.vc_value.specs.Millionths.{stored, one}
use Rattle.vc_plan.specs.declared.plans.Plan.{Plan}
use Rattle.vc_plan.specs.declared.plans.Line as bill
use Rattle.vc_plan.specs.declared.terms.Operator.{Operator}
use Rattle.vc_plan.specs.declared.terms.Operator.TheVariants.{Plus, Times}
use Rattle.vc_plan.specs.Domains.{atom_count, count_of, domain_of, numbers_below}
use Rattle.vc_plan.specs.Numbers.{joined}
use Rattle.vc_plan.specs.Parts.{amount_of, count_of_parts, is_part, line_in, part_quantity, part_weight, quantity_in}
use Rattle.vc_plan.specs.Parts.{sum_of_parts, total, var_of, weighed}
use Rattle.vc_plan.specs.Readings.{Reading, full_reading}
use Rattle.vc_plan.specs.Seen.{Seen}
use Rattle.vc_plan.specs.Sizes.{domain_size}
use Rattle.vc_plan.specs.Truth.{number_of_value, value_at}
use Rattle.vc_plan_values.specs.Computing.{LiesInGrains, OperandsFit, TermsFit}
use Rattle.vc_plan_values.proofs.SizeLemmas.{AtMost}
use Rattle.vc_plan_values.proofs.TermLemmas.{IsBounded, joined_if, operands_fit, read_within, var_small}
use Rattle.vc_rule_readings.specs.Laws.{ValidSumsFit}
use Rattle.vc_rule_readings.specs.Parted.{parted_reading}
use Rattle.vc_rule_readings.specs.Summing.{SumsFit, addend, adds, part_total, stored_count}
use Rattle.vc_rule_readings.proofs.RangeLemmas.{filter_all, filter_both}

-- the stored number of an amount
pub amount_is : (z : ℤ) → stored_count (stored z) ≡ amount_of (Some z)
amount_is z = by (nat_lt (unsigned_abs z) (10 ^ 15))
  where
    by : (b : Bool) → stored_count (if b then Some record { millionths = z } else None) ≡ (if b then Some z else None)
    by true = refl
    by false = refl

at_most_more : (o : Option ℤ) (m n : ℕ) → AtMost o m → m ≤ n → AtMost o n
at_most_more None m n s more = tt
at_most_more (Some z) m n s more = omega arith

pub operands_as : (operator : Operator) (o p x y : Option ℤ) → OperandsFit operator x y → o ≡ x → p ≡ y
    → OperandsFit operator o p
operands_as operator o p x y fit e f =
    subst (λ k. OperandsFit operator k p) (sym e) (subst (OperandsFit operator x) (sym f) fit)

-- amounts, and values of variables, are stored numbers
amount_small : (o : Option ℤ) → AtMost (amount_of o) (10 ^ 15)
amount_small None = tt
amount_small (Some z) = by (nat_lt (unsigned_abs z) (10 ^ 15)) refl
  where
    by : (b : Bool) → nat_lt (unsigned_abs z) (10 ^ 15) ≡ b → AtMost (if b then Some z else None) (10 ^ 15)
    by true e = let small = ltb-true (unsigned_abs z) (10 ^ 15) e in omega arith
    by false e = tt

module _ (plan : Plan) (fit : TermsFit plan) (seen : Seen) (lies : LiesInGrains plan seen) where
  value_small : (v : ℕ) → AtMost (number_of_value (seen.value v)) (10 ^ 15)
  value_small v =
      at_most_more (number_of_value (seen.value v)) (domain_size (domain_of plan (slice_get plan.vars v))) (10 ^ 15)
      (read_within plan seen lies v) (var_small plan fit.domains_there (slice_get plan.vars v))

  -- so what a part adds is small, and so is a total of what some of forty add
  module _ (holds : ℕ → ℕ → Bool) where
    quantity_small : (j : ℕ) → AtMost (part_quantity plan (full_reading plan seen holds) j) (10 ^ 15)
    quantity_small j = by (slice_get plan.lines (line_in (slice_get plan.slots j)))
      where
        by : (o : Option bill.Line) → AtMost (quantity_in plan (full_reading plan seen holds) o) (10 ^ 15)
        by None = tt
        by (Some line) = amount_small (number_of_value (value_at plan (full_reading plan seen holds) line.quantity))

    pub weight_fits : (j v : ℕ)
        → OperandsFit Times (part_quantity plan (full_reading plan seen holds) j) (number_of_value (seen.value v))
    weight_fits j v =
        operands_fit Times (part_quantity plan (full_reading plan seen holds) j) (number_of_value (seen.value v))
        (10 ^ 15) (10 ^ 15)
        (quantity_small j) (value_small v) (omega arith)

    weight_small : (j : ℕ) (o : Option ℕ)
        → AtMost (weighed (full_reading plan seen holds) (part_quantity plan (full_reading plan seen holds) j) o)
        (10 ^ 25)
    weight_small j None = tt
    weight_small j (Some v) =
        let o = part_quantity plan (full_reading plan seen holds) j in
        let p = number_of_value (seen.value v) in
        at_most_more (joined Times o p) (10 ^ 15 * 10 ^ 15 / one + 1) (10 ^ 25)
        (joined_if Times o p (10 ^ 15) (10 ^ 15) (quantity_small j) (value_small v)) (omega arith)

    addend_small : (named : Option ℕ) (j : ℕ) → AtMost (addend plan (full_reading plan seen holds) named j) (10 ^ 25)
    addend_small None j =
        at_most_more (part_quantity plan (full_reading plan seen holds) j) (10 ^ 15) (10 ^ 25) (quantity_small j)
        (omega arith)
    addend_small (Some c) j = weight_small j (var_of plan j c)

    total_within : (named : Option ℕ) (p : ℕ → Bool) (a n : ℕ)
        → AtMost (total (map (addend plan (full_reading plan seen holds) named) (filter p (range_with_len a n))))
        (n * 10 ^ 25)
    total_within named p a zero = omega arith
    total_within named p a (suc n) =
        by (p a) (total_within named p (a + 1) n) (addend_small named a)
      where
        by : (b : Bool)
            → AtMost (total (map (addend plan (full_reading plan seen holds) named)
            (filter p (range_with_len (a + 1) n)))) (n * 10 ^ 25)
            → AtMost (addend plan (full_reading plan seen holds) named a) (10 ^ 25)
            → AtMost (total (map (addend plan (full_reading plan seen holds) named)
            (if b then a ∷ filter p (range_with_len (a + 1) n) else filter p (range_with_len (a + 1) n))))
            (suc n * 10 ^ 25)
        by true later first =
            let w = addend plan (full_reading plan seen holds) named in
            let rest = total (map w (filter p (range_with_len (a + 1) n))) in
            at_most_more (joined Plus (w a) rest) (10 ^ 25 + n * 10 ^ 25) (suc n * 10 ^ 25)
            (joined_if Plus (w a) rest (10 ^ 25) (n * 10 ^ 25) first later) (omega arith)
        by false later first =
            at_most_more (total (map (addend plan (full_reading plan seen holds) named)
            (filter p (range_with_len (a + 1) n))))
            (n * 10 ^ 25) (suc n * 10 ^ 25) later (omega arith)

    pub addition_fits : (named : Option ℕ) (p : ℕ → Bool) (j a n : ℕ) → n ≤ 40
        → OperandsFit Plus (addend plan (full_reading plan seen holds) named j)
        (total (map (addend plan (full_reading plan seen holds) named) (filter p (range_with_len a n))))
    addition_fits named p j a n few =
        let w = addend plan (full_reading plan seen holds) named in
        operands_fit Plus (w j) (total (map w (filter p (range_with_len a n)))) (10 ^ 25) (n * 10 ^ 25)
        (addend_small named j) (total_within named p a n) (omega (arith, few))

    total_small : (i : ℕ) (named : Option ℕ) → length plan.slots ≤ 40
        → AtMost (part_total plan seen (full_reading plan seen holds) i named) (10 ^ 27)
    total_small i named few =
        at_most_more (part_total plan seen (full_reading plan seen holds) i named) (length plan.slots * 10 ^ 25)
        (10 ^ 27)
        (total_within named (adds plan seen i named) 0 (length plan.slots)) (omega (arith, few))

-- the sums of the definitions are totals of what parts add
pub sum_is : (plan : Plan) (seen : Seen) (reading : Reading) (i c : ℕ)
    → part_total plan seen reading i (Some c) ≡ sum_of_parts plan seen reading i c
sum_is plan seen reading i c =
    sym (ap (λ js. total (map (part_weight plan reading c) js))
    (filter_both (λ j. is_part plan i j && seen.here j) (λ j. is_some (var_of plan j c))
    (numbers_below (length plan.slots))))

pub count_is : (plan : Plan) (seen : Seen) (reading : Reading) (i : ℕ)
    → part_total plan seen reading i None ≡ count_of_parts plan seen reading i
count_is plan seen reading i =
    sym (ap (λ js. total (map (part_quantity plan reading) js))
    (filter_all (λ j. is_part plan i j && seen.here j) (numbers_below (length plan.slots))))

pub parted_bounded : (plan : Plan) → SumsFit plan → (seen : Seen) → LiesInGrains plan seen → (holds : ℕ → ℕ → Bool)
    → IsBounded plan (parted_reading plan seen holds)
parted_bounded plan fit seen lies holds = record {
  values = read_within plan seen lies;
  sums = λ slot characteristic.
      subst (λ o. AtMost o (10 ^ 27)) (sum_is plan seen (full_reading plan seen holds) slot characteristic)
      (total_small plan fit.terms seen lies holds slot (Some characteristic) fit.few_slots);
  counts = λ slot.
      subst (λ o. AtMost o (10 ^ 27)) (count_is plan seen (full_reading plan seen holds) slot)
      (total_small plan fit.terms seen lies holds slot None fit.few_slots);
}

-- a valid plan has few slots and few variables
range_counted : (f : ℕ → ℕ) (a n : ℕ) → n ≤ sum_by (λ v. f v + 1) (range_with_len a n)
range_counted f a zero = omega arith
range_counted f a (suc n) =
    let rest = range_counted f (a + 1) n in
    let sum = sum_by-cons (λ v. f v + 1) a (range_with_len (a + 1) n) in
    omega (arith, rest, sum)

pub valid_sums_fit : ValidSumsFit
valid_sums_fit plan valid =
    let atoms : atom_count plan ≤ 40_000 = leb-true (atom_count plan) 40_000 valid.atom_limit in
    let vars = range_counted (count_of plan) 0 (length plan.vars) in record {
      terms = record {
        domains_there = valid.domains_there;
        conditions_there = valid.conditions_there;
        terms_there = valid.terms_there;
        conditions_small = valid.conditions_small;
        terms_small = valid.terms_small;
      };
      few_slots = leb-true (length plan.slots) 40 valid.slot_limit;
      few_vars = omega (arith, atoms, vars);
      vars_by_slot = valid.vars_by_slot;
    }
