-- The bill of a slot by a walk over its own lines.
use Rattle.std.proofs.Common.{◌≡◌, ℕ, zero, suc, ◌+◌, ◌-◌, ◌<◌, ◌≤◌, Bool, true, false, cond, ◌&&◌, List, [], ◌∷◌, ◌++◌}
use Rattle.std.proofs.Common.{length, get_or, refl, sym, ◌∙◌, ap, inl, inr, arith, append_assoc}
use Rattle.std.specs.Prelude.{Option, None, Some, slice_get, if◌then◌else◌}
use Rattle.std.specs.List.{filter, flat_map, range_with_len}
use Rattle.std.proofs.lemmas.Bool.{cases_lt, ne_eqb}
use Rattle.std.proofs.lemmas.List.Concat.{flat_map-append}
use Rattle.std.proofs.lemmas.Option.{slice_get_read}
use Rattle.vc_base.proofs.ListLaws.{range_split}
use Rattle.vc_base.proofs.RangeLaws.{walk_next}
use Rattle.vc_plan.specs.declared.plans.Line.{Line}
use Rattle.vc_plan.specs.declared.plans.Operation.{Operation}
use Rattle.vc_plan.specs.declared.plans.Plan.{Plan}
use Rattle.vc_plan.specs.declared.shown.BillLine.{BillLine}
use Rattle.vc_plan.specs.declared.shown.OperationLine.{OperationLine}
use Rattle.vc_plan.specs.Bills.{bill_from, component_of, is_line_of, operation_line, routing_of, takes_line}
use Rattle.vc_plan.specs.Bills.{takes_operation}
use Rattle.vc_plan.specs.Domains.{numbers_below}
use Rattle.vc_plan.specs.Readings.{Reading}
use Rattle.vc_plan.specs.Seen.{Seen}
use Rattle.vc_bill.specs.Walking.{line_bill, taken_operation, with_component_bill}

-- what those that pass give is what each gives, or nothing
pub given_by_passing : {X Y : Type 0} (p : X → Bool) (f : X → List Y) (xs : List X)
    → flat_map f (filter p xs) ≡ flat_map (λ x. if p x then f x else []) xs
given_by_passing p f [] = refl
given_by_passing p f (x ∷ xs) = by (p x) (given_by_passing p f xs)
  where
    by : (b : Bool) → flat_map f (filter p xs) ≡ flat_map (λ y. if p y then f y else []) xs
        → flat_map f (cond b (x ∷ filter p xs) (filter p xs))
        ≡ (cond b (f x) [] ++ flat_map (λ y. if p y then f y else []) xs)
    by true later = ap (λ ys. f x ++ ys) later
    by false later = later

-- numbers that give nothing, and those of a stretch outside of which none gives anything
none_given : {Y : Type 0} (g : ℕ → List Y) (a n : ℕ) → ((k : ℕ) → a ≤ k → k < a + n → g k ≡ [])
    → flat_map g (range_with_len a n) ≡ []
none_given g a zero none = refl
none_given g a (suc n) none =
    ap (λ ys. ys ++ flat_map g (range_with_len (a + 1) n)) (none a (omega arith) (omega arith))
    ∙ none_given g (a + 1) n (λ k low high. none k (omega (arith, low)) (omega (arith, high)))

stretch_given : {Y : Type 0} (g : ℕ → List Y) (start end count : ℕ) → start ≤ end → end ≤ count
    → ((k : ℕ) → k < start → g k ≡ []) → ((k : ℕ) → end ≤ k → g k ≡ [])
    → flat_map g (numbers_below count) ≡ flat_map g (range_with_len start (end - start))
stretch_given g start end count order inside before after =
    ap (flat_map g) (range_split 0 start (count - start) count start (omega (arith, order, inside)) (omega arith))
    ∙ (flat_map-append g (range_with_len 0 start) (range_with_len start (count - start))
    ∙ (ap (λ ys. ys ++ flat_map g (range_with_len start (count - start)))
    (none_given g 0 start (λ k low high. before k (omega (arith, high))))
    ∙ (ap (flat_map g) (range_split start (end - start) (count - end) (count - start) end (omega (arith, order, inside))
    (omega (arith, order)))
    ∙ (flat_map-append g (range_with_len start (end - start)) (range_with_len end (count - end))
    ∙ (ap (λ ys. flat_map g (range_with_len start (end - start)) ++ ys)
    (none_given g end (count - end) (λ k low high. after k low))
    ∙ ends (flat_map g (range_with_len start (end - start))))))))
  where
    ends : {Z : Type 0} (ys : List Z) → ys ++ [] ≡ ys
    ends [] = refl
    ends (y ∷ ys) = ap (λ zs. y ∷ zs) (ends ys)

module _ (plan : Plan) (seen : Seen) (reading : Reading) (i start end : ℕ)
    (inside : end ≤ length plan.lines)
    (begun : start ≤ length plan.lines)
    (before : (k : ℕ) (x : Line) → slice_get plan.lines k ≡ Some x → k < start → x.slot < i)
    (after : (k : ℕ) (x : Line) → slice_get plan.lines k ≡ Some x → end ≤ k → i < x.slot) where
  other_slot : (n : ℕ) (o : Option Line) → ((x : Line) → o ≡ Some x → x.slot ≡ i → ⊥)
      → is_line_of plan seen reading i n o ≡ false
  other_slot n None apart = refl
  other_slot n (Some x) apart =
      ap (λ b. b && takes_line plan seen reading x (component_of plan n)) (ne_eqb x.slot i (apart x refl))

  nothing_of : (levels level n : ℕ) → ((x : Line) → slice_get plan.lines n ≡ Some x → x.slot ≡ i → ⊥)
      → line_bill plan seen reading levels level i n ≡ []
  nothing_of levels level n apart =
      ap (λ b. cond b (with_component_bill plan seen reading levels level i n) [])
      (other_slot n (slice_get plan.lines n) apart)

  line_there : (n : ℕ) → n < length plan.lines → (x : Line) × (slice_get plan.lines n ≡ Some x)
  line_there n low = by plan.lines n low
    where
      by : (lines : List Line) (k : ℕ) → k < length lines → (x : Line) × (slice_get lines k ≡ Some x)
      by [] k low = absurd (omega (arith, low))
      by (x ∷ lines) zero low = (x, refl)
      by (x ∷ lines) (suc k) low = by lines k (omega (arith, low))

  ordered : start ≤ end
  ordered =
      elim (cases_lt end start) [
        | inl low ↦
            (let there = line_there end (omega (arith, low, begun)) in
            let a = before end there.0 there.1 low in
            let b = after end there.0 there.1 (omega arith) in
            absurd (omega (arith, a, b)))
        | inr least ↦ least
      ]

  walked_below : (levels level : ℕ)
      → flat_map (line_bill plan seen reading levels level i) (range_with_len start (end - start))
      ≡ bill_from plan seen reading (suc levels) level i
  walked_below levels level =
      sym (given_by_passing (λ n. is_line_of plan seen reading i n (slice_get plan.lines n))
      (with_component_bill plan seen reading levels level i)
      (numbers_below (length plan.lines))
      ∙ stretch_given (line_bill plan seen reading levels level i) start end (length plan.lines) ordered inside
      (λ k low. nothing_of levels level k (λ x is same. let h = before k x is low in omega (arith, h, same)))
      (λ k past. nothing_of levels level k (λ x is same. let h = after k x is past in omega (arith, h, same))))

  pub walked : (levels level : ℕ) → 0 < levels
      → flat_map (line_bill plan seen reading (levels - 1) level i) (range_with_len start (end - start))
      ≡ bill_from plan seen reading levels level i
  walked zero level some = absurd (omega (arith, some))
  walked (suc levels) level some =
      let less : suc levels - 1 ≡ levels = omega arith in
      ap (λ m. flat_map (line_bill plan seen reading m level i) (range_with_len start (end - start))) less
      ∙ walked_below levels level

-- the walk of the code: where it begins, and its next step
module _ (plan : Plan) (seen : Seen) (reading : Reading) where
  pub bill_begun : (lines : List Line) → lines ≡ plan.lines → (i start end levels level : ℕ) (out : List BillLine)
      → end ≤ length lines → start ≤ length lines
      → ((k : ℕ) (x : Line) → slice_get lines k ≡ Some x → k < start → x.slot < i)
      → ((k : ℕ) (x : Line) → slice_get lines k ≡ Some x → end ≤ k → i < x.slot)
      → 0 < levels
      → out ++ flat_map (line_bill plan seen reading (levels - 1) level i) (range_with_len start (end - start))
      ≡ out ++ bill_from plan seen reading levels level i
  bill_begun lines is i start end levels level out inside begun before after some =
      let long = ap length is in
      ap (λ rows. out ++ rows)
      (walked plan seen reading i start end (omega (arith, inside, long)) (omega (arith, begun, long))
      (λ k x h. before k x (ap (λ xs. slice_get xs k) is ∙ h))
      (λ k x h. after k x (ap (λ xs. slice_get xs k) is ∙ h))
      levels level some)

  pub bill_next : (levels level i n end : ℕ) (out next whole : List BillLine) → n < end
      → next ≡ out ++ line_bill plan seen reading levels level i n
      → out ++ flat_map (line_bill plan seen reading levels level i) (range_with_len n (end - n)) ≡ whole
      → next ++ flat_map (line_bill plan seen reading levels level i) (range_with_len (n + 1) (end - (n + 1))) ≡ whole
  bill_next levels level i n end out next whole low put so_far =
      let rows = line_bill plan seen reading levels level i in
      let rest = flat_map rows (range_with_len (n + 1) (end - (n + 1))) in
      ap (λ xs. xs ++ rest) put
      ∙ (append_assoc out (rows n) rest ∙ (ap (λ xs. out ++ xs) (sym (walk_next rows n end low)) ∙ so_far))

-- the routing by a walk over all operations
module _ (plan : Plan) (seen : Seen) (reading : Reading) where
  abbrev pub operation_rows : ℕ → List OperationLine
  operation_rows n = taken_operation plan seen reading n (slice_get plan.operations n)

  pub routing_walked : flat_map operation_rows (numbers_below (length plan.operations)) ≡ routing_of plan seen reading
  routing_walked =
      sym (given_by_passing (λ n. takes_operation plan seen reading (slice_get plan.operations n))
      (λ n. operation_line plan reading n (slice_get plan.operations n)) (numbers_below (length plan.operations)))

  pub routing_begun : (out : List OperationLine) (n : ℕ) → out ≡ [] → n ≡ 0
      → out ++ flat_map operation_rows (range_with_len n (length plan.operations - n)) ≡ routing_of plan seen reading
  routing_begun out n empty first =
      let all : length plan.operations - 0 ≡ length plan.operations = omega arith in
      ap (λ xs. xs ++ flat_map operation_rows (range_with_len n (length plan.operations - n))) empty
      ∙ (ap (λ k. flat_map operation_rows (range_with_len k (length plan.operations - k))) first
      ∙ (ap (λ k. flat_map operation_rows (range_with_len 0 k)) all ∙ routing_walked))

  pub routing_next : (n : ℕ) (out next : List OperationLine) (operations : List Operation) (x : Operation)
      → operations ≡ plan.operations → n < length operations → x ≡ get_or operations n x
      → next ≡ out ++ taken_operation plan seen reading n (Some x)
      → out ++ flat_map operation_rows (range_with_len n (length plan.operations - n)) ≡ routing_of plan seen reading
      → next ++ flat_map operation_rows (range_with_len (n + 1) (length plan.operations - (n + 1)))
      ≡ routing_of plan seen reading
  routing_next n out next operations x is low there put so_far =
      let rest = flat_map operation_rows (range_with_len (n + 1) (length plan.operations - (n + 1))) in
      let inside : n < length plan.operations = omega (arith, low, ap length is) in
      let at : slice_get plan.operations n ≡ Some x =
      ap (λ xs. slice_get xs n) (sym is) ∙ slice_get_read operations (length operations) n x refl low there in
      ap (λ xs. xs ++ rest) (put ∙ ap (λ o. out ++ taken_operation plan seen reading n o) (sym at))
      ∙ (append_assoc out (operation_rows n) rest
      ∙ (ap (λ xs. out ++ xs) (sym (walk_next operation_rows n (length plan.operations) inside)) ∙ so_far))
