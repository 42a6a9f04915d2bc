-- The lines of an instance, in order, and which of them are taken.
use Rattle.std.proofs.Common.{◌≡◌, ℕ, zero, suc, ◌+◌, ◌<◌, ◌≤◌, Bool, true, false, cond, ◌&&◌, ◌||◌, List, [], ◌∷◌}
use Rattle.std.proofs.Common.{length, refl, sym, ap, ◌∙◌, arith}
use Rattle.std.proofs.lemmas.Bool.{and_parts, and_from, eqb-true, eq-eqb, lt-ltb}
use Rattle.std.specs.Prelude.{Some, slice_get, nat_lt, ◌==◌}
use Rattle.std.specs.List.{filter, list_all, list_any, range_with_len}
use Rattle.vc_plan.specs.Bills.{component_of, is_line_of, takes_line}
use Rattle.vc_plan.specs.Domains.{numbers_below}
use Rattle.vc_plan.specs.Orders.{are_in_order}
use Rattle.vc_plan.specs.StageLaws.{ComponentsAreTakenWhereHere, ItemsAscend}
use Rattle.vc_plan.proofs.PlanLaws.Lists.{all_filter}

-- a part of a list in order is in order
filtered : (test : ℕ → Bool) (ns : List ℕ) → are_in_order nat_lt ns ≡ true → are_in_order nat_lt (filter test ns) ≡ true
filtered test [] ordered = refl
filtered test (n ∷ ns) ordered =
    let parts = and_parts (list_all (nat_lt n) ns) (are_in_order nat_lt ns) ordered in
    step (test n) (filter test ns) (all_filter (nat_lt n) test ns parts.0) (filtered test ns parts.1)
  where
    step : (b : Bool) (ms : List ℕ) → list_all (nat_lt n) ms ≡ true → are_in_order nat_lt ms ≡ true
        → are_in_order nat_lt (cond b (n ∷ ms) ms) ≡ true
    step true ms after ordered = and_from (list_all (nat_lt n) ms) (are_in_order nat_lt ms) after ordered
    step false ms after ordered = ordered

-- numbers that follow each other ascend
above : (a b n : ℕ) → a < b → list_all (nat_lt a) (range_with_len b n) ≡ true
above a b zero h = refl
above a b (suc n) h =
    and_from (nat_lt a b) (list_all (nat_lt a) (range_with_len (b + 1) n)) (lt-ltb a b h)
    (above a (b + 1) n (omega arith))

ascending : (a n : ℕ) → are_in_order nat_lt (range_with_len a n) ≡ true
ascending a zero = refl
ascending a (suc n) =
    and_from (list_all (nat_lt a) (range_with_len (a + 1) n)) (are_in_order nat_lt (range_with_len (a + 1) n))
    (above a (a + 1) n (omega arith)) (ascending (a + 1) n)

pub items_ascend : ItemsAscend
items_ascend plan seen reading i =
    filtered (λ n. is_line_of plan seen reading i n (slice_get plan.lines n)) (numbers_below (length plan.lines))
    (ascending 0 (length plan.lines))

-- a number stands among those that pass a test where it stands among all and passes
both_false : (b : Bool) → (b && false) ≡ false
both_false true = refl
both_false false = refl

among_step : (test : ℕ → Bool) (n m : ℕ) (passing : List ℕ) (there b c : Bool) → (m == n) ≡ b → test m ≡ c
    → list_any (λ k. k == n) passing ≡ (there && test n)
    → list_any (λ k. k == n) (cond c (m ∷ passing) passing) ≡ ((b || there) && test n)
among_step test n m passing there true true is passes later =
    ap (λ d. d || list_any (λ k. k == n) passing) is ∙ sym (sym (ap test (eqb-true m n is)) ∙ passes)
among_step test n m passing there true false is passes later =
    let fails : test n ≡ false = sym (ap test (eqb-true m n is)) ∙ passes in
    later ∙ ap (λ d. there && d) fails ∙ both_false there ∙ sym fails
among_step test n m passing there false true is passes later = ap (λ d. d || list_any (λ k. k == n) passing) is ∙ later
among_step test n m passing there false false is passes later = later

among_filtered : (test : ℕ → Bool) (n : ℕ) (ns : List ℕ)
    → list_any (λ m. m == n) (filter test ns) ≡ (list_any (λ m. m == n) ns && test n)
among_filtered test n [] = refl
among_filtered test n (m ∷ ms) =
    among_step test n m (filter test ms) (list_any (λ k. k == n) ms) (m == n) (test m) refl refl
    (among_filtered test n ms)

-- and each number below another does
there_step : (a n : ℕ) (later b : Bool) → (a == n) ≡ b → ((a ≡ n → ⊥) → later ≡ true) → ((a == n) || later) ≡ true
there_step a n later true is more = ap (λ d. d || later) is
there_step a n later false is more = ap (λ d. d || later) is ∙ more (λ same. differ (sym is ∙ eq-eqb a n same))
  where
    differ : false ≡ true → ⊥
    differ e = cc

there_from : (a n len : ℕ) → a ≤ n → n < a + len → list_any (λ m. m == n) (range_with_len a len) ≡ true
there_from a n zero low high = absurd (omega arith)
there_from a n (suc len) low high =
    there_step a n (list_any (λ m. m == n) (range_with_len (a + 1) len)) (a == n) refl
    (λ other. there_from (a + 1) n len (omega (arith, other)) (omega arith))

there_below : (n len : ℕ) → n < len → list_any (λ m. m == n) (numbers_below len) ≡ true
there_below n len high = there_from 0 n len (omega arith) (omega arith)

pub within : {X : Type 0} (xs : List X) (n : ℕ) (x : X) → slice_get xs n ≡ Some x → n < length xs
within [] n x is = absurd (cc is)
within (y ∷ ys) zero x is = omega arith
within (y ∷ ys) (suc n) x is = let h = within ys n x is in omega arith

pub components_are_taken_where_here : ComponentsAreTakenWhereHere
components_are_taken_where_here plan seen reading n j line is component =
    among_filtered (λ m. is_line_of plan seen reading line.slot m (slice_get plan.lines m)) n
    (numbers_below (length plan.lines))
    ∙ ap (λ b. b && is_line_of plan seen reading line.slot n (slice_get plan.lines n))
    (there_below n (length plan.lines) (within plan.lines n line is))
    ∙ ap (is_line_of plan seen reading line.slot n) is
    ∙ ap (λ b. b && takes_line plan seen reading line (component_of plan n)) (eq-eqb line.slot line.slot refl)
    ∙ ap (takes_line plan seen reading line) component
