-- Whole numbers of units: which counts are some, and how far apart two of them are.
use Rattle.std.proofs.Common.{◌≡◌, ℕ, zero, suc, ◌+◌, ◌-◌, ◌*◌, ◌/◌, ◌%◌, ◌<◌, ◌≤◌, Bool, true, false, refl, sym, ap}
use Rattle.std.proofs.Common.{◌∙◌, arith, ℤ, pos, negsuc, ◌+ℤ◌, ◌-ℤ◌, inl, inr, if◌then◌else◌}
use Rattle.std.specs.Prelude.{int_lt, unsigned_abs}
use Rattle.std.specs.Int.{int_max, int_min, int_rem_euclid}
use Rattle.std.specs.Int.Signed.{lt_z, le_z}
use Rattle.std.specs.Ordering.{int_eq}
use Rattle.std.proofs.Math.Nat.{mul-le-mul_left, mul_comm, suc-mul}
use Rattle.std.proofs.lemmas.Bool.{cases_lt}
use Rattle.std.proofs.lemmas.Int.{ints, int_rem_euclid_is}
use Rattle.std.proofs.lemmas.Nat.{div-add-mod', mod-mul-add}
use Rattle.vc_value.specs.Grains.{is_multiple, next_above, next_below}

pub int_same : (x y : ℤ) → int_eq x y ≡ true → x ≡ y
int_same x y same = grind (arith, ints)

pub int_itself : (x : ℤ) → int_eq x x ≡ true
int_itself x = grind (arith, ints)

nat_of : (z : ℤ) (k : ℕ) → unsigned_abs z ≤ k → (m : ℕ) × (z +ℤ pos k ≡ pos m)
nat_of (pos a) k small = (a + k, refl)
nat_of (negsuc a) k small = (k - suc a, omega (arith, ints))

at_least : (u k : ℕ) → 0 < u → k ≤ k * u
at_least u k some = let le = mul-le-mul_left {m = 1} {n = u} k (omega arith) in omega arith

-- two counts as natural numbers, both of them raised by the same whole number of units
record Raised (u : ℕ) (n a : ℤ) : Type 0 where
  turns : ℕ
  first : ℕ
  second : ℕ
  first_is : n +ℤ pos (turns * u) ≡ pos first
  second_is : a +ℤ pos (turns * u) ≡ pos second

raised : (u : ℕ) (n a : ℤ) → 0 < u → Raised u n a
raised u n a some =
    let turns = unsigned_abs n + unsigned_abs a in
    let enough = at_least u turns some in
    let x = nat_of n (turns * u) (omega arith) in
    let y = nat_of a (turns * u) (omega arith) in
    record { turns = turns; first = x.0; second = y.0; first_is = x.1; second_is = y.1 }

rest_none : (q u : ℕ) → 0 < u → (q * u) % u ≡ 0
rest_none q u some = ap (λ n. n % u) (no_more (q * u)) ∙ mod-mul-add q u 0 some
  where
    no_more : (n : ℕ) → n ≡ n + 0
    no_more n = omega arith

-- a count that comes to a whole number of units
multiple_from : (u : ℕ) (z : ℤ) (t x q : ℕ) → 0 < u → z +ℤ pos (t * u) ≡ pos x → x ≡ q * u → is_multiple u z ≡ true
multiple_from u z t x q some e whole =
    ap (λ r. int_eq r (pos 0))
    (int_rem_euclid_is z (pos u) u t x some refl e ∙ ap (λ n. pos (n % u)) whole ∙ ap pos (rest_none q u some))

-- and a whole number of units comes to one
quotient : (u : ℕ) (z : ℤ) (t x : ℕ) → 0 < u → z +ℤ pos (t * u) ≡ pos x → is_multiple u z ≡ true → x ≡ (x / u) * u
quotient u z t x some e whole =
    let rest : x % u ≡ 0 =
    ap unsigned_abs (sym (int_rem_euclid_is z (pos u) u t x some refl e)
    ∙ int_same (int_rem_euclid z (pos u)) (pos 0) whole) in
    let all = div-add-mod' x u in
    omega (arith, rest, all)

shift_down : (at : ℤ) (k a m y : ℕ) → at +ℤ pos k ≡ pos a → a ≡ y + m → (at -ℤ pos m) +ℤ pos k ≡ pos y
shift_down at k a m y e f = grind (arith, ints)

shift_more : (at : ℤ) (k l a u : ℕ) → at +ℤ pos k ≡ pos a → l ≡ k + u → (at -ℤ pos u) +ℤ pos l ≡ pos a
shift_more at k l a u e f = grind (arith, ints)

shift_up : (z : ℤ) (k y u : ℕ) → z +ℤ pos k ≡ pos y → (z +ℤ pos u) +ℤ pos k ≡ pos (y + u)
shift_up z k y u e = grind (arith, ints)

not_none : (r : ℕ) → int_eq (pos (suc r)) (pos 0) ≡ false
not_none r = grind (arith, ints)

-- the next below, and above, a count is a whole number of units
pub below_multiple : (u : ℕ) (at : ℤ) → 0 < u → is_multiple u (next_below u at) ≡ true
below_multiple u at some =
    ap (λ r. is_multiple u (at -ℤ (if int_eq r (pos 0) then pos u else r))) rest ∙ by (raise.first % u) refl
  where
    raise : Raised u at at
    raise = raised u at at some

    rest : int_rem_euclid at (pos u) ≡ pos (raise.first % u)
    rest = int_rem_euclid_is at (pos u) u raise.turns raise.first some refl raise.first_is

    by : (r : ℕ) → raise.first % u ≡ r → is_multiple u (at -ℤ (if int_eq (pos r) (pos 0) then pos u else pos r)) ≡ true
    by zero e =
        let all = div-add-mod' raise.first u in
        multiple_from u (at -ℤ pos u) (suc raise.turns) raise.first (raise.first / u) some
        (shift_more at (raise.turns * u) (suc raise.turns * u) raise.first u raise.first_is (suc-mul raise.turns u))
        (omega (arith, all, e))
    by (suc r) e =
        let all = div-add-mod' raise.first u in
        ap (λ b. is_multiple u (at -ℤ (if b then pos u else pos (suc r)))) (not_none r)
        ∙ multiple_from u (at -ℤ pos (suc r)) raise.turns ((raise.first / u) * u) (raise.first / u) some
        (shift_down at (raise.turns * u) raise.first (suc r) ((raise.first / u) * u) raise.first_is
        (omega (arith, all, e))) refl

pub above_multiple : (u : ℕ) (at : ℤ) → 0 < u → is_multiple u (next_above u at) ≡ true
above_multiple u at some =
    let raise = raised u at at some in
    let rest = int_rem_euclid_is at (pos u) u raise.turns raise.first some refl raise.first_is in
    let all = div-add-mod' raise.first u in
    let q = raise.first / u in
    let r = raise.first % u in
    ap (λ z. is_multiple u ((at -ℤ z) +ℤ pos u)) rest
    ∙ multiple_from u ((at -ℤ pos r) +ℤ pos u) raise.turns (q * u + u) (suc q) some
    (shift_up (at -ℤ pos r) (raise.turns * u) (q * u) u
    (shift_down at (raise.turns * u) raise.first r (q * u) raise.first_is (omega (arith, all))))
    (sym (suc-mul q u))

pub more_multiple : (u : ℕ) (z : ℤ) → 0 < u → is_multiple u z ≡ true → is_multiple u (z +ℤ pos u) ≡ true
more_multiple u z some whole =
    let raise = raised u z z some in
    let all = quotient u z raise.turns raise.first some raise.first_is whole in
    multiple_from u (z +ℤ pos u) raise.turns (raise.first + u) (suc (raise.first / u)) some
    (shift_up z (raise.turns * u) raise.first u raise.first_is)
    (let grown = suc-mul (raise.first / u) u in omega (arith, all, grown))

-- two whole numbers of units are one apart at least
apart_whole : (u p q : ℕ) → p * u < q * u → p * u + u ≤ q * u
apart_whole u p q less =
    elim (cases_lt p q) [
      | inl below ↦
          let scaled = mul-le-mul_left {m = suc p} {n = q} u (omega (arith, below)) in
          let left = mul_comm u (suc p) in
          let right = mul_comm u q in
          let grown = suc-mul p u in omega (arith, scaled, left, right, grown)
      | inr above ↦
          let scaled = mul-le-mul_left {m = q} {n = p} u above in
          let left = mul_comm u q in
          let right = mul_comm u p in absurd (omega (arith, scaled, left, right, less))
    ]

shifted_le : (n a : ℤ) (k x y m : ℕ) → n +ℤ pos k ≡ pos x → a +ℤ pos k ≡ pos y → x + m ≤ y → le_z (n +ℤ pos m) a ≡ true
shifted_le n a k x y m p q le = grind (arith, ints)

shifted_lt : (n a : ℤ) (k x y : ℕ) → n +ℤ pos k ≡ pos x → a +ℤ pos k ≡ pos y → lt_z n a ≡ true → x < y
shifted_lt n a k x y p q less = grind (arith, ints)

pub multiples_apart : (u : ℕ) (n a : ℤ) → 0 < u → is_multiple u n ≡ true → is_multiple u a ≡ true → lt_z n a ≡ true
    → le_z (n +ℤ pos u) a ≡ true
multiples_apart u n a some first second less =
    let r = raised u n a some in
    let x = quotient u n r.turns r.first some r.first_is first in
    let y = quotient u a r.turns r.second some r.second_is second in
    let below = shifted_lt n a (r.turns * u) r.first r.second r.first_is r.second_is less in
    let gap = apart_whole u (r.first / u) (r.second / u) (omega (arith, x, y, below)) in
    shifted_le n a (r.turns * u) r.first r.second u r.first_is r.second_is (omega (arith, x, y, gap))

-- the greater and the less of two
pub max_multiple : (u : ℕ) (x y : ℤ) → is_multiple u x ≡ true → is_multiple u y ≡ true
    → is_multiple u (int_max x y) ≡ true
max_multiple u x y h k = by (int_lt y x)
  where
    by : (b : Bool) → is_multiple u (if b then x else y) ≡ true
    by true = h
    by false = k

pub min_multiple : (u : ℕ) (x y : ℤ) → is_multiple u x ≡ true → is_multiple u y ≡ true
    → is_multiple u (int_min x y) ≡ true
min_multiple u x y h k = by (int_lt y x)
  where
    by : (b : Bool) → is_multiple u (if b then y else x) ≡ true
    by true = k
    by false = h
