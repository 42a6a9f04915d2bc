-- A cut takes no number of its decimals away and adds none, and no grain has numbers on both sides of it.
use Rattle.std.proofs.Common.{◌≡◌, ℕ, zero, suc, ◌+◌, ◌-◌, ◌*◌, ◌/◌, ◌%◌, ◌<◌, ◌≤◌, Bool, true, false, ◌&&◌, ◌||◌, List}
use Rattle.std.proofs.Common.{[], ◌∷◌, ◌++◌, refl, sym, ap, ◌∙◌, arith, nat_lt, ℤ, pos, negsuc, ◌+ℤ◌, ◌-ℤ◌, inl, inr}
use Rattle.std.proofs.Common.{if◌then◌else◌}
use Rattle.std.specs.Prelude.{unsigned_abs}
use Rattle.std.specs.List.{list_all, list_any, flat_map}
use Rattle.std.specs.Int.{int_min, int_max, int_rem_euclid}
use Rattle.std.specs.Int.Signed.{lt_z, le_z}
use Rattle.std.specs.Ordering.{int_eq}
use Rattle.std.proofs.Math.Nat.{mul-le-mul_left, div-add-mod, mul-suc}
use Rattle.std.proofs.lemmas.Int.{ints, int_rem_euclid_is}
use Rattle.std.proofs.lemmas.Bool.Decides.{nat_tests}
use Rattle.std.proofs.lemmas.List.Folds.{list_any-append}
use Rattle.vc_value.specs.declared.decimal.Dec.{Dec}
use Rattle.vc_value.specs.declared.grains.Grain.{Grain}
use Rattle.vc_value.proofs.GrainLemmas.{at_most, both_true}
use Rattle.vc_value.proofs.CutLemmas.{all_append, part_all, part_at_all, below_cut, above_cut}
use Rattle.vc_value.specs.Grains.{interval, holds, hold, part_between, part_below, part_at, part_above, parts_of}
use Rattle.vc_value.specs.Grains.{next_below, next_above, is_multiple, is_apart}

nat_of : (z : ℤ) (k : ℕ) → unsigned_abs z ≤ k → (m : ℕ) × (z +ℤ pos k ≡ pos m)
nat_of (pos a) k small = (a + k, refl)
nat_of (negsuc a) k small = (k - suc a, omega (arith, ints))

int_eq_true : (x y : ℤ) → int_eq x y ≡ true → x ≡ y
int_eq_true x y same = grind (arith, ints)

int_eq_same : (x : ℤ) → int_eq x x ≡ true
int_eq_same x = grind (arith, ints)

at_least : (u k : ℕ) → 0 < u → k ≤ k * u
at_least u k some = let le = mul-le-mul_left {m = 1} {n = u} k (omega arith) in omega arith

-- multiples of a unit are the unit apart
apart : (u p q : ℕ) → p < q → u * p + u ≤ u * q
apart u p q less = let scaled = mul-le-mul_left {m = suc p} {n = q} u (omega arith) in let grown = mul-suc u p in
    omega arith

-- in natural numbers, of which the first has no rest
below_nat : (u n a : ℕ) → 0 < u → n % u ≡ 0 → n < a → (a % u ≡ 0 → n + u ≤ a) × (n + a % u ≤ a)
below_nat u n a some whole below =
    let first = div-add-mod n u in
    let second = div-add-mod a u in
    elim (nat_lt (n / u) (a / u)) as (λ b. nat_lt (n / u) (a / u) ≡ b → (a % u ≡ 0 → n + u ≤ a) × (n + a % u ≤ a)) [
      | true ↦ λ e. let less : n / u < a / u = grind (arith, nat_tests) in
          let gap = apart u (n / u) (a / u) less in
          ((λ r. omega arith), omega arith)
      | false ↦ λ e. let le : a / u ≤ n / u = grind (arith, nat_tests) in
          let scaled = mul-le-mul_left u le in (
            (λ r. absurd (omega arith)),
            elim (at_most (a / u) (n / u) le) [
              | inl less ↦ let gap = apart u (a / u) (n / u) less in absurd (omega arith)
              | inr same ↦ let scaled_same = ap (λ k. u * k) same in omega arith
            ],
          )
    ] refl

above_nat : (u n a : ℕ) → 0 < u → n % u ≡ 0 → a < n → a + u ≤ n + a % u
above_nat u n a some whole above =
    let first = div-add-mod n u in
    let second = div-add-mod a u in
    elim (nat_lt (a / u) (n / u)) as (λ b. nat_lt (a / u) (n / u) ≡ b → a + u ≤ n + a % u) [
      | true ↦ λ e. let less : a / u < n / u = grind (arith, nat_tests) in let gap = apart u (a / u) (n / u) less in
          omega arith
      | false ↦ λ e. let le : n / u ≤ a / u = grind (arith, nat_tests) in let scaled = mul-le-mul_left u le in
          absurd (omega arith)
    ] refl

-- two counts as natural numbers, both of them raised by the same whole number of units
record Raised (u : ℕ) (n a : ℤ) : Type 0 where
  turns : ℕ
  first : ℕ
  second : ℕ
  first_is : n +ℤ pos (turns * u) ≡ pos first
  second_is : a +ℤ pos (turns * u) ≡ pos second

raised : (u : ℕ) (n a : ℤ) → 0 < u → Raised u n a
raised u n a some =
    let turns = unsigned_abs n + unsigned_abs a in
    let enough = at_least u turns some in
    let x = nat_of n (turns * u) (omega arith) in
    let y = nat_of a (turns * u) (omega arith) in
    record { turns = turns; first = x.0; second = y.0; first_is = x.1; second_is = y.1 }

first_rest : (u : ℕ) (n a : ℤ) (some : 0 < u) (r : Raised u n a) → int_rem_euclid n (pos u) ≡ pos (r.first % u)
first_rest u n a some r = int_rem_euclid_is n (pos u) u r.turns r.first some refl r.first_is

second_rest : (u : ℕ) (n a : ℤ) (some : 0 < u) (r : Raised u n a) → int_rem_euclid a (pos u) ≡ pos (r.second % u)
second_rest u n a some r = int_rem_euclid_is a (pos u) u r.turns r.second some refl r.second_is

whole_first : (u : ℕ) (n a : ℤ) (some : 0 < u) (r : Raised u n a) → is_multiple u n ≡ true → r.first % u ≡ 0
whole_first u n a some r whole =
    ap unsigned_abs (sym (first_rest u n a some r) ∙ int_eq_true (int_rem_euclid n (pos u)) (pos 0) whole)

-- the cut less the unit, or less its rest where it has one
less_rest : (u : ℕ) (n a : ℤ) (rest : ℕ) → lt_z n a ≡ true → (rest ≡ 0 → le_z (n +ℤ pos u) a ≡ true)
    → le_z (n +ℤ pos rest) a ≡ true → le_z n (a -ℤ (if int_eq (pos rest) (pos 0) then pos u else pos rest)) ≡ true
less_rest u n a zero below gap part = let far = gap refl in grind (arith, ints)
less_rest u n a (suc rest) below gap part = grind (arith, ints)

shifted_le : (n a : ℤ) (k x y m : ℕ) → n +ℤ pos k ≡ pos x → a +ℤ pos k ≡ pos y → x + m ≤ y → le_z (n +ℤ pos m) a ≡ true
shifted_le n a k x y m p q le = grind (arith, ints)

shifted_lt : (n a : ℤ) (k x y : ℕ) → n +ℤ pos k ≡ pos x → a +ℤ pos k ≡ pos y → lt_z n a ≡ true → x < y
shifted_lt n a k x y p q less = grind (arith, ints)

-- a multiple below the cut is at most the next one below
below_law : (u : ℕ) (n at : ℤ) → 0 < u → is_multiple u n ≡ true → lt_z n at ≡ true → le_z n (next_below u at) ≡ true
below_law u n at some whole below =
    let r = raised u n at some in
    let gap
    = below_nat u r.first r.second some (whole_first u n at some r whole)
    (shifted_lt n at (r.turns * u) r.first r.second r.first_is r.second_is below) in
    rw (second_rest u n at some r) (less_rest u n at (r.second % u) below
    (λ none. shifted_le n at (r.turns * u) r.first r.second u r.first_is r.second_is (gap.0 none))
    (shifted_le n at (r.turns * u) r.first r.second (r.second % u) r.first_is r.second_is gap.1))

above_next : (u rest k x y : ℕ) (n a : ℤ) → n +ℤ pos k ≡ pos x → a +ℤ pos k ≡ pos y → y + u ≤ x + rest
    → le_z ((a -ℤ pos rest) +ℤ pos u) n ≡ true
above_next u rest k x y n a p q le = grind (arith, ints)

-- a multiple above the cut is at least the next one above
above_law : (u : ℕ) (n at : ℤ) → 0 < u → is_multiple u n ≡ true → lt_z at n ≡ true → le_z (next_above u at) n ≡ true
above_law u n at some whole above =
    let r = raised u n at some in
    let gap
    = above_nat u r.first r.second some (whole_first u n at some r whole)
    (shifted_lt at n (r.turns * u) r.second r.first r.second_is r.first_is above) in
    rw (second_rest u n at some r)
    (above_next u (r.second % u) (r.turns * u) r.first r.second n at r.first_is r.second_is gap)

-- a number that the grain has and that lies between the counts is in the part
part_has : (n : Dec) (low high : ℤ) (grain : Grain)
    → list_any (holds n) (part_between low high grain)
    ≡ (holds n grain && (le_z low n.millionths && le_z n.millionths high))
part_has n low high grain =
    let from = int_max grain.low.millionths low in
    let to = int_min grain.high.millionths high in
    elim (le_z from to) as
    (λ b. le_z from to ≡ b
    → list_any (holds n) (if b then interval from to ∷ [] else [])
    ≡ (holds n grain && (le_z low n.millionths && le_z n.millionths high))) [
      | true ↦ λ some. grind (arith, ints)
      | false ↦ λ none. grind (arith, ints)
    ] refl

part_at_has : (n : Dec) (unit : ℕ) (at : ℤ) (grain : Grain)
    → list_any (holds n) (part_at unit at grain)
    ≡ (holds n grain && (is_multiple unit at && (le_z at n.millionths && le_z n.millionths at)))
part_at_has n unit at grain =
    elim (is_multiple unit at) as
    (λ b. list_any (holds n) (if b then part_between at at grain else [])
    ≡ (holds n grain && (b && (le_z at n.millionths && le_z n.millionths at)))) [
      | true ↦ part_has n at at grain
      | false ↦ none (holds n grain)
    ]
  where
    none : (b : Bool) → false ≡ (b && false)
    none true = refl
    none false = refl

any_of : (h x y z : Bool) → (h ≡ true → ((x || y) || z) ≡ true) → (((h && x) || (h && y)) || (h && z)) ≡ h
any_of true x y z some = some refl
any_of false x y z some = refl

low_half : (low high m next : ℤ) → (le_z low m && le_z m high) ≡ true → le_z m next ≡ true
    → (le_z low m && le_z m next) ≡ true
low_half low high m next held below = grind (arith, ints)

high_half : (low high m next : ℤ) → (le_z low m && le_z m high) ≡ true → le_z next m ≡ true
    → (le_z next m && le_z m high) ≡ true
high_half low high m next held above = grind (arith, ints)

not_apart : (m at : ℤ) → lt_z m at ≡ false → lt_z at m ≡ false → at ≡ m
not_apart m at p q = grind (arith, ints)

le_same : (m : ℤ) → le_z m m ≡ true
le_same m = grind (arith, ints)

first_of_three : (x y z : Bool) → x ≡ true → ((x || y) || z) ≡ true
first_of_three true y z is = refl
first_of_three false y z is = absurd (cc is)

second_of_three : (x y z : Bool) → y ≡ true → ((x || y) || z) ≡ true
second_of_three true y z is = refl
second_of_three false true z is = refl
second_of_three false false z is = absurd (cc is)

third_of_three : (x y z : Bool) → z ≡ true → ((x || y) || z) ≡ true
third_of_three true y z is = refl
third_of_three false true z is = refl
third_of_three false false z is = is

-- a number without more decimals is in one of the parts
in_a_part : (n : Dec) (unit : ℕ) (at : ℤ) (grain : Grain) → 0 < unit → is_multiple unit n.millionths ≡ true
    → holds n grain ≡ true
    → (((le_z grain.low.millionths n.millionths && le_z n.millionths (next_below unit at))
    || (is_multiple unit at && (le_z at n.millionths && le_z n.millionths at)))
    || (le_z (next_above unit at) n.millionths && le_z n.millionths grain.high.millionths)) ≡ true
in_a_part n unit at grain some whole held =
    let m = n.millionths in
    let low = grain.low.millionths in
    let high = grain.high.millionths in
    let under = le_z low m && le_z m (next_below unit at) in
    let same_number = is_multiple unit at && (le_z at m && le_z m at) in
    let over = le_z (next_above unit at) m && le_z m high in
    elim (lt_z m at) as (λ b. lt_z m at ≡ b → ((under || same_number) || over) ≡ true) [
      | true ↦ λ below. first_of_three under same_number over
          (low_half low high m (next_below unit at) held (below_law unit m at some whole below))
      | false ↦ λ not_below. elim (lt_z at m) as (λ b. lt_z at m ≡ b → ((under || same_number) || over) ≡ true) [
        | true ↦ λ above. third_of_three under same_number over
            (high_half low high m (next_above unit at) held (above_law unit m at some whole above))
        | false ↦ λ not_above. let same = not_apart m at not_below not_above in
            second_of_three under same_number over
            (both_true (is_multiple unit at) (le_z at m && le_z m at) (ap (is_multiple unit) same ∙ whole)
            (both_true (le_z at m) (le_z m at) (ap (λ z. le_z z m) same ∙ le_same m)
            (ap (λ z. le_z m z) same ∙ le_same m)))
      ] refl
    ] refl

parts_hold : (n : Dec) (unit : ℕ) (at : ℤ) (grain : Grain) → 0 < unit → is_multiple unit n.millionths ≡ true
    → list_any (holds n) (parts_of unit at grain) ≡ holds n grain
parts_hold n unit at grain some whole =
    list_any-append (holds n) (part_below unit at grain ++ part_at unit at grain) (part_above unit at grain)
    ∙ ap (λ b. b || list_any (holds n) (part_above unit at grain))
    (list_any-append (holds n) (part_below unit at grain) (part_at unit at grain))
    ∙ ap (λ b. (b || list_any (holds n) (part_at unit at grain)) || list_any (holds n) (part_above unit at grain))
    (part_has n grain.low.millionths (next_below unit at) grain)
    ∙ ap (λ b. ((holds n grain && (le_z grain.low.millionths n.millionths && le_z n.millionths (next_below unit at)))
    || b) || list_any (holds n) (part_above unit at grain)) (part_at_has n unit at grain)
    ∙ ap (λ b. ((holds n grain && (le_z grain.low.millionths n.millionths && le_z n.millionths (next_below unit at)))
    || (holds n grain && (is_multiple unit at && (le_z at n.millionths && le_z n.millionths at)))) || b)
    (part_has n (next_above unit at) grain.high.millionths grain)
    ∙ any_of (holds n grain) _ _ _ (λ held. in_a_part n unit at grain some whole held)

-- a cut keeps each number without more decimals, and adds none of them
pub cut_keeps : (n : Dec) (unit : ℕ) (at : ℤ) (grains : List Grain) → 0 < unit → is_multiple unit n.millionths ≡ true
    → hold n (flat_map (parts_of unit at) grains) ≡ hold n grains
cut_keeps n unit at [] some whole = refl
cut_keeps n unit at (g ∷ gs) some whole =
    list_any-append (holds n) (parts_of unit at g) (flat_map (parts_of unit at) gs)
    ∙ ap (λ b. b || hold n (flat_map (parts_of unit at) gs)) (parts_hold n unit at g some whole)
    ∙ ap (λ b. holds n g || b) (cut_keeps n unit at gs some whole)

below_is_apart : (at : Dec) (grain : Grain) → lt_z grain.high.millionths at.millionths ≡ true → is_apart at grain ≡ true
below_is_apart at grain below =
    ap (λ b. b || (lt_z at.millionths grain.low.millionths
    || (int_eq grain.low.millionths at.millionths && int_eq grain.high.millionths at.millionths))) below

above_is_apart : (at : Dec) (grain : Grain) → lt_z at.millionths grain.low.millionths ≡ true → is_apart at grain ≡ true
above_is_apart at grain above = grind (arith, ints)

same_is_apart : (at : Dec) (low high : ℤ) → le_z low high ≡ true → le_z at.millionths low ≡ true
    → le_z high at.millionths ≡ true → is_apart at (interval low high) ≡ true
same_is_apart at low high ordered from to = grind (arith, ints)

end_below : (high next at : ℤ) → lt_z next at ≡ true → lt_z (int_min high next) at ≡ true
end_below high next at below = grind (arith, ints)

start_above : (low next at : ℤ) → lt_z at next ≡ true → lt_z at (int_max low next) ≡ true
start_above low next at above = grind (arith, ints)

start_at : (low at : ℤ) → le_z at (int_max low at) ≡ true
start_at low at = grind (arith, ints)

end_at : (high at : ℤ) → le_z (int_min high at) at ≡ true
end_at high at = grind (arith, ints)

parts_are_apart : (unit : ℕ) (at : Dec) (grain : Grain) → 0 < unit
    → list_all (is_apart at) (parts_of unit at.millionths grain) ≡ true
parts_are_apart unit at grain some =
    let cut = at.millionths in
    let low = grain.low.millionths in
    let high = grain.high.millionths in
    all_append (is_apart at) (part_below unit cut grain ++ part_at unit cut grain) (part_above unit cut grain)
    (all_append (is_apart at) (part_below unit cut grain) (part_at unit cut grain)
    (part_all (is_apart at) low (next_below unit cut) grain
    (λ _. below_is_apart at (interval (int_max low low) (int_min high (next_below unit cut)))
    (end_below high (next_below unit cut) cut (below_cut unit cut some))))
    (part_at_all (is_apart at) unit cut grain
    (part_all (is_apart at) cut cut grain
    (λ ordered. same_is_apart at (int_max low cut) (int_min high cut) ordered (start_at low cut) (end_at high cut)))))
    (part_all (is_apart at) (next_above unit cut) high grain
    (λ _. above_is_apart at (interval (int_max low (next_above unit cut)) (int_min high high))
    (start_above low (next_above unit cut) cut (above_cut unit cut some))))

-- no grain has numbers on both sides of the cut, or beside it
pub cut_parts : (unit : ℕ) (at : Dec) (grains : List Grain) → 0 < unit
    → list_all (is_apart at) (flat_map (parts_of unit at.millionths) grains) ≡ true
cut_parts unit at [] some = refl
cut_parts unit at (g ∷ gs) some =
    all_append (is_apart at) (parts_of unit at.millionths g) (flat_map (parts_of unit at.millionths) gs)
    (parts_are_apart unit at g some) (cut_parts unit at gs some)
