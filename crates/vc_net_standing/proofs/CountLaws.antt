-- How many atoms say that grains of a variable are out tells whether all are.
use Rattle.std.proofs.Common.{◌≡◌, ℕ, zero, suc, ◌+◌, ◌<◌, ◌≤◌, Bool, true, false, ◌&&◌, ◌||◌, List, [], ◌∷◌, length}
use Rattle.std.proofs.Common.{refl, sym, ◌∙◌, ap, subst, inl, inr, arith}
use Rattle.std.specs.Prelude.{◌==◌, nat_eq, if◌then◌else◌}
use Rattle.std.specs.List.{AllByRecursion, IsDistinct, filter, list_all, range_with_len}
use Rattle.std.proofs.lemmas.Bool.{and_from, and_parts, eq-eqb, ltb-true}
use Rattle.std.proofs.lemmas.List.FromFn.{length-range_with_len}
use Rattle.std.proofs.lemmas.Map.Made.{length-le_from_is_member}
use Rattle.std.proofs.lemmas.Map.Steps.{length-le_from_distinct_below}
use Rattle.std.proofs.lemmas.Cmp.{nat_eq_equiv}
use Rattle.vc_base.specs.Sets.{has}
use Rattle.vc_base.proofs.ListLaws.{has_range, number_exact, number_itself}
use Rattle.vc_base.proofs.SetLaws.{both, has_cases, has_first, has_more, none_from, same_test, told}
use Rattle.vc_plan.specs.declared.atoms.Atom.{Atom}
use Rattle.vc_plan.specs.declared.atoms.Atom.TheVariants.{Here, Out, Is}
use Rattle.vc_plan.specs.declared.plans.Plan.{Plan}
use Rattle.vc_plan.specs.Clear.{is_clear}
use Rattle.vc_plan.specs.Domains.{numbers_below, count_of}
use Rattle.vc_plan.specs.Seen.{same_atom}
use Rattle.vc_plan.proofs.PlanLaws.Facts.{Facts, facts}
use Rattle.vc_plan_reasons.specs.Checking.{set_with}
use Rattle.vc_net_standing.specs.Coming.{is_out_of, outs_of}
use Rattle.vc_net_standing.specs.Laws.{OutsAreCounted}

-- the grains of the variable that are out
abbrev pub with_grain : ℕ → Atom → List ℕ → List ℕ
with_grain v (Here i) gs = gs
with_grain v (Out w g) gs = if w == v then g ∷ gs else gs
with_grain v (Is w a) gs = gs

abbrev pub grains_out : ℕ → List Atom → List ℕ
grains_out v [] = []
grains_out v (a ∷ more) = with_grain v a (grains_out v more)

-- as many as the atoms that say so
counted_with : (v : ℕ) (a : Atom) (more : List Atom) → length (grains_out v more) ≡ outs_of v more
    → length (with_grain v a (grains_out v more)) ≡ outs_of v (a ∷ more)
counted_with v (Here i) more e = e
counted_with v (Is w a) more e = e
counted_with v (Out w g) more e = by (w == v)
  where
    by : (b : Bool) → length (if b then g ∷ grains_out v more else grains_out v more)
        ≡ length (if b then Out w g ∷ filter (is_out_of v) more else filter (is_out_of v) more)
    by true = ap suc e
    by false = e

pub counted : (v : ℕ) (stand : List Atom) → length (grains_out v stand) ≡ outs_of v stand
counted v [] = refl
counted v (a ∷ more) = counted_with v a more (counted v more)

-- one of them is out
out_with : (v h : ℕ) (a : Atom) (more : List Atom) → has nat_eq (grains_out v more) h ≡ has same_atom more (Out v h)
    → has nat_eq (with_grain v a (grains_out v more)) h ≡ has same_atom (a ∷ more) (Out v h)
out_with v h (Here i) more e = e
out_with v h (Is w a) more e = e
out_with v h (Out w g) more e =
    elim (told (w == v)) [
      | inl same ↦
          let turned : (v == w) ≡ true = ap (λ x. x == w) (sym (number_exact w v same)) ∙ number_itself w in
          ap (λ b. has nat_eq (if b then g ∷ grains_out v more else grains_out v more) h) same
          ∙ (ap (λ b. (h == g) || b) e ∙ ap (λ b. (b && (h == g)) || has same_atom more (Out v h)) (sym turned))
      | inr other ↦
          let turned : (v == w) ≡ false = not_turned w v other in
          ap (λ b. has nat_eq (if b then g ∷ grains_out v more else grains_out v more) h) other
          ∙ (e ∙ ap (λ b. (b && (h == g)) || has same_atom more (Out v h)) (sym turned))
    ]
  where
    not_turned : (m n : ℕ) → (m == n) ≡ false → (n == m) ≡ false
    not_turned m n e =
        elim (told (n == m)) [
          | inl same ↦ absurd (both (ap (λ x. x == n) (sym (number_exact n m same)) ∙ number_itself n) e)
          | inr f ↦ f
        ]

pub out_there : (v h : ℕ) (stand : List Atom) → has nat_eq (grains_out v stand) h ≡ has same_atom stand (Out v h)
out_there v h [] = refl
out_there v h (a ∷ more) = out_with v h a more (out_there v h more)

-- each once
pub all_apart : (g : ℕ) (gs : List ℕ) → has nat_eq gs g ≡ false → AllByRecursion (λ x. nat_eq g x ≡ false) gs
all_apart g gs e = none_from (nat_eq g) gs e

lacks : (a : Atom) (more : List Atom) → AllByRecursion (λ b. same_atom a b ≡ false) more → has same_atom more a ≡ false
lacks a [] h = refl
lacks a (b ∷ more) h = ap (λ t. t || has same_atom more a) h.0 ∙ lacks a more h.1

once_with : (v : ℕ) (a : Atom) (more : List Atom) → has same_atom more a ≡ false → IsDistinct nat_eq (grains_out v more)
    → IsDistinct nat_eq (with_grain v a (grains_out v more))
unfolding IsDistinct
once_with v (Here i) more new d = d
once_with v (Is w a) more new d = d
once_with v (Out w g) more new d =
    elim (told (w == v)) [
      | inl same ↦
          subst (λ b. IsDistinct nat_eq (if b then g ∷ grains_out v more else grains_out v more)) (sym same) (
            all_apart g (grains_out v more)
                (out_there v g more ∙ (ap (λ x. has same_atom more (Out x g)) (sym (number_exact w v same)) ∙ new)),
            d,
          )
      | inr other ↦
          subst (λ b. IsDistinct nat_eq (if b then g ∷ grains_out v more else grains_out v more)) (sym other) d
    ]

pub once : (v : ℕ) (stand : List Atom) → IsDistinct same_atom stand → IsDistinct nat_eq (grains_out v stand)
unfolding IsDistinct
once v [] d = tt
once v (a ∷ more) d = once_with v a more (lacks a more d.0) (once v more d.1)

-- numbers of a range differ
range_apart : (b a n : ℕ) → b < a → AllByRecursion (λ x. nat_eq b x ≡ false) (range_with_len a n)
range_apart b a zero low = tt
range_apart b a (suc n) low = (differ (nat_eq b a) refl, range_apart b (a + 1) n (omega (arith, low)))
  where
    differ : (t : Bool) → nat_eq b a ≡ t → t ≡ false
    differ true e = let same : b ≡ a = number_exact b a e in absurd (omega (arith, same, low))
    differ false e = refl

range_once : (a n : ℕ) → IsDistinct nat_eq (range_with_len a n)
unfolding IsDistinct
range_once a zero = tt
range_once a (suc n) = (range_apart a (a + 1) n (omega arith), range_once (a + 1) n)

all_read : (p : ℕ → Bool) (xs : List ℕ) (n : ℕ) → list_all p xs ≡ true → has nat_eq xs n ≡ true → p n ≡ true
all_read p [] n e h = absurd (cc)
all_read p (x ∷ xs) n e h =
    let q = and_parts (p x) (list_all p xs) e in
    elim (has_cases nat_eq number_exact number_itself x xs n h) [
      | inl same ↦ ap p same ∙ q.0
      | inr later ↦ all_read p xs n q.1 later
    ]

all_made : (p : ℕ → Bool) (xs : List ℕ) → ((n : ℕ) → has nat_eq xs n ≡ true → p n ≡ true) → list_all p xs ≡ true
all_made p [] f = refl
all_made p (x ∷ xs) f =
    and_from (p x) (list_all p xs) (f x (has_first nat_eq number_exact number_itself x xs))
    (all_made p xs (λ n h. f n (has_more nat_eq number_exact number_itself x xs n h)))

-- numbers below a count, each once, are all of them just where they are as many
pub filled : (count : ℕ) (gs : List ℕ) → IsDistinct nat_eq gs → ((h : ℕ) → has nat_eq gs h ≡ true → h < count)
    → list_all (has nat_eq gs) (numbers_below count) ≡ (length gs == count)
unfolding IsDistinct
filled count gs each low =
    let most : length gs ≤ count = length-le_from_distinct_below gs count each low in
    same_test (list_all (has nat_eq gs) (numbers_below count)) (length gs == count)
    (λ all.
    let least : length (numbers_below count) ≤ length gs
    = length-le_from_is_member nat_eq_equiv (numbers_below count) gs (range_once 0 count)
    (λ h k. all_read (has nat_eq gs) (numbers_below count) h all k) in
    let long = length-range_with_len 0 count in
    eq-eqb (length gs) count (omega (arith, least, most, long)))
    (λ e.
    let full : length gs ≡ count = number_exact (length gs) count e in
    all_made (has nat_eq gs) (numbers_below count) (λ h k.
    elim (told (has nat_eq gs h)) [
      | inl there ↦ there
      | inr absent ↦
          let high = has_range 0 count h k in
          let below : h < count = omega (arith, high.1) in
          let over : length (h ∷ gs) ≤ count
          = length-le_from_distinct_below (h ∷ gs) count (all_apart h gs absent, each)
          (λ q m. elim (has_cases nat_eq number_exact number_itself h gs q m) [
            | inl same ↦ omega (arith, same, below)
            | inr later ↦ low q later
          ]) in
          absurd (omega (arith, over, full))
    ]))

pub all_alike : (p q : ℕ → Bool) → ((x : ℕ) → p x ≡ q x) → (xs : List ℕ) → list_all p xs ≡ list_all q xs
all_alike p q same [] = refl
all_alike p q same (x ∷ xs) = ap (λ b. b && list_all p xs) (same x) ∙ ap (λ b. q x && b) (all_alike p q same xs)

-- the grains that are out of a variable are some of its own
pub outs_below : (plan : Plan) (stand : List Atom) (v : ℕ) → is_clear plan (set_with stand) ≡ true
    → (h : ℕ) → has nat_eq (grains_out v stand) h ≡ true → h < count_of plan v
outs_below plan stand v clear h k =
    let f : Facts plan (set_with stand) = facts plan (set_with stand) clear in
    ltb-true h (count_of plan v) (f.named (Out v h) (sym (out_there v h stand) ∙ k))

pub outs_are_counted : OutsAreCounted
outs_are_counted plan stand v distinct clear =
    all_alike (λ h. has same_atom stand (Out v h)) (has nat_eq (grains_out v stand)) (λ h. sym (out_there v h stand))
    (numbers_below (count_of plan v))
    ∙ (filled (count_of plan v) (grains_out v stand) (once v stand distinct) (outs_below plan stand v clear)
    ∙ ap (λ n. n == count_of plan v) (counted v stand))
