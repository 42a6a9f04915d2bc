-- The premises of a log's steps are together no more than there are cells: each place has at most one fact.
use Rattle.std.proofs.Common.{◌≡◌, ℕ, zero, suc, ◌+◌, ◌<◌, ◌≤◌, Bool, true, false, cond, List, [], ◌∷◌, length}
use Rattle.std.proofs.Common.{map, refl, sym, ap, subst, inl, inr, arith, drop}
use Rattle.std.specs.Prelude.{nat_eq, nat_lt, slice_index_or}
use Rattle.std.specs.List.{AllByRecursion, IsDistinct, list_all, range_with_len, sum_by}
use Rattle.std.proofs.lemmas.Bool.{and_parts, ltb-true}
use Rattle.std.proofs.lemmas.List.{length-map, length-take}
use Rattle.std.proofs.lemmas.List.Sums.{sum_by-append, sum_by-cons}
use Rattle.vc_base.specs.Sets.{Within, has}
use Rattle.vc_base.proofs.ListLaws.{number_exact, number_itself, range_has, range_split}
use Rattle.vc_base.proofs.SetLaws.{all_at, has_cases, has_first, has_more}
use Rattle.vc_plan.specs.declared.atoms.Step.{Step}
use Rattle.vc_net_places.specs.Places.{place_in}
use Rattle.vc_net_standing.specs.declared.standing.Fact.{Fact}
use Rattle.vc_net_standing.specs.Standing.{Stood, places_of}
use Rattle.vc_net_log.specs.Keeping.{AreCells, cells_at, log_kept, number_at, step_kept}
use Rattle.vc_net_log.specs.Logs.{Logged, cells_of, premise_count, room_at}

-- a list without the first place of a number
abbrev without : ℕ → List ℕ → List ℕ
without n [] = []
without n (x ∷ xs) = cond (nat_eq n x) xs (x ∷ without n xs)

-- what else is in the list is there still
has_without : (n : ℕ) (xs : List ℕ) (a : ℕ) → has nat_eq xs a ≡ true → nat_eq n a ≡ false
    → has nat_eq (without n xs) a ≡ true
has_without n [] a h differs = absurd (cc)
has_without n (x ∷ xs) a h differs = by (nat_eq n x) refl (λ later. has_without n xs a later differs)
  where
    by : (b : Bool) → nat_eq n x ≡ b → (has nat_eq xs a ≡ true → has nat_eq (without n xs) a ≡ true)
        → has nat_eq (cond b xs (x ∷ without n xs)) a ≡ true
    by true e rest =
        elim (has_cases nat_eq number_exact number_itself x xs a h) [
          | inl is ↦
              let same : nat_eq n a ≡ true = subst (λ y. nat_eq n y ≡ true) (sym is) e in
              absurd (cc)
          | inr later ↦ later
        ]
    by false e rest =
        elim (has_cases nat_eq number_exact number_itself x xs a h) [
          | inl is ↦
              subst (λ y. has nat_eq (x ∷ without n xs) y ≡ true) (sym is)
              (has_first nat_eq number_exact number_itself x (without n xs))
          | inr later ↦
              has_more nat_eq number_exact number_itself x (without n xs) a (rest later)
        ]

module _ (f : ℕ → ℕ) where
  sum_without : (n : ℕ) (xs : List ℕ) → has nat_eq xs n ≡ true → sum_by f (without n xs) + f n ≡ sum_by f xs
  sum_without n [] h = absurd (cc)
  sum_without n (x ∷ xs) h = by (nat_eq n x) refl (sum_without n xs)
    where
      by : (b : Bool) → nat_eq n x ≡ b → (has nat_eq xs n ≡ true → sum_by f (without n xs) + f n ≡ sum_by f xs)
          → sum_by f (cond b xs (x ∷ without n xs)) + f n ≡ sum_by f (x ∷ xs)
      by true e next =
          let is = ap f (number_exact n x e) in
          let whole = sum_by-cons f x xs in
          omega (arith, is, whole)
      by false e next =
          elim (has_cases nat_eq number_exact number_itself x xs n h) [
            | inl is ↦
                let same : nat_eq n x ≡ true = subst (λ y. nat_eq n y ≡ true) is (number_itself n) in
                absurd (cc)
            | inr later ↦
                let rest = next later in
                let whole = sum_by-cons f x xs in
                let left = sum_by-cons f x (without n xs) in
                omega (arith, rest, whole, left)
          ]

  -- a number that is none of the others
  differs_from : (x : ℕ) (xs : List ℕ) (a : ℕ) → AllByRecursion (λ y. nat_eq x y ≡ false) xs → has nat_eq xs a ≡ true
      → nat_eq x a ≡ false
  differs_from x [] a all h = absurd (cc)
  differs_from x (y ∷ ys) a all h =
      elim (has_cases nat_eq number_exact number_itself y ys a h) [
        | inl is ↦ subst (λ z. nat_eq x z ≡ false) (sym is) all.0
        | inr later ↦ differs_from x ys a all.1 later
      ]

  -- a sum over distinct numbers of a list is no more than that over the list
  sum_within : (xs ys : List ℕ) → IsDistinct nat_eq xs → Within nat_eq xs ys → sum_by f xs ≤ sum_by f ys
  unfolding IsDistinct
  sum_within [] ys distinct within = omega arith
  sum_within (x ∷ xs) ys distinct within =
      let whole = sum_by-cons f x xs in
      let left = sum_without x ys (within x (has_first nat_eq number_exact number_itself x xs)) in
      let rest = sum_within xs (without x ys) distinct.1
      (λ a h. has_without x ys a (within a (has_more nat_eq number_exact number_itself x xs a h))
      (differs_from x xs a distinct.0 h)) in
      omega (arith, whole, left, rest)

below_within : (n : ℕ) (xs : List ℕ) → list_all (λ p. nat_lt p n) xs ≡ true → Within nat_eq xs (range_with_len 0 n)
below_within n xs below a h =
    let low = ltb-true a n (all_at nat_eq number_exact number_itself (λ p. nat_lt p n) xs a below h) in
    range_has 0 n a (omega arith) (omega (arith, low))

module _ (stood : Stood) (begins counts cells : List ℕ) (kept : AreCells stood begins counts cells) where
  abbrev size : ℕ
  size = length stood.index.things

  abbrev begin : ℕ → ℕ
  begin p = slice_index_or begins p 0

  -- the rooms of the first places end where the next begins
  rooms_end : (n : ℕ) → n ≤ size → sum_by (room_at begins) (range_with_len 0 n) + begin 0 ≡ begin n
  rooms_end zero low = omega arith
  rooms_end (suc n) low =
      let split = ap (sum_by (room_at begins)) (range_split 0 n 1 (suc n) n (omega arith) (omega arith)) in
      let both = sum_by-append (room_at begins) (range_with_len 0 n) (n ∷ []) in
      let one = sum_by-cons (room_at begins) n [] in
      let rest = rooms_end n (omega (arith, low)) in
      let rises = kept.ordered n (omega (arith, low)) in
      let next : begin (n + 1) ≡ begin (suc n) = ap begin (omega arith) in
      omega (arith, split, both, one, rest, rises, next)

  step_few : (fact : Fact) → place_in stood.index fact.atom < size
      → length (step_kept stood begins counts cells fact).premises ≤ room_at begins (place_in stood.index fact.atom)
  step_few fact low =
      let place : ℕ = place_in stood.index fact.atom in
      let count : ℕ = slice_index_or counts place 0 in
      let used : length (cells_at begins counts cells place) ≤ count =
      (let taken = length-take count (drop (begin place) cells) in omega (arith, taken)) in
      let few = kept.few place low in
      let cited = length-map (cells_at begins counts cells place) (number_at (places_of stood.index stood.facts)) in
      omega (arith, used, few, cited)

  steps_few : (facts : List Fact) → list_all (λ p. nat_lt p size) (places_of stood.index facts) ≡ true
      → premise_count (map (step_kept stood begins counts cells) facts)
      ≤ sum_by (room_at begins) (places_of stood.index facts)
  steps_few [] below = omega arith
  steps_few (fact ∷ facts) below =
      let place : ℕ = place_in stood.index fact.atom in
      let parts = and_parts (nat_lt place size) (list_all (λ p. nat_lt p size) (places_of stood.index facts)) below in
      let one = step_few fact (ltb-true place size parts.0) in
      let rest = steps_few facts parts.1 in
      let left =
      sum_by-cons (λ (step : Step). length step.premises) (step_kept stood begins counts cells fact)
      (map (step_kept stood begins counts cells) facts) in
      let right = sum_by-cons (room_at begins) place (places_of stood.index facts) in
      omega (arith, one, rest, left, right)

  pub premises_fit : (log : Logged) → log_kept stood begins counts cells ≡ log → premise_count log.steps ≤ cells_of log
  premises_fit log is = subst (λ (l : Logged). premise_count l.steps ≤ cells_of l) is fits
    where
      fits : premise_count (map (step_kept stood begins counts cells) stood.facts) ≤ begin size
      fits =
          let few = steps_few stood.facts kept.below in
          let within =
          sum_within (room_at begins) (places_of stood.index stood.facts) (range_with_len 0 size) kept.once
          (below_within size (places_of stood.index stood.facts) kept.below) in
          let end = rooms_end size (omega arith) in
          omega (arith, few, within, end)
