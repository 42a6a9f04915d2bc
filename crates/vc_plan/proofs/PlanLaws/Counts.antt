-- Counts of grains and of atoms.
use Rattle.std.proofs.Common.{◌≡◌, ℕ, zero, suc, ◌+◌, ◌-◌, ◌<◌, ◌≤◌, List, [], ◌∷◌, ◌++◌, length, map, ◌∙◌, ap, arith}
use Rattle.std.specs.List.{sum_by, range_with_len}
use Rattle.std.proofs.lemmas.List.{length-map}
use Rattle.std.proofs.lemmas.List.Sums.{sum_by-cons, sum_by-append}
use Rattle.vc_value.specs.declared.grains.Grain.{Grain}
use Rattle.vc_plan.specs.declared.conditions.Piece.TheVariants.{OneText, Stretch}
use Rattle.vc_plan.specs.declared.plans.Plan.{Plan}
use Rattle.vc_plan.specs.Domains.{numbers_below, count_of, atom_count}
use Rattle.vc_base.proofs.ListLaws.{range_split}

pub texts_count : (texts : List ℕ) → length (map OneText texts) ≡ length texts
texts_count texts = length-map texts OneText

pub stretches_count : (grains : List Grain) → length (map Stretch grains) ≡ length grains
stretches_count grains = length-map grains Stretch

-- a sum over the numbers below another is that over those below one of them, and what is left
sum_split : (f : ℕ → ℕ) (i n : ℕ) → i < n
    → sum_by f (numbers_below n) ≡ sum_by f (numbers_below i) + (f i + sum_by f (range_with_len (i + 1) (n - (i + 1))))
sum_split f i n below =
    let rest = range_with_len (i + 1) (n - (i + 1)) in
    let split : numbers_below n ≡ numbers_below i ++ (i ∷ rest)
    = range_split 0 i (suc (n - (i + 1))) n i (omega arith) (omega arith) in
    ap (sum_by f) split ∙
    (sum_by-append f (numbers_below i) (i ∷ rest) ∙ ap (λ k. sum_by f (numbers_below i) + k) (sum_by-cons f i rest))

-- a sum over numbers with one more
pub sum_next : (f : ℕ → ℕ) (n : ℕ) → sum_by f (numbers_below (n + 1)) ≡ sum_by f (numbers_below n) + f n
sum_next f n =
    let one : sum_by f (n ∷ []) ≡ f n + sum_by f [] = sum_by-cons f n [] in
    ap (sum_by f) (range_split 0 n 1 (n + 1) n (omega arith) (omega arith))
    ∙ (sum_by-append f (numbers_below n) (n ∷ []) ∙ omega arith)

-- and no more than over more of them
pub sum_front : (f : ℕ → ℕ) (i n : ℕ) → i < n → sum_by f (numbers_below i) + f i ≤ sum_by f (numbers_below n)
sum_front f i n below = omega (arith, sum_split f i n below)

-- the atoms of the slots and of the first variables
abbrev pub atoms_before : Plan → ℕ → ℕ
atoms_before plan v = length plan.slots + sum_by (λ w. count_of plan w + 1) (numbers_below v)

-- with one variable more
pub atoms_next : (plan : Plan) (count v grains : ℕ) → count ≡ atoms_before plan v → grains ≡ count_of plan v
    → count + (grains + 1) ≡ atoms_before plan (v + 1)
atoms_next plan count v grains so_far is = omega (arith, sum_next (λ w. count_of plan w + 1) v)

-- they are no more than all
pub atoms_within : (plan : Plan) (count v grains : ℕ) → count ≡ atoms_before plan v → grains ≡ count_of plan v
    → v < length plan.vars
    → count + (grains + 1) ≤ atom_count plan
atoms_within plan count v grains so_far is below =
    omega (arith, sum_front (λ w. count_of plan w + 1) v (length plan.vars) below)

pub atoms_all : (plan : Plan) (count v : ℕ) → count ≡ atoms_before plan v → v ≡ length plan.vars
    → count ≡ atom_count plan
atoms_all plan count v so_far end = so_far ∙ ap (atoms_before plan) end

pub atoms_none : (plan : Plan) → length plan.slots ≡ atoms_before plan 0
atoms_none plan = omega arith

-- a variable counts for more than one atom
pub vars_within : (plan : Plan) (n : ℕ) → n ≤ sum_by (λ w. count_of plan w + 1) (numbers_below n)
vars_within plan zero = omega arith
vars_within plan (suc n) =
    let more : sum_by (λ w. count_of plan w + 1) (numbers_below (n + 1))
    ≡ sum_by (λ w. count_of plan w + 1) (numbers_below n) + (count_of plan n + 1)
    = sum_next (λ w. count_of plan w + 1) n in
    let next : n + 1 ≡ suc n = omega arith in
    let same : sum_by (λ w. count_of plan w + 1) (numbers_below (n + 1))
    ≡ sum_by (λ w. count_of plan w + 1) (numbers_below (suc n))
    = ap (λ k. sum_by (λ w. count_of plan w + 1) (numbers_below k)) next in
    let before : n ≤ sum_by (λ w. count_of plan w + 1) (numbers_below n) = vars_within plan n in
    omega (arith, more, same, before)
