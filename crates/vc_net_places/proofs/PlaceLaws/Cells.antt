-- Places in order, and the cells that they have of their own.
use Rattle.std.proofs.Common.{◌≡◌, ℕ, zero, suc, ◌+◌, ◌<◌, ◌≤◌, ◌⊎◌, max, false, cond, List, [], ◌∷◌, ◌++◌, length, map}
use Rattle.std.proofs.Common.{refl, sym, ◌∙◌, ap, subst, inl, inr, arith, append_assoc, append-nil, length-append}
use Rattle.std.specs.Prelude.{Some, drop, nat_lt, slice_get, slice_index_or, ◌==◌}
use Rattle.std.specs.List.{flat_map, range_with_len, sum_by}
use Rattle.std.proofs.lemmas.Bool.{and_parts, cases_lt, eqb-true, false_from_ne_true, ltb-true}
use Rattle.std.proofs.lemmas.Grind.{flat_map-append}
use Rattle.std.proofs.lemmas.List.{length-map}
use Rattle.std.proofs.lemmas.List.Sums.{sum_by-append, sum_by-cons}
use Rattle.vc_base.proofs.ListLaws.{range_split}
use Rattle.vc_plan.specs.declared.plans.Plan.{Plan}
use Rattle.vc_plan.specs.Bounds.{Place, clash_bound, greatest, here_at, is_at, out_at, place_bound, places, places_of}
use Rattle.vc_plan.specs.Domains.{count_of, numbers_below}
use Rattle.vc_net_places.specs.Cells.{all_places, begins_from, bounds_of, own_bound, places_before, places_of_var}
use Rattle.vc_net_places.specs.Cells.{total}
use Rattle.vc_net_places.specs.Laws.{BoundsAreByPlace, CellsAreApart, CellsEndAtTotal, CellsSuffice, PlacesAreInOrder}
use Rattle.vc_net_places.specs.Places.{first_place, number_of}
use Rattle.vc_net_places.proofs.PlaceLaws.Numbering.{first_next}
use Rattle.vc_net_places.proofs.PlaceLaws.Things.{get_first, get_second, length_range, range_at}

-- with one variable more
places_next : (plan : Plan) (v : ℕ) → places_before plan (v + 1) ≡ places_before plan v ++ places_of_var plan v
places_next plan v =
    let slots = map here_at (numbers_below (length plan.slots)) in
    let before = flat_map (places_of_var plan) (numbers_below v) in
    let split : flat_map (places_of_var plan) (numbers_below (v + 1)) ≡ before ++ places_of_var plan v
    = ap (flat_map (places_of_var plan)) (range_split 0 v 1 (v + 1) v refl (omega arith))
    ∙ (flat_map-append (places_of_var plan) (numbers_below v) (v ∷ [])
    ∙ ap (λ xs. before ++ xs) (append-nil (places_of_var plan v))) in
    ap (λ xs. slots ++ xs) split ∙ sym (append_assoc slots before (places_of_var plan v))

grains_count : (plan : Plan) (v : ℕ) → length (map (out_at v) (numbers_below (count_of plan v))) ≡ count_of plan v
grains_count plan v = length-map (numbers_below (count_of plan v)) (out_at v) ∙ length_range 0 (count_of plan v)

pub places_length : (plan : Plan) (v : ℕ) → length (places_before plan v) ≡ first_place plan v
places_length plan zero =
    let slots = map here_at (numbers_below (length plan.slots)) in
    let count : length slots ≡ length plan.slots
    = length-map (numbers_below (length plan.slots)) here_at ∙ length_range 0 (length plan.slots) in
    ap length (append-nil slots) ∙ (count ∙ omega arith)
places_length plan (suc v) =
    let before = places_length plan v in
    let more : suc v ≡ v + 1 = omega arith in
    let grains = grains_count plan v in
    let sum : length (places_before plan v) + length (places_of_var plan v) ≡ first_place plan v + (count_of plan v + 1)
    = omega (arith, before, grains) in
    ap (λ k. length (places_before plan k)) more
    ∙ (ap length (places_next plan v)
    ∙ (length-append (places_before plan v) (places_of_var plan v)
    ∙ (sum ∙ (sym (first_next plan v) ∙ ap (first_place plan) (sym more)))))

-- a variable's places stand at their numbers, also when further variables come
place_of_var : (plan : Plan) (v k i : ℕ) (place : Place) → v < k → slice_get (places_of_var plan v) i ≡ Some place
    → slice_get (places_before plan k) (first_place plan v + i) ≡ Some place
place_of_var plan v zero i place below here = absurd (omega (arith, below))
place_of_var plan v (suc k) i place below here =
    ap (λ n. slice_get (places_before plan n) (first_place plan v + i)) more
    ∙ (ap (λ xs. slice_get xs (first_place plan v + i)) (places_next plan k)
    ∙ by (cases_lt v k) (λ earlier. place_of_var plan v k i place earlier here))
  where
    more : suc k ≡ k + 1
    more = omega arith

    by : (v < k) ⊎ (k ≤ v) → (v < k → slice_get (places_before plan k) (first_place plan v + i) ≡ Some place)
        → slice_get (places_before plan k ++ places_of_var plan k) (first_place plan v + i) ≡ Some place
    by (inl earlier) next =
        get_first (places_before plan k) (places_of_var plan k) (first_place plan v + i) place (next earlier)
    by (inr last) next =
        let is : v ≡ k = omega (arith, below, last) in
        get_second (places_before plan k) (places_of_var plan k) (first_place plan v + i) i
        (ap (λ w. first_place plan w + i) is ∙ ap (λ n. n + i) (sym (places_length plan k)))
        ∙ subst (λ w. slice_get (places_of_var plan w) i ≡ Some place) is here

pub places_are_in_order : PlacesAreInOrder
places_are_in_order plan (here_at i) e =
    get_first (map here_at (numbers_below (length plan.slots)))
    (flat_map (places_of_var plan) (numbers_below (length plan.vars))) i (here_at i)
    (range_at here_at 0 (length plan.slots) i (ltb-true i (length plan.slots) e) ∙ ap (λ n. Some (here_at n)) from_zero)
  where
    from_zero : 0 + i ≡ i
    from_zero = omega arith
places_are_in_order plan (is_at v) e =
    ap (slice_get (all_places plan)) itself
    ∙ place_of_var plan v (length plan.vars) 0 (is_at v) (ltb-true v (length plan.vars) e) refl
  where
    itself : first_place plan v ≡ first_place plan v + 0
    itself = omega arith
places_are_in_order plan (out_at v g) e =
    let p = and_parts (nat_lt v (length plan.vars)) (nat_lt g (count_of plan v)) e in
    let next : 1 + g ≡ suc g = omega arith in
    let here : slice_get (places_of_var plan v) (1 + g) ≡ Some (out_at v g)
    = ap (slice_get (places_of_var plan v)) next
    ∙ (range_at (out_at v) 0 (count_of plan v) g (ltb-true g (count_of plan v) p.1)
    ∙ ap (λ n. Some (out_at v n)) from_zero) in
    place_of_var plan v (length plan.vars) (1 + g) (out_at v g) (ltb-true v (length plan.vars) p.0) here
  where
    from_zero : 0 + g ≡ g
    from_zero = omega arith

-- an element of a mapped list
pub get_mapped : {X Y : Type 0} (f : X → Y) (xs : List X) (i : ℕ) (x : X) → slice_get xs i ≡ Some x
    → slice_get (map f xs) i ≡ Some (f x)
get_mapped f [] i x e = absurd (cc)
get_mapped f (y ∷ ys) zero x e = let is : y ≡ x = cc in ap (λ z. Some (f z)) is
get_mapped f (y ∷ ys) (suc i) x e = get_mapped f ys i x e

pub bounds_are_by_place : BoundsAreByPlace
bounds_are_by_place plan place e =
    get_mapped (own_bound plan) (all_places plan) (number_of plan place) place (places_are_in_order plan place e)

-- cells one after another
total_mapped : {X : Type 0} (f : X → ℕ) (xs : List X) → total (map f xs) ≡ sum_by f xs
total_mapped f [] = refl
total_mapped f (x ∷ xs) = ap (λ n. f x + n) (total_mapped f xs) ∙ sym (sum_by-cons f x xs)

begins_first : (first : ℕ) (bounds : List ℕ) → slice_index_or (begins_from first bounds) 0 0 ≡ first
begins_first first [] = refl
begins_first first (n ∷ ns) = refl

apart_from : (first : ℕ) (bounds : List ℕ) (n : ℕ) → n < length bounds
    → slice_index_or (begins_from first bounds) n 0 + slice_index_or bounds n 0
    ≡ slice_index_or (begins_from first bounds) (suc n) 0
apart_from first [] n below = absurd (omega (arith, below))
apart_from first (b ∷ bs) zero below = sym (begins_first (first + b) bs)
apart_from first (b ∷ bs) (suc n) below = apart_from (first + b) bs n (omega (arith, below))

pub cells_are_apart : CellsAreApart
cells_are_apart bounds n below =
    let next : suc n ≡ n + 1 = omega arith in
    apart_from 0 bounds n below ∙ ap (λ k. slice_index_or (begins_from 0 bounds) k 0) next

end_from : (first : ℕ) (bounds : List ℕ)
    → slice_index_or (begins_from first bounds) (length bounds) 0 ≡ first + total bounds
end_from first [] = omega arith
end_from first (b ∷ bs) = end_from (first + b) bs ∙ omega arith

pub cells_end_at_total : CellsEndAtTotal
cells_end_at_total bounds = end_from 0 bounds ∙ omega arith

-- the same sums in another order
sum_flat : (f : Place → ℕ) (g h : ℕ → List Place) → ((v : ℕ) → sum_by f (g v) ≡ sum_by f (h v)) → (vs : List ℕ)
    → sum_by f (flat_map g vs) ≡ sum_by f (flat_map h vs)
sum_flat f g h same [] = refl
sum_flat f g h same (v ∷ vs) =
    sum_by-append f (g v) (flat_map g vs)
    ∙ (ap (λ n. n + sum_by f (flat_map g vs)) (same v)
    ∙ (ap (λ n. sum_by f (h v) + n) (sum_flat f g h same vs) ∙ sym (sum_by-append f (h v) (flat_map h vs))))

sum_last : (f : Place → ℕ) (xs : List Place) (x : Place) → sum_by f (x ∷ xs) ≡ sum_by f (xs ++ x ∷ [])
sum_last f xs x =
    let first = sum_by-cons f x xs in
    let last = sum_by-append f xs (x ∷ []) in
    let one = sum_by-cons f x [] in
    let none : sum_by f [] ≡ 0 = refl in
    omega (arith, first, last, one, none)

-- past the root a slot's bound is what the plan says
later_slots : (plan : Plan) (a n : ℕ) → 0 < a
    → sum_by (own_bound plan) (map here_at (range_with_len a n))
    ≡ sum_by (place_bound plan) (map here_at (range_with_len a n))
later_slots plan a zero some = refl
later_slots plan a (suc n) some =
    let more : 0 < a + 1 = omega arith in
    sum_by-cons (own_bound plan) (here_at a) (map here_at (range_with_len (a + 1) n))
    ∙ (ap (λ b. cond b 0 (place_bound plan (here_at a)) + sum_by (own_bound plan)
    (map here_at (range_with_len (a + 1) n))) (no_root a some)
    ∙ (ap (λ k. place_bound plan (here_at a) + k) (later_slots plan (a + 1) n more)
    ∙ sym (sum_by-cons (place_bound plan) (here_at a) (map here_at (range_with_len (a + 1) n)))))
  where
    no_root : (i : ℕ) → 0 < i → (i == 0) ≡ false
    no_root i h = false_from_ne_true (i == 0) (λ e. let is : i ≡ 0 = eqb-true i 0 e in omega (arith, is, h))

slots_sum : (plan : Plan) (n : ℕ) → sum_by (own_bound plan) (map here_at (numbers_below n))
    ≡ sum_by (place_bound plan) (map here_at (drop 1 (numbers_below n)))
slots_sum plan zero = refl
slots_sum plan (suc n) =
    let rest = sum_by (own_bound plan) (map here_at (range_with_len 1 n)) in
    let root : own_bound plan (here_at 0) ≡ 0 = refl in
    let none : 0 + rest ≡ rest = omega arith in
    sum_by-cons (own_bound plan) (here_at 0) (map here_at (range_with_len 1 n))
    ∙ (ap (λ k. k + rest) root ∙ (none ∙ later_slots plan 1 n (omega arith)))

-- of variables the two bounds are one
own_flat : (plan : Plan) (vs : List ℕ) → sum_by (own_bound plan) (flat_map (places_of_var plan) vs)
    ≡ sum_by (place_bound plan) (flat_map (places_of_var plan) vs)
own_flat plan [] = refl
own_flat plan (v ∷ vs) =
    let own = own_bound plan in
    let all = place_bound plan in
    sum_by-append own (places_of_var plan v) (flat_map (places_of_var plan) vs)
    ∙ (ap (λ n. n + sum_by own (flat_map (places_of_var plan) vs)) (own_var v)
    ∙ (ap (λ n. sum_by all (places_of_var plan v) + n) (own_flat plan vs)
    ∙ sym (sum_by-append all (places_of_var plan v) (flat_map (places_of_var plan) vs))))
  where
    own_grains : (v : ℕ) (gs : List ℕ)
        → sum_by (own_bound plan) (map (out_at v) gs) ≡ sum_by (place_bound plan) (map (out_at v) gs)
    own_grains v [] = refl
    own_grains v (g ∷ gs) =
        sum_by-cons (own_bound plan) (out_at v g) (map (out_at v) gs)
        ∙ (ap (λ n. place_bound plan (out_at v g) + n) (own_grains v gs)
        ∙ sym (sum_by-cons (place_bound plan) (out_at v g) (map (out_at v) gs)))

    own_var : (v : ℕ) → sum_by (own_bound plan) (places_of_var plan v)
        ≡ sum_by (place_bound plan) (places_of_var plan v)
    own_var v =
        sum_by-cons (own_bound plan) (is_at v) (map (out_at v) (numbers_below (count_of plan v)))
        ∙ (ap (λ n. place_bound plan (is_at v) + n) (own_grains v (numbers_below (count_of plan v)))
        ∙ sym (sum_by-cons (place_bound plan) (is_at v) (map (out_at v) (numbers_below (count_of plan v)))))

pub cells_suffice : CellsSuffice
cells_suffice plan =
    let vars = numbers_below (length plan.vars) in
    let slots = map here_at (numbers_below (length plan.slots)) in
    let later = map here_at (drop 1 (numbers_below (length plan.slots))) in
    let sums : total (bounds_of plan) ≡ sum_by (place_bound plan) (places plan)
    = total_mapped (own_bound plan) (all_places plan)
    ∙ (sum_by-append (own_bound plan) slots (flat_map (places_of_var plan) vars)
    ∙ (ap (λ n. n + sum_by (own_bound plan) (flat_map (places_of_var plan) vars)) (slots_sum plan (length plan.slots))
    ∙ (ap (λ n. sum_by (place_bound plan) later + n)
    (own_flat plan vars
    ∙ sum_flat (place_bound plan) (places_of_var plan) (places_of plan)
    (λ v. sum_last (place_bound plan) (map (out_at v) (numbers_below (count_of plan v))) (is_at v)) vars)
    ∙ sym (sum_by-append (place_bound plan) later (flat_map (places_of plan) vars))))) in
    ap (λ n. n + max 1 (greatest (clash_bound plan) plan.rules)) sums
