-- What is kept of places, read at a number.
use Rattle.std.proofs.Common.{◌≡◌, ℕ, true, zero, suc, ◌+◌, ◌<◌, ◌≤◌, ◌⊎◌, List, [], ◌∷◌, ◌++◌, length, map, refl, sym}
use Rattle.std.proofs.Common.{◌∙◌, ap, subst, inl, inr, arith, append_assoc, append-nil, length-append, ◌-◌}
use Rattle.std.specs.Prelude.{Some, nat_lt, replicate, slice_get, slice_index_or}
use Rattle.std.specs.List.{flat_map, range_with_len}
use Rattle.std.proofs.lemmas.Bool.{and_parts, cases_lt, ltb-true}
use Rattle.std.proofs.lemmas.Grind.{flat_map-append}
use Rattle.std.proofs.lemmas.List.{length-map, length-replicate, map-append}
use Rattle.vc_base.proofs.ListLaws.{range_split}
use Rattle.vc_plan.specs.declared.atoms.Atom.TheVariants.{Here, Out, Is}
use Rattle.vc_plan.specs.declared.plans.Plan.{Plan}
use Rattle.vc_plan.specs.Bounds.{here_at, is_at, out_at, Place}
use Rattle.vc_plan.specs.Domains.{count_of, numbers_below}
use Rattle.vc_net_places.specs.declared.places.Thing.{Thing}
use Rattle.vc_net_places.specs.declared.places.Thing.TheVariants.{Slot, Var}
use Rattle.vc_net_places.specs.Laws.{FirstsAreCounted, IndexTellsBack, IndexTellsPlaces, IndexTellsThings}
use Rattle.vc_net_places.specs.Laws.{ThingsAreCounted}
use Rattle.vc_net_places.specs.Places.{first_in, first_place, index_of, things_before, things_of_var, place_after}
use Rattle.vc_net_places.specs.Places.{place_by, thing_at, is_place, number_of}
use Rattle.vc_net_places.proofs.PlaceLaws.Numbering.{first_next}

-- an element of a mapped range
pub range_at : {X : Type 0} (f : ℕ → X) (a n i : ℕ) → i < n
    → slice_get (map f (range_with_len a n)) i ≡ Some (f (a + i))
range_at f a zero i below = absurd (omega (arith, below))
range_at f a (suc n) zero below = ap (λ k. Some (f k)) (omega arith)
range_at f a (suc n) (suc i) below = range_at f (a + 1) n i (omega (arith, below)) ∙ ap (λ k. Some (f k)) (omega arith)

index_at : (f : ℕ → ℕ) (a n i : ℕ) → i < n → slice_index_or (map f (range_with_len a n)) i 0 ≡ f (a + i)
index_at f a zero i below = absurd (omega (arith, below))
index_at f a (suc n) zero below = ap f (omega arith)
index_at f a (suc n) (suc i) below = index_at f (a + 1) n i (omega (arith, below)) ∙ ap f (omega arith)

-- an element of the first or of the second of two lists
pub get_first : {X : Type 0} (xs ys : List X) (i : ℕ) (x : X) → slice_get xs i ≡ Some x
    → slice_get (xs ++ ys) i ≡ Some x
get_first [] ys i x e = absurd (cc)
get_first (z ∷ xs) ys zero x e = e
get_first (z ∷ xs) ys (suc i) x e = get_first xs ys i x e

pub get_second : {X : Type 0} (xs ys : List X) (n i : ℕ) → n ≡ length xs + i → slice_get (xs ++ ys) n ≡ slice_get ys i
get_second [] ys n i is = ap (slice_get ys) (omega (arith, is))
get_second (z ∷ xs) ys zero i is = absurd (omega (arith, is))
get_second (z ∷ xs) ys (suc n) i is = get_second xs ys n i (omega (arith, is))

pub get_replicate : {X : Type 0} (n i : ℕ) (x : X) → i < n → slice_get (replicate n x) i ≡ Some x
get_replicate zero i x below = absurd (omega (arith, below))
get_replicate (suc n) zero x below = refl
get_replicate (suc n) (suc i) x below = get_replicate n i x (omega (arith, below))

pub length_range : (a n : ℕ) → length (range_with_len a n) ≡ n
length_range a zero = refl
length_range a (suc n) = let rest = length_range (a + 1) n in omega (arith, rest)

-- with one variable more
pub things_next : (plan : Plan) (v : ℕ) → things_before plan (v + 1) ≡ things_before plan v ++ things_of_var plan v
things_next plan v =
    let slots = map Slot (numbers_below (length plan.slots)) in
    let split : flat_map (things_of_var plan) (numbers_below (v + 1))
    ≡ flat_map (things_of_var plan) (numbers_below v) ++ things_of_var plan v
    = ap (flat_map (things_of_var plan)) (range_split 0 v 1 (v + 1) v refl (omega arith))
    ∙ (flat_map-append (things_of_var plan) (numbers_below v) (v ∷ [])
    ∙ ap (λ xs. flat_map (things_of_var plan) (numbers_below v) ++ xs) (append-nil (things_of_var plan v))) in
    ap (λ xs. slots ++ xs) split
    ∙ sym (append_assoc slots (flat_map (things_of_var plan) (numbers_below v)) (things_of_var plan v))

grains_of_var : (plan : Plan) (v : ℕ) → length (things_of_var plan v) ≡ count_of plan v + 1
grains_of_var plan v = length-replicate (count_of plan v + 1) (Var v)

-- as many as there are places before the next variable
pub things_length : (plan : Plan) (v : ℕ) → length (things_before plan v) ≡ first_place plan v
things_length plan zero =
    let slots = map Slot (numbers_below (length plan.slots)) in
    let count : length slots ≡ length plan.slots
    = length-map (numbers_below (length plan.slots)) Slot ∙ length_range 0 (length plan.slots) in
    ap length (append-nil slots) ∙ (count ∙ omega arith)
things_length plan (suc v) =
    let before = things_length plan v in
    let more : suc v ≡ v + 1 = omega arith in
    let sum : length (things_before plan v) + length (things_of_var plan v) ≡ first_place plan v + (count_of plan v + 1)
    = omega (arith, before, grains_of_var plan v) in
    ap (λ k. length (things_before plan k)) more
    ∙ (ap length (things_next plan v)
    ∙ (length-append (things_before plan v) (things_of_var plan v)
    ∙ (sum ∙ (sym (first_next plan v) ∙ ap (first_place plan) (sym more)))))

pub things_are_counted : ThingsAreCounted
things_are_counted plan = things_length plan (length plan.vars)

pub firsts_are_counted : FirstsAreCounted
firsts_are_counted plan =
    length-map (numbers_below (length plan.vars)) (first_place plan) ∙ length_range 0 (length plan.vars)

-- what a variable's places are of stays when further variables come
thing_of_var : (plan : Plan) (v k i : ℕ) → v < k → i < count_of plan v + 1
    → slice_get (things_before plan k) (first_place plan v + i) ≡ Some (Var v)
thing_of_var plan v zero i below few = absurd (omega (arith, below))
thing_of_var plan v (suc k) i below few =
    ap (λ n. slice_get (things_before plan n) (first_place plan v + i)) more
    ∙ (ap (λ xs. slice_get xs (first_place plan v + i)) (things_next plan k)
    ∙ by (cases_lt v k) (λ earlier. thing_of_var plan v k i earlier few))
  where
    more : suc k ≡ k + 1
    more = omega arith

    by : (v < k) ⊎ (k ≤ v)
        → (v < k → slice_get (things_before plan k) (first_place plan v + i) ≡ Some (Var v))
        → slice_get (things_before plan k ++ things_of_var plan k) (first_place plan v + i) ≡ Some (Var v)
    by (inl earlier) next =
        get_first (things_before plan k) (things_of_var plan k) (first_place plan v + i) (Var v) (next earlier)
    by (inr last) next =
        let is : v ≡ k = omega (arith, below, last) in
        subst (λ w. slice_get (things_before plan k ++ things_of_var plan k) (first_place plan v + i) ≡ Some (Var w))
        (sym is)
        (get_second (things_before plan k) (things_of_var plan k) (first_place plan v + i) i
        (ap (λ w. first_place plan w + i) is ∙ ap (λ n. n + i) (sym (things_length plan k)))
        ∙ get_replicate (count_of plan k + 1) i (Var k) (subst (λ w. i < count_of plan w + 1) is few))

-- what is kept at a number
pub first_is : (plan : Plan) (v : ℕ) → v < length plan.vars → first_in (index_of plan) v ≡ first_place plan v
first_is plan v below = index_at (first_place plan) 0 (length plan.vars) v below ∙ ap (first_place plan) from_zero
  where
    from_zero : 0 + v ≡ v
    from_zero = omega arith

slot_thing : (plan : Plan) (i k : ℕ) → i < length plan.slots → slice_get (things_before plan k) i ≡ Some (Slot i)
slot_thing plan i k below =
    get_first (map Slot (numbers_below (length plan.slots))) (flat_map (things_of_var plan) (numbers_below k)) i
    (Slot i)
    (range_at Slot 0 (length plan.slots) i below ∙ ap (λ n. Some (Slot n)) (omega arith))

pub index_tells_places : IndexTellsPlaces
index_tells_places plan (Here i) e = refl
index_tells_places plan (Out v g) e =
    let p = and_parts (nat_lt v (length plan.vars)) (nat_lt g (count_of plan v)) e in
    ap (λ n. n + (1 + g)) (first_is plan v (ltb-true v (length plan.vars) p.0))
index_tells_places plan (Is v a) e = first_is plan v (ltb-true v (length plan.vars) e)

pub index_tells_things : IndexTellsThings
index_tells_things plan (here_at i) e = slot_thing plan i (length plan.vars) (ltb-true i (length plan.slots) e)
index_tells_things plan (is_at v) e =
    ap (slice_get (things_before plan (length plan.vars))) itself
    ∙ thing_of_var plan v (length plan.vars) 0 (ltb-true v (length plan.vars) e) (omega arith)
  where
    itself : first_place plan v ≡ first_place plan v + 0
    itself = omega arith
index_tells_things plan (out_at v g) e =
    let p = and_parts (nat_lt v (length plan.vars)) (nat_lt g (count_of plan v)) e in
    let below : g < count_of plan v = ltb-true g (count_of plan v) p.1 in
    thing_of_var plan v (length plan.vars) (1 + g) (ltb-true v (length plan.vars) p.0) (omega (arith, below))

-- what may stand at a number
by_thing : (plan : Plan) (place : Place) (thing : Thing) → is_place plan place ≡ true → thing_at place ≡ thing
    → place_by (index_of plan) (number_of plan place) (Some thing) ≡ place
by_thing plan (here_at i) (Slot j) e is = let same : i ≡ j = cc in ap here_at (sym same)
by_thing plan (here_at i) (Var w) e is = absurd (cc)
by_thing plan (is_at v) (Slot j) e is = absurd (cc)
by_thing plan (is_at v) (Var w) e is =
    let same : v ≡ w = cc in
    let first = first_is plan v (ltb-true v (length plan.vars) e) in
    let none : first_place plan v - first_in (index_of plan) v ≡ 0 = omega (arith, first) in
    ap (λ z. place_after z (first_place plan v - first_in (index_of plan) z)) (sym same) ∙ ap (place_after v) none
by_thing plan (out_at v g) (Slot j) e is = absurd (cc)
by_thing plan (out_at v g) (Var w) e is =
    let same : v ≡ w = cc in
    let p = and_parts (nat_lt v (length plan.vars)) (nat_lt g (count_of plan v)) e in
    let first = first_is plan v (ltb-true v (length plan.vars) p.0) in
    let rest : first_place plan v + (1 + g) - first_in (index_of plan) v ≡ suc g = omega (arith, first) in
    ap (λ z. place_after z (first_place plan v + (1 + g) - first_in (index_of plan) z)) (sym same)
    ∙ ap (place_after v) rest

pub index_tells_back : IndexTellsBack
index_tells_back plan place e =
    ap (place_by (index_of plan) (number_of plan place)) (index_tells_things plan place e)
    ∙ by_thing plan place (thing_at place) e refl

-- one more of the same
pub replicate_next : {X : Type 0} (n : ℕ) (x : X) → replicate (n + 1) x ≡ replicate n x ++ x ∷ []
replicate_next zero x = refl
replicate_next (suc n) x =
    let more : suc n + 1 ≡ suc (n + 1) = omega arith in
    ap (λ k. replicate k x) more ∙ ap (λ xs. x ∷ xs) (replicate_next n x)

-- a range with one number more, mapped
pub mapped_next : {X : Type 0} (f : ℕ → X) (n : ℕ) → map f (numbers_below (n + 1)) ≡ map f (numbers_below n) ++ f n ∷ []
mapped_next f n =
    ap (map f) (range_split 0 n 1 (n + 1) n refl (omega arith)) ∙ map-append f (numbers_below n) (n ∷ [])

pub slots_first : (plan : Plan) → map Slot (numbers_below (length plan.slots)) ≡ things_before plan 0
slots_first plan = sym (append-nil (map Slot (numbers_below (length plan.slots))))
