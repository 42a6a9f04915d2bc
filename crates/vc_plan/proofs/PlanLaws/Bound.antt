-- A clear set has at most as many atoms as the plan has places for them.
use Rattle.std.proofs.Common.{◌≡◌, ℕ, ◌+◌, ◌<◌, ◌≤◌, Bool, true, false, not, ◌&&◌, List, [], ◌∷◌, ◌++◌, length, map}
use Rattle.std.proofs.Common.{refl, sym, ◌∙◌, ap, subst, inl, inr, arith, length-append}
use Rattle.std.specs.Prelude.{◌==◌, nat_eq, flat_map}
use Rattle.std.specs.List.{sum_by, IsDistinct, AllByRecursion}
use Rattle.std.proofs.lemmas.Bool.{ltb-true, cases_lt}
use Rattle.std.proofs.lemmas.List.{length-map}
use Rattle.std.proofs.lemmas.List.Sums.{sum_by-cons}
use Rattle.std.proofs.lemmas.List.FromFn.{length-range_with_len}
use Rattle.std.proofs.lemmas.Map.Made.{length-le_from_is_member}
use Rattle.vc_base.specs.Sets.{has}
use Rattle.vc_base.proofs.SetLaws.{both, has_cases, has_first, has_more, has_front, has_back}
use Rattle.vc_value.specs.declared.value.Value.TheVariants.{Text}
use Rattle.vc_plan.specs.declared.atoms.Atom.{Atom}
use Rattle.vc_plan.specs.declared.atoms.Atom.TheVariants.{Here, Out, Is}
use Rattle.vc_plan.specs.declared.plans.Plan.{Plan}
use Rattle.vc_plan.specs.Clear.{is_named, collides}
use Rattle.vc_plan.specs.Domains.{numbers_below, domain_of, grains_in, grains_of, count_of, atom_count}
use Rattle.vc_plan.specs.Laws.{ClearSetsAreSmall}
use Rattle.vc_plan.specs.Pieces.{same_value, lies_in_some}
use Rattle.vc_plan.specs.Seen.{same_atom}
use Rattle.vc_base.proofs.ListLaws.{number_exact, number_itself, range_has}
use Rattle.vc_plan.proofs.PlanLaws.Atoms.{atom_exact, atom_itself, atom_equivalence}
use Rattle.vc_plan.proofs.PlanLaws.Facts.{Facts, facts}
use Rattle.vc_plan.proofs.PlanLaws.Lists.{get_past}

-- the place of an atom: all values of a variable share one
key : Atom → Atom
key (Here i) = Here i
key (Out v g) = Out v g
key (Is v a) = Is v (Text 0)

-- the places of slots and of variables
var_places : Plan → ℕ → List Atom
var_places plan v = Is v (Text 0) ∷ map (Out v) (numbers_below (count_of plan v))

abbrev places : Plan → List Atom
places plan = map Here (numbers_below (length plan.slots))
    ++ flat_map (var_places plan) (numbers_below (length plan.vars))

length-flat_map : (f : ℕ → List Atom) (n : ℕ → ℕ) → ((x : ℕ) → length (f x) ≡ n x) → (xs : List ℕ)
    → length (flat_map f xs) ≡ sum_by n xs
length-flat_map f n e [] = refl
length-flat_map f n e (x ∷ xs) =
    let rest : length (flat_map f xs) ≡ sum_by n xs = length-flat_map f n e xs in
    let first : length (f x) ≡ n x = e x in
    omega (arith, length-append (f x) (flat_map f xs), sum_by-cons n x xs)

length-var_places : (plan : Plan) (v : ℕ) → length (var_places plan v) ≡ count_of plan v + 1
unfolding var_places
length-var_places plan v =
    let h : length (map (Out v) (numbers_below (count_of plan v))) ≡ count_of plan v
    = length-map (numbers_below (count_of plan v)) (Out v) ∙ length-range_with_len 0 (count_of plan v) in
    omega arith

length-places : (plan : Plan) → length (places plan) ≡ atom_count plan
length-places plan =
    let slots : length (map Here (numbers_below (length plan.slots))) ≡ length plan.slots
    = length-map (numbers_below (length plan.slots)) Here ∙ length-range_with_len 0 (length plan.slots) in
    let vars : length (flat_map (var_places plan) (numbers_below (length plan.vars)))
    ≡ sum_by (λ v. count_of plan v + 1) (numbers_below (length plan.vars))
    = length-flat_map (var_places plan) (λ v. count_of plan v + 1) (length-var_places plan)
    (numbers_below (length plan.vars)) in
    omega (
      arith,
      length-append (map Here (numbers_below (length plan.slots)))
          (flat_map (var_places plan) (numbers_below (length plan.vars))),
    )

-- an image is in the mapped list, and what a number's list has all lists together have
pub has_image : (f : ℕ → Atom) (gs : List ℕ) (g : ℕ) → has nat_eq gs g ≡ true → has same_atom (map f gs) (f g) ≡ true
has_image f [] g h = absurd (cc)
has_image f (x ∷ gs) g h =
    elim (has_cases nat_eq number_exact number_itself x gs g h) [
      | inl e ↦ subst (λ z. has same_atom (f x ∷ map f gs) (f z) ≡ true) (sym e)
          (has_first same_atom atom_exact atom_itself (f x) (map f gs))
      | inr e ↦ has_more same_atom atom_exact atom_itself (f x) (map f gs) (f g) (has_image f gs g e)
    ]

pub has_flat : (f : ℕ → List Atom) (xs : List ℕ) (x : ℕ) (a : Atom) → has nat_eq xs x ≡ true
    → has same_atom (f x) a ≡ true
    → has same_atom (flat_map f xs) a ≡ true
has_flat f [] x a h k = absurd (cc)
has_flat f (y ∷ xs) x a h k =
    elim (has_cases nat_eq number_exact number_itself y xs x h) [
      | inl e ↦ has_front same_atom atom_exact atom_itself (f y) (flat_map f xs) a
          (subst (λ z. has same_atom (f z) a ≡ true) e k)
      | inr e ↦ has_back same_atom atom_exact atom_itself (f y) (flat_map f xs) a (has_flat f xs x a e k)
    ]

-- a variable that isn't there has no grain
grains_past : (plan : Plan) (v : ℕ) → length plan.vars ≤ v → grains_of plan v ≡ []
grains_past plan v past = ap (λ o. grains_in (domain_of plan o)) (get_past plan.vars v past)

var_place : (plan : Plan) (v : ℕ) (a : Atom) → v < length plan.vars → has same_atom (var_places plan v) a ≡ true
    → has same_atom (places plan) a ≡ true
var_place plan v a below h =
    has_back same_atom atom_exact atom_itself (map Here (numbers_below (length plan.slots)))
    (flat_map (var_places plan) (numbers_below (length plan.vars))) a
    (has_flat (var_places plan) (numbers_below (length plan.vars)) v a
    (range_has 0 (length plan.vars) v (omega arith) (omega arith)) h)

-- each named atom has a place
named_place : (plan : Plan) (a : Atom) → is_named plan a ≡ true → has same_atom (places plan) (key a) ≡ true
unfolding key var_places
named_place plan (Here i) h =
    has_front same_atom atom_exact atom_itself (map Here (numbers_below (length plan.slots)))
    (flat_map (var_places plan) (numbers_below (length plan.vars))) (Here i)
    (has_image Here (numbers_below (length plan.slots)) i
    (range_has 0 (length plan.slots) i (omega arith)
    (let b : i < length plan.slots = ltb-true i (length plan.slots) h in omega arith)))
named_place plan (Out v g) h =
    let within : g < count_of plan v = ltb-true g (count_of plan v) h in
    elim (cases_lt v (length plan.vars)) [
      | inl below ↦ var_place plan v (Out v g) below
          (has_more same_atom atom_exact atom_itself (Is v (Text 0)) (map (Out v) (numbers_below (count_of plan v)))
          (Out v g)
          (has_image (Out v) (numbers_below (count_of plan v)) g
          (range_has 0 (count_of plan v) g (omega arith) (omega arith))))
      | inr past ↦
          let none : count_of plan v ≡ 0 = ap length (grains_past plan v past) in
          absurd (omega arith)
    ]
named_place plan (Is v a) h =
    elim (cases_lt v (length plan.vars)) [
      | inl below ↦ var_place plan v (Is v (Text 0)) below
          (has_first same_atom atom_exact atom_itself (Is v (Text 0)) (map (Out v) (numbers_below (count_of plan v))))
      | inr past ↦
          let none : lies_in_some (grains_of plan v) a ≡ false
          = ap (λ gs. lies_in_some gs a) (grains_past plan v past) in
          absurd (both h none)
    ]

-- atoms that differ and don't collide have different places
keys_differ : (plan : Plan) (a b : Atom) → same_atom a b ≡ false → collides plan a b ≡ false
    → same_atom (key a) (key b) ≡ false
unfolding key
keys_differ plan (Here i) (Here j) d c = d
keys_differ plan (Here i) (Out w h) d c = refl
keys_differ plan (Here i) (Is w b) d c = refl
keys_differ plan (Out v g) (Here j) d c = refl
keys_differ plan (Out v g) (Out w h) d c = d
keys_differ plan (Out v g) (Is w b) d c = refl
keys_differ plan (Is v a) (Here j) d c = refl
keys_differ plan (Is v a) (Out w h) d c = refl
keys_differ plan (Is v a) (Is w b) d c = apart (v == w) (same_value a b) d c
  where
    apart : (p q : Bool) → (p && q) ≡ false → (p && not q) ≡ false → (p && true) ≡ false
    apart false q d c = refl
    apart true true d c = absurd (cc)
    apart true false d c = absurd (cc)

keys_apart : (plan : Plan) (a : Atom) (set : List Atom) → AllByRecursion (λ b. same_atom a b ≡ false) set
    → ((b : Atom) → has same_atom set b ≡ true → collides plan a b ≡ false)
    → AllByRecursion (λ b. same_atom (key a) b ≡ false) (map key set)
keys_apart plan a [] d c = tt
keys_apart plan a (b ∷ set) d c = (
  keys_differ plan a b d.0 (c b (has_first same_atom atom_exact atom_itself b set)),
  keys_apart plan a set d.1 (λ z h. c z (has_more same_atom atom_exact atom_itself b set z h)),
)

keys_distinct : (plan : Plan) (set : List Atom) → IsDistinct same_atom set
    → ((a b : Atom) → has same_atom set a ≡ true → has same_atom set b ≡ true → collides plan a b ≡ false)
    → IsDistinct same_atom (map key set)
unfolding IsDistinct
keys_distinct plan [] d c = tt
keys_distinct plan (a ∷ set) d c = (
  keys_apart plan a set d.0
      (λ b h. c a b (has_first same_atom atom_exact atom_itself a set)
      (has_more same_atom atom_exact atom_itself a set b h)),
  keys_distinct plan set d.1
      (λ x y h k. c x y (has_more same_atom atom_exact atom_itself a set x h)
      (has_more same_atom atom_exact atom_itself a set y k)),
)

keys_placed : (plan : Plan) (set : List Atom) → ((a : Atom) → has same_atom set a ≡ true → is_named plan a ≡ true)
    → (q : Atom) → has same_atom (map key set) q ≡ true → has same_atom (places plan) q ≡ true
keys_placed plan [] named q h = absurd (cc)
keys_placed plan (a ∷ set) named q h =
    elim (has_cases same_atom atom_exact atom_itself (key a) (map key set) q h) [
      | inl e ↦ subst (λ z. has same_atom (places plan) z ≡ true) (sym e)
          (named_place plan a (named a (has_first same_atom atom_exact atom_itself a set)))
      | inr e ↦ keys_placed plan set (λ b k. named b (has_more same_atom atom_exact atom_itself a set b k)) q e
    ]

pub clear_sets_are_small : ClearSetsAreSmall
clear_sets_are_small plan set clear distinct =
    let f : Facts plan set = facts plan set clear in
    let most : length (map key set) ≤ length (places plan)
    = length-le_from_is_member atom_equivalence (map key set) (places plan) (keys_distinct plan set distinct f.apart)
    (keys_placed plan set f.named) in
    omega (arith, length-map set key, length-places plan, most)
