-- The numbers of places are those of the atoms that stand there.
use Rattle.std.proofs.Common.{◌≡◌, ℕ, suc, ◌+◌, ◌<◌, Bool, true, false, cond, not, ◌||◌, List, [], ◌∷◌, ◌++◌, length}
use Rattle.std.proofs.Common.{map, refl, sym, ◌∙◌, ap, subst, inl, inr, arith}
use Rattle.std.specs.Prelude.{Some, nat_eq, position, slice_get}
use Rattle.std.specs.List.{AllByRecursion, IsDistinct, list_all, list_any, position_or_len}
use Rattle.std.proofs.lemmas.Bool.{and_parts}
use Rattle.std.proofs.lemmas.Bool.Decides.{nat_tests}
use Rattle.vc_base.specs.Sets.{has, Within}
use Rattle.vc_base.proofs.ListLaws.{number_exact, number_itself}
use Rattle.vc_base.proofs.SetLaws.{both, has_cases, has_first, has_more, told}
use Rattle.vc_plan.specs.declared.atoms.Atom.{Atom}
use Rattle.vc_plan.specs.Seen.{same_atom}
use Rattle.vc_plan.proofs.PlanLaws.Atoms.{atom_exact, atom_itself}
use Rattle.vc_plan_blame.specs.Blame.{number_of}
use Rattle.vc_net_places.specs.Places.{Index, place_in}
use Rattle.vc_net_standing.specs.declared.standing.Fact.{Fact}
use Rattle.vc_net_standing.specs.Standing.{atoms_of, places_of}
use Rattle.vc_net_log.specs.Keeping.{number_at, number_if}

-- the first that passes, where one does
pub first_inside : {X : Type 0} (p : X → Bool) (xs : List X) → list_any p xs ≡ true → position_or_len p xs < length xs
first_inside p [] h = absurd (cc)
first_inside p (x ∷ xs) h = by (p x) h (first_inside p xs)
  where
    by : (b : Bool) → (b || list_any p xs) ≡ true → (list_any p xs ≡ true → position_or_len p xs < length xs)
        → cond (not b) (1 + position_or_len p xs) 0 < suc (length xs)
    by true h next = omega arith
    by false h next = let low = next h in omega (arith, low)

pub found_first : {X : Type 0} (p : X → Bool) (xs : List X) → list_any p xs ≡ true
    → position p xs ≡ Some (position_or_len p xs)
found_first p xs h = let low = first_inside p xs h in grind (arith, nat_tests)

first_stays : {X : Type 0} (p : X → Bool) (xs ys : List X) → list_any p xs ≡ true
    → position_or_len p (xs ++ ys) ≡ position_or_len p xs
first_stays p [] ys h = absurd (cc)
first_stays p (x ∷ xs) ys h = by (p x) h (first_stays p xs ys)
  where
    by : (b : Bool) → (b || list_any p xs) ≡ true
        → (list_any p xs ≡ true → position_or_len p (xs ++ ys) ≡ position_or_len p xs)
        → cond (not b) (1 + position_or_len p (xs ++ ys)) 0 ≡ cond (not b) (1 + position_or_len p xs) 0
    by true h next = refl
    by false h next = ap (λ n. 1 + n) (next h)

any_more : {X : Type 0} (p : X → Bool) (xs ys : List X) → list_any p xs ≡ true → list_any p (xs ++ ys) ≡ true
any_more p [] ys h = absurd (cc)
any_more p (x ∷ xs) ys h = by (p x) h (any_more p xs ys)
  where
    by : (b : Bool) → (b || list_any p xs) ≡ true → (list_any p xs ≡ true → list_any p (xs ++ ys) ≡ true)
        → (b || list_any p (xs ++ ys)) ≡ true
    by true h next = refl
    by false h next = next h

-- so a place keeps its number when others come
pub number_stays : (places more : List ℕ) (p : ℕ) → has nat_eq places p ≡ true
    → number_at (places ++ more) p ≡ number_at places p
number_stays places more p h =
    ap number_if (found_first (nat_eq p) (places ++ more) (any_more (nat_eq p) places more h)
    ∙ (ap Some (first_stays (nat_eq p) places more h) ∙ sym (found_first (nat_eq p) places h)))

-- an atom that stands does so at its place
pub atom_placed : (index : Index) (facts : List Fact) (a : Atom) → has same_atom (atoms_of facts) a ≡ true
    → has nat_eq (places_of index facts) (place_in index a) ≡ true
atom_placed index [] a h = absurd (cc)
atom_placed index (fact ∷ facts) a h =
    elim (has_cases same_atom atom_exact atom_itself fact.atom (atoms_of facts) a h) [
      | inl is ↦
          subst (λ p. has nat_eq (places_of index (fact ∷ facts)) p ≡ true) (ap (place_in index) (sym is))
          (has_first nat_eq number_exact number_itself (place_in index fact.atom) (places_of index facts))
      | inr later ↦
          has_more nat_eq number_exact number_itself (place_in index fact.atom) (places_of index facts)
          (place_in index a)
          (atom_placed index facts a later)
    ]

lacking : (p : ℕ) (ns : List ℕ) → AllByRecursion (λ x. nat_eq p x ≡ false) ns → has nat_eq ns p ≡ false
lacking p [] h = refl
lacking p (n ∷ ns) h = ap (λ b. b || has nat_eq ns p) h.0 ∙ lacking p ns h.1

-- where no two facts are at one place, the first at an atom's place is the first that says the atom
same_first : (index : Index) (facts : List Fact) (a : Atom) → IsDistinct nat_eq (places_of index facts)
    → has same_atom (atoms_of facts) a ≡ true
    → position_or_len (nat_eq (place_in index a)) (places_of index facts)
    ≡ position_or_len (same_atom a) (atoms_of facts)
unfolding IsDistinct
same_first index [] a once h = absurd (cc)
same_first index (fact ∷ facts) a once h =
    let p = place_in index a in
    let q = place_in index fact.atom in
    elim (told (same_atom a fact.atom)) [
      | inl same ↦
          let there : nat_eq p q ≡ true
          = ap (nat_eq p) (ap (place_in index) (sym (atom_exact a fact.atom same))) ∙ number_itself p in
          ap (λ b. cond (not b) (1 + position_or_len (nat_eq p) (places_of index facts)) 0) there
          ∙ ap (λ b. cond (not b) (1 + position_or_len (same_atom a) (atoms_of facts)) 0) (sym same)
      | inr other ↦
          let later : has same_atom (atoms_of facts) a ≡ true
          = ap (λ b. b || has same_atom (atoms_of facts) a) (sym other) ∙ h in
          let elsewhere : nat_eq p q ≡ false
          = elim (told (nat_eq p q)) [
            | inl same ↦
                absurd (both
                (subst (λ k. has nat_eq (places_of index facts) k ≡ true) (number_exact p q same)
                (atom_placed index facts a later))
                (lacking q (places_of index facts) once.0))
            | inr apart ↦ apart
          ] in
          ap (λ b. cond (not b) (1 + position_or_len (nat_eq p) (places_of index facts)) 0) elsewhere
          ∙ (ap (λ n. 1 + n) (same_first index facts a once.1 later)
          ∙ ap (λ b. cond (not b) (1 + position_or_len (same_atom a) (atoms_of facts)) 0) (sym other))
    ]

pub number_agrees : (index : Index) (facts : List Fact) (a : Atom) → IsDistinct nat_eq (places_of index facts)
    → has same_atom (atoms_of facts) a ≡ true
    → number_at (places_of index facts) (place_in index a) ≡ number_of (atoms_of facts) a
number_agrees index facts a once h =
    ap number_if (found_first (nat_eq (place_in index a)) (places_of index facts) (atom_placed index facts a h))
    ∙ ap suc (same_first index facts a once h)

-- and no two say one atom
apart_atoms : (index : Index) (a : Atom) (facts : List Fact)
    → AllByRecursion (λ p. nat_eq (place_in index a) p ≡ false) (places_of index facts)
    → AllByRecursion (λ b. same_atom a b ≡ false) (atoms_of facts)
apart_atoms index a [] h = tt
apart_atoms index a (fact ∷ facts) h = (
  elim (told (same_atom a fact.atom)) [
    | inl same ↦
        absurd (both (ap (nat_eq (place_in index a)) (ap (place_in index) (sym (atom_exact a fact.atom same)))
        ∙ number_itself (place_in index a)) h.0)
    | inr other ↦ other
  ],
  apart_atoms index a facts h.1,
)

pub atoms_once : (index : Index) (facts : List Fact) → IsDistinct nat_eq (places_of index facts)
    → IsDistinct same_atom (atoms_of facts)
unfolding IsDistinct
atoms_once index [] once = tt
atoms_once index (fact ∷ facts) once =
    (apart_atoms index fact.atom facts once.0, atoms_once index facts once.1)

-- lists mapped alike
pub mapped_if : {X Y : Type 0} (f g : X → Y) (p : X → Bool) → ((x : X) → p x ≡ true → f x ≡ g x) → (xs : List X)
    → list_all p xs ≡ true → map f xs ≡ map g xs
mapped_if f g p same [] h = refl
mapped_if f g p same (x ∷ xs) h =
    let both_hold = and_parts (p x) (list_all p xs) h in
    ap (λ y. y ∷ map f xs) (same x both_hold.0) ∙ ap (λ ys. g x ∷ ys) (mapped_if f g p same xs both_hold.1)

pub mapped_each : {X Y : Type 0} (f g : X → Y) (xs : List X) → ((n : ℕ) (x : X) → slice_get xs n ≡ Some x → f x ≡ g x)
    → map f xs ≡ map g xs
mapped_each f g [] same = refl
mapped_each f g (x ∷ xs) same =
    ap (λ y. y ∷ map f xs) (same 0 x refl) ∙ ap (λ ys. g x ∷ ys) (mapped_each f g xs (λ n y h. same (suc n) y h))

pub mapped_within : {Y : Type 0} (f g : Atom → Y) (atoms stand : List Atom)
    → ((a : Atom) → has same_atom stand a ≡ true → f a ≡ g a) → Within same_atom atoms stand → map f atoms ≡ map g atoms
mapped_within f g [] stand same within = refl
mapped_within f g (a ∷ atoms) stand same within =
    ap (λ y. y ∷ map f atoms) (same a (within a (has_first same_atom atom_exact atom_itself a atoms)))
    ∙ ap (λ ys. g a ∷ ys) (mapped_within f g atoms stand same
    (λ b h. within b (has_more same_atom atom_exact atom_itself a atoms b h)))
