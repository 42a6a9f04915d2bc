-- The laws that a system of givers owes, and what follows for rounds and for sets that grow.
use Rattle.std.proofs.Common.{◌≡◌, ℕ, zero, suc, Bool, true, false, cond, ◌⊎◌, List, [], ◌∷◌, ◌++◌, map, refl, ◌∙◌, ap}
use Rattle.std.proofs.Common.{subst, inl, inr}
use Rattle.std.specs.List.{list_any, flat_map}
use Rattle.std.proofs.lemmas.Bool.{or_cases, or_left, or_right}
use Rattle.vc_base.specs.Growing.{Grows}
use Rattle.vc_base.specs.Rounds.{is_clash, atoms_of, System, broken, settled, some_clash, all_given, next_round, settle}
use Rattle.vc_base.specs.Sets.{has, Within}
use Rattle.vc_base.proofs.SetLaws.{told, both, has_either, has_front, has_back, within_cons, with_all_cases}

-- the giver is one of the list
abbrev pub IsIn : {O : Type 0} → O → List O → Type 0
IsIn o [] = ⊥
IsIn o (x ∷ xs) = (o ≡ x) ⊎ IsIn o xs

-- what a system owes: its atoms are told apart exactly, a part of a clear set is clear, and what a giver gives at a
-- part
-- of a clear set, a clash or an atom, it gives at that set too, unless the atom stands there or the giver clashes there
pub record Laws {A O : Type 0} (system : System A O) : Type 0 where
  pub exact : (a b : A) → system.same a b ≡ true → a ≡ b
  pub itself : (a : A) → system.same a a ≡ true
  pub smaller : (P S : List A) → Within system.same P S → system.is_clear S ≡ true → system.is_clear P ≡ true
  pub clash : (o : O) (P S : List A) → IsIn o system.givers → system.is_clear S ≡ true → Within system.same P S
      → is_clash (system.gives o P) ≡ true → is_clash (system.gives o S) ≡ true
  pub atom : (o : O) (P S : List A) (a : A) → IsIn o system.givers → system.is_clear S ≡ true → Within system.same P S
      → has system.same (atoms_of (system.gives o P)) a ≡ true
      → (has system.same S a ≡ true)
      ⊎ ((has system.same (atoms_of (system.gives o S)) a ≡ true) ⊎ (is_clash (system.gives o S) ≡ true))

-- nothing is to be added to the set: it is clear, no giver clashes at it, and all that is given stands
pub record IsClosed {A O : Type 0} (system : System A O) (set : List A) : Type 0 where
  pub clear : system.is_clear set ≡ true
  pub calm : some_clash system set ≡ false
  pub given : Within system.same (all_given system set) set

-- what passes a test on some giver, and the other way
pub any_at : {O : Type 0} (p : O → Bool) (os : List O) → list_any p os ≡ true → (o : O) × IsIn o os × (p o ≡ true)
any_at p [] h = absurd (cc)
any_at p (o ∷ os) h =
    elim (or_cases (p o) (list_any p os) h) [
      | inl e ↦ (o, inl refl, e)
      | inr e ↦ let r : (o : _) × IsIn o os × (p o ≡ true) = any_at p os e in (r.0, inr r.1, r.2)
    ]

pub at_any : {O : Type 0} (p : O → Bool) (o : O) (os : List O) → IsIn o os → p o ≡ true → list_any p os ≡ true
at_any p o [] i h = absurd i
at_any p o (x ∷ os) (inl e) h = or_left (p x) (list_any p os) (subst (λ z. p z ≡ true) e h)
at_any p o (x ∷ os) (inr i) h = or_right (p x) (list_any p os) (at_any p o os i h)

module _ {A O : Type 0} (system : System A O) (laws : Laws system) where
  -- an atom of what several givers give is given by one of them, and the other way
  pub giver_of : (f : O → List A) (os : List O) (a : A) → has system.same (flat_map f os) a ≡ true
      → (o : O) × IsIn o os × (has system.same (f o) a ≡ true)
  giver_of f [] a h = absurd (cc)
  giver_of f (o ∷ os) a h =
      elim (has_either system.same laws.exact laws.itself (f o) (flat_map f os) a h) [
        | inl e ↦ (o, inl refl, e)
        | inr e ↦ let r : (o : O) × IsIn o os
            × (has system.same (f o) a ≡ true) = giver_of f os a e in (r.0, inr r.1, r.2)
      ]

  pub given_of : (f : O → List A) (o : O) (os : List O) (a : A) → IsIn o os → has system.same (f o) a ≡ true
      → has system.same (flat_map f os) a ≡ true
  given_of f o [] a i h = absurd i
  given_of f o (x ∷ os) a (inl e) h =
      has_front system.same laws.exact laws.itself (f x) (flat_map f os) a
      (subst (λ z. has system.same (f z) a ≡ true) e h)
  given_of f o (x ∷ os) a (inr i) h =
      has_back system.same laws.exact laws.itself (f x) (flat_map f os) a (given_of f o os a i h)

  -- what a giver gives at a part of a closed set stands in it, and it doesn't clash there
  pub given_stands : (P N : List A) (o : O) (a : A) → IsIn o system.givers → IsClosed system N → Within system.same P N
      → has system.same (atoms_of (system.gives o P)) a ≡ true → has system.same N a ≡ true
  given_stands P N o a i closed w h =
      elim (laws.atom o P N a i closed.clear w h) [
        | inl e ↦ e
        | inr r ↦ elim r [
          | inl e ↦ closed.given a (given_of (λ g. atoms_of (system.gives g N)) o system.givers a i e)
          | inr e ↦ absurd (both (at_any (λ g. is_clash (system.gives g N)) o system.givers i e) closed.calm)
        ]
      ]

  pub all_stand : (P N : List A) → IsClosed system N → Within system.same P N
      → Within system.same (all_given system P) N
  all_stand P N closed w a h =
      let r : (o : O) × IsIn o system.givers × (has system.same (atoms_of (system.gives o P)) a ≡ true)
      = giver_of (λ g. atoms_of (system.gives g P)) system.givers a h in
      given_stands P N r.0 a r.1 closed w r.2

  pub calm_below : (P N : List A) → IsClosed system N → Within system.same P N → some_clash system P ≡ false
  calm_below P N closed w =
      elim (told (some_clash system P)) [
        | inl e ↦
            let r : (o : O) × IsIn o system.givers × (is_clash (system.gives o P) ≡ true)
            = any_at (λ g. is_clash (system.gives g P)) system.givers e in
            absurd (both (at_any (λ g. is_clash (system.gives g N)) r.0 system.givers r.1
            (laws.clash r.0 P N r.1 closed.clear w r.2)) closed.calm)
        | inr e ↦ e
      ]

  pub next_within : (P N : List A) → IsClosed system N → Within system.same P N
      → Within system.same (next_round system P) N
  next_within P N closed w a h =
      elim (with_all_cases system.same laws.exact laws.itself P (all_given system P) a h) [
        | inl e ↦ w a e
        | inr e ↦ all_stand P N closed w a e
      ]

  -- one round at a calm set whose next set is clear, and none at a calm set
  pub settle-next : (n : ℕ) (S : List A) → some_clash system S ≡ false → system.is_clear (next_round system S) ≡ true
      → settle system (suc n) S ≡ settle system n (next_round system S)
  settle-next n S calm clear =
      ap (λ b. cond b broken
      (cond (system.is_clear (next_round system S)) (settle system n (next_round system S)) broken)) calm
      ∙ ap (λ b. cond b (settle system n (next_round system S)) broken) clear

  pub settle-zero : (S : List A) → some_clash system S ≡ false → settle system zero S ≡ settled S
  settle-zero S calm = ap (λ b. cond b broken (settled S)) calm

  -- how rounds end below a closed set: settled, in between
  pub record EndsWithin (n : ℕ) (S N : List A) : Type 0 where
    pub set : List A
    pub is : settle system n S ≡ settled set
    pub within : Within system.same set N

  -- rounds from a part of a closed set end settled, within the closed set
  pub settles_within : (n : ℕ) (S N : List A) → IsClosed system N → Within system.same S N → EndsWithin n S N
  settles_within zero S N closed w = record { set = S; is = settle-zero S (calm_below S N closed w); within = w }
  settles_within (suc n) S N closed w =
      let next = next_round system S in
      let inside : Within system.same next N = next_within S N closed w in
      let rest : EndsWithin n next N = settles_within n next N closed inside in
      record {
        set = rest.set;
        is = settle-next n S (calm_below S N closed w) (laws.smaller next N inside closed.clear) ∙ rest.is;
        within = rest.within;
      }

  -- a set that grew from a part of a closed set is within it
  pub grown_within : (base added N : List A) → IsClosed system N → Within system.same base N → Grows system base added
      → Within system.same (added ++ base) N
  grown_within base [] N closed w g = w
  grown_within base (a ∷ added) N closed w g =
      let inside : Within system.same (added ++ base) N = grown_within base added N closed w g.0 in
      within_cons system.same laws.exact laws.itself a (added ++ base) N
      (all_stand (added ++ base) N closed inside a g.1) inside

  -- it is clear
  pub grown_clear : (base added : List A) → system.is_clear base ≡ true → Grows system base added
      → system.is_clear (added ++ base) ≡ true
  grown_clear base [] c g = c
  grown_clear base (a ∷ added) c g = g.2

-- the givers of lists put together
pub in_front : {O : Type 0} (o : O) (xs ys : List O) → IsIn o xs → IsIn o (xs ++ ys)
in_front o [] ys i = absurd i
in_front o (x ∷ xs) ys (inl e) = inl e
in_front o (x ∷ xs) ys (inr i) = inr (in_front o xs ys i)

pub in_back : {O : Type 0} (o : O) (xs ys : List O) → IsIn o ys → IsIn o (xs ++ ys)
in_back o [] ys i = i
in_back o (x ∷ xs) ys i = inr (in_back o xs ys i)

pub in_either : {O : Type 0} (o : O) (xs ys : List O) → IsIn o (xs ++ ys) → IsIn o xs ⊎ IsIn o ys
in_either o [] ys i = inr i
in_either o (x ∷ xs) ys (inl e) = inl (inl e)
in_either o (x ∷ xs) ys (inr i) = elim (in_either o xs ys i) [ inl a ↦ inl (inr a) | inr b ↦ inr b ]

-- and of a mapped list
pub in_map : {X O : Type 0} (f : X → O) (x : X) (xs : List X) → IsIn x xs → IsIn (f x) (map f xs)
in_map f x [] i = absurd i
in_map f x (y ∷ xs) (inl e) = inl (ap f e)
in_map f x (y ∷ xs) (inr i) = inr (in_map f x xs i)

pub map_in : {X O : Type 0} (f : X → O) (o : O) (xs : List X) → IsIn o (map f xs) → (x : X) × IsIn x xs × (o ≡ f x)
map_in f o [] i = absurd i
map_in f o (y ∷ xs) (inl e) = (y, inl refl, e)
map_in {X = X} f o (y ∷ xs) (inr i) = let r : (x : X) × IsIn x xs × (o ≡ f x) = map_in f o xs i in (r.0, inr r.1, r.2)
