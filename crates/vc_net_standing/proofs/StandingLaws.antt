-- Facts are found by their places.
use Rattle.std.proofs.Common.{◌≡◌, ℕ, zero, suc, ◌+◌, ◌^◌, ◌<◌, ◌≤◌, Bool, true, false, not, ◌||◌, List, [], ◌∷◌, ◌++◌}
use Rattle.std.proofs.Common.{length, map, take, refl, sym, ◌∙◌, ap, subst, inl, inr, arith, length-append}
use Rattle.std.specs.Prelude.{None, Some, IfSome, Option, ◌-◌, option_map, get_or, ◌==◌, nat_eq, nat_lt, position}
use Rattle.std.specs.Prelude.{replicate, slice_get, slice_index_or, slice_set, if◌then◌else◌}
use Rattle.std.specs.List.{AllByRecursion, IsDistinct, position_or_len}
use Rattle.std.specs.Option.{is_some}
use Rattle.std.proofs.lemmas.Bool.{and_parts, cases_lt, le-leb, ltb-true, or_cases, or_left, or_right}
use Rattle.std.proofs.lemmas.List.{get_or-set_other, get_or-set_same, length-map, length-replicate, length-set}
use Rattle.std.proofs.lemmas.List.Quantifiers.{position-Some}
use Rattle.std.proofs.lemmas.List.Sums.{fails_before_first}
use Rattle.std.proofs.lemmas.Grind.{common_steps}
use Rattle.std.proofs.lemmas.Option.{get_or_from_slice_get, slice_get-get_or, slice_get-map, slice_get_within}
use Rattle.std.proofs.lemmas.Map.Steps.{length-le_from_distinct_below}
use Rattle.vc_base.specs.Sets.{has}
use Rattle.vc_base.proofs.ListLaws.{number_exact, number_itself}
use Rattle.vc_base.proofs.SetLaws.{both, has_cases, has_either, told, distinct_more}
use Rattle.vc_value.specs.declared.value.Value.{Value}
use Rattle.vc_plan.specs.declared.atoms.Atom.{Atom}
use Rattle.vc_plan.specs.declared.atoms.Atom.TheVariants.{Here, Out, Is}
use Rattle.vc_plan.specs.Seen.{same_atom, value_in}
use Rattle.vc_plan.proofs.PlanLaws.Atoms.{atom_exact, atom_itself}
use Rattle.vc_rule_yield.specs.Filling.{Filled, with_items}
use Rattle.vc_net_places.specs.Places.{Index, first_in, place_in}
use Rattle.vc_net_places.proofs.PlaceLaws.Things.{get_first, get_second}
use Rattle.vc_net_standing.specs.declared.standing.Fact.{Fact}
use Rattle.vc_net_standing.specs.Keeping.{IsNumbered}
use Rattle.vc_net_standing.specs.Standing.{atoms_of, is_free, number_if_at, number_if_of, places_of, value_by}
use Rattle.vc_net_standing.specs.Standing.{value_if_of}

map_more : {X Y : Type 0} (f : X → Y) (xs ys : List X) → map f (xs ++ ys) ≡ map f xs ++ map f ys
map_more f [] ys = refl
map_more f (x ∷ xs) ys = ap (λ zs. f x ∷ zs) (map_more f xs ys)

some_injective : {X : Type 0} {x y : X} → Some x ≡ Some y → x ≡ y
some_injective e = cc

not_true : (b : Bool) → not b ≡ true → b ≡ false
not_true true e = absurd (cc)
not_true false e = refl

mapped_some : {X Y : Type 0} (f : X → Y) (o : Option X) (y : Y) → option_map f o ≡ Some y
    → (x : X) × (o ≡ Some x) × (f x ≡ y)
mapped_some f None y e = absurd (cc)
mapped_some f (Some x) y e = (x, refl, some_injective e)

-- where the first fact of an atom is, and that there is none
found_at : (facts : List Fact) (atom : Atom) (n : ℕ) → position (same_atom atom) (atoms_of facts) ≡ Some n
    → (fact : Fact) × (slice_get facts n ≡ Some fact) × (atom ≡ fact.atom)
found_at facts atom n e =
    let p = position-Some (same_atom atom) (atoms_of facts) n atom e in
    let r = mapped_some (λ (fact : Fact). fact.atom) (slice_get facts n) (get_or (atoms_of facts) n atom)
    (sym (slice_get-map (λ (fact : Fact). fact.atom) facts n) ∙ slice_get-get_or (atoms_of facts) n atom p.0) in
    (r.0, r.1, atom_exact atom (get_or (atoms_of facts) n atom) p.1 ∙ sym r.2)

found_nowhere : (facts : List Fact) (atom : Atom) → position (same_atom atom) (atoms_of facts) ≡ None
    → (n : ℕ) (fact : Fact) → slice_get facts n ≡ Some fact → same_atom atom fact.atom ≡ false
found_nowhere facts atom e n fact h =
    let is : slice_get (atoms_of facts) n ≡ Some fact.atom
    = slice_get-map (λ (f : Fact). f.atom) facts n ∙ ap (option_map (λ (f : Fact). f.atom)) h in
    let inside : n < length (atoms_of facts) = slice_get_within (atoms_of facts) n fact.atom is in
    let past : length (atoms_of facts) ≤ position_or_len (same_atom atom) (atoms_of facts) = grind
    (arith, common_steps) in
    ap (same_atom atom) (sym (get_or_from_slice_get (atoms_of facts) n fact.atom atom is))
    ∙ fails_before_first (same_atom atom) (atoms_of facts) n atom (omega (arith, inside, past))

-- a place is of a number where the fact of the number is at it
pub mapped_at : {X : Type 0} (f : X → ℕ) (p : ℕ → Bool) (xs : List X) (n : ℕ) → position p (map f xs) ≡ Some n
    → (x : X) × (slice_get xs n ≡ Some x) × (p (f x) ≡ true)
mapped_at f p xs n e =
    let at = position-Some p (map f xs) n 0 e in
    let r = mapped_some f (slice_get xs n) (get_or (map f xs) n 0)
    (sym (slice_get-map f xs n) ∙ slice_get-get_or (map f xs) n 0 at.0) in
    (r.0, r.1, ap p r.2 ∙ at.1)

pub mapped_nowhere : {X : Type 0} (f : X → ℕ) (p : ℕ → Bool) (xs : List X) → position p (map f xs) ≡ None
    → (n : ℕ) (x : X) → slice_get xs n ≡ Some x → p (f x) ≡ false
mapped_nowhere f p xs e n x h =
    let is : slice_get (map f xs) n ≡ Some (f x) = slice_get-map f xs n ∙ ap (option_map f) h in
    let inside : n < length (map f xs) = slice_get_within (map f xs) n (f x) is in
    let past : length (map f xs) ≤ position_or_len p (map f xs) = grind
    (arith, common_steps) in
    ap p (sym (get_or_from_slice_get (map f xs) n (f x) 0 is))
    ∙ fails_before_first p (map f xs) n 0 (omega (arith, inside, past))

-- a fact is among the atoms, and one is where its place is told
get_has : (facts : List Fact) (n : ℕ) (fact : Fact) → slice_get facts n ≡ Some fact
    → has same_atom (atoms_of facts) fact.atom ≡ true
get_has [] n fact h = absurd (cc)
get_has (first ∷ facts) zero fact h =
    or_left (same_atom fact.atom first.atom) (has same_atom (atoms_of facts) fact.atom)
    (ap (λ (f : Fact). same_atom fact.atom f.atom) (some_injective h) ∙ atom_itself fact.atom)
get_has (first ∷ facts) (suc n) fact h =
    or_right (same_atom fact.atom first.atom) (has same_atom (atoms_of facts) fact.atom) (get_has facts n fact h)

none_has : (facts : List Fact) (atom : Atom)
    → ((n : ℕ) (fact : Fact) → slice_get facts n ≡ Some fact → same_atom atom fact.atom ≡ false)
    → has same_atom (atoms_of facts) atom ≡ false
none_has [] atom f = refl
none_has (first ∷ facts) atom f =
    ap (λ b. b || has same_atom (atoms_of facts) atom) (f 0 first refl) ∙ none_has facts atom
    (λ n fact h. f (suc n) fact h)

pub some_has : (facts : List Fact) (atom : Atom)
    → is_some (position (same_atom atom) (atoms_of facts)) ≡ has same_atom (atoms_of facts) atom
some_has facts atom =
    elim (position (same_atom atom) (atoms_of facts)) as (λ o. position (same_atom atom) (atoms_of facts) ≡ o
    → is_some o ≡ has same_atom (atoms_of facts) atom) [
      | None ↦ λ e. sym (none_has facts atom (found_nowhere facts atom e))
      | Some n ↦ λ e.
          let f = found_at facts atom n e in
          sym (ap (has same_atom (atoms_of facts)) f.2 ∙ get_has facts n f.0 f.1)
    ] refl

-- where a fact of a variable's value is, and that there is none
abbrev FoundValue : List Fact → ℕ → Value → Type 0
FoundValue facts v a = (m : ℕ) × (fact : Fact) × (slice_get facts m ≡ Some fact) × (fact.atom ≡ Is v a)

later_value : (fact : Fact) (facts : List Fact) (v : ℕ) (a : Value) → FoundValue facts v a → FoundValue
    (fact ∷ facts) v a
later_value fact facts v a f = (suc f.0, f.1, f.2, f.3)

value_step : (fact : Fact) (facts : List Fact) (v : ℕ) (a : Value) (atom : Atom) → fact.atom ≡ atom
    → value_in (atom ∷ atoms_of facts) v ≡ Some a → (value_in (atoms_of facts) v ≡ Some a → FoundValue facts v a)
    → FoundValue (fact ∷ facts) v a
value_step fact facts v a (Here i) is e more = later_value fact facts v a (more e)
value_step fact facts v a (Out w g) is e more = later_value fact facts v a (more e)
value_step fact facts v a (Is w b) is e more =
    elim (told (w == v)) [
      | inl same ↦
          let first : Some b ≡ Some a = sym (ap (λ t. if t then Some b else value_in (atoms_of facts) v) same) ∙ e in
          (0, fact, refl, is ∙ (ap (λ u. Is u b) (number_exact w v same) ∙ ap (Is v) (some_injective first)))
      | inr other ↦
          later_value fact facts v a
          (more (sym (ap (λ t. if t then Some b else value_in (atoms_of facts) v) other) ∙ e))
    ]

value_found : (facts : List Fact) (v : ℕ) (a : Value) → value_in (atoms_of facts) v ≡ Some a → FoundValue facts v a
value_found [] v a e = absurd (cc)
value_found (fact ∷ facts) v a e = value_step fact facts v a fact.atom refl e (value_found facts v a)

no_value_step : (atom : Atom) (set : List Atom) (v : ℕ) → value_in (atom ∷ set) v ≡ None
    → (value_by v atom ≡ None) × (value_in set v ≡ None)
no_value_step (Here i) set v e = (refl, e)
no_value_step (Out w g) set v e = (refl, e)
no_value_step (Is w b) set v e =
    elim (told (w == v)) [
      | inl same ↦
          let first : Some b ≡ None = sym (ap (λ t. if t then Some b else value_in set v) same) ∙ e in absurd (cc)
      | inr other ↦ (
        ap (λ t. if t then Some b else None) other,
        sym (ap (λ t. if t then Some b else value_in set v) other) ∙ e,
      )
    ]

value_nowhere : (facts : List Fact) (v : ℕ) → value_in (atoms_of facts) v ≡ None
    → (n : ℕ) (fact : Fact) → slice_get facts n ≡ Some fact → value_by v fact.atom ≡ None
value_nowhere [] v e n fact h = absurd (cc)
value_nowhere (first ∷ facts) v e zero fact h =
    ap (λ (f : Fact). value_by v f.atom) (sym (some_injective h)) ∙ (no_value_step first.atom (atoms_of facts) v e).0
value_nowhere (first ∷ facts) v e (suc n) fact h =
    value_nowhere facts v (no_value_step first.atom (atoms_of facts) v e).1 n fact h

-- the place of a fact is among the places
has_place : (index : Index) (facts : List Fact) (n : ℕ) (fact : Fact) → slice_get facts n ≡ Some fact
    → has nat_eq (places_of index facts) (place_in index fact.atom) ≡ true
has_place index [] n fact h = absurd (cc)
has_place index (first ∷ facts) zero fact h =
    or_left (nat_eq (place_in index fact.atom) (place_in index first.atom))
    (has nat_eq (places_of index facts) (place_in index fact.atom))
    (ap (λ (f : Fact). nat_eq (place_in index fact.atom) (place_in index f.atom)) (some_injective h)
    ∙ number_itself (place_in index fact.atom))
has_place index (first ∷ facts) (suc n) fact h =
    or_right (nat_eq (place_in index fact.atom) (place_in index first.atom))
    (has nat_eq (places_of index facts) (place_in index fact.atom))
    (has_place index facts n fact h)

-- the first facts, so many
get_front : (facts : List Fact) (count n : ℕ) (fact : Fact) → slice_get (take count facts) n ≡ Some fact
    → slice_get facts n ≡ Some fact
get_front [] zero n fact h = absurd (cc)
get_front [] (suc count) n fact h = absurd (cc)
get_front (first ∷ facts) zero n fact h = absurd (cc)
get_front (first ∷ facts) (suc count) zero fact h = h
get_front (first ∷ facts) (suc count) (suc n) fact h = get_front facts count n fact h

front_apart : (index : Index) (p : ℕ) (facts : List Fact) (count : ℕ)
    → AllByRecursion (λ q. nat_eq p q ≡ false) (places_of index facts)
    → AllByRecursion (λ q. nat_eq p q ≡ false) (places_of index (take count facts))
front_apart index p [] zero h = tt
front_apart index p [] (suc count) h = tt
front_apart index p (first ∷ facts) zero h = tt
front_apart index p (first ∷ facts) (suc count) h = (h.0, front_apart index p facts count h.1)

front_once : (index : Index) (facts : List Fact) (count : ℕ) → IsDistinct nat_eq (places_of index facts)
    → IsDistinct nat_eq (places_of index (take count facts))
unfolding IsDistinct
front_once index [] zero d = tt
front_once index [] (suc count) d = tt
front_once index (first ∷ facts) zero d = tt
front_once index (first ∷ facts) (suc count) d =
    (front_apart index (place_in index first.atom) facts count d.0, front_once index facts count d.1)

front_has : (index : Index) (facts : List Fact) (count p : ℕ) → has nat_eq (places_of index (take count facts)) p ≡ true
    → has nat_eq (places_of index facts) p ≡ true
front_has index [] zero p h = h
front_has index [] (suc count) p h = h
front_has index (first ∷ facts) zero p h = absurd (cc)
front_has index (first ∷ facts) (suc count) p h =
    elim (or_cases (nat_eq p (place_in index first.atom)) (has nat_eq (places_of index (take count facts)) p) h) [
      | inl e ↦ or_left (nat_eq p (place_in index first.atom)) (has nat_eq (places_of index facts) p) e
      | inr e ↦
          or_right (nat_eq p (place_in index first.atom)) (has nat_eq (places_of index facts) p)
          (front_has index facts count p e)
    ]

-- nothing stands at first
pub nothing_numbered : (index : Index) (numbers : List ℕ) (facts : Filled Fact) (count : ℕ)
    → length index.things < 2 ^ 32
    → count ≡ length index.things → numbers ≡ replicate count 0 → facts ≡ record { items = []; room = count }
    → IsNumbered index numbers facts
unfolding IsDistinct
nothing_numbered index numbers facts count few is e f =
    subst (IsNumbered index numbers) (sym f) (record {
      long = ap length e ∙ length-replicate count 0;
      counted = is;
      small = omega (arith, few, is);
      numbered = λ n fact h. absurd (cc);
      once = tt;
      below = λ p h. absurd (cc);
    })

module _ (index : Index) (numbers : List ℕ) (facts : Filled Fact) (kept : IsNumbered index numbers facts) where
  abbrev at : ℕ → ℕ
  at p = slice_index_or numbers p 0

  abbrev number : Atom → ℕ
  number atom = at (place_in index atom)

  -- an atom that is looked up at its place is found where it is
  none_there : (atom : Atom) → position (same_atom atom) (atoms_of facts.items) ≡ None → (o : Option Fact)
      → slice_get facts.items (number atom) ≡ o → number_if_of atom (number atom) o ≡ None
  none_there atom e None h = refl
  none_there atom e (Some fact) h =
      ap (λ b. if b then Some (number atom) else None) (found_nowhere facts.items atom e (number atom) fact h)

  one_there : (atom : Atom) (n : ℕ) → position (same_atom atom) (atoms_of facts.items) ≡ Some n
      → number_if_of atom (number atom) (slice_get facts.items (number atom)) ≡ Some n
  one_there atom n e =
      let f = found_at facts.items atom n e in
      let is : number atom ≡ n = ap number f.2 ∙ kept.numbered n f.0 f.1 in
      let there : slice_get facts.items (number atom) ≡ Some f.0 = ap (slice_get facts.items) is ∙ f.1 in
      let same : same_atom atom f.0.atom ≡ true = ap (same_atom atom) (sym f.2) ∙ atom_itself atom in
      ap (number_if_of atom (number atom)) there
      ∙ (ap (λ b. if b then Some (number atom) else None) same ∙ ap (λ k. Some k) is)

  pub number_is : (atom : Atom) → number_if_of atom (number atom) (slice_get facts.items (number atom))
      ≡ position (same_atom atom) (atoms_of facts.items)
  number_is atom =
      elim (position (same_atom atom) (atoms_of facts.items)) as
      (λ o. position (same_atom atom) (atoms_of facts.items) ≡ o
      → number_if_of atom (number atom) (slice_get facts.items (number atom)) ≡ o) [
        | None ↦ λ e. none_there atom e (slice_get facts.items (number atom)) refl
        | Some n ↦ λ e. one_there atom n e
      ] refl

  pub number_read : (atom : Atom) (ns : List ℕ) (items : List Fact) (p n : ℕ) → ns ≡ numbers → p ≡ place_in index atom
      → n ≡ slice_index_or ns p 0 → items ≡ facts.items
      → number_if_of atom n (slice_get items n) ≡ position (same_atom atom) (atoms_of facts.items)
  number_read atom ns items p n e f g h =
      let is : n ≡ number atom = g ∙ (ap (λ xs. slice_index_or xs p 0) e ∙ ap at f) in
      ap (λ k. number_if_of atom k (slice_get items k)) is
      ∙ (ap (λ xs. number_if_of atom (number atom) (slice_get xs (number atom))) h ∙ number_is atom)

  -- so is the fact at a place
  none_at_place : (p : ℕ) → position (nat_eq p) (places_of index facts.items) ≡ None → (o : Option Fact)
      → slice_get facts.items (at p) ≡ o → number_if_at index p (at p) o ≡ None
  none_at_place p e None h = refl
  none_at_place p e (Some fact) h =
      ap (λ b. if b then Some (at p) else None)
      (mapped_nowhere (λ (f : Fact). place_in index f.atom) (nat_eq p) facts.items e (at p) fact h)

  one_at_place : (p n : ℕ) → position (nat_eq p) (places_of index facts.items) ≡ Some n
      → number_if_at index p (at p) (slice_get facts.items (at p)) ≡ Some n
  one_at_place p n e =
      let f = mapped_at (λ (f : Fact). place_in index f.atom) (nat_eq p) facts.items n e in
      let is : at p ≡ n = ap at (number_exact p (place_in index f.0.atom) f.2) ∙ kept.numbered n f.0 f.1 in
      ap (number_if_at index p (at p)) (ap (slice_get facts.items) is ∙ f.1)
      ∙ (ap (λ b. if b then Some (at p) else None) f.2 ∙ ap (λ k. Some k) is)

  pub place_is : (p : ℕ) → number_if_at index p (at p) (slice_get facts.items (at p))
      ≡ position (nat_eq p) (places_of index facts.items)
  place_is p =
      elim (position (nat_eq p) (places_of index facts.items)) as
      (λ o. position (nat_eq p) (places_of index facts.items) ≡ o
      → number_if_at index p (at p) (slice_get facts.items (at p)) ≡ o) [
        | None ↦ λ e. none_at_place p e (slice_get facts.items (at p)) refl
        | Some n ↦ λ e. one_at_place p n e
      ] refl

  pub place_read : (p : ℕ) (ns : List ℕ) (items : List Fact) (n : ℕ) → ns ≡ numbers → n ≡ slice_index_or ns p 0
      → items ≡ facts.items → number_if_at index p n (slice_get items n) ≡ position (nat_eq p)
      (places_of index facts.items)
  place_read p ns items n e f g =
      let is : n ≡ at p = f ∙ ap (λ xs. slice_index_or xs p 0) e in
      ap (λ k. number_if_at index p k (slice_get items k)) is
      ∙ (ap (λ xs. number_if_at index p (at p) (slice_get xs (at p))) g ∙ place_is p)

  -- and its number is small
  pub number_small : (p n : ℕ) → position (nat_eq p) (places_of index facts.items) ≡ Some n → n + 1 < 2 ^ 32
  number_small p n e =
      let low = (position-Some (nat_eq p) (places_of index facts.items) n 0 e).0 in
      let all : length (places_of index facts.items) ≤ facts.room
      = length-le_from_distinct_below (places_of index facts.items) facts.room kept.once kept.below in
      omega (arith, low, all, kept.small)

  pub numbers_small : (p : ℕ) (o : Option ℕ) → o ≡ position (nat_eq p) (places_of index facts.items)
      → IfSome o (λ n. n + 1 < 2 ^ 32)
  numbers_small p None e = tt
  numbers_small p (Some n) e = number_small p n (sym e)

  -- so is a variable's value
  no_value_there : (v : ℕ) → value_in (atoms_of facts.items) v ≡ None → (o : Option Fact)
      → slice_get facts.items (at (first_in index v)) ≡ o → value_if_of v o ≡ None
  no_value_there v e None h = refl
  no_value_there v e (Some fact) h = value_nowhere facts.items v e (at (first_in index v)) fact h

  value_there : (v : ℕ) (a : Value) → value_in (atoms_of facts.items) v ≡ Some a
      → value_if_of v (slice_get facts.items (at (first_in index v))) ≡ Some a
  value_there v a e =
      let f = value_found facts.items v a e in
      let is : at (first_in index v) ≡ f.0 = ap number (sym f.3) ∙ kept.numbered f.0 f.1 f.2 in
      ap (value_if_of v) (ap (slice_get facts.items) is ∙ f.2)
      ∙ (ap (value_by v) f.3 ∙ ap (λ b. if b then Some a else None) (number_itself v))

  pub value_is : (v : ℕ) → value_if_of v (slice_get facts.items (at (first_in index v))) ≡ value_in
      (atoms_of facts.items) v
  value_is v =
      elim (value_in (atoms_of facts.items) v) as (λ o. value_in (atoms_of facts.items) v ≡ o
      → value_if_of v (slice_get facts.items (at (first_in index v))) ≡ o) [
        | None ↦ λ e. no_value_there v e (slice_get facts.items (at (first_in index v))) refl
        | Some a ↦ λ e. value_there v a e
      ] refl

  pub value_read : (v : ℕ) (ns : List ℕ) (items : List Fact) (p n : ℕ) → ns ≡ numbers → p ≡ first_in index v
      → n ≡ slice_index_or ns p 0 → items ≡ facts.items
      → value_if_of v (slice_get items n) ≡ value_in (atoms_of facts.items) v
  value_read v ns items p n e f g h =
      let is : n ≡ at (first_in index v) = g ∙ (ap (λ xs. slice_index_or xs p 0) e ∙ ap at f) in
      ap (λ k. value_if_of v (slice_get items k)) is
      ∙ (ap (λ xs. value_if_of v (slice_get xs (at (first_in index v)))) h ∙ value_is v)

  -- all may go
  pub all_gone : (next : Filled Fact) → next ≡ record { items = []; room = facts.room } → IsNumbered index numbers next
  unfolding IsDistinct
  all_gone next e =
      subst (IsNumbered index numbers) (sym e) (record {
        long = kept.long;
        counted = kept.counted;
        small = kept.small;
        numbered = λ n fact h. absurd (cc);
        once = tt;
        below = λ p h. absurd (cc);
      })

  -- the first facts may stay alone
  pub front_stays : (count : ℕ) (next : Filled Fact)
      → next ≡ record { items = take count facts.items; room = facts.room }
      → IsNumbered index numbers next
  front_stays count next e =
      subst (IsNumbered index numbers) (sym e) (record {
        long = kept.long;
        counted = kept.counted;
        small = kept.small;
        numbered = λ n fact h. kept.numbered n fact (get_front facts.items count n fact h);
        once = front_once index facts.items count kept.once;
        below = λ p h. kept.below p (front_has index facts.items count p h);
      })

  -- a fact may come at a free place
  module _ (fact : Fact) (free : is_free (record { index = index; facts = facts.items }) fact.atom ≡ true) where
    abbrev place : ℕ
    place = place_in index fact.atom

    pub inside : place < length numbers
    inside =
        let p = and_parts (nat_lt place (length index.things))
        (not (has nat_eq (places_of index facts.items) place)) free in
        let low : place < length index.things = ltb-true place (length index.things) p.0 in
        omega (arith, low, kept.long, kept.counted)

    nothing_there : has nat_eq (places_of index facts.items) place ≡ false
    nothing_there =
        not_true (has nat_eq (places_of index facts.items) place)
        (and_parts (nat_lt place (length index.things)) (not (has nat_eq (places_of index facts.items) place)) free).1

    abbrev more : List Fact
    more = facts.items ++ fact ∷ []

    more_places : places_of index more ≡ places_of index facts.items ++ place ∷ []
    more_places = map_more (λ (f : Fact). place_in index f.atom) facts.items (fact ∷ [])

    more_once : IsDistinct nat_eq (places_of index facts.items ++ place ∷ [])
    more_once = distinct_more nat_eq number_exact number_itself
        (places_of index facts.items) place kept.once nothing_there

    more_below : (p : ℕ) → has nat_eq (places_of index facts.items ++ place ∷ []) p ≡ true → p < facts.room
    more_below p h =
        elim (has_either nat_eq number_exact number_itself (places_of index facts.items) (place ∷ []) p h) [
          | inl q ↦ kept.below p q
          | inr q ↦ elim (has_cases nat_eq number_exact number_itself place [] p q) [
            | inl same ↦ let low = inside in omega (arith, low, same, kept.long)
            | inr none ↦ absurd (cc)
          ]
        ]

    pub room_left : length facts.items + 1 ≤ facts.room
    room_left =
        let all : length (places_of index facts.items ++ place ∷ []) ≤ facts.room
        = length-le_from_distinct_below (places_of index facts.items ++ place ∷ []) facts.room more_once more_below in
        let long = length-append (places_of index facts.items) (place ∷ []) in
        let mapped = length-map facts.items (λ (f : Fact). place_in index f.atom) in
        omega (arith, all, long, mapped)

    old_number : (n : ℕ) (other : Fact) → n < length facts.items → slice_get more n ≡ Some other
        → slice_index_or (slice_set numbers place (length facts.items)) (place_in index other.atom) 0 ≡ n
    old_number n other low h =
        let was : slice_get facts.items n ≡ Some (get_or facts.items n fact)
        = slice_get-get_or facts.items n fact low in
        let is : get_or facts.items n fact ≡ other
        = some_injective (sym (get_first facts.items (fact ∷ []) n (get_or facts.items n fact) was) ∙ h) in
        let there : slice_get facts.items n ≡ Some other = was ∙ ap (λ f. Some f) is in
        let apart : place_in index other.atom ≡ place → ⊥
        = λ same. both (subst (λ p. has nat_eq (places_of index facts.items) p ≡ true) same
        (has_place index facts.items n other there)) nothing_there in
        get_or-set_other numbers place (place_in index other.atom) (length facts.items) 0 apart
        ∙ kept.numbered n other there

    new_number : (k n : ℕ) (other : Fact) → n ≡ length facts.items + k → slice_get (fact ∷ []) k ≡ Some other
        → slice_index_or (slice_set numbers place (length facts.items)) (place_in index other.atom) 0 ≡ n
    new_number zero n other is h =
        ap (λ (f : Fact). slice_index_or (slice_set numbers place (length facts.items)) (place_in index f.atom) 0)
        (sym (some_injective h))
        ∙ (get_or-set_same numbers place (length facts.items) 0 inside ∙ omega (arith, is))
    new_number (suc k) n other is h = absurd (cc)

    pub comes : (later : List ℕ) (next : Filled Fact) → later ≡ slice_set numbers place (length facts.items)
        → next ≡ with_items facts (fact ∷ []) → IsNumbered index later next × (next.items ≡ more)
    comes later next e f =
        let is : next ≡ record { items = more; room = facts.room }
        = f ∙ ap (λ b. if b then record { items = more; room = facts.room } else facts)
        (le-leb (length facts.items + 1) facts.room room_left) in (
          subst (λ ns. IsNumbered index ns next) (sym e) (subst
              (IsNumbered index (slice_set numbers place (length facts.items))) (sym is) (record {
                long = length-set numbers place (length facts.items) ∙ kept.long;
                counted = kept.counted;
                small = kept.small;
                numbered = λ n other h. elim (cases_lt n (length facts.items)) [
                  | inl low ↦ old_number n other low h
                  | inr past ↦
                      let k = n - length facts.items in
                      let at_end : n ≡ length facts.items + k = omega (arith, past) in
                      new_number k n other at_end (sym (get_second facts.items (fact ∷ []) n k at_end) ∙ h)
                ];
                once = subst (IsDistinct nat_eq) (sym more_places) more_once;
                below = λ p h. more_below p (ap (λ ps. has nat_eq ps p) (sym more_places) ∙ h);
              })),
          ap (λ (list : Filled Fact). list.items) is,
        )
