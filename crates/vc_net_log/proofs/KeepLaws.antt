-- The facts that stay are put back one by one, each at a place of its own.
use Rattle.std.proofs.Common.{◌≡◌, ℕ, zero, suc, ◌+◌, ◌-◌, ◌^◌, ◌<◌, ◌≤◌, ◌⊎◌, Bool, true, false, cond, not, ◌&&◌, ◌||◌}
use Rattle.std.proofs.Common.{List, [], ◌∷◌, ◌++◌, drop, get_or, length, take, refl, sym, ◌∙◌, ap, subst, inl, inr}
use Rattle.std.proofs.Common.{arith, append_assoc, length-append}
use Rattle.std.specs.Prelude.{None, Some, if◌then◌else◌, nat_eq, nat_lt, position, slice_index_or}
use Rattle.std.specs.List.{AllByRecursion, IsDistinct, list_all, list_any, position_or_len}
use Rattle.std.specs.Option.{is_some}
use Rattle.std.proofs.lemmas.Bool.{and_from, and_parts, cases_lt, le-ltb, ltb-true, or_parts}
use Rattle.std.proofs.lemmas.List.{length-map, map-append, take_all}
use Rattle.std.proofs.lemmas.Map.Steps.{length-le_from_distinct_below}
use Rattle.vc_base.specs.Sets.{has}
use Rattle.vc_base.proofs.ListLaws.{number_exact, number_itself}
use Rattle.vc_base.proofs.SetLaws.{all_at, both, told}
use Rattle.vc_net_places.specs.Places.{Index, place_in}
use Rattle.vc_net_standing.specs.declared.standing.Fact.{Fact}
use Rattle.vc_net_standing.specs.Standing.{Stood, atoms_of, is_free, places_of, with_fact}
use Rattle.vc_net_log.specs.Keeping.{IsCounted, raised_at}
use Rattle.vc_net_log.specs.Staying.{AreApart, staying, stays}
use Rattle.vc_net_log.proofs.NumberLaws.{found_first}
use Rattle.vc_net_log.proofs.OutLaws.{counted_few, raised_counts}

-- whether something stands at the first place, and at those after it
first_outside : {X : Type 0} (p : X → Bool) (xs : List X) → list_any p xs ≡ false → position_or_len p xs ≡ length xs
first_outside p [] h = refl
first_outside p (x ∷ xs) h =
    let parts = or_parts (p x) (list_any p xs) h in
    ap (λ b. cond (not b) (1 + position_or_len p xs) 0) parts.0
    ∙ (ap (λ n. 1 + n) (first_outside p xs parts.1) ∙ one_more)
  where
    one_more : 1 + length xs ≡ suc (length xs)
    one_more = omega arith

is_at : (ps : List ℕ) (p : ℕ) → is_some (position (nat_eq p) ps) ≡ has nat_eq ps p
is_at ps p =
    elim (told (has nat_eq ps p)) [
      | inl h ↦ ap is_some (found_first (nat_eq p) ps h) ∙ sym h
      | inr h ↦
          ap is_some (ap (λ n. cond (nat_lt n (length ps)) (Some n) None) (first_outside (nat_eq p) ps h)
          ∙ ap (λ b. cond b (Some (length ps)) None) (le-ltb (length ps) (length ps) (omega arith)))
          ∙ sym h
    ]

pub none_stands : (ps rest : List ℕ) (d : ℕ) → 1 ≤ length rest
    → is_some (position (nat_eq (get_or rest 0 d)) ps) ≡ false → list_all (has nat_eq ps) rest ≡ false
none_stands ps [] d some e = absurd (omega arith)
none_stands ps (p ∷ rest) d some e =
    ap (λ b. b && list_all (has nat_eq ps) rest) (sym (is_at ps p) ∙ e)

pub one_stands : (ps rest : List ℕ) (d : ℕ) → 1 ≤ length rest
    → is_some (position (nat_eq (get_or rest 0 d)) ps) ≡ true
    → list_all (has nat_eq ps) (take (length rest - 1) (drop 1 rest)) ≡ list_all (has nat_eq ps) rest
one_stands ps [] d some e = absurd (omega arith)
one_stands ps (p ∷ rest) d some e =
    ap (list_all (has nat_eq ps)) (take_all (length (p ∷ rest) - 1) rest (omega arith))
    ∙ sym (ap (λ b. b && list_all (has nat_eq ps) rest) (sym (is_at ps p) ∙ e))

-- a list without an element
apart_less : (q : ℕ) (xs : List ℕ) (y : ℕ) (ys : List ℕ) → AllByRecursion (λ x. nat_eq q x ≡ false) (xs ++ y ∷ ys)
    → AllByRecursion (λ x. nat_eq q x ≡ false) (xs ++ ys)
apart_less q [] y ys h = h.1
apart_less q (x ∷ xs) y ys h = (h.0, apart_less q xs y ys h.1)

once_less : (xs : List ℕ) (y : ℕ) (ys : List ℕ) → IsDistinct nat_eq (xs ++ y ∷ ys) → IsDistinct nat_eq (xs ++ ys)
unfolding IsDistinct
once_less [] y ys h = h.1
once_less (x ∷ xs) y ys h = (apart_less x xs y ys h.0, once_less xs y ys h.1)

all_less : (p : ℕ → Bool) (xs : List ℕ) (y : ℕ) (ys : List ℕ) → list_all p (xs ++ y ∷ ys) ≡ true
    → list_all p (xs ++ ys) ≡ true
all_less p [] y ys h = (and_parts (p y) (list_all p ys) h).1
all_less p (x ∷ xs) y ys h =
    let parts = and_parts (p x) (list_all p (xs ++ y ∷ ys)) h in
    and_from (p x) (list_all p (xs ++ ys)) parts.0 (all_less p xs y ys parts.1)

-- a number between others is none of those before it
none_before : (xs : List ℕ) (y : ℕ) (ys : List ℕ) → IsDistinct nat_eq (xs ++ y ∷ ys) → has nat_eq xs y ≡ false
unfolding IsDistinct
none_before [] y ys h = refl
none_before (x ∷ xs) y ys h = by (told (nat_eq y x)) (none_before xs y ys h.1)
  where
    other : (zs : List ℕ) → AllByRecursion (λ z. nat_eq x z ≡ false) (zs ++ y ∷ ys) → nat_eq x y ≡ false
    other [] k = k.0
    other (z ∷ zs) k = other zs k.1

    by : (nat_eq y x ≡ true) ⊎ (nat_eq y x ≡ false) → has nat_eq xs y ≡ false → (nat_eq y x || has nat_eq xs y) ≡ false
    by (inl same) rest =
        absurd (both (ap (nat_eq x) (number_exact y x same) ∙ number_itself x) (other xs h.0))
    by (inr apart) rest = ap (λ b. b || has nat_eq xs y) apart ∙ rest

once_front : (xs ys : List ℕ) → IsDistinct nat_eq (xs ++ ys) → IsDistinct nat_eq xs
unfolding IsDistinct
once_front [] ys h = tt
once_front (x ∷ xs) ys h = (front xs h.0, once_front xs ys h.1)
  where
    front : (zs : List ℕ) → AllByRecursion (λ z. nat_eq x z ≡ false) (zs ++ ys)
        → AllByRecursion (λ z. nat_eq x z ≡ false) zs
    front [] k = tt
    front (z ∷ zs) k = (k.0, front zs k.1)

-- the places of facts, and what may be said of them
abbrev pub Once : Index → List Fact → Type 0
Once index facts = IsDistinct nat_eq (places_of index facts)

abbrev pub Below : Index → List Fact → Type 0
Below index facts = list_all (λ p. nat_lt p (length index.things)) (places_of index facts) ≡ true

more_places : (index : Index) (facts more : List Fact)
    → places_of index (facts ++ more) ≡ places_of index facts ++ places_of index more
more_places index facts more = map-append (λ (f : Fact). place_in index f.atom) facts more

pub once_without : (index : Index) (front : List Fact) (fact : Fact) (more : List Fact)
    → Once index (front ++ fact ∷ more) → Once index (front ++ more)
once_without index front fact more h =
    subst (IsDistinct nat_eq) (sym (more_places index front more))
    (once_less (places_of index front) (place_in index fact.atom) (places_of index more)
    (subst (IsDistinct nat_eq) (more_places index front (fact ∷ more)) h))

pub below_without : (index : Index) (front : List Fact) (fact : Fact) (more : List Fact)
    → Below index (front ++ fact ∷ more) → Below index (front ++ more)
below_without index front fact more h =
    let p = λ (k : ℕ). nat_lt k (length index.things) in
    ap (list_all p) (more_places index front more)
    ∙ all_less p (places_of index front) (place_in index fact.atom) (places_of index more)
    (sym (ap (list_all p) (more_places index front (fact ∷ more))) ∙ h)

module _ (stood : Stood) (fact : Fact) (more : List Fact) (apart : AreApart stood (fact ∷ more)) where
  abbrev index : Index
  index = stood.index

  abbrev place : ℕ
  place = place_in index fact.atom

  abbrev count : ℕ
  count = length index.things

  places : List ℕ
  places = places_of index stood.facts

  -- it may be left out, or stand
  pub apart_without : AreApart stood more
  apart_without = record {
    once = once_without index stood.facts fact more apart.once;
    below = below_without index stood.facts fact more apart.below;
    small = apart.small;
  }

  pub apart_with : AreApart (with_fact stood fact) more
  apart_with = record {
    once = subst (Once index) (sym (append_assoc stood.facts (fact ∷ []) more)) apart.once;
    below = subst (Below index) (sym (append_assoc stood.facts (fact ∷ []) more)) apart.below;
    small = apart.small;
  }

  split_once : IsDistinct nat_eq (places_of index stood.facts ++ place ∷ places_of index more)
  split_once = subst (IsDistinct nat_eq) (more_places index stood.facts (fact ∷ more)) apart.once

  split_below : list_all (λ p. nat_lt p count) (places_of index stood.facts ++ place ∷ places_of index more) ≡ true
  split_below = sym (ap (list_all (λ p. nat_lt p count)) (more_places index stood.facts (fact ∷ more))) ∙ apart.below

  low_of : (xs ys : List ℕ) (y : ℕ) → list_all (λ p. nat_lt p count) (xs ++ y ∷ ys) ≡ true → nat_lt y count ≡ true
  low_of [] ys y h = (and_parts (nat_lt y count) (list_all (λ p. nat_lt p count) ys) h).0
  low_of (x ∷ xs) ys y h =
      low_of xs ys y (and_parts (nat_lt x count) (list_all (λ p. nat_lt p count) (xs ++ y ∷ ys)) h).1

  pub place_low : place < count
  place_low = ltb-true place count (low_of (places_of index stood.facts) (places_of index more) place split_below)

  pub place_free : is_free stood fact.atom ≡ true
  place_free =
      and_from (nat_lt place count) (not (has nat_eq (places_of index stood.facts) place))
      (low_of (places_of index stood.facts) (places_of index more) place split_below)
      (ap not (none_before (places_of index stood.facts) place (places_of index more) split_once))

  -- so few are out that one more can be counted
  facts_fit : length stood.facts + 1 ≤ count
  facts_fit =
      let whole = places_of index (stood.facts ++ fact ∷ more) in
      let all : length whole ≤ count
      = length-le_from_distinct_below whole count apart.once
      (λ p h. ltb-true p count
      (all_at nat_eq number_exact number_itself (λ q. nat_lt q count) whole p apart.below h)) in
      let long = length-append stood.facts (fact ∷ more) in
      let mapped : length whole ≡ length (stood.facts ++ fact ∷ more)
      = length-map (stood.facts ++ fact ∷ more) (λ (f : Fact). place_in index f.atom) in
      omega (arith, all, long, mapped)

  pub outs_small : (outs : List ℕ) → IsCounted (atoms_of stood.facts) outs → (v : ℕ)
      → slice_index_or outs v 0 + 1 < 2 ^ 32
  outs_small outs counted v = by (cases_lt v (length outs))
    where
      past_end : (ns : List ℕ) (n : ℕ) → length ns ≤ n → slice_index_or ns n 0 ≡ 0
      past_end [] zero h = refl
      past_end [] (suc n) h = refl
      past_end (m ∷ ns) zero h = absurd (omega (arith, h))
      past_end (m ∷ ns) (suc n) h = past_end ns n (omega (arith, h))

      by : (v < length outs) ⊎ (length outs ≤ v) → slice_index_or outs v 0 + 1 < 2 ^ 32
      by (inl low) =
          let most = counted_few v (atoms_of stood.facts) in
          let mapped : length (atoms_of stood.facts) ≡ length stood.facts
          = length-map stood.facts (λ (f : Fact). f.atom) in
          let fit = facts_fit in
          let small = apart.small in
          let same = counted v low in
          omega (arith, most, mapped, fit, small, same)
      by (inr past) = let none : slice_index_or outs v 0 ≡ 0 = past_end outs v past in omega (arith, none)

-- the first of some facts, and those after it
first_and_more : (rest : List Fact) (d : Fact) → 1 ≤ length rest
    → rest ≡ get_or rest 0 d ∷ take (length rest - 1) (drop 1 rest)
first_and_more [] d some = absurd (omega arith)
first_and_more (fact ∷ rest) d some =
    ap (λ xs. fact ∷ xs) (sym (take_all (length (fact ∷ rest) - 1) rest (omega arith)))

module _ (stood : Stood) (rest : List Fact) (d : Fact) (some : 1 ≤ length rest) where
  abbrev first : Fact
  first = get_or rest 0 d

  abbrev more : List Fact
  more = take (length rest - 1) (drop 1 rest)

  split : rest ≡ first ∷ more
  split = first_and_more rest d some

  pub first_apart : AreApart stood rest → AreApart stood (first ∷ more)
  first_apart apart = subst (AreApart stood) split apart

  pub counted_here : (facts : List Fact) (outs raised : List ℕ) → facts ≡ stood.facts ++ first ∷ []
      → raised ≡ raised_at first.atom outs → IsCounted (atoms_of stood.facts) outs → IsCounted (atoms_of facts) raised
  counted_here facts outs raised e f counted =
      subst (IsCounted (atoms_of facts)) (sym f)
      (subst (λ atoms. IsCounted atoms (raised_at first.atom outs))
      (sym (ap atoms_of e ∙ map-append (λ (g : Fact). g.atom) stood.facts (first ∷ [])))
      (raised_counts (atoms_of stood.facts) first.atom outs counted))

  -- it is put back, and those after it, or those after it alone
  module _ (index : Index) (gone : Fact → Bool) (needs : Fact → List ℕ) where
    abbrev later : List Fact
    later = staying index gone needs (stood.facts ++ first ∷ []) more

    here : (b : Bool) → stays index gone needs stood.facts first ≡ b
        → stood.facts ++ staying index gone needs stood.facts rest
        ≡ stood.facts ++ (if b then first ∷ later else staying index gone needs stood.facts more)
    here b h =
        ap (λ xs. stood.facts ++ staying index gone needs stood.facts xs) split
        ∙ ap (λ c. stood.facts ++ (if c then first ∷ later else staying index gone needs stood.facts more)) h

    pub stays_here : stays index gone needs stood.facts first ≡ true → (facts : List Fact)
        → facts ≡ stood.facts ++ first ∷ []
        → facts ++ staying index gone needs facts more ≡ stood.facts ++ staying index gone needs stood.facts rest
    stays_here h facts e =
        ap (λ xs. xs ++ staying index gone needs xs more) e
        ∙ (append_assoc stood.facts (first ∷ []) later ∙ sym (here true h))

    pub goes_here : stays index gone needs stood.facts first ≡ false
        → stood.facts ++ staying index gone needs stood.facts more
        ≡ stood.facts ++ staying index gone needs stood.facts rest
    goes_here h = sym (here false h)
