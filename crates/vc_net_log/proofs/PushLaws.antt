-- A step comes at the end of what is kept.
use Rattle.std.proofs.Common.{◌≡◌, ℕ, zero, suc, ◌+◌, ◌-◌, ◌^◌, ◌<◌, ◌≤◌, ◌⊎◌, Bool, true, false, not, List, [], ◌∷◌}
use Rattle.std.proofs.Common.{◌++◌, length, map, take, drop, refl, sym, ◌∙◌, ap, subst, inl, inr, arith, length-append}
use Rattle.std.specs.Prelude.{Some, get_or, nat_eq, nat_lt, slice_get, slice_index_or, slice_set}
use Rattle.std.specs.List.{IsDistinct, list_all}
use Rattle.std.proofs.lemmas.Bool.{and_from, and_parts, cases_lt, lt-ltb, ltb-true}
use Rattle.std.proofs.lemmas.List.{get_or-set_other, get_or-set_same, length-map, length-set, map-append}
use Rattle.std.proofs.lemmas.Map.Steps.{length-le_from_distinct_below}
use Rattle.std.proofs.lemmas.Option.{get_or_from_slice_get, slice_get-get_or}
use Rattle.vc_base.specs.Sets.{has, Within}
use Rattle.vc_base.proofs.ListLaws.{number_exact, number_itself}
use Rattle.vc_base.proofs.SetLaws.{all_at, both, has_first, has_front, has_more, told, distinct_more}
use Rattle.vc_plan.specs.declared.atoms.Atom.{Atom}
use Rattle.vc_plan.specs.declared.atoms.Step.{Step}
use Rattle.vc_plan.specs.Seen.{same_atom}
use Rattle.vc_plan.proofs.PlanLaws.Atoms.{atom_exact, atom_itself}
use Rattle.vc_plan.proofs.PlanLaws.Lists.{all_grows}
use Rattle.vc_plan_blame.specs.Blame.{number_of}
use Rattle.vc_plan_reasons.specs.Checking.{concluded}
use Rattle.vc_net_places.specs.Places.{Index, place_in}
use Rattle.vc_net_places.proofs.PlaceLaws.Things.{get_first, get_second}
use Rattle.vc_net_standing.specs.declared.standing.Fact.{Fact}
use Rattle.vc_net_standing.specs.Standing.{Stood, atoms_of, is_free, places_of, with_fact}
use Rattle.vc_net_log.specs.Keeping.{IsCounted, IsKept, cells_at, log_kept, number_at, raised_at, step_kept, written}
use Rattle.vc_net_log.specs.Logs.{Logged, room_at, step_from, stood_of, with_step}
use Rattle.vc_net_log.proofs.KeptLaws.{concludes, room_before, room_inside, stands_by, used_before}
use Rattle.vc_net_log.proofs.NumberLaws.{atom_placed, mapped_each, mapped_if, mapped_within, number_agrees}
use Rattle.vc_net_log.proofs.NumberLaws.{number_stays}
use Rattle.vc_net_log.proofs.OutLaws.{counted_few, raised_counts, raised_long}
use Rattle.vc_net_log.proofs.WritingLaws.{written_elsewhere, written_long, written_there}

not_true : (b : Bool) → not b ≡ true → b ≡ false
not_true true e = absurd (cc)
not_true false e = refl

get_place : (index : Index) (facts : List Fact) (n : ℕ) (fact : Fact) → slice_get facts n ≡ Some fact
    → has nat_eq (places_of index facts) (place_in index fact.atom) ≡ true
get_place index [] n fact h = absurd (cc)
get_place index (first ∷ facts) zero fact h =
    let is : first ≡ fact = cc in
    subst (λ (f : Fact). has nat_eq (places_of index (first ∷ facts)) (place_in index f.atom) ≡ true) is
    (has_first nat_eq number_exact number_itself (place_in index first.atom) (places_of index facts))
get_place index (first ∷ facts) (suc n) fact h =
    has_more nat_eq number_exact number_itself (place_in index first.atom) (places_of index facts)
    (place_in index fact.atom) (get_place index facts n fact h)

all_placed : (index : Index) (facts : List Fact) (atoms : List Atom) → Within same_atom atoms (atoms_of facts)
    → list_all (has nat_eq (places_of index facts)) (map (place_in index) atoms) ≡ true
all_placed index facts [] within = refl
all_placed index facts (a ∷ atoms) within =
    and_from (has nat_eq (places_of index facts) (place_in index a))
    (list_all (has nat_eq (places_of index facts)) (map (place_in index) atoms))
    (atom_placed index facts a (within a (has_first same_atom atom_exact atom_itself a atoms)))
    (all_placed index facts atoms (λ b h. within b (has_more same_atom atom_exact atom_itself a atoms b h)))

all_small : (index : Index) (atoms : List Atom) (limit : ℕ)
    → ((a : Atom) → has same_atom atoms a ≡ true → place_in index a < limit)
    → list_all (λ a. nat_lt (place_in index a) limit) atoms ≡ true
all_small index [] limit low = refl
all_small index (a ∷ atoms) limit low =
    and_from (nat_lt (place_in index a) limit) (list_all (λ b. nat_lt (place_in index b) limit) atoms)
    (lt-ltb (place_in index a) limit (low a (has_first same_atom atom_exact atom_itself a atoms)))
    (all_small index atoms limit (λ b h. low b (has_more same_atom atom_exact atom_itself a atoms b h)))

all_last : (p : ℕ → Bool) (ns : List ℕ) (n : ℕ) → list_all p ns ≡ true → p n ≡ true → list_all p (ns ++ n ∷ []) ≡ true
all_last p [] n h e = and_from (p n) true e refl
all_last p (m ∷ ns) n h e =
    let parts = and_parts (p m) (list_all p ns) h in
    and_from (p m) (list_all p (ns ++ n ∷ [])) parts.0 (all_last p ns n parts.1 e)

module _ (stood : Stood) (begins counts cells outs : List ℕ) (kept : IsKept stood begins counts cells outs)
    (log : Logged) (is : log_kept stood begins counts cells ≡ log) (fact : Fact) (premises : List Atom)
    (frees : is_free (stood_of log) fact.atom ≡ true) (withins : Within same_atom premises (concluded log.steps))
    (fews : length premises ≤ room_at log.begins (place_in log.index fact.atom)) where
  abbrev place : ℕ
  place = place_in stood.index fact.atom

  abbrev count : ℕ
  count = length stood.index.things

  abbrev places : List ℕ
  places = places_of stood.index stood.facts

  abbrev begin : ℕ → ℕ
  begin p = slice_index_or begins p 0

  pub free : is_free stood fact.atom ≡ true
  free = subst (λ s. is_free s fact.atom ≡ true) (sym (stands_by stood begins counts cells log is)) frees

  inside : place < count
  inside = ltb-true place count (and_parts (nat_lt place count) (not (has nat_eq places place)) free).0

  nothing_there : has nat_eq places place ≡ false
  nothing_there =
      not_true (has nat_eq places place) (and_parts (nat_lt place count) (not (has nat_eq places place)) free).1

  within : Within same_atom premises (atoms_of stood.facts)
  within a h =
      subst (λ atoms. has same_atom atoms a ≡ true) (sym (concludes stood begins counts cells log is)) (withins a h)

  few : length premises ≤ room_at begins place
  few = subst (λ (l : Logged). length premises ≤ room_at l.begins (place_in l.index fact.atom)) (sym is) fews

  below : (p : ℕ) → has nat_eq places p ≡ true → p < count
  below p h =
      ltb-true p count (all_at nat_eq number_exact number_itself (λ q. nat_lt q count) places p kept.premises.below h)

  -- where the cells begin, and that there are enough
  began : (index : Index) (p b : ℕ) → index ≡ stood.index → p ≡ place_in index fact.atom → slice_get begins p ≡ Some b
      → b ≡ begin place
  began index p b e f g =
      let at : p ≡ place = f ∙ ap (λ i. place_in i fact.atom) e in
      sym (get_or_from_slice_get begins p b 0 g) ∙ ap begin at

  pub cells_suffice : (index : Index) (p b : ℕ) → index ≡ stood.index → p ≡ place_in index fact.atom
      → slice_get begins p ≡ Some b → b + length premises ≤ length cells
  cells_suffice index p b e f g =
      let at = began index p b e f g in
      let all = room_inside stood begins counts cells kept.premises place (length premises) inside few in
      omega (arith, at, all)

  pub places_small : (index : Index) → index ≡ stood.index
      → list_all (λ a. nat_lt (place_in index a) (2 ^ 32)) premises ≡ true
  places_small index e =
      subst (λ i. list_all (λ a. nat_lt (place_in i a) (2 ^ 32)) premises ≡ true) (sym e)
      (all_small stood.index premises (2 ^ 32) (λ a h.
      let low = below (place_in stood.index a) (atom_placed stood.index stood.facts a (within a h)) in
      let small = kept.premises.places in
      omega (arith, low, small)))

  pub premises_small : length premises < 2 ^ 32
  premises_small =
      let all = room_inside stood begins counts cells kept.premises place (length premises) inside few in
      let small = kept.premises.small in
      omega (arith, all, small)

  -- the places with this one
  more_once : IsDistinct nat_eq (places ++ place ∷ [])
  more_once = distinct_more nat_eq number_exact number_itself places place kept.premises.once nothing_there

  more_below : list_all (λ p. nat_lt p count) (places ++ place ∷ []) ≡ true
  more_below = all_last (λ p. nat_lt p count) places place kept.premises.below (lt-ltb place count inside)

  facts_fit : length stood.facts + 1 ≤ count
  facts_fit =
      let all : length (places ++ place ∷ []) ≤ count
      = length-le_from_distinct_below (places ++ place ∷ []) count more_once
      (λ p h. ltb-true p count (all_at nat_eq number_exact number_itself (λ q. nat_lt q count)
      (places ++ place ∷ []) p more_below h)) in
      let long = length-append places (place ∷ []) in
      let mapped : length places ≡ length stood.facts
      = length-map stood.facts (λ (f : Fact). place_in stood.index f.atom) in
      omega (arith, all, long, mapped)

  out_small : (v : ℕ) → (v < length outs) ⊎ (length outs ≤ v) → slice_index_or outs v 0 + 1 < 2 ^ 32
  out_small v (inl low) =
      let most = counted_few v (atoms_of stood.facts) in
      let mapped : length (atoms_of stood.facts) ≡ length stood.facts = length-map stood.facts (λ (f : Fact). f.atom) in
      let fit = facts_fit in
      let small = kept.premises.places in
      let same = kept.counted v low in
      omega (arith, most, mapped, fit, small, same)
  out_small v (inr past) =
      let none : slice_index_or outs v 0 ≡ 0 = past_end outs v past in
      omega (arith, none)
    where
      past_end : (ns : List ℕ) (n : ℕ) → length ns ≤ n → slice_index_or ns n 0 ≡ 0
      past_end [] zero h = refl
      past_end [] (suc n) h = refl
      past_end (m ∷ ns) zero h = absurd (omega (arith, h))
      past_end (m ∷ ns) (suc n) h = past_end ns n (omega (arith, h))

  pub outs_small : (v : ℕ) → slice_index_or outs v 0 + 1 < 2 ^ 32
  outs_small v = out_small v (cases_lt v (length outs))

  -- what is kept then
  abbrev new_counts : List ℕ
  new_counts = slice_set counts place (length premises)

  abbrev new_cells : List ℕ
  new_cells = written (begin place) (map (place_in stood.index) premises) cells

  abbrev new_stood : Stood
  new_stood = with_fact stood fact

  places_more : places_of stood.index (stood.facts ++ fact ∷ []) ≡ places ++ place ∷ []
  places_more = map-append (λ (f : Fact). place_in stood.index f.atom) stood.facts (fact ∷ [])

  atoms_more : atoms_of (stood.facts ++ fact ∷ []) ≡ atoms_of stood.facts ++ fact.atom ∷ []
  atoms_more = map-append (λ (f : Fact). f.atom) stood.facts (fact ∷ [])

  written_count : length (map (place_in stood.index) premises) ≡ length premises
  written_count = length-map premises (place_in stood.index)

  counted_inside : place < length counts
  counted_inside = let long = kept.premises.counted in let low = inside in omega (arith, long, low)

  count_there : slice_index_or new_counts place 0 ≡ length premises
  count_there = get_or-set_same counts place (length premises) 0 counted_inside

  count_elsewhere : (p : ℕ) → (p ≡ place → ⊥) → slice_index_or new_counts p 0 ≡ slice_index_or counts p 0
  count_elsewhere p apart = get_or-set_other counts place p (length premises) 0 apart

  -- the cells of other places stay, and those of this one have the premises' places
  cells_there : cells_at begins new_counts new_cells place ≡ map (place_in stood.index) premises
  cells_there =
      let long = written_count in
      let all = room_inside stood begins counts cells kept.premises place (length premises) inside few in
      ap (λ n. take n (drop (begin place) new_cells)) (count_there ∙ sym long)
      ∙ written_there (begin place) (map (place_in stood.index) premises) cells (omega (arith, long, all))

  beside : (p : ℕ) → p < count → (p ≡ place → ⊥) → (p < place) ⊎ (place ≤ p)
      → (begin place + length (map (place_in stood.index) premises) ≤ begin p)
      ⊎ (begin p + slice_index_or counts p 0 ≤ begin place)
  beside p low apart (inl before) =
      let last = inside in
      inr (used_before stood begins counts cells kept.premises p place before (omega (arith, last)))
  beside p low apart (inr after) =
      let long = written_count in
      let later : place < p = past (cases_lt place p) in
      let all =
      room_before stood begins counts cells kept.premises place p (length premises) later
      (omega (arith, low)) few in
      inl (omega (arith, long, all))
    where
      past : (place < p) ⊎ (p ≤ place) → place < p
      past (inl h) = h
      past (inr h) = absurd (apart (omega (arith, h, after)))

  cells_elsewhere : (p : ℕ) → p < count → (p ≡ place → ⊥)
      → cells_at begins new_counts new_cells p ≡ cells_at begins counts cells p
  cells_elsewhere p low apart =
      ap (λ n. take n (drop (begin p) new_cells)) (count_elsewhere p apart)
      ∙ written_elsewhere (begin place) (map (place_in stood.index) premises) cells (begin p)
      (slice_index_or counts p 0)
      (beside p low apart (cases_lt p place))

  apart_from : (n : ℕ) (other : Fact) → slice_get stood.facts n ≡ Some other
      → place_in stood.index other.atom ≡ place → ⊥
  apart_from n other h same =
      both (subst (λ p. has nat_eq places p ≡ true) same (get_place stood.index stood.facts n other h)) nothing_there

  cells_stay : (n : ℕ) (other : Fact) → slice_get stood.facts n ≡ Some other
      → cells_at begins new_counts new_cells (place_in stood.index other.atom)
      ≡ cells_at begins counts cells (place_in stood.index other.atom)
  cells_stay n other h =
      cells_elsewhere (place_in stood.index other.atom)
      (below (place_in stood.index other.atom) (get_place stood.index stood.facts n other h)) (apart_from n other h)

  -- each premise stands
  abbrev more : List Fact
  more = stood.facts ++ fact ∷ []

  grown : (p : ℕ) → has nat_eq places p ≡ true → has nat_eq (places_of stood.index more) p ≡ true
  grown p h =
      subst (λ ps. has nat_eq ps p ≡ true) (sym places_more)
      (has_front nat_eq number_exact number_itself places (place ∷ []) p h)

  Stands : Fact → Type 0
  Stands other = list_all (has nat_eq (places_of stood.index more))
      (cells_at begins new_counts new_cells (place_in stood.index other.atom)) ≡ true

  old_stands : (n : ℕ) (other : Fact) → slice_get stood.facts n ≡ Some other → Stands other
  unfolding Stands
  old_stands n other h =
      all_grows (has nat_eq places) (has nat_eq (places_of stood.index more)) grown
      (cells_at begins new_counts new_cells (place_in stood.index other.atom))
      (ap (list_all (has nat_eq places)) (cells_stay n other h) ∙ kept.premises.there n other h)

  new_stands : Stands fact
  unfolding Stands
  new_stands =
      all_grows (has nat_eq places) (has nat_eq (places_of stood.index more)) grown
      (cells_at begins new_counts new_cells place)
      (ap (list_all (has nat_eq places)) cells_there ∙ all_placed stood.index stood.facts premises within)

  last_stands : (k n : ℕ) (other : Fact) → slice_get (fact ∷ []) k ≡ Some other → Stands other
  last_stands zero n other h = let same : fact ≡ other = cc in subst Stands same new_stands
  last_stands (suc k) n other h = absurd (cc)

  stands : (n : ℕ) (other : Fact) → (n < length stood.facts) ⊎ (length stood.facts ≤ n) → slice_get more n ≡ Some other
      → Stands other
  stands n other (inl low) h =
      let was : slice_get stood.facts n ≡ Some (get_or stood.facts n fact) = slice_get-get_or stood.facts n fact low in
      let still = get_first stood.facts (fact ∷ []) n (get_or stood.facts n fact) was in
      let same : get_or stood.facts n fact ≡ other = cc (still, h) in
      old_stands n other (was ∙ ap Some same)
  stands n other (inr past) h =
      let k = n - length stood.facts in
      let at_end : n ≡ length stood.facts + k = omega (arith, past) in
      last_stands k n other (sym (get_second stood.facts (fact ∷ []) n k at_end) ∙ h)

  count_fits : (p : ℕ) → p < count → (p ≡ place) ⊎ (p ≡ place → ⊥) → slice_index_or new_counts p 0 ≤ room_at begins p
  count_fits p low (inl same) =
      subst (λ q. slice_index_or new_counts q 0 ≤ room_at begins q) (sym same)
      (let there = count_there in let enough = few in omega (arith, there, enough))
  count_fits p low (inr apart) =
      let there = count_elsewhere p apart in
      let enough = kept.premises.few p low in
      omega (arith, there, enough)

  is_place : (p : ℕ) → (p ≡ place) ⊎ (p ≡ place → ⊥)
  is_place p =
      elim (told (nat_eq p place)) [
        | inl same ↦ inl (number_exact p place same)
        | inr other ↦ inr (λ e. both (ap (nat_eq p) (sym e) ∙ number_itself p) other)
      ]

  keeps : IsKept new_stood begins new_counts new_cells (raised_at fact.atom outs)
  unfolding Stands
  keeps = record {
    premises = record {
      once = subst (IsDistinct nat_eq) (sym places_more) more_once;
      below = ap (list_all (λ p. nat_lt p count)) places_more ∙ more_below;
      places = kept.premises.places;
      long = kept.premises.long;
      ends = kept.premises.ends ∙ sym (written_long (begin place) (map (place_in stood.index) premises) cells);
      small = subst (λ n. n < 2 ^ 32) (sym (written_long (begin place) (map (place_in stood.index) premises) cells))
          kept.premises.small;
      ordered = kept.premises.ordered;
      counted = length-set counts place (length premises) ∙ kept.premises.counted;
      few = λ p low. count_fits p low (is_place p);
      there = λ n other h. stands n other (cases_lt n (length stood.facts)) h;
    };
    vars = raised_long fact.atom outs ∙ kept.vars;
    counted = subst (λ atoms. IsCounted atoms (raised_at fact.atom outs)) (sym atoms_more)
        (raised_counts (atoms_of stood.facts) fact.atom outs kept.counted);
  }

  -- the steps are the old ones and this one
  number_same : (p : ℕ) → has nat_eq places p ≡ true → number_at (places_of stood.index more) p ≡ number_at places p
  number_same p h = ap (λ ps. number_at ps p) places_more ∙ number_stays places (place ∷ []) p h

  abbrev step_with : Fact → List ℕ → Step
  step_with other numbers = record { conclusion = other.atom; origin = other.origin; premises = numbers }

  old_step : (n : ℕ) (other : Fact) → slice_get stood.facts n ≡ Some other
      → step_kept new_stood begins new_counts new_cells other ≡ step_kept stood begins counts cells other
  old_step n other h =
      ap (step_with other)
      (ap (map (number_at (places_of stood.index more))) (cells_stay n other h)
      ∙ mapped_if (number_at (places_of stood.index more)) (number_at places) (has nat_eq places) number_same
      (cells_at begins counts cells (place_in stood.index other.atom)) (kept.premises.there n other h))

  map_twice : {X Y Z : Type 0} (f : Y → Z) (g : X → Y) (xs : List X) → map f (map g xs) ≡ map (λ x. f (g x)) xs
  map_twice f g [] = refl
  map_twice f g (x ∷ xs) = ap (λ ys. f (g x) ∷ ys) (map_twice f g xs)

  new_step : step_kept new_stood begins new_counts new_cells fact ≡ step_from log.steps fact premises
  new_step =
      ap (step_with fact)
      (ap (map (number_at (places_of stood.index more))) cells_there
      ∙ (map_twice (number_at (places_of stood.index more)) (place_in stood.index) premises
      ∙ (mapped_within (λ a. number_at (places_of stood.index more) (place_in stood.index a))
      (number_of (atoms_of stood.facts))
      premises (atoms_of stood.facts)
      (λ a h. number_same (place_in stood.index a) (atom_placed stood.index stood.facts a h)
      ∙ number_agrees stood.index stood.facts a kept.premises.once h) within
      ∙ ap (λ atoms. map (number_of atoms) premises) (concludes stood begins counts cells log is))))

  steps_come : map (step_kept new_stood begins new_counts new_cells) more
      ≡ log.steps ++ step_from log.steps fact premises ∷ []
  steps_come =
      map-append (step_kept new_stood begins new_counts new_cells) stood.facts (fact ∷ [])
      ∙ (ap (λ steps. steps ++ step_kept new_stood begins new_counts new_cells fact ∷ [])
      (mapped_each (step_kept new_stood begins new_counts new_cells)
      (step_kept stood begins counts cells) stood.facts old_step
      ∙ ap (λ (l : Logged). l.steps) is)
      ∙ ap (λ step. log.steps ++ step ∷ []) new_step)

  comes : log_kept new_stood begins new_counts new_cells ≡ with_step log fact premises
  comes =
      ap (λ (steps : List Step). record { index = stood.index; begins = begins; steps = steps }) steps_come
      ∙ ap (λ (l : Logged). record {
        index = l.index;
        begins = l.begins;
        steps = log.steps ++ step_from log.steps fact premises ∷ [];
      }) is

  -- as the calls say it
  module _ (index : Index) (p b : ℕ) (e : index ≡ stood.index) (f : p ≡ place_in index fact.atom)
      (g : slice_get begins p ≡ Some b) (later_stood : Stood) (later_counts later_cells later_outs : List ℕ)
      (s : later_stood ≡ with_fact stood fact) (n : later_counts ≡ slice_set counts p (length premises))
      (w : later_cells ≡ written b (map (place_in index) premises) cells)
      (o : later_outs ≡ raised_at fact.atom outs) where
    counts_are : later_counts ≡ new_counts
    counts_are = n ∙ ap (λ q. slice_set counts q (length premises)) (f ∙ ap (λ i. place_in i fact.atom) e)

    cells_are : later_cells ≡ new_cells
    cells_are =
        w
        ∙ (ap (λ i. written b (map (place_in i) premises) cells) e
        ∙ ap (λ q. written q (map (place_in stood.index) premises) cells) (began index p b e f g))

    pub stays_kept : IsKept later_stood begins later_counts later_cells later_outs
    stays_kept =
        subst (λ t. IsKept t begins later_counts later_cells later_outs) (sym s)
        (subst (λ t. IsKept new_stood begins t later_cells later_outs) (sym counts_are)
        (subst (λ t. IsKept new_stood begins new_counts t later_outs) (sym cells_are)
        (subst (λ t. IsKept new_stood begins new_counts new_cells t) (sym o) keeps)))

    pub step_comes : log_kept later_stood begins later_counts later_cells ≡ with_step log fact premises
    step_comes =
        ap (λ t. log_kept t begins later_counts later_cells) s
        ∙ (ap (λ t. log_kept new_stood begins t later_cells) counts_are
        ∙ (ap (λ t. log_kept new_stood begins new_counts t) cells_are ∙ comes))
