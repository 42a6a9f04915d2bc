-- The premises of a step, found by its number.
use Rattle.std.proofs.Common.{◌≡◌, ℕ, zero, suc, ◌+◌, ◌<◌, ◌≤◌, true, List, [], ◌∷◌, get_or, length, map, refl, sym}
use Rattle.std.proofs.Common.{◌∙◌, ap, subst, arith}
use Rattle.std.specs.Prelude.{Some, nat_lt, slice_get, slice_index_or}
use Rattle.std.specs.List.{list_all}
use Rattle.std.proofs.lemmas.Bool.{and_parts, ltb-true}
use Rattle.std.proofs.lemmas.List.{length-map}
use Rattle.vc_net_places.specs.Places.{Index, place_in}
use Rattle.vc_net_standing.specs.declared.standing.Fact.{Fact}
use Rattle.vc_net_standing.specs.Standing.{Stood, places_of}
use Rattle.vc_net_log.specs.Keeping.{AreCells, cells_at, log_kept, number_at, step_kept}
use Rattle.vc_net_log.specs.Logs.{Logged}
use Rattle.vc_net_log.specs.Numbers.{number_by_place, premises_in, premises_of}
use Rattle.vc_net_log.proofs.KeptLaws.{inside_cells, stands_by}

-- the place of a fact among those that are below
place_among : (index : Index) (facts : List Fact) (n : ℕ) (fact : Fact)
    → list_all (λ p. nat_lt p (length index.things)) (places_of index facts) ≡ true → slice_get facts n ≡ Some fact
    → place_in index fact.atom < length index.things
place_among index [] n fact below e = absurd (cc)
place_among index (first ∷ facts) zero fact below e =
    let is : first ≡ fact = cc in
    let low : nat_lt (place_in index first.atom) (length index.things) ≡ true
    = (and_parts (nat_lt (place_in index first.atom) (length index.things))
    (list_all (λ p. nat_lt p (length index.things)) (places_of index facts)) below).0 in
    subst (λ (f : Fact). place_in index f.atom < length index.things) is
    (ltb-true (place_in index first.atom) (length index.things) low)
place_among index (first ∷ facts) (suc n) fact below e =
    place_among index facts n fact
    (and_parts (nat_lt (place_in index first.atom) (length index.things))
    (list_all (λ p. nat_lt p (length index.things)) (places_of index facts)) below).1 e

pub place_below : (stood : Stood) (begins counts cells : List ℕ) → AreCells stood begins counts cells → (n : ℕ)
    (fact : Fact)
    → slice_get stood.facts n ≡ Some fact → place_in stood.index fact.atom < length stood.index.things
place_below stood begins counts cells kept n fact e = place_among stood.index stood.facts n fact kept.below e

-- what is kept of a fact, by its number
kept_by_number : (stood : Stood) (begins counts cells : List ℕ) (facts : List Fact) (n : ℕ) (fact : Fact)
    → slice_get facts n ≡ Some fact
    → slice_get (map (step_kept stood begins counts cells) facts) n ≡ Some (step_kept stood begins counts cells fact)
kept_by_number stood begins counts cells [] n fact e = absurd (cc)
kept_by_number stood begins counts cells (first ∷ facts) zero fact e =
    let is : first ≡ fact = cc in ap (λ f. Some (step_kept stood begins counts cells f)) is
kept_by_number stood begins counts cells (first ∷ facts) (suc n) fact e =
    kept_by_number stood begins counts cells facts n fact e

pub premises_kept : (stood : Stood) (begins counts cells : List ℕ) (log : Logged)
    → log_kept stood begins counts cells ≡ log → (n : ℕ) (fact : Fact) → slice_get stood.facts n ≡ Some fact
    → (premises : List ℕ) → premises ≡ cells_at begins counts cells (place_in stood.index fact.atom)
    → map (number_by_place log) premises ≡ premises_of log.steps n
premises_kept stood begins counts cells log is n fact e premises told =
    ap (λ (s : Stood). map (number_at (places_of s.index s.facts)) premises)
    (sym (stands_by stood begins counts cells log is))
    ∙ (ap (map (number_at (places_of stood.index stood.facts))) told
    ∙ (sym (ap premises_in (kept_by_number stood begins counts cells stood.facts n fact e))
    ∙ ap (λ (l : Logged). premises_of l.steps n) is))

fact_there : (facts : List Fact) (n : ℕ) (d : Fact) → n < length facts → slice_get facts n ≡ Some (get_or facts n d)
fact_there [] n d low = absurd (omega (arith, low))
fact_there (fact ∷ facts) zero d low = refl
fact_there (fact ∷ facts) (suc n) d low = fact_there facts n d (omega (arith, low))

-- what is asked at the place of a step
module _ (stood : Stood) (begins counts cells : List ℕ) (kept : AreCells stood begins counts cells) (log : Logged)
    (is : log_kept stood begins counts cells ≡ log) (n : ℕ) (low : n < length log.steps) (d : Fact) (index : Index)
    (facts : List Fact) (p : ℕ) (indexed : index ≡ stood.index) (same : facts ≡ stood.facts)
    (place : p ≡ place_in index (get_or facts n d).atom) where
  found : slice_get stood.facts n ≡ Some (get_or stood.facts n d)
  found =
      let many : length stood.facts ≡ length log.steps
      = sym (length-map stood.facts (step_kept stood begins counts cells)) ∙ ap (λ (l : Logged). length l.steps) is in
      fact_there stood.facts n d (omega (arith, low, many))

  its_place : p ≡ place_in stood.index (get_or stood.facts n d).atom
  its_place =
      place
      ∙ (ap (λ (i : Index). place_in i (get_or facts n d).atom) indexed
      ∙ ap (λ (fs : List Fact). place_in stood.index (get_or fs n d).atom) same)

  its_place_below : p < length stood.index.things
  its_place_below =
      let below = place_below stood begins counts cells kept n (get_or stood.facts n d) found in
      let at = its_place in
      omega (arith, below, at)

  pub begin_there : p < length begins
  begin_there = let below = its_place_below in let long = kept.long in omega (arith, below, long)

  pub count_there : p < length counts
  count_there = let below = its_place_below in let long = kept.counted in omega (arith, below, long)

  pub cells_inside : slice_index_or begins p 0 + slice_index_or counts p 0 ≤ length cells
  cells_inside = inside_cells stood begins counts cells kept p its_place_below

  pub premises_told : (premises : List ℕ) → premises ≡ cells_at begins counts cells p
      → map (number_by_place log) premises ≡ premises_of log.steps n
  premises_told premises told =
      premises_kept stood begins counts cells log is n (get_or stood.facts n d) found premises
      (told ∙ ap (cells_at begins counts cells) its_place)
