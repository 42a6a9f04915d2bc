-- How a net keeps the premises of its steps: as numbers of places, in cells of the conclusion's place.
use Rattle.std.specs.Prelude.{◌≡◌, ◌<◌, ◌≤◌, ◌+◌, ◌-◌, ◌^◌, ℕ, suc, true, nat_eq, nat_lt, if◌then◌else◌, List, [], ◌∷◌}
use Rattle.std.specs.Prelude.{drop, length, map, position, slice_get, slice_index_or, slice_set, take, Option, None}
use Rattle.std.specs.Prelude.{Some}
use Rattle.std.specs.List.{IsDistinct, list_all}
use Rattle.vc_base.specs.Sets.{has}
use Rattle.vc_plan.specs.declared.atoms.Atom.{Atom}
use Rattle.vc_plan.specs.declared.atoms.Atom.TheVariants.{Here, Out, Is}
use Rattle.vc_plan.specs.declared.atoms.Step.{Step}
use Rattle.vc_net_places.specs.Places.{place_in}
use Rattle.vc_net_standing.specs.declared.standing.Fact.{Fact}
use Rattle.vc_net_standing.specs.Coming.{outs_of}
use Rattle.vc_net_standing.specs.Standing.{Stood, atoms_of, places_of}
use Rattle.vc_net_log.specs.Logs.{Logged, room_at}

-- the cells of a place that are in use
abbrev pub cells_at : List ℕ → List ℕ → List ℕ → ℕ → List ℕ
cells_at begins counts cells p = take (slice_index_or counts p 0) (drop (slice_index_or begins p 0) cells)

-- the number of the step that concludes what is at a place, counted from 1, of those at these places
abbrev pub number_if : Option ℕ → ℕ
number_if None = 0
number_if (Some n) = suc n

abbrev pub number_at : List ℕ → ℕ → ℕ
number_at places p = number_if (position (nat_eq p) places)

-- the steps that are kept
abbrev pub step_kept : Stood → List ℕ → List ℕ → List ℕ → Fact → Step
step_kept stood begins counts cells fact = record {
  conclusion = fact.atom;
  origin = fact.origin;
  premises =
      map (number_at (places_of stood.index stood.facts)) (cells_at begins counts cells
      (place_in stood.index fact.atom));
}

abbrev pub log_kept : Stood → List ℕ → List ℕ → List ℕ → Logged
log_kept stood begins counts cells = record {
  index = stood.index;
  begins = begins;
  steps = map (step_kept stood begins counts cells) stood.facts;
}

-- the cells with numbers written into them, from a first on
abbrev pub written : ℕ → List ℕ → List ℕ → List ℕ
written at [] cells = cells
written at (n ∷ ns) cells = written (at + 1) ns (slice_set cells at n)

-- by variable how many atoms say that a grain of it is out
abbrev pub IsCounted : List Atom → List ℕ → Type 0
IsCounted atoms outs = (v : ℕ) → v < length outs → slice_index_or outs v 0 ≡ outs_of v atoms

-- with one more, or one less, where the atom says so
abbrev pub raised_at : Atom → List ℕ → List ℕ
raised_at (Here i) outs = outs
raised_at (Out v g) outs = if nat_lt v (length outs) then slice_set outs v (slice_index_or outs v 0 + 1) else outs
raised_at (Is v a) outs = outs

abbrev pub lowered_at : Atom → List ℕ → List ℕ
lowered_at (Here i) outs = outs
lowered_at (Out v g) outs = if nat_lt v (length outs) then slice_set outs v (slice_index_or outs v 0 - 1) else outs
lowered_at (Is v a) outs = outs

-- each place has cells of its own and at most one fact; the premises of a fact stand, and are at most as many as
-- there is
-- room for at its place
pub record AreCells (stood : Stood) (begins counts cells : List ℕ) : Type 0 where
  pub once : IsDistinct nat_eq (places_of stood.index stood.facts)
  pub below : list_all (λ p. nat_lt p (length stood.index.things)) (places_of stood.index stood.facts) ≡ true
  pub places : length stood.index.things < 2 ^ 32
  pub long : length begins ≡ length stood.index.things + 1
  pub ends : slice_index_or begins (length stood.index.things) 0 ≡ length cells
  pub small : length cells < 2 ^ 32
  pub ordered : (p : ℕ) → p < length stood.index.things → slice_index_or begins p 0 ≤ slice_index_or begins (p + 1) 0
  pub counted : length counts ≡ length stood.index.things
  pub few : (p : ℕ) → p < length stood.index.things → slice_index_or counts p 0 ≤ room_at begins p
  pub there : (n : ℕ) (fact : Fact) → slice_get stood.facts n ≡ Some fact
      → list_all (has nat_eq (places_of stood.index stood.facts))
      (cells_at begins counts cells (place_in stood.index fact.atom)) ≡ true

-- and it is counted by variable how many grains are out
pub record IsKept (stood : Stood) (begins counts cells outs : List ℕ) : Type 0 where
  pub premises : AreCells stood begins counts cells
  pub vars : length outs ≡ length stood.index.firsts
  pub counted : IsCounted (atoms_of stood.facts) outs
