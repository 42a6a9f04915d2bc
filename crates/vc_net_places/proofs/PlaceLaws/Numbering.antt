-- Places are numbered one after another, without gaps.
use Rattle.std.proofs.Common.{◌≡◌, ℕ, zero, suc, ◌+◌, ◌-◌, ◌<◌, ◌≤◌, true, ◌&&◌, List, [], ◌∷◌, length, refl, ◌∙◌, ap}
use Rattle.std.proofs.Common.{inl, inr, arith}
use Rattle.std.specs.Prelude.{Option, None, Some, nat_lt, slice_get}
use Rattle.std.proofs.lemmas.Bool.{and_from, and_parts, cases_lt, lt-ltb, ltb-true}
use Rattle.vc_plan.specs.declared.atoms.Atom.TheVariants.{Here, Out, Is}
use Rattle.vc_plan.specs.declared.plans.Plan.{Plan}
use Rattle.vc_plan.specs.declared.plans.Var as variable
use Rattle.vc_plan.specs.Bounds.{Place, here_at, is_at, out_at}
use Rattle.vc_plan.specs.Domains.{atom_count, count_of, domain_of, grains_in, grains_of}
use Rattle.vc_plan.specs.Pieces.{lies_in_some}
use Rattle.vc_plan.proofs.PlanLaws.Counts.{atoms_within, sum_front, sum_next}
use Rattle.vc_base.proofs.ChainLaws.{get_below}
use Rattle.vc_net_places.specs.Laws.{NamedHavePlaces, NumbersAreTaken, PlacesAreApart, PlacesAreCounted}
use Rattle.vc_net_places.specs.Places.{first_place, is_place, number_of}

-- a variable that has a grain is one of the plan
some_var : (plan : Plan) (v : ℕ) (o : Option (variable.Var)) → slice_get plan.vars v ≡ o
    → 0 < length (grains_in (domain_of plan o))
    → v < length plan.vars
some_var plan v None e some = absurd (omega (arith, some))
some_var plan v (Some x) e some = get_below plan.vars v x e

pub has_grain : (plan : Plan) (v : ℕ) → 0 < count_of plan v → nat_lt v (length plan.vars) ≡ true
has_grain plan v some = lt-ltb v (length plan.vars) (some_var plan v (slice_get plan.vars v) refl some)

pub named_have_places : NamedHavePlaces
named_have_places plan (Here i) e = e
named_have_places plan (Out v g) e =
    let below : g < count_of plan v = ltb-true g (count_of plan v) e in
    and_from (nat_lt v (length plan.vars)) (nat_lt g (count_of plan v)) (has_grain plan v (omega (arith, below))) e
named_have_places plan (Is v a) e = has_grain plan v (some (grains_of plan v) e)
  where
    some : (grains : List _) → lies_in_some grains a ≡ true → 0 < length grains
    some [] h = absurd (cc)
    some (piece ∷ grains) h = omega arith

-- the first place of a variable comes after all of those before it
pub first_next : (plan : Plan) (v : ℕ) → first_place plan (v + 1) ≡ first_place plan v + (count_of plan v + 1)
first_next plan v = omega (arith, sum_next (λ w. count_of plan w + 1) v)

first_grows : (plan : Plan) (v w : ℕ) → v < w → first_place plan v + (count_of plan v + 1) ≤ first_place plan w
first_grows plan v w below = omega (arith, sum_front (λ u. count_of plan u + 1) v w below)

first_slots : (plan : Plan) (v : ℕ) → length plan.slots ≤ first_place plan v
first_slots plan v = omega arith

pub first_within : (plan : Plan) (v : ℕ) → v < length plan.vars
    → first_place plan v + (count_of plan v + 1) ≤ atom_count plan
first_within plan v below = atoms_within plan (first_place plan v) v (count_of plan v) refl refl below

pub places_are_counted : PlacesAreCounted
places_are_counted plan (here_at i) e =
    let below : i < length plan.slots = ltb-true i (length plan.slots) e in omega (arith, below)
places_are_counted plan (is_at v) e =
    let within = first_within plan v (ltb-true v (length plan.vars) e) in omega (arith, within)
places_are_counted plan (out_at v g) e =
    let p = and_parts (nat_lt v (length plan.vars)) (nat_lt g (count_of plan v)) e in
    let within = first_within plan v (ltb-true v (length plan.vars) p.0) in
    let below : g < count_of plan v = ltb-true g (count_of plan v) p.1 in
    omega (arith, within, below)

-- two places of variables that have one number are of one variable
same_var : (plan : Plan) (v w m n : ℕ) → m < count_of plan v + 1 → n < count_of plan w + 1
    → first_place plan v + m ≡ first_place plan w + n → v ≡ w
same_var plan v w m n p q e =
    elim (cases_lt v w) [
      | inl below ↦ absurd (omega (arith, p, q, e, first_grows plan v w below))
      | inr h ↦ elim (cases_lt w v) [
        | inl below ↦ absurd (omega (arith, p, q, e, first_grows plan w v below))
        | inr k ↦ omega (arith, h, k)
      ]
    ]

same_rest : (plan : Plan) (v w m n : ℕ) → v ≡ w → first_place plan v + m ≡ first_place plan w + n → m ≡ n
same_rest plan v w m n is e =
    let same : first_place plan v ≡ first_place plan w = ap (first_place plan) is in omega (arith, same, e)

grain_below : (plan : Plan) (v g : ℕ) → (nat_lt v (length plan.vars) && nat_lt g (count_of plan v)) ≡ true
    → 1 + g < count_of plan v + 1
grain_below plan v g e =
    let below : g < count_of plan v
    = ltb-true g (count_of plan v) (and_parts (nat_lt v (length plan.vars)) (nat_lt g (count_of plan v)) e).1 in
    omega (arith, below)

pub places_are_apart : PlacesAreApart
places_are_apart plan (here_at i) (here_at j) p q e = ap here_at e
places_are_apart plan (here_at i) (is_at w) p q e =
    let below : i < length plan.slots
    = ltb-true i (length plan.slots) p in absurd (omega (arith, below, e, first_slots plan w))
places_are_apart plan (here_at i) (out_at w h) p q e =
    let below : i < length plan.slots
    = ltb-true i (length plan.slots) p in absurd (omega (arith, below, e, first_slots plan w))
places_are_apart plan (is_at v) (here_at j) p q e =
    let below : j < length plan.slots
    = ltb-true j (length plan.slots) q in absurd (omega (arith, below, e, first_slots plan v))
places_are_apart plan (is_at v) (is_at w) p q e =
    ap is_at (same_var plan v w 0 0 (omega arith) (omega arith) (omega (arith, e)))
places_are_apart plan (is_at v) (out_at w h) p q e =
    let number : first_place plan v + 0 ≡ first_place plan w + (1 + h) = omega (arith, e) in
    let is = same_var plan v w 0 (1 + h) (omega arith) (grain_below plan w h q) number in
    let no : 0 ≡ 1 + h = same_rest plan v w 0 (1 + h) is number in
    absurd (omega (arith, no))
places_are_apart plan (out_at v g) (here_at j) p q e =
    let below : j < length plan.slots
    = ltb-true j (length plan.slots) q in absurd (omega (arith, below, e, first_slots plan v))
places_are_apart plan (out_at v g) (is_at w) p q e =
    let number : first_place plan v + (1 + g) ≡ first_place plan w + 0 = omega (arith, e) in
    let is = same_var plan v w (1 + g) 0 (grain_below plan v g p) (omega arith) number in
    let no : 1 + g ≡ 0 = same_rest plan v w (1 + g) 0 is number in
    absurd (omega (arith, no))
places_are_apart plan (out_at v g) (out_at w h) p q e =
    let is = same_var plan v w (1 + g) (1 + h) (grain_below plan v g p) (grain_below plan w h q) e in
    let rest : 1 + g ≡ 1 + h = same_rest plan v w (1 + g) (1 + h) is e in
    let grain : g ≡ h = omega (arith, rest) in
    ap (λ z. out_at z g) is ∙ ap (out_at w) grain

-- a number past the slots is one of a variable's
record Within (plan : Plan) (n k : ℕ) : Type 0 where
  var : ℕ
  below : var < k
  rest : ℕ
  is : first_place plan var + rest ≡ n
  few : rest < count_of plan var + 1

within : (plan : Plan) (n k : ℕ) → length plan.slots ≤ n → n < first_place plan k → Within plan n k
within plan n zero past below = absurd (omega (arith, past, below))
within plan n (suc k) past below =
    let more : suc k ≡ k + 1 = omega arith in
    let next : first_place plan (suc k) ≡ first_place plan k + (count_of plan k + 1)
    = ap (first_place plan) more ∙ first_next plan k in
    elim (cases_lt n (first_place plan k)) [
      | inl earlier ↦
          let w : Within plan n k = within plan n k past earlier in
          record { var = w.var; below = omega (arith, w.below); rest = w.rest; is = w.is; few = w.few }
      | inr here ↦ record {
        var = k;
        below = omega arith;
        rest = n - first_place plan k;
        is = omega (arith, here);
        few = omega (arith, here, below, next);
      }
    ]

pub numbers_are_taken : NumbersAreTaken
numbers_are_taken plan n below =
    elim (cases_lt n (length plan.slots)) [
      | inl slot ↦ (here_at n, lt-ltb n (length plan.slots) slot, refl)
      | inr past ↦ of_var (within plan n (length plan.vars) past below)
    ]
  where
    of_var : Within plan n (length plan.vars)
        → (place : Place) × (is_place plan place ≡ true) × (number_of plan place ≡ n)
    of_var w = by w.rest w.is w.few
      where
        there : nat_lt w.var (length plan.vars) ≡ true
        there = lt-ltb w.var (length plan.vars) w.below

        by : (rest : ℕ) → first_place plan w.var + rest ≡ n → rest < count_of plan w.var + 1
            → (place : Place) × (is_place plan place ≡ true) × (number_of plan place ≡ n)
        by zero e few = (is_at w.var, there, omega (arith, e))
        by (suc g) e few = (
          out_at w.var g,
          and_from (nat_lt w.var (length plan.vars)) (nat_lt g (count_of plan w.var)) there
              (lt-ltb g (count_of plan w.var) (omega (arith, few))),
          omega (arith, e),
        )

-- there are at least as many places before a variable as variables
vars_before : (plan : Plan) (v : ℕ) → v ≤ first_place plan v
vars_before plan zero = omega arith
vars_before plan (suc v) =
    let earlier = vars_before plan v in
    let more : suc v ≡ v + 1 = omega arith in
    let next : first_place plan (suc v) ≡ first_place plan v + (count_of plan v + 1)
    = ap (first_place plan) more ∙ first_next plan v in
    omega (arith, earlier, next)

-- so where the atoms are few, a variable's number, its first place and its grains are small
pub record IsSmall (plan : Plan) (v limit : ℕ) : Type 0 where
  pub var : v < limit
  pub first : first_place plan v < limit
  pub count : count_of plan v < limit

pub small : (plan : Plan) (v limit : ℕ) → v < length plan.vars → atom_count plan < limit → IsSmall plan v limit
small plan v limit below few =
    let within = first_within plan v below in
    let before = vars_before plan v in
    record {
      var = omega (arith, within, before, few);
      first = omega (arith, within, few);
      count =
          omega (arith, within, few);
    }
