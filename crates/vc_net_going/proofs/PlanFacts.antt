-- What the calls below ask of a plan, where it is valid.
use Rattle.std.proofs.Common.{◌≡◌, ℕ, zero, suc, ◌+◌, ◌<◌, ◌≤◌, ◌^◌, true, false, List, [], ◌∷◌, length, refl, ◌∙◌}
use Rattle.std.proofs.Common.{ap, inl, inr, arith}
use Rattle.std.specs.Prelude.{nat_lt, slice_get, Some}
use Rattle.std.specs.List.{list_all, range_with_len, sum_by}
use Rattle.vc_base.specs.Sets.{has}
use Rattle.vc_base.proofs.SetLaws.{both, has_cases}
use Rattle.vc_plan.specs.declared.atoms.Atom.{Atom}
use Rattle.vc_plan.specs.declared.atoms.Atom.TheVariants.{Here}
use Rattle.vc_plan.specs.declared.plans.Plan.{Plan}
use Rattle.vc_plan.specs.Bounds.{cell_bound, greatest, place_for}
use Rattle.vc_plan.specs.Clear.{are_all_out, collides, is_clear, is_exhausted, is_named}
use Rattle.vc_plan.specs.Domains.{atom_count, count_of, numbers_below}
use Rattle.vc_plan.specs.Seen.{is_here, same_atom, seen_of}
use Rattle.vc_plan.specs.Settle.{base}
use Rattle.vc_plan.specs.Slots.{is_root}
use Rattle.vc_plan.specs.Valid.{IsValid}
use Rattle.vc_net_bounds.specs.Capping.{most_cells}
use Rattle.vc_plan.proofs.PlanLaws.Atoms.{atom_exact, atom_itself}
use Rattle.vc_plan.proofs.PlanLaws.Facts.{clear_from, not_exhausted_past}
use Rattle.vc_plan_blame.proofs.BlameLaws.Unclear.{some_grain}
use Rattle.vc_rule_grains.specs.Finding.{GrainsFit}
use Rattle.vc_net_log.specs.Coming.{are_by_slot}
use Rattle.vc_net_places.specs.Cells.{bounds_of, own_bound, total}
use Rattle.vc_net_places.specs.Places.{index_of, number_of}
use Rattle.std.proofs.lemmas.Bool.{and_parts, cases_lt, false_from_ne_true, lt-ltb, leb-true}
use Rattle.vc_net_places.proofs.PlaceLaws.Cells.{bounds_are_by_place, cells_suffice}
use Rattle.vc_net_places.proofs.PlaceLaws.Numbering.{named_have_places}
use Rattle.vc_net_places.proofs.PlaceLaws.Things.{things_are_counted}
use Rattle.std.proofs.lemmas.List.Sums.{sum_by-cons}

-- numbers of 32 bits tell all atoms, variables and rules
pub atoms_fit : (plan : Plan) → IsValid plan → atom_count plan < 2 ^ 32
atoms_fit plan valid =
    let few : atom_count plan ≤ 40_000 = leb-true (atom_count plan) 40_000 valid.atom_limit in omega (arith, few)

pub grains_fit : (plan : Plan) → IsValid plan → GrainsFit plan
grains_fit plan valid = record { few = atoms_fit plan valid; proper = valid.proper }

pub rules_fit : (plan : Plan) → IsValid plan → length plan.rules < 2 ^ 32
rules_fit plan valid =
    let few : length plan.rules ≤ 20_000 = leb-true (length plan.rules) 20_000 valid.rule_limit in omega (arith, few)

range_counted : (f : ℕ → ℕ) (a n : ℕ) → n ≤ sum_by (λ v. f v + 1) (range_with_len a n)
range_counted f a zero = omega arith
range_counted f a (suc n) =
    let rest = range_counted f (a + 1) n in
    let sum = sum_by-cons (λ v. f v + 1) a (range_with_len (a + 1) n) in
    omega (arith, rest, sum)

pub vars_fit : (plan : Plan) → IsValid plan → length plan.vars < 2 ^ 32
vars_fit plan valid =
    let all = atoms_fit plan valid in
    let few = range_counted (count_of plan) 0 (length plan.vars) in
    omega (arith, all, few)

pub vars_ordered : (plan : Plan) → IsValid plan → are_by_slot plan.vars ≡ true
vars_ordered plan valid = valid.vars_by_slot

-- and so do they all cells
pub cells_fit : (plan : Plan) → IsValid plan → total (bounds_of plan) < 2 ^ 32
cells_fit plan valid =
    let few : cell_bound plan ≤ 500_000 = leb-true (cell_bound plan) 500_000 valid.cell_limit in
    let all = cells_suffice plan in
    omega (arith, few, all)

pub cells_within : (plan : Plan) → IsValid plan → cell_bound plan ≤ most_cells
cells_within plan valid = leb-true (cell_bound plan) 500_000 valid.cell_limit

-- an atom's place has no more cells than the greatest
greatest_at : (ns : List ℕ) (i n : ℕ) → slice_get ns i ≡ Some n → n ≤ greatest (λ m. m) ns
greatest_at [] i n e = absurd (cc)
greatest_at (m ∷ ns) zero n e = let same : m ≡ n = cc in omega (arith, same)
greatest_at (m ∷ ns) (suc i) n e = let rest = greatest_at ns i n e in omega (arith, rest)

pub place_within : (plan : Plan) (atom : Atom) → is_named plan atom ≡ true
    → own_bound plan (place_for atom) ≤ greatest (λ n. n) (bounds_of plan)
place_within plan atom named =
    greatest_at (bounds_of plan) (number_of plan (place_for atom)) (own_bound plan (place_for atom))
    (bounds_are_by_place plan (place_for atom) (named_have_places plan atom named))

-- that the root is here is a clear set
module _ (plan : Plan) (valid : IsValid plan) where
  only_root : (a : Atom) → has same_atom base a ≡ true → a ≡ Here 0
  only_root a h =
      elim (has_cases same_atom atom_exact atom_itself (Here 0) [] a h) [ inl e ↦ e | inr k ↦ absurd (cc) ]

  root_named : is_named plan (Here 0) ≡ true
  root_named = by plan.slots valid.root
    where
      by : (slots : List _) → is_root (slice_get slots 0) ≡ true → nat_lt 0 (length slots) ≡ true
      by [] e = absurd (cc)
      by (x ∷ xs) e = lt-ltb 0 (suc (length xs)) (omega arith)

  some_left : (n : ℕ) → 0 < n → list_all (λ g. false) (numbers_below n) ≡ false
  some_left zero some = absurd (omega (arith, some))
  some_left (suc n) some = refl

  pub base_clear : is_clear plan base ≡ true
  base_clear = clear_from plan base (record {
    named = λ a h. ap (is_named plan) (only_root a h) ∙ root_named;
    apart = λ a b h k. ap (λ x. collides plan x b) (only_root a h);
    room = λ v. elim (cases_lt v (length plan.vars)) [
      | inl below ↦ false_from_ne_true (is_exhausted plan (seen_of base) v) (λ e.
          let p = and_parts (is_here plan (seen_of base) v) (are_all_out plan (seen_of base) v) e in
          both p.1 (some_left (count_of plan v) (some_grain plan v valid below)))
      | inr past ↦ not_exhausted_past plan (seen_of base) v past
    ];
  })

-- a plan has a place for each atom that it counts
pub places_counted : (plan : Plan) → length (index_of plan).things ≡ atom_count plan
places_counted plan = things_are_counted plan

-- what each call needs of a valid plan
pub ruleset fitting = (atoms_fit, grains_fit, rules_fit, vars_fit, vars_ordered, cells_fit)
