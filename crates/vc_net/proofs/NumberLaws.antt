-- The numbers by which atoms are cited, of the steps that a search finds.
use Rattle.std.proofs.Common.{◌≡◌, ℕ, suc, ◌+◌, ◌<◌, ◌≤◌, Bool, true, false, cond, not, ◌||◌, List, [], ◌∷◌, ◌++◌}
use Rattle.std.proofs.Common.{length, map, refl, sym, ◌∙◌, ap, inl, inr, arith, append-nil}
use Rattle.std.specs.Prelude.{Option, None, Some, option_map, position, slice_index_or}
use Rattle.std.specs.List.{list_any, position_or_len}
use Rattle.std.proofs.lemmas.Bool.{leb-true}
use Rattle.std.proofs.lemmas.Bool.Decides.{nat_tests}
use Rattle.std.proofs.lemmas.List.{length-map, map-append}
use Rattle.vc_base.proofs.SetLaws.{told}
use Rattle.vc_plan.specs.declared.atoms.Atom.{Atom}
use Rattle.vc_plan.specs.declared.atoms.Culprit.{Culprit}
use Rattle.vc_plan.specs.declared.atoms.Step.{Step}
use Rattle.vc_plan.specs.Bounds.{cell_bound}
use Rattle.vc_plan.specs.Domains.{atom_count}
use Rattle.vc_plan.specs.declared.plans.Plan.{Plan}
use Rattle.vc_plan.specs.Seen.{same_atom}
use Rattle.vc_plan.proofs.PlanLaws.Bound.{clear_sets_are_small}
use Rattle.vc_plan_blame.specs.Blame.{clash_by, clash_of, number_of}
use Rattle.vc_plan_reasons.specs.Checking.{concluded, step_form}
use Rattle.vc_plan_reasons.specs.Trimming.{trimmed_clash}
use Rattle.vc_net_chains.specs.Telling.{trimmed_for}
use Rattle.vc_net_chains.specs.declared.chains.Trimmed.{Trimmed}
use Rattle.vc_net_places.specs.Cells.{begins_from, begins_of, bounds_of}
use Rattle.vc_net_places.specs.Places.{Index, index_of}
use Rattle.vc_net_places.proofs.PlaceLaws.Cells.{cells_end_at_total, cells_suffice}
use Rattle.vc_net_places.proofs.PlaceLaws.Things.{things_are_counted}
use Rattle.vc_net_log.specs.Logs.{Logged, cells_of, cited_by, fact_of, facts_of, set_of, step_from}
use Rattle.vc_net_log.proofs.LogLaws.{bounds_are_counted}
use Rattle.vc_net_standing.specs.declared.standing.Fact.{Fact}
use Rattle.vc_net_going.specs.declared.breaker.Breaker.{Breaker}
use Rattle.vc_net_going.specs.Breaking.{clash_in, last_atoms, stand_with, steps_with}
use Rattle.vc_net.specs.Ending.{LogsAreFew, LogsAreShort}

-- the place of the first that passes, in a list that goes on
module _ {X : Type 0} (p : X → Bool) where
  inside : (xs : List X) → list_any p xs ≡ true → position_or_len p xs < length xs
  inside [] h = absurd (cc)
  inside (x ∷ xs) h = by (p x) h (inside xs)
    where
      by : (b : Bool) → (b || list_any p xs) ≡ true → (list_any p xs ≡ true → position_or_len p xs < length xs)
          → cond (not b) (1 + position_or_len p xs) 0 < suc (length xs)
      by true h next = omega arith
      by false h next = let low = next h in omega (arith, low)

  stays : (xs ys : List X) → list_any p xs ≡ true → position_or_len p (xs ++ ys) ≡ position_or_len p xs
  stays [] ys h = absurd (cc)
  stays (x ∷ xs) ys h = by (p x) h (stays xs ys)
    where
      by : (b : Bool) → (b || list_any p xs) ≡ true
          → (list_any p xs ≡ true → position_or_len p (xs ++ ys) ≡ position_or_len p xs)
          → cond (not b) (1 + position_or_len p (xs ++ ys)) 0 ≡ cond (not b) (1 + position_or_len p xs) 0
      by true h next = refl
      by false h next = ap (λ n. 1 + n) (next h)

  past : (xs ys : List X) → list_any p xs ≡ false
      → position_or_len p (xs ++ ys) ≡ length xs + position_or_len p ys
  past [] ys h = omega arith
  past (x ∷ xs) ys h = by (p x) h (past xs ys)
    where
      by : (b : Bool) → (b || list_any p xs) ≡ false
          → (list_any p xs ≡ false → position_or_len p (xs ++ ys) ≡ length xs + position_or_len p ys)
          → cond (not b) (1 + position_or_len p (xs ++ ys)) 0 ≡ suc (length xs) + position_or_len p ys
      by true h next = absurd (cc)
      by false h next = let same = next h in omega (arith, same)

  pub first_at : (xs : List X) → list_any p xs ≡ true → position p xs ≡ Some (position_or_len p xs)
  first_at xs h = let low = inside xs h in grind (arith, nat_tests)

  pub none_at : (xs : List X) → list_any p xs ≡ false → position p xs ≡ None
  none_at xs h =
      let same = ap (λ ys. position_or_len p ys) (append-nil xs) in
      let all = past xs [] h in
      let last : position_or_len p xs ≡ length xs = omega (arith, same, all) in
      grind (arith, nat_tests)

  pub found_place : (xs ys : List X) (n : ℕ) → position p xs ≡ Some n
      → (position_or_len p (xs ++ ys) ≡ n) × (n < length xs)
  found_place xs ys n e =
      elim (told (list_any p xs)) [
        | inl h ↦
            let is : Some (position_or_len p xs) ≡ Some n = sym (first_at xs h) ∙ e in
            let same : position_or_len p xs ≡ n = cc in
            let low = inside xs h in
            (stays xs ys h ∙ same, omega (arith, low, same))
        | inr h ↦
            let is : None ≡ Some n = sym (none_at xs h) ∙ e in
            absurd (cc)
      ]

  pub past_all : (xs ys : List X) → position p xs ≡ None
      → position_or_len p (xs ++ ys) ≡ length xs + position_or_len p ys
  past_all xs ys e =
      elim (told (list_any p xs)) [
        | inl h ↦
            let is : Some (position_or_len p xs) ≡ None = sym (first_at xs h) ∙ e in
            absurd (cc)
        | inr h ↦ past xs ys h
      ]

-- what steps conclude with that of a fact after them
pub concluded_with : (steps : List Step) (last : Option Fact) (reasons : List Atom)
    → concluded (steps_with steps last reasons) ≡ stand_with steps last
concluded_with steps None reasons = sym (append-nil (concluded steps))
concluded_with steps (Some fact) reasons =
    map-append step_form.conclusion steps (step_from steps fact reasons ∷ [])

pub numbers_alone : (steps : List Step) (atoms : List Atom)
    → map (number_of (stand_with steps None)) atoms ≡ map (number_of (concluded steps)) atoms
numbers_alone steps atoms = ap (λ stand. map (number_of stand) atoms) (append-nil (concluded steps))

-- what stands is clear and differs, and the root stands without a step
pub logs_are_few : LogsAreFew
logs_are_few plan sources work going =
    let small = clear_sets_are_small plan (set_of work.log) going.working.sound.clear going.working.distinct in
    let count : length (concluded work.log.steps) ≡ length work.log.steps
    = length-map work.log.steps step_form.conclusion in
    omega (arith, small, count)

-- there are fewer steps than a number of 32 bits tells
pub logs_are_short : LogsAreShort
logs_are_short plan sources work valid going =
    let few = logs_are_few plan sources work going in
    let fit : atom_count plan ≤ 40_000 = leb-true (atom_count plan) 40_000 valid.atom_limit in
    omega (arith, few, fit)

-- the number of an atom that the log doesn't conclude
pub number_past_all : (steps : List Step) (last : Option Fact) (atom : Atom) (facts : List Fact) (n : ℕ)
    → n ≡ suc (length facts + position_or_len (same_atom atom) (last_atoms last)) → facts ≡ facts_of steps
    → position (same_atom atom) (concluded steps) ≡ None → n ≡ number_of (stand_with steps last) atom
number_past_all steps last atom facts n is same none =
    let past = past_all (same_atom atom) (concluded steps) (last_atoms last) none in
    let told : length facts ≡ length steps = ap (λ xs. length xs) same ∙ length-map steps fact_of in
    let count : length (concluded steps) ≡ length steps = length-map steps step_form.conclusion in
    omega (arith, is, past, told, count)

-- the clash that is told of is the one that is kept
pub clash_told : (log steps : List Step) (kept : Breaker) (culprit : Culprit) (premises : List ℕ) (atoms : List Atom)
    → kept.culprit ≡ Some culprit → steps ≡ steps_with log kept.fact kept.reasons.items
    → premises ≡ map (number_of (stand_with log kept.fact)) atoms → atoms ≡ kept.premises.items
    → Some (clash_of steps premises culprit) ≡ clash_in log kept
clash_told log steps kept culprit premises atoms blamed told numbers same =
    let whole = steps_with log kept.fact kept.reasons.items in
    let cites : premises ≡ cited_by whole kept.premises.items
    = numbers
    ∙ (ap (map (number_of (stand_with log kept.fact))) same
    ∙ ap (λ stand. map (number_of stand) kept.premises.items)
    (sym (concluded_with log kept.fact kept.reasons.items))) in
    ap (λ s. Some (clash_of s premises culprit)) told
    ∙ (ap (λ ns. Some (clash_of whole ns culprit)) cites
    ∙ sym (ap (clash_by whole (cited_by whole kept.premises.items)) blamed))

-- so is what is left of it
pub clash_left : (log : List Step) (kept : Breaker) (culprit : Culprit) (left : Trimmed)
    → kept.culprit ≡ Some culprit
    → left ≡ trimmed_for (map (number_of (stand_with log kept.fact)) kept.premises.items)
    (steps_with log kept.fact kept.reasons.items)
    → Some (clash_of left.steps left.ending culprit) ≡ option_map trimmed_clash (clash_in log kept)
clash_left log kept culprit left blamed is =
    let whole = steps_with log kept.fact kept.reasons.items in
    let premises = map (number_of (stand_with log kept.fact)) kept.premises.items in
    ap (λ (l : Trimmed). Some (clash_of l.steps l.ending culprit)) is
    ∙ ap (option_map trimmed_clash)
    (clash_told log whole kept culprit premises kept.premises.items blamed refl refl refl)

-- the cells of a plan's log are of its bound
pub cells_counted : (plan : Plan) (log : Logged) → log.index ≡ index_of plan → log.begins ≡ begins_of plan
    → cells_of log ≤ cell_bound plan
cells_counted plan log index begins =
    let bounds = bounds_of plan in
    let things = ap (λ (i : Index). length i.things) index ∙ things_are_counted plan in
    let count = things ∙ sym (bounds_are_counted plan) in
    let same : cells_of log ≡ slice_index_or (begins_from 0 bounds) (length bounds) 0 =
    ap (λ (firsts : List ℕ). slice_index_or firsts (length log.index.things) 0) begins
    ∙ ap (λ n. slice_index_or (begins_of plan) n 0) count in
    let end = cells_end_at_total bounds in
    let all = cells_suffice plan in
    omega (arith, same, end, all)
