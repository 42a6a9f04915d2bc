-- Whoever waits after a change touches what the changed variables reach, or what those who waited before could reach.
use Rattle.std.proofs.Common.{◌≡◌, ℕ, zero, suc, ◌+◌, ◌⊎◌, Bool, true, false, ◌||◌, List, [], ◌∷◌}
use Rattle.std.proofs.Common.{◌++◌, length, map, refl, sym, ◌∙◌, ap, inl, inr, arith, add-zero}
use Rattle.std.specs.Prelude.{Some, if◌then◌else◌, nat_eq, slice_get}
use Rattle.std.proofs.lemmas.List.{map-append}
use Rattle.vc_base.specs.Kept.{number_left, without}
use Rattle.vc_base.specs.Sets.{has, Within}
use Rattle.vc_base.specs.Spreading.{IsSpread}
use Rattle.vc_base.proofs.ListLaws.{number_exact, number_itself, range_has}
use Rattle.vc_base.proofs.SetLaws.{both, filter_has, has_back, has_cases, has_either, has_first, has_front, has_more}
use Rattle.vc_base.proofs.SetLaws.{told}
use Rattle.vc_plan.specs.declared.atoms.Atom.{Atom}
use Rattle.vc_plan.specs.declared.atoms.Step.{Step}
use Rattle.vc_plan.specs.declared.plans.Plan.{Plan}
use Rattle.vc_plan.specs.Domains.{numbers_below}
use Rattle.vc_plan.specs.Gives.{Giver}
use Rattle.vc_plan.specs.Seen.{same_atom, seen_of}
use Rattle.vc_plan.specs.Sources.{Sources}
use Rattle.vc_plan.specs.Valid.{IsValid}
use Rattle.vc_plan.proofs.PlanLaws.Atoms.{atom_exact, atom_itself}
use Rattle.vc_plan_reasons.specs.Checking.{concluded, set_with, step_form}
use Rattle.vc_plan_reasons.specs.Keeping.{changed, entry_differs, kept_of, user_differs}
use Rattle.vc_plan_reasons.specs.Things.{Thing, has_thing, same_thing, thing_of, var_at}
use Rattle.vc_plan_reasons.specs.Work.{links_of, reach_of}
use Rattle.vc_plan_reasons.proofs.ReasonLaws.Dropping.{dropped_is_reached}
use Rattle.vc_plan_reasons.proofs.ReasonLaws.Keeping.{kept_is_left}
use Rattle.vc_plan_reasons.proofs.ReasonLaws.Reaching.{reach_is_least, thing_exact, thing_itself}
use Rattle.vc_plan_reasons.proofs.ReasonLaws.Writing.{has_var}
use Rattle.vc_plan_reasons.proofs.ReasonLaws.Spreading.{any_thing, some_thing}
use Rattle.vc_net_laws.specs.Waking.{giver_touches}
use Rattle.vc_net_laws.specs.Working.{same_giver}
use Rattle.vc_net_laws.proofs.NetLaws.Working.{giver_exact, giver_itself}
use Rattle.vc_net_log.specs.Going.{WereTaken}
use Rattle.vc_net_log.proofs.LogLaws.{atoms_stand}
use Rattle.vc_net_standing.specs.declared.standing.Fact.{Fact}
use Rattle.vc_net_standing.specs.Standing.{atoms_of}
use Rattle.vc_net_waking.specs.Waking.{waking, with_givers}
use Rattle.vc_net_waking.specs.Spending.{AreOn, touches_one}
use Rattle.vc_net_waking.proofs.CountLaws.{givers_once}
use Rattle.vc_net_waking.proofs.WakingLaws.{source_touches, woken_touch}
use Rattle.vc_net_waking.proofs.SpendLaws.{given_are}
use Rattle.vc_net_going.specs.Going.{IsGoing}
use Rattle.vc_net_going.specs.Renewing.{dropped_wake}
use Rattle.vc_net_going.specs.declared.work.Work.{Work}
use Rattle.vc_net_going.proofs.ChangeLaws.{AreChanges}
use Rattle.vc_net_going.proofs.RenewLaws.{first_sizes, last, steps_left}

-- more things reach more, and who touches some of fewer touches some of more
pub reach_grows : (plan : Plan) (xs ys : List Thing) → Within same_thing xs ys
    → Within same_thing (reach_of plan xs) (reach_of plan ys)
reach_grows plan xs ys within =
    let spread : IsSpread (links_of plan) ys (reach_of plan ys) = (reach_is_least plan ys).0 in
    (reach_is_least plan xs).2 (reach_of plan ys) (record {
      holds = λ t h. spread.holds t (within t h);
      written = spread.written;
    })

pub on_more : (plan : Plan) (xs ys : List Thing) (givers : List Giver) → Within same_thing xs ys
    → AreOn plan xs givers → AreOn plan ys givers
on_more plan xs ys givers within on = record {
  once = on.once;
  there = on.there;
  touch = λ giver h.
      let r = some_thing (giver_touches plan giver) xs (on.touch giver h) in
      any_thing (giver_touches plan giver) ys r.0 (within r.0 r.1) r.2;
}

-- a conclusion is that of a step
some_step : (steps : List Step) (a : Atom) → has same_atom (concluded steps) a ≡ true
    → (n : ℕ) × (step : Step) × (slice_get steps n ≡ Some step) × (step.conclusion ≡ a)
some_step [] a h = absurd (cc)
some_step (step ∷ steps) a h =
    elim (has_cases same_atom atom_exact atom_itself step.conclusion (concluded steps) a h) [
      | inl e ↦ (0, step, refl, sym e)
      | inr k ↦ let r = some_step steps a k in (suc r.0, r.1, r.2, r.3)
    ]

-- a step that isn't dropped is among what is left
left_has : (dropped : ℕ → Bool) (k : ℕ) (steps : List Step) (n : ℕ) (step : Step) → slice_get steps n ≡ Some step
    → dropped (k + n) ≡ false
    → has same_atom (concluded (without step_form dropped k steps)) step.conclusion ≡ true
left_has dropped k [] n step e d = absurd (cc)
left_has dropped k (s ∷ steps) zero step e d =
    let is : s ≡ step = cc in
    let here : dropped k ≡ false = ap dropped (sym (add-zero k)) ∙ d in
    let later = without step_form dropped (suc k) steps in
    ap (λ b. has same_atom (concluded (if b then later
    else step_form.with_premises s (map (number_left dropped) s.premises) ∷ later)) step.conclusion) here
    ∙ (ap (λ (x : Step). has same_atom (s.conclusion ∷ concluded later) x.conclusion) (sym is)
    ∙ has_first same_atom atom_exact atom_itself s.conclusion (concluded later))
left_has dropped k (s ∷ steps) (suc n) step e d =
    by (dropped k) (left_has dropped (suc k) steps n step e (ap dropped (omega arith) ∙ d))
  where
    later : List Step
    later = without step_form dropped (suc k) steps

    by : (b : Bool) → has same_atom (concluded later) step.conclusion ≡ true
        → has same_atom (concluded (if b then later
        else step_form.with_premises s (map (number_left dropped) s.premises) ∷ later)) step.conclusion ≡ true
    by true h = h
    by false h = has_more same_atom atom_exact atom_itself s.conclusion (concluded later) step.conclusion h

-- so what is dropped of an accepted log is reached by what changed
pub dropped_reached : (plan : Plan) (valid : IsValid plan) (old new : Sources) (work : Work)
    (going : IsGoing plan old work []) (a : Atom) → has same_atom (concluded work.log.steps) a ≡ true
    → has same_atom (concluded (kept_of old new work.log.steps)) a ≡ false
    → has_thing (reach_of plan (map var_at (changed plan old new))) (thing_of a) ≡ true
dropped_reached plan valid old new work going a h gone =
    let r = some_step work.log.steps a h in
    let left = kept_is_left plan old new work.log.steps going.accepted in
    elim (told (left.dropped (suc r.0))) [
      | inl d ↦
          ap (λ b. has_thing (reach_of plan (map var_at (changed plan old new))) (thing_of b)) (sym r.3)
          ∙ dropped_is_reached plan valid old new work.log.steps going.accepted left r.0 r.1 r.2 d
      | inr d ↦
          absurd (both (ap (λ steps. has same_atom (concluded steps) a) left.rest
          ∙ (ap (has same_atom (concluded (without step_form left.dropped 1 work.log.steps))) (sym r.3)
          ∙ left_has left.dropped 1 work.log.steps r.0 r.1 r.2 (ap left.dropped (omega arith) ∙ d))) gone)
    ]

-- who is woken by what was dropped, and whose sources changed
woken_by : (plan : Plan) (sources : Sources) (stand atoms : List Atom) (giver : Giver)
    → has same_giver (dropped_wake plan sources stand atoms) giver ≡ true
    → (a : Atom) × (has same_atom atoms a ≡ true) × (has same_atom stand a ≡ false)
    × (giver_touches plan giver (thing_of a) ≡ true)
woken_by plan sources stand [] giver h = absurd (cc)
woken_by plan sources stand (b ∷ atoms) giver h =
    by (told (has same_atom stand b))
    (has_either same_giver giver_exact giver_itself (own (has same_atom stand b))
    (dropped_wake plan sources stand atoms) giver h)
    (woken_by plan sources stand atoms giver)
  where
    own : Bool → List Giver
    own t = if t then [] else waking plan sources (seen_of (set_with stand)) (thing_of b)

    by : (has same_atom stand b ≡ true) ⊎ (has same_atom stand b ≡ false)
        → (has same_giver (own (has same_atom stand b)) giver ≡ true)
        ⊎ (has same_giver (dropped_wake plan sources stand atoms) giver ≡ true)
        → (has same_giver (dropped_wake plan sources stand atoms) giver ≡ true
        → (a : Atom) × (has same_atom atoms a ≡ true) × (has same_atom stand a ≡ false)
        × (giver_touches plan giver (thing_of a) ≡ true))
        → (a : Atom) × (has same_atom (b ∷ atoms) a ≡ true) × (has same_atom stand a ≡ false)
        × (giver_touches plan giver (thing_of a) ≡ true)
    by e (inr k) more =
        let r = more k in
        (r.0, has_more same_atom atom_exact atom_itself b atoms r.0 r.1, r.2, r.3)
    by (inl e) (inl k) more =
        let none : has same_giver [] giver ≡ true = ap (λ t. has same_giver (own t) giver) (sym e) ∙ k in
        absurd (cc)
    by (inr e) (inl k) more = (
      b,
      has_first same_atom atom_exact atom_itself b atoms,
      e,
      woken_touch plan sources (seen_of (set_with stand)) (thing_of b) giver
          (ap (λ t. has same_giver (own t) giver) (sym e) ∙ k),
    )

-- whoever waits then is on what is reached
module _ (plan : Plan) (valid : IsValid plan) (old new : Sources) (work : Work) (going : IsGoing plan old work [])
    (taken : List Fact) (were : WereTaken work.log.steps (steps_left plan old new work going) taken)
    (behind : List Thing) (on : AreOn plan (reach_of plan behind) work.agenda.givers)
    (givers : List Giver) (are : AreChanges plan old new givers) where
  abbrev pub changes : List Thing
  changes = map var_at (changed plan old new)

  abbrev pub all : List Thing
  all = reach_of plan (behind ++ changes)

  behind_within : Within same_thing (reach_of plan behind) all
  behind_within = reach_grows plan behind (behind ++ changes)
      (λ t h. has_front same_thing thing_exact thing_itself behind changes t h)

  changes_within : Within same_thing (reach_of plan changes) all
  changes_within = reach_grows plan changes (behind ++ changes)
      (λ t h. has_back same_thing thing_exact thing_itself behind changes t h)

  split : concluded work.log.steps ≡ atoms_of were.front ++ atoms_of taken
  split = sym (atoms_stand work.log.steps)
      ∙ (ap atoms_of were.split ∙ map-append (λ (f : Fact). f.atom) were.front taken)

  woken_reach : (giver : Giver)
      → has same_giver (dropped_wake plan new (concluded (steps_left plan old new work going)) (atoms_of taken)) giver
      ≡ true
      → touches_one plan all giver ≡ true
  woken_reach giver h =
      let r = woken_by plan new (concluded (steps_left plan old new work going)) (atoms_of taken) giver h in
      let there : has same_atom (concluded work.log.steps) r.0 ≡ true
      = ap (λ atoms. has same_atom atoms r.0) split
      ∙ has_back same_atom atom_exact atom_itself (atoms_of were.front) (atoms_of taken) r.0 r.1 in
      any_thing (giver_touches plan giver) all (thing_of r.0)
      (changes_within (thing_of r.0) (dropped_reached plan valid old new work going r.0 there r.2)) r.3

  changed_reach : (giver : Giver) → has same_giver givers giver ≡ true → touches_one plan all giver ≡ true
  changed_reach giver h =
      let r = are.only giver h in
      let low = r.1 in
      let there : has nat_eq (changed plan old new) r.0 ≡ true
      = filter_has nat_eq number_exact number_itself (λ v. user_differs old new v || entry_differs old new v)
      (numbers_below (length plan.vars)) r.0 (range_has 0 (length plan.vars) r.0 (omega arith) (omega (arith, low)))
      r.2 in
      let spread : IsSpread (links_of plan) (behind ++ changes) all = (reach_is_least plan (behind ++ changes)).0 in
      any_thing (giver_touches plan giver) all (var_at r.0)
      (spread.holds (var_at r.0) (has_back same_thing thing_exact thing_itself behind changes (var_at r.0)
      (has_var (changed plan old new) r.0 there)))
      (source_touches plan r.0 giver r.3)

  woken_on : AreOn plan all
      (with_givers work.agenda
      (dropped_wake plan new (concluded (steps_left plan old new work going)) (atoms_of taken))).givers
  woken_on =
      let woken = dropped_wake plan new (concluded (steps_left plan old new work going)) (atoms_of taken) in
      let before = on_more plan (reach_of plan behind) all work.agenda.givers behind_within on in record {
        once = givers_once work.agenda woken before.once;
        there = λ giver h. elim (given_are plan work.agenda woken giver going.of.sizes h) [
          | inl k ↦ before.there giver k
          | inr k ↦ k.1
        ];
        touch = λ giver h. elim (given_are plan work.agenda woken giver going.of.sizes h) [
          | inl k ↦ before.touch giver k
          | inr k ↦ woken_reach giver k.0
        ];
      }

  pub last_on : AreOn plan all (last plan old new work going taken were givers are).givers
  last_on =
      let first = with_givers work.agenda
      (dropped_wake plan new (concluded (steps_left plan old new work going)) (atoms_of taken)) in
      let sizes = first_sizes plan old new work going taken were in record {
        once = givers_once first givers woken_on.once;
        there = λ giver h. elim (given_are plan first givers giver sizes h) [
          | inl k ↦ woken_on.there giver k
          | inr k ↦ k.1
        ];
        touch = λ giver h. elim (given_are plan first givers giver sizes h) [
          | inl k ↦ woken_on.touch giver k
          | inr k ↦ changed_reach giver k.0
        ];
      }
