-- What is kept of an accepted list is accepted with the new sources, and is what the least set of dropped steps leaves.
use Rattle.std.proofs.Common.{◌≡◌, ℕ, Bool, true, false, cond, ◌&&◌, List, [], refl, sym, ◌∙◌, ap}
use Rattle.std.specs.Prelude.{Option, None, Some, ◌==◌}
use Rattle.std.proofs.lemmas.Bool.{and_parts, eqb-true, not-false}
use Rattle.vc_base.specs.Rounds.{atoms_of}
use Rattle.vc_base.specs.Sets.{has}
use Rattle.vc_base.proofs.ChainLaws.{accepted_earlier}
use Rattle.vc_base.proofs.KeptLaws.{Stays, kept_of_all}
use Rattle.vc_base.proofs.LeastLaws.{kept_is_left as steps_left}
use Rattle.vc_value.specs.declared.value.Value.{Value}
use Rattle.vc_plan.specs.declared.atoms.Atom.{Atom}
use Rattle.vc_plan.specs.declared.atoms.Mark.{Mark}
use Rattle.vc_plan.specs.declared.atoms.Mark.TheVariants.{Held, Outside}
use Rattle.vc_plan.specs.declared.atoms.Origin.{Origin}
use Rattle.vc_plan.specs.declared.atoms.Origin.TheVariants.{Rule, User, Written}
use Rattle.vc_plan.specs.declared.atoms.Step.{Step}
use Rattle.vc_plan.specs.declared.plans.Plan.{Plan}
use Rattle.vc_plan.specs.Answers.{fresh}
use Rattle.vc_plan.specs.Clear.{is_clear}
use Rattle.vc_plan.specs.Gives.{by_entry, value_says, entry_says, if_here}
use Rattle.vc_plan.specs.Seen.{same_atom, seen_of}
use Rattle.vc_plan.specs.Sources.{Sources, Entry, user_of, entry_of}
use Rattle.vc_plan.proofs.PlanLaws.Atoms.{value_exact}
use Rattle.vc_plan_reasons.specs.Checking.{are_of, follows, given_by, giver_from, giver_of, is_by, set_with, step_form}
use Rattle.vc_plan_reasons.specs.Checking.{things_read, var_of}
use Rattle.vc_plan_reasons.specs.Keeping.{is_gone, origin_differs, same_entry, same_mark, same_user, user_differs}
use Rattle.vc_plan_reasons.specs.Keeping.{entry_differs}
use Rattle.vc_plan_reasons.specs.Laws.{KeptIsAccepted, KeptIsLeft}

-- values, marks and entries are told apart exactly
user_exact : (o p : Option Value) → same_user o p ≡ true → o ≡ p
user_exact None None e = refl
user_exact None (Some b) e = absurd (cc)
user_exact (Some a) None e = absurd (cc)
user_exact (Some a) (Some b) e = ap Some (value_exact a b e)

mark_exact : (m n : Mark) → same_mark m n ≡ true → m ≡ n
mark_exact (Held a) (Held b) e = ap Held (value_exact a b e)
mark_exact (Held a) Outside e = absurd (cc)
mark_exact Outside (Held b) e = absurd (cc)
mark_exact Outside Outside e = refl

entry_exact : (o p : Option Entry) → same_entry o p ≡ true → o ≡ p
entry_exact None None e = refl
entry_exact None (Some f) e = absurd (cc)
entry_exact (Some d) None e = absurd (cc)
entry_exact (Some d) (Some f) e =
    let p = and_parts (same_mark d.mark f.mark) ((d.procedure == f.procedure) && (d.statement == f.statement)) e in
    let q = and_parts (d.procedure == f.procedure) (d.statement == f.statement) p.1 in
    ap (λ m. Some (record { mark = m; procedure = d.procedure; statement = d.statement }))
    (mark_exact d.mark f.mark p.0)
    ∙ (ap (λ n. Some (record { mark = f.mark; procedure = n; statement = d.statement }))
    (eqb-true d.procedure f.procedure q.0)
    ∙ ap (λ n. Some (record { mark = f.mark; procedure = f.procedure; statement = n }))
    (eqb-true d.statement f.statement q.1))

-- sources that don't differ are the same
user_same : (old new : Sources) (v : ℕ) → user_differs old new v ≡ false → user_of old v ≡ user_of new v
user_same old new v e =
    user_exact (user_of old v) (user_of new v) (not-false (same_user (user_of old v) (user_of new v)) e)

entry_same : (old new : Sources) (v : ℕ) → entry_differs old new v ≡ false → entry_of old v ≡ entry_of new v
entry_same old new v e =
    entry_exact (entry_of old v) (entry_of new v) (not-false (same_entry (entry_of old v) (entry_of new v)) e)

-- so an origin that isn't gone means the same giver, which gives the same
given_if : (plan : Plan) (old new : Sources) (v : ℕ) (set : List Atom) → entry_of old v ≡ entry_of new v → (b : Bool)
    → given_by plan old (cond b (Some (by_entry v)) None) set ≡ given_by plan new (cond b (Some (by_entry v)) None) set
given_if plan old new v set e true = ap (λ o. fresh (seen_of set) (if_here plan (seen_of set) v (entry_says v o))) e
given_if plan old new v set e false = refl

same_given : (plan : Plan) (old new : Sources) (set : List Atom) (origin : Origin) (v : Option ℕ)
    → origin_differs old new origin v ≡ false
    → (giver_from old origin v ≡ giver_from new origin v)
    × (given_by plan old (giver_from old origin v) set ≡ given_by plan new (giver_from new origin v) set)
same_given plan old new set (Rule r) v e = (refl, refl)
same_given plan old new set User None e = (refl, refl)
same_given plan old new set User (Some v) e =
    (refl, ap (λ o. fresh (seen_of set) (if_here plan (seen_of set) v (value_says v o))) (user_same old new v e))
same_given plan old new set (Written procedure statement) None e = (refl, refl)
same_given plan old new set (Written procedure statement) (Some v) e =
    let same = entry_same old new v e in (
      ap (λ o. cond (is_by procedure statement o) (Some (by_entry v)) None) same,
      given_if plan old new v set same (is_by procedure statement (entry_of old v))
          ∙ ap (λ o. given_by plan new (cond (is_by procedure statement o) (Some (by_entry v)) None) set) same,
    )

follows_same : (plan : Plan) (old new : Sources) (step : Step) (premises : List Atom) → is_gone old new step ≡ false
    → follows plan old step premises ≡ follows plan new step premises
follows_same plan old new step premises e =
    let set = set_with premises in
    let s = same_given plan old new set step.origin (var_of step.conclusion) e in
    let was = given_by plan old (giver_of old step) set in
    ap (λ g. (is_clear plan set && are_of (things_read plan g) premises)
    && has same_atom (atoms_of was) step.conclusion) s.0
    ∙ ap (λ x. (is_clear plan set && are_of (things_read plan (giver_of new step)) premises)
    && has same_atom (atoms_of x) step.conclusion) s.1

stays : (plan : Plan) (old new : Sources) → Stays step_form (is_gone old new) (follows plan old) (follows plan new)
stays plan old new = record {
  same = λ step premises. refl;
  numbers = λ step premises. refl;
  follows = λ step premises atoms e f. sym (follows_same plan old new step atoms e) ∙ f;
}

pub kept_is_accepted : KeptIsAccepted
kept_is_accepted plan old new log e =
    kept_of_all step_form (is_gone old new) (follows plan old) (follows plan new) (stays plan old new) log e

pub kept_is_left : KeptIsLeft
kept_is_left plan old new log e =
    steps_left step_form (is_gone old new) log (accepted_earlier step_form (follows plan old) [] log e)
