-- What it costs to go on with other sources is within the work on what was to be done.
use Rattle.std.proofs.Common.{◌≡◌, ℕ, ◌+◌, ◌≤◌, true, List, [], ◌∷◌, ◌++◌, sym, ◌∙◌, ap, subst, arith, append-nil}
use Rattle.std.specs.Prelude.{Option, None, Some, IfNone}
use Rattle.std.specs.List.{IsDistinct}
use Rattle.std.proofs.lemmas.List.{map-append}
use Rattle.vc_base.specs.Sets.{has, Within}
use Rattle.vc_base.proofs.SetLaws.{has_back, has_more}
use Rattle.vc_plan.specs.declared.atoms.Atom.{Atom}
use Rattle.vc_plan.specs.declared.atoms.Atom.TheVariants.{Here}
use Rattle.vc_plan.specs.declared.atoms.Culprit.{Culprit}
use Rattle.vc_plan.specs.declared.atoms.Step.{Step}
use Rattle.vc_plan.specs.declared.plans.Plan.{Plan}
use Rattle.vc_plan.specs.Clear.{is_clear}
use Rattle.vc_plan.specs.Gives.{Giver}
use Rattle.vc_plan.specs.Seen.{same_atom}
use Rattle.vc_plan.specs.Sources.{Sources}
use Rattle.vc_plan.specs.Valid.{IsValid}
use Rattle.vc_plan.proofs.PlanLaws.Atoms.{atom_exact, atom_itself}
use Rattle.vc_plan.proofs.PlanLaws.Facts.{part_clear}
use Rattle.vc_plan_blame.specs.Blame.{clash_by}
use Rattle.vc_plan_reasons.specs.Checking.{concluded, step_form}
use Rattle.vc_plan_reasons.specs.Things.{Thing}
use Rattle.vc_plan_reasons.specs.Work.{reach_of, work_of}
use Rattle.vc_net_log.specs.Logs.{cited_by, set_of}
use Rattle.vc_net_waking.specs.Spending.{AreOn, rules_among}
use Rattle.vc_net_waking.proofs.SpendLaws.{reach_holds_what_is_written, rules_are_within_work}
use Rattle.vc_net_going.specs.declared.work.Work.{Work}
use Rattle.vc_net_going.specs.Breaking.{steps_with}
use Rattle.vc_net_going.specs.Behind.{StaysBehind}
use Rattle.vc_net.specs.Costing.{CostsItsWork, IsBehind, left_undone, to_do}
use Rattle.vc_net.specs.Ending.{IsSettled}
use Rattle.vc_net_going.specs.Going.{IsBrokenOff}
use Rattle.vc_net.specs.Nets.{Netted}
use Rattle.vc_net_going.specs.Spending.{IsSpent}
use Rattle.vc_net.specs.Spending.{IsPaid, Pays}

-- the last of atoms without doubles have none
distinct_back : (xs ys : List Atom) → IsDistinct same_atom (xs ++ ys) → IsDistinct same_atom ys
unfolding IsDistinct
distinct_back [] ys d = d
distinct_back (x ∷ xs) ys d = distinct_back xs ys d.1

-- steps that came stand in a clear set, each atom once
module _ (plan : Plan) (sources : Sources) (work : Work) (front fresh : List Step)
    (settled : IsSettled plan sources work) (grown : work.log.steps ≡ front ++ fresh) where
  parts : concluded work.log.steps ≡ concluded front ++ concluded fresh
  parts = ap concluded grown ∙ map-append step_form.conclusion front fresh

  within : Within same_atom (concluded fresh) (set_of work.log)
  within a h =
      has_more same_atom atom_exact atom_itself (Here 0) (concluded work.log.steps) a
      (ap (λ xs. has same_atom xs a) parts
      ∙ has_back same_atom atom_exact atom_itself (concluded front) (concluded fresh) a h)

  pub fresh_clear : is_clear plan (concluded fresh) ≡ true
  fresh_clear = part_clear plan (concluded fresh) (set_of work.log) settled.going.working.sound.clear within

  pub fresh_distinct : IsDistinct same_atom (concluded fresh)
  fresh_distinct =
      distinct_back (Here 0 ∷ concluded front) (concluded fresh)
      (subst (λ xs. IsDistinct same_atom (Here 0 ∷ xs)) parts settled.going.working.distinct)

-- what is asked is paid by the rules that waited and the atoms that came
settling_costs : (plan : Plan) (sources : Sources) (work later : Work) (before after : ℕ) (things : List Thing)
    → IsValid plan → IsBehind plan things work → Pays plan work later before after → IsSettled plan sources later
    → IsBehind plan things later × (after ≤ before + work_of plan things)
settling_costs plan sources work later before after things valid on pays settled =
    let base = before + rules_among work.agenda.givers in
    let spent : IsSpent plan (reach_of plan things) work.log.steps before base work = record {
      on = on;
      fresh = [];
      grown = sym (append-nil work.log.steps);
      of = λ atom h. absurd (cc);
      paid = omega arith;
    } in
    let paid : IsPaid plan (reach_of plan things) work.log.steps after base later
    = pays (reach_of plan things) work.log.steps base (reach_holds_what_is_written plan things valid) spent in
    let within = rules_are_within_work plan (reach_of plan things) work.agenda.givers (concluded paid.fresh) on
    (fresh_clear plan sources later work.log.steps paid.fresh settled paid.grown)
    (fresh_distinct plan sources later work.log.steps paid.fresh settled paid.grown) paid.of in
    let cost = paid.paid in
    (paid.on, omega (arith, cost, within))

-- nobody is behind where nobody waits
nobody_on : (plan : Plan) (things : List Thing) → AreOn plan things []
unfolding IsDistinct
nobody_on plan things = record { once = tt; there = λ giver h. absurd (cc); touch = λ giver h. absurd (cc) }

undone_stay : (plan : Plan) (things : List Thing) (culprit : Option Culprit) (givers : List Giver)
    → AreOn plan (reach_of plan things) givers → IfNone culprit (givers ≡ [])
    → AreOn plan (reach_of plan (left_undone culprit things)) givers
undone_stay plan things None givers on none =
    subst (λ gs. AreOn plan (reach_of plan []) gs) (sym none) (nobody_on plan (reach_of plan []))
undone_stay plan things (Some culprit) givers on none = on

-- so it is of work that was renewed and then settled
pub renewing_costs : (plan : Plan) (old new : Netted) (renewed : Work) (before after : ℕ) → IsValid plan
    → StaysBehind plan old.sources new.sources old.work renewed → Pays plan renewed new.work before after
    → IsSettled plan new.sources new.work → IfNone new.work.breaker.culprit (new.work.agenda.givers ≡ [])
    → CostsItsWork plan old new before after
renewing_costs plan old new renewed before after valid stays pays settled rest behind on =
    let things = to_do plan behind old.sources new.sources in
    let cost = settling_costs plan new.sources renewed new.work before after things valid (stays behind on) pays settled
    in
    (undone_stay plan things new.work.breaker.culprit new.work.agenda.givers cost.0 rest, cost.1)

-- where something contradicts, somebody is blamed
pub broken_blames : (plan : Plan) (sources : Sources) (giver : Giver) (old new : Work) (P : Type 0)
    → IsBrokenOff plan sources giver old new → IfNone new.breaker.culprit P
broken_blames plan sources giver old new P off = by new.breaker.culprit off.blames.1
  where
    steps : List Step
    steps = steps_with new.log.steps new.breaker.fact new.breaker.reasons.items

    by : (o : Option Culprit) → clash_by steps (cited_by steps new.breaker.premises.items) o ≡ Some off.blames.0
        → IfNone o P
    by None e = absurd (cc)
    by (Some culprit) e = tt

-- where nothing does, nobody waits
pub calm_rests : (culprit : Option Culprit) (P : Type 0) → P → IfNone culprit P
calm_rests None P p = p
calm_rests (Some culprit) P p = tt
