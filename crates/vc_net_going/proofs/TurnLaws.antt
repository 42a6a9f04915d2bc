-- How the turns of givers go, and how they end.
use Rattle.std.proofs.Common.{◌≡◌, ℕ, zero, suc, ◌+◌, ◌≤◌, true, List, [], ◌∷◌, ◌++◌, length, refl, sym, ◌∙◌}
use Rattle.std.proofs.Common.{ap, subst, inl, inr, arith, append-nil, append_assoc, add-one}
use Rattle.std.specs.Prelude.{Option, None, Some, option_map, slice_get}
use Rattle.std.proofs.lemmas.Bool.{or_cases}
use Rattle.vc_base.specs.Sets.{has, Within}
use Rattle.vc_base.proofs.SetLaws.{has_cases, has_either, told}
use Rattle.vc_plan.specs.declared.atoms.Atom.{Atom}
use Rattle.vc_plan.specs.declared.atoms.Step.{Step}
use Rattle.vc_plan.specs.declared.plans.Plan.{Plan}
use Rattle.vc_plan.specs.Gives.{Giver}
use Rattle.vc_plan.specs.Seen.{says}
use Rattle.vc_plan.specs.Sources.{Sources}
use Rattle.vc_plan.specs.Valid.{IsValid}
use Rattle.vc_plan_reasons.specs.Checking.{is_accepted, is_silent}
use Rattle.vc_rule_premises.specs.Saying.{concluding, given_of}
use Rattle.vc_rule_yield.specs.Yielding.{Conclusion}
use Rattle.vc_net_laws.specs.Forced.{is_quiet}
use Rattle.vc_net_laws.specs.Working.{IsWorking, same_giver}
use Rattle.vc_net_laws.proofs.NetLaws.Working.{agendas_may_grow, giver_exact, giver_itself, quiet_may_leave}
use Rattle.vc_net_log.specs.Logs.{seen_by, set_of}
use Rattle.vc_net_sources.specs.Asking.{found_from}
use Rattle.vc_net_sources.proofs.GiverLaws.{found_is_given}
use Rattle.vc_net_going.specs.Going.{BeginsWith, HasCome, HasGoneOn, IsBrokenOff, IsGoing, MayCome, WasFound}
use Rattle.vc_net_going.specs.Going.{is_asked_or_quiet, turns_of}
use Rattle.vc_net_going.specs.Spending.{Spends}
use Rattle.vc_net_going.specs.declared.work.Work.{Work}
use Rattle.vc_net_going.specs.Working.{IsWorkOf}
use Rattle.vc_net_going.proofs.GoingLaws.{found_may_come, found_new, may_still_come}

-- what is so far of a giver's turn: nothing came, or it is asked again or quiet
abbrev pub SoFar : Plan → Sources → Giver → Work → Work → ℕ → Type 0
SoFar plan sources giver start now zero = now ≡ start
SoFar plan sources giver start now (suc n) = is_asked_or_quiet plan sources giver now ≡ true

pub record IsTurning (plan : Plan) (sources : Sources) (giver : Giver) (start now : Work) (place : ℕ) : Type 0 where
  pub going : IsGoing plan sources now (giver ∷ [])
  pub more : List Step
  pub grown : now.log.steps ≡ start.log.steps ++ more
  pub fewer : turns_of plan now ≤ turns_of plan start
  pub calm : now.breaker ≡ start.breaker
  pub so_far : SoFar plan sources giver start now place
  pub spends : Spends plan giver start now

pub turn_begins : (plan : Plan) (sources : Sources) (giver : Giver) (work : Work)
    → IsGoing plan sources work (giver ∷ []) → IsTurning plan sources giver work work 0
turn_begins plan sources giver work going = record {
  going = going;
  more = [];
  grown = sym (append-nil work.log.steps);
  fewer = omega arith;
  calm = refl;
  so_far = refl;
  spends = λ things front count base holds touch spent. spent;
}

-- a conclusion that is read in two parts
pub conclusion_there : (o : Option Conclusion) (a : Atom) (premises : List Atom)
    → option_map (λ conclusion. conclusion.atom) o ≡ Some a
    → option_map (λ conclusion. conclusion.premises) o ≡ Some premises
    → o ≡ Some (record { atom = a; premises = premises })
conclusion_there None a premises e f = absurd (cc)
conclusion_there (Some conclusion) a premises e f =
    let first : conclusion.atom ≡ a = cc in
    let second : conclusion.premises ≡ premises = cc in
    ap (λ x. Some (record { atom = x; premises = conclusion.premises })) first
    ∙ ap (λ xs. Some (record { atom = a; premises = xs })) second

-- the next conclusion may come
module _ (plan : Plan) (sources : Sources) (giver : Giver) (start now : Work) (all : List Conclusion) (place : ℕ)
    (conclusion : Conclusion) (valid : IsValid plan) (going : IsGoing plan sources start (giver ∷ []))
    (was : WasFound plan sources start giver all) (is : slice_get all place ≡ Some conclusion)
    (turning : IsTurning plan sources giver start now place) where
  pub next_may_come : MayCome plan sources now.log.steps giver conclusion.atom conclusion.premises
  next_may_come =
      may_still_come plan sources start.log.steps turning.more now.log.steps giver conclusion.atom conclusion.premises
      turning.grown (found_may_come plan sources start giver all place conclusion valid going was is)

  -- and when it has, the turn goes on
  pub turn_goes_on : (later : Work) → HasCome plan sources giver conclusion.atom now later
      → IsTurning plan sources giver start later (place + 1)
  turn_goes_on later come = record {
    going = come.going;
    more = turning.more ++ come.more;
    grown = come.grown ∙ (ap (λ xs. xs ++ come.more) turning.grown ∙ append_assoc start.log.steps turning.more
        come.more);
    fewer = let one = come.fewer in let rest = turning.fewer in omega (arith, one, rest);
    calm = come.calm ∙ turning.calm;
    so_far =
        subst (λ n. SoFar plan sources giver start later n) (sym (add-one place)) (asked place turning.so_far is);
    spends = λ things front count base holds touch spent.
        come.spends things front count base holds touch
        (turning.spends things front count base holds touch spent);
  }
    where
      asked : (n : ℕ) → SoFar plan sources giver start now n → slice_get all n ≡ Some conclusion
          → is_asked_or_quiet plan sources giver later ≡ true
      asked zero same first =
          come.waits (ap (λ w. says (seen_by w.log) conclusion.atom) same
          ∙ found_new plan sources start giver all zero conclusion valid going was first)
      asked (suc n) waits next =
          elim (told (says (seen_by now.log) conclusion.atom)) [
            | inl stands ↦
                ap (is_asked_or_quiet plan sources giver) (come.unchanged stands) ∙ waits
            | inr fresh ↦ come.waits fresh
          ]

-- steps that come behind others come behind those before them
pub begins_on : (first second third : List Step) → BeginsWith first second → BeginsWith second third
    → BeginsWith first third
begins_on first second third h k =
    (h.0 ++ k.0, k.1 ∙ (ap (λ steps. steps ++ k.0) h.1 ∙ append_assoc first h.0 k.0))

-- where a turn breaks off, what came in it before still came
pub turn_breaks_off : (plan : Plan) (sources : Sources) (giver : Giver) (start now new : Work) (place : ℕ)
    → IsTurning plan sources giver start now place → IsBrokenOff plan sources giver now new
    → IsBrokenOff plan sources giver start new
turn_breaks_off plan sources giver start now new place turning off = record {
  going = off.going;
  grown = begins_on start.log.steps now.log.steps new.log.steps (turning.more, turning.grown) off.grown;
  spends = λ things front count base holds touch spent.
      off.spends things front count base holds touch
      (turning.spends things front count base holds touch spent);
  giver_there = off.giver_there;
  breaks = off.breaks;
  blames = off.blames;
}

-- who waits needn't stand beside the agenda
within_one : (givers : List Giver) (giver : Giver) → has same_giver givers giver ≡ true
    → Within same_giver (givers ++ giver ∷ []) givers
within_one givers giver waits other h =
    elim (has_either same_giver giver_exact giver_itself givers (giver ∷ []) other h) [
      | inl p ↦ p
      | inr p ↦ elim (has_cases same_giver giver_exact giver_itself giver [] other p) [
        | inl q ↦ ap (has same_giver givers) q ∙ waits
        | inr q ↦ absurd (cc)
      ]
    ]

-- with nobody beside
pub nobody_beside : (plan : Plan) (sources : Sources) (work : Work) → IsWorkOf plan work
    → is_accepted plan sources work.log.steps ≡ true
    → IsWorking plan sources work.agenda.givers (set_of work.log) → IsGoing plan sources work []
nobody_beside plan sources work of accepted working = record {
  of = of;
  accepted = accepted;
  working = subst (λ givers. IsWorking plan sources givers (set_of work.log))
      (sym (append-nil work.agenda.givers)) working;
}

-- the turn ends when all conclusions have come
pub turn_ends : (plan : Plan) (sources : Sources) (giver : Giver) (start now : Work) (all : List Conclusion)
    → WasFound plan sources start giver all → IsTurning plan sources giver start now (length all)
    → HasGoneOn plan sources giver start now
turn_ends plan sources giver start now all was turning = record {
  going = nobody_beside plan sources now turning.going.of turning.going.accepted (by all was turning.so_far);
  grown = (turning.more, turning.grown);
  spends = turning.spends;
  fewer = turning.fewer;
  calm = turning.calm;
}
  where
    quiet : found_from plan sources (seen_by start.log) giver ≡ concluding []
        → is_quiet plan sources (set_of start.log) giver ≡ true
    quiet none =
        ap is_silent (sym (found_is_given plan sources (seen_by start.log) giver) ∙ ap given_of none)

    by : (all : List Conclusion) → WasFound plan sources start giver all
        → SoFar plan sources giver start now (length all)
        → IsWorking plan sources now.agenda.givers (set_of now.log)
    by [] none same =
        quiet_may_leave plan sources now.agenda.givers (set_of now.log) giver turning.going.working
        (ap (λ w. is_quiet plan sources (set_of w.log) giver) same ∙ quiet none)
    by (c ∷ more) some waits =
        elim (or_cases (has same_giver now.agenda.givers giver) (is_quiet plan sources (set_of now.log) giver) waits) [
          | inl on ↦
              agendas_may_grow plan sources (now.agenda.givers ++ giver ∷ []) now.agenda.givers (set_of now.log)
              turning.going.working (within_one now.agenda.givers giver on)
          | inr silent ↦
              quiet_may_leave plan sources now.agenda.givers (set_of now.log) giver turning.going.working silent
        ]
