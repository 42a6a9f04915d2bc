-- What a session says is what the evaluation of the user's values reaches, and what it blames refutes. So it has one
-- status.
use Rattle.std.proofs.Common.{◌≡◌, ℕ, Bool, List, [], ◌∷◌, length, map, refl, sym, ap, ◌∙◌, subst}
use Rattle.std.specs.Prelude.{Option, None, Some, Result, Ok, Err, IfOk}
use Rattle.vc_plan.specs.declared.atoms.Clash.{Clash}
use Rattle.vc_plan.specs.declared.atoms.Culprit.{Culprit}
use Rattle.vc_plan.specs.declared.atoms.Outcome.{Outcome}
use Rattle.vc_plan.specs.declared.atoms.Outcome.TheVariants as outcomes
use Rattle.vc_plan.specs.declared.plans.Plan.{Plan}
use Rattle.vc_plan.specs.declared.shown.Status.{Status}
use Rattle.vc_plan.specs.declared.shown.Status.TheVariants.{Contradiction}
use Rattle.vc_plan.specs.Domains.{numbers_below}
use Rattle.vc_plan.specs.Evaluate.{Evaluated, Users, broken_at, evaluation_of, holds, is_late, last_set, reached}
use Rattle.vc_plan.specs.Readings.{full_reading}
use Rattle.vc_plan.specs.Seen.{seen_of}
use Rattle.vc_plan.specs.Bills.{bill_of, routing_of}
use Rattle.vc_plan.specs.Shown.{bill, bill_after, reading_of, routing, routing_after}
use Rattle.vc_plan.specs.Showing.{settled_status}
use Rattle.vc_plan.specs.Valid.{IsValid}
use Rattle.vc_plan.specs.Writes.{last_stage}
use Rattle.vc_plan.proofs.StageProofs.LastStage.{last_stage_settles}
use Rattle.vc_plan_reasons.specs.Blaming.{IsStatusAfter}
use Rattle.vc_plan_users.specs.Choosing.{users_of}
use Rattle.vc_plan_values.specs.Computing.{LiesInGrains}
use Rattle.vc_net.specs.Ending.{clash_of}
use Rattle.vc_net.specs.Nets.{Netted, outcome_by}
use Rattle.vc_session_stages.specs.Stages.{is_late_seen, seen_at}
use Rattle.vc_session_stages.proofs.StageLaws.{late_is_seen, said_at}
use Rattle.vc_session_evaluation.specs.Evaluating.{EndsAt, HasBroken, HasEnded}
use Rattle.vc_session_evaluation.proofs.GoingLaws.{settled_lies}
use Rattle.vc_session_evaluation.proofs.OnceLaws.{last_said}
use Rattle.vc_session.specs.Sessions.{IsSessionOf, Opened, last_seen, outcome_at, outcome_of, seen_in}
use Rattle.vc_desk_shown.specs.Laws.{SettledSessionsReach, StandingsHaveOneStatus}
use Rattle.vc_desk_shown.specs.Shown.{chosen_text, instances_text, shown, shown_after}
use Rattle.vc_desk_shown.specs.Standing.{StandsAs, TellsOutcome, standing_of}

same_flags : (f g : ℕ → Bool) → ((i : ℕ) → f i ≡ g i) → (numbers : List ℕ) → map f numbers ≡ map g numbers
same_flags f g same [] = refl
same_flags f g same (i ∷ numbers) = λ j. same i j ∷ same_flags f g same numbers j

pub settled_sessions_reach : SettledSessionsReach
settled_sessions_reach plan session valid of calm =
    let stages = session.stages in
    let users = users_of session.users in
    let ended : HasEnded plan users stages = subst (EndsAt plan users stages) calm of.evaluated in
    let all = ended.settled in
    let says : last_seen stages ≡ seen_of (last_set plan all.sets) =
    ap seen_in ended.its ∙ sym (last_said plan stages ended.net of.stages ended.its)
    ∙ ap (λ seen. seen_at seen (last_stage plan)) (sym all.seen)
    ∙ said_at all.sets (last_stage plan) in
    record {
      sets = all.sets;
      whole = all.whole;
      seen = says;
      lies = subst (LiesInGrains plan) (sym says)
          (settled_lies plan users stages.overlay (last_set plan all.sets) valid
          (last_stage_settles plan users all.sets stages.overlay all.whole));
      late = ended.late
          ∙ ap (λ seen. map (is_late_seen plan seen) (numbers_below (length plan.slots))) (sym all.seen)
          ∙ same_flags (is_late_seen plan (map seen_of all.sets)) (is_late plan all.sets)
          (λ i. sym (late_is_seen plan all.sets i))
          (numbers_below (length plan.slots));
    }

-- whom the outcome blames is one, and where it blames nobody the status is read off what is reached
one_status : (plan : Plan) (users : Users) (evaluated : Evaluated) (outcome : Outcome) (one other : Status)
    → IsStatusAfter plan users evaluated one → TellsOutcome evaluated outcome one
    → IsStatusAfter plan users evaluated other → TellsOutcome evaluated outcome other → one ≡ other
one_status plan users (broken_at k entries) outcome one other is tells is_too tells_too =
    let both : outcomes.Broken tells.0 ≡ outcomes.Broken tells_too.0 = sym tells.1 ∙ tells_too.1 in
    let same : tells.0 ≡ tells_too.0 = cc in
    tells.2 ∙ ap Contradiction same ∙ sym tells_too.2
one_status plan users (reached sets entries) outcome one other is tells is_too tells_too = is ∙ sym is_too

pub standings_have_one_status : StandingsHaveOneStatus
standings_have_one_status plan standing one other first second =
    let users = users_of standing.chosen in
    one_status plan users (evaluation_of plan users) standing.outcome one other first.is first.tells second.is
    second.tells

-- whom a broken session blames
blamed_at : (net : Netted) (clash : Clash) (culprit : Culprit) → clash_of net.work ≡ Some clash
    → outcome_by net.work.breaker.culprit ≡ outcomes.Broken culprit → clash.culprit ≡ culprit
blamed_at net clash culprit kept out = by net.work.breaker.culprit refl
  where
    by : (o : Option Culprit) → net.work.breaker.culprit ≡ o → clash.culprit ≡ culprit
    by None e = absurd (let none = sym (ap outcome_by e) ∙ out in cc)
    by (Some blamed) e = cc

-- what is answered without want of memory, by what it equals
pub if_ok_same : {A E : Type 0} (answer : Result A E) (x y : A) → x ≡ y → IfOk answer (λ a. a ≡ x)
    → IfOk answer (λ a. a ≡ y)
if_ok_same (Ok a) x y same is = is ∙ same
if_ok_same (Err e) x y same is = is

module _ (plan : Plan) (session : Opened) (of : IsSessionOf plan session) where
  pub blames : (culprit : Culprit) → outcome_of session.stages session.stages.broken ≡ outcomes.Broken culprit
      → StandsAs plan (standing_of session) (Contradiction culprit)
  blames culprit out = by session.stages.broken refl
    where
      users : Users
      users = users_of session.users

      by : (o : Option ℕ) → session.stages.broken ≡ o → StandsAs plan (standing_of session) (Contradiction culprit)
      by None e = absurd (let settled = sym (ap (outcome_of session.stages) e) ∙ out in cc)
      by (Some k) e =
          let ends : HasBroken plan users session.stages k = subst (EndsAt plan users session.stages) e of.evaluated in
          let out_at : outcome_by ends.net.work.breaker.culprit ≡ outcomes.Broken culprit =
          ap outcome_at (sym ends.its) ∙ sym (ap (outcome_of session.stages) e) ∙ out in
          record {
            is = subst (λ evaluated. IsStatusAfter plan users evaluated (Contradiction culprit)) (sym ends.breaks) (
              ends.refuted.clash,
              ends.refuted.refuting,
              ap Contradiction (sym (blamed_at ends.net ends.refuted.clash culprit ends.refuted.kept out_at)),
            );
            tells = subst (λ evaluated. TellsOutcome evaluated (standing_of session).outcome (Contradiction culprit))
                (sym ends.breaks) (culprit, out, refl);
          }

  -- a settled session has no broken stage
  pub calm : outcome_of session.stages session.stages.broken ≡ outcomes.Settled → session.stages.broken ≡ None
  calm out = by session.stages.broken refl
    where
      settled_net : (net : Netted) (clash : Clash) → clash_of net.work ≡ Some clash
          → outcome_by net.work.breaker.culprit ≡ outcomes.Settled → ⊥
      settled_net net clash kept out = by net.work.breaker.culprit refl
        where
          by : (o : Option Culprit) → net.work.breaker.culprit ≡ o → ⊥
          by None e = cc
          by (Some blamed) e = let broken = sym (ap outcome_by e) ∙ out in cc

      by : (o : Option ℕ) → session.stages.broken ≡ o → session.stages.broken ≡ None
      by None e = e
      by (Some k) e =
          let users = users_of session.users in
          let ends : HasBroken plan users session.stages k = subst (EndsAt plan users session.stages) e of.evaluated in
          absurd (settled_net ends.net ends.refuted.clash ends.refuted.kept
          (ap outcome_at (sym ends.its) ∙ sym (ap (outcome_of session.stages) e) ∙ out))

  pub reads : IsValid plan → (status : Status) → session.stages.broken ≡ None
      → status ≡ settled_status plan (last_seen session.stages)
      (full_reading plan (last_seen session.stages) (holds (users_of session.users)))
      → StandsAs plan (standing_of session) status
  reads valid status e is =
      let reached = settled_sessions_reach plan session valid of e in
      record {
        is = subst (λ evaluated. IsStatusAfter plan (users_of session.users) evaluated status) (sym reached.whole)
            (is ∙ ap (λ seen. settled_status plan seen (full_reading plan seen (holds (users_of session.users))))
            reached.seen);
        tells = subst (λ evaluated. TellsOutcome evaluated (standing_of session).outcome status) (sym reached.whole)
            (ap (outcome_of session.stages) e);
      }

  -- what is shown of it
  pub shows_instances : IsValid plan → session.stages.broken ≡ None
      → instances_text plan (users_of session.users) (last_seen session.stages) session.stages.overlay
      session.stages.late
      ≡ shown plan (users_of session.users)
  shows_instances valid e =
      let users = users_of session.users in
      let reached = settled_sessions_reach plan session valid of e in
      ap (λ seen. instances_text plan users seen session.stages.overlay session.stages.late) reached.seen
      ∙ ap (instances_text plan users (seen_of (last_set plan reached.sets)) session.stages.overlay) reached.late
      ∙ ap (shown_after plan users) (sym reached.whole)

  pub shows_chosen : (k : ℕ) → session.stages.broken ≡ Some k
      → chosen_text plan (users_of session.users) ≡ shown plan (users_of session.users)
  shows_chosen k e =
      let ends : HasBroken plan (users_of session.users) session.stages k =
      subst (EndsAt plan (users_of session.users) session.stages) e of.evaluated in
      ap (shown_after plan (users_of session.users)) (sym ends.breaks)

  -- and of its bill and routing
  pub bills : IsValid plan → session.stages.broken ≡ None
      → bill_of plan (last_seen session.stages) (reading_of plan (users_of session.users) (last_seen session.stages))
      ≡ bill plan (users_of session.users)
  bills valid e =
      let users = users_of session.users in
      let reached = settled_sessions_reach plan session valid of e in
      ap (λ seen. bill_of plan seen (reading_of plan users seen)) reached.seen
      ∙ ap (bill_after plan users) (sym reached.whole)

  pub routes : IsValid plan → session.stages.broken ≡ None
      → routing_of plan (last_seen session.stages) (reading_of plan (users_of session.users) (last_seen session.stages))
      ≡ routing plan (users_of session.users)
  routes valid e =
      let users = users_of session.users in
      let reached = settled_sessions_reach plan session valid of e in
      ap (λ seen. routing_of plan seen (reading_of plan users seen)) reached.seen
      ∙ ap (routing_after plan users) (sym reached.whole)
