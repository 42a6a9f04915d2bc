-- A session tells the tally of the evaluation of what is chosen, and a choice that is taken back leaves none.
use Rattle.std.proofs.Common.{◌≡◌, ℕ, zero, suc, List, [], ◌∷◌, map, refl, sym, ap, ◌∙◌, subst, None, Some}
use Rattle.std.specs.Prelude.{slice_set}
use Rattle.vc_value.specs.declared.value.Value.{Value}
use Rattle.vc_plan.specs.declared.plans.Named.TheVariants.{Var}
use Rattle.vc_plan.specs.declared.plans.Plan.{Plan}
use Rattle.vc_plan.specs.Evaluate.{evaluation_of}
use Rattle.vc_plan.specs.Valid.{IsValid}
use Rattle.vc_plan_users.specs.Choosing.{Chosen, none_chosen, users_of}
use Rattle.vc_session_evaluation.specs.Evaluating.{EndsAt, HasBroken}
use Rattle.vc_session.specs.Edits.{taken}
use Rattle.vc_session.specs.Sessions.{IsSessionOf, Opened, last_seen}
use Rattle.vc_desk_shown.proofs.ShownLaws.{settled_sessions_reach}
use Rattle.vc_app_gen.specs.Tallies.{chosen_alone, no_tally, tally_after, tally_seen}

pub tally_broken : (plan : Plan) (session : Opened) (k : ℕ) → IsSessionOf plan session
    → session.stages.broken ≡ Some k → no_tally ≡ tally_after plan (evaluation_of plan (users_of session.users))
tally_broken plan session k of e =
    let users = users_of session.users in
    let ends : HasBroken plan users session.stages k = subst (EndsAt plan users session.stages) e of.evaluated in
    ap (tally_after plan) (sym ends.breaks)

pub tally_settled : (plan : Plan) (session : Opened) → IsValid plan → IsSessionOf plan session
    → session.stages.broken ≡ None
    → tally_seen plan (last_seen session.stages) ≡ tally_after plan (evaluation_of plan (users_of session.users))
tally_settled plan session valid of e =
    let reached = settled_sessions_reach plan session valid of e in
    ap (tally_seen plan) reached.seen ∙ ap (tally_after plan) (sym reached.whole)

-- a place that is written and emptied again
set_back : {A B : Type 0} (xs : List A) (v : ℕ) (b : B)
    → slice_set (slice_set (slice_set (map (λ x. None) xs) v None) v (Some b)) v None ≡ map (λ x. None) xs
set_back [] v b = refl
set_back (x ∷ xs) zero b = refl
set_back (x ∷ xs) (suc v) b = ap (λ ys. None ∷ ys) (set_back xs v b)

pub taken_back : (plan : Plan) (v : ℕ) (a : Value) → taken (chosen_alone plan v a) (Var v) ≡ none_chosen plan
taken_back plan v a =
    ap (λ values. let chosen : Chosen = record { values = values; sets = (none_chosen plan).sets } in chosen)
    (set_back plan.vars v a)
