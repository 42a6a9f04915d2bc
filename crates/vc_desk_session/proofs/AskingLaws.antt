-- What a session has at the end is what the evaluation of what is chosen reaches.
use Rattle.std.proofs.Common.{◌≡◌, ◌<◌, ◌≤◌, ◌^◌, ℕ, sym, ap, ◌∙◌, subst, arith}
use Rattle.std.specs.Prelude.{None, Some}
use Rattle.std.proofs.lemmas.Bool.{leb-true}
use Rattle.vc_plan.specs.declared.plans.Plan.{Plan}
use Rattle.vc_plan.specs.Domains.{atom_count}
use Rattle.vc_plan.specs.Evaluate.{evaluation_of}
use Rattle.vc_plan.specs.Valid.{IsValid}
use Rattle.vc_plan_users.specs.Choosing.{users_of}
use Rattle.vc_session_evaluation.specs.Evaluating.{EndsAt, HasBroken}
use Rattle.vc_session.specs.Sessions.{IsSessionOf, Opened, last_seen}
use Rattle.vc_desk_shown.proofs.ShownLaws.{settled_sessions_reach}
use Rattle.vc_desk_session.specs.Reasons.{value_after}

pub value_nowhere : (plan : Plan) (session : Opened) (k v : ℕ) → IsSessionOf plan session
    → session.stages.broken ≡ Some k → None ≡ value_after plan (evaluation_of plan (users_of session.users)) v
value_nowhere plan session k v of e =
    let users = users_of session.users in
    let ends : HasBroken plan users session.stages k = subst (EndsAt plan users session.stages) e of.evaluated in
    ap (λ evaluated. value_after plan evaluated v) (sym ends.breaks)

pub value_there : (plan : Plan) (session : Opened) (v : ℕ) → IsValid plan → IsSessionOf plan session
    → session.stages.broken ≡ None
    → (last_seen session.stages).value v ≡ value_after plan (evaluation_of plan (users_of session.users)) v
value_there plan session v valid of e =
    let reached = settled_sessions_reach plan session valid of e in
    ap (λ seen. seen.value v) reached.seen ∙ ap (λ evaluated. value_after plan evaluated v) (sym reached.whole)

pub few_atoms : (plan : Plan) → IsValid plan → atom_count plan < 2 ^ 32
few_atoms plan valid =
    let few : atom_count plan ≤ 40_000 = leb-true (atom_count plan) 40_000 valid.atom_limit in omega (arith, few)
