-- A clash blames whom the status of the session names.
use Rattle.std.proofs.Common.{◌≡◌, ◌∙◌, ℕ, List, ap, cond, subst, sym}
use Rattle.std.specs.Prelude.{Some}
use Rattle.std.specs.Cmp.Lexicographic.{nat_list_cmp_total}
use Rattle.std.specs.FinMap.{get, get-insert}
use Rattle.vc_outside.proofs.NameLaws.{name_itself}
use Rattle.vc_plan.specs.declared.atoms.Clash.{Clash}
use Rattle.vc_plan.specs.declared.atoms.Culprit.{Culprit}
use Rattle.vc_plan.specs.declared.atoms.Outcome.{Outcome}
use Rattle.vc_plan.specs.declared.atoms.Outcome.TheVariants.{Broken, Settled}
use Rattle.vc_plan.specs.declared.plans.Plan.{Plan}
use Rattle.vc_plan.specs.declared.shown.Status.{Status}
use Rattle.vc_plan.specs.declared.shown.Status.TheVariants.{Complete, Contradiction, Unfinished}
use Rattle.vc_plan.specs.Evaluate.{Evaluated, broken_at, evaluation_of, reached}
use Rattle.vc_plan_users.specs.Choosing.{users_of}
use Rattle.vc_wire_replies.specs.declared.reply.Reply.TheVariants.{Clashed}
use Rattle.vc_desk_shown.specs.Standing.{Standing, StandsAs, TellsOutcome}
use Rattle.vc_desk_session.specs.Reasons.{AsksSession, Conflict, Conflicts, clashes, exhausted, reply_without_clash}
use Rattle.vc_desk_session.specs.Reasons.{settled}
use Rattle.vc_desk.specs.Laws.{ConflictsBlameWhomTheStatusNamed}
use Rattle.vc_desk.specs.States.{OpenSessions, standing_in, with_session}

-- a status that tells of an outcome names whom the outcome blames
names_blamed : (evaluated : Evaluated) (outcome : Outcome) (status : Status) (culprit : Culprit)
    → TellsOutcome evaluated outcome status → outcome ≡ Broken culprit → status ≡ Contradiction culprit
names_blamed (broken_at k entries) outcome status culprit tells blames =
    let both : Broken tells.0 ≡ Broken culprit = sym tells.1 ∙ blames in
    let same : tells.0 ≡ culprit = cc in
    tells.2 ∙ ap Contradiction same
names_blamed (reached sets entries) outcome status culprit tells blames =
    absurd (let both : Settled ≡ Broken culprit = sym tells ∙ blames in cc)

-- a clash that is told is one that contradicts
no_clash : (status : Status) (clash : Clash) → Clashed clash ≡ reply_without_clash status → ⊥
no_clash Unfinished clash is = cc
no_clash Complete clash is = cc
no_clash (Contradiction culprit) clash is = cc

told_blames : (plan : Plan) (standing : Standing) (status : Status) (clash : Clash) → StandsAs plan standing status
    → Conflicts plan standing (Clashed clash) → status ≡ Contradiction clash.culprit
told_blames plan standing status clash stands (exhausted is) = absurd (cc)
told_blames plan standing status clash stands (clashes other explains blames is) =
    let same : clash ≡ other = cc in
    names_blamed (evaluation_of plan (users_of standing.chosen)) standing.outcome status clash.culprit stands.tells
    (blames ∙ ap (λ c. Broken c.culprit) (sym same))
told_blames plan standing status clash stands (settled other none told is) = absurd (no_clash other clash is)

-- the session of a name that was put
pub stands_there : (sessions : OpenSessions) (name : List ℕ) (standing : Standing)
    → standing_in (with_session sessions name standing) name ≡ Some standing
stands_there sessions name standing =
    get-insert nat_list_cmp_total sessions name standing name
    ∙ ap (λ b. cond b (Some standing) (get sessions name)) (name_itself name)

pub conflicts_blame : ConflictsBlameWhomTheStatusNamed
conflicts_blame plan sessions next later name chosen status clash becomes same asks =
    let standing = becomes.standing in
    let there : standing_in later name ≡ Some standing =
    same ∙ ap (λ s. standing_in s name) becomes.put ∙ stands_there sessions name standing in
    let named : status ≡ becomes.status = cc in
    named
    ∙ told_blames plan standing becomes.status clash becomes.stands
    (subst (λ o. AsksSession plan Conflict o (Clashed clash)) there asks)
