-- That `conflict` blames whom the status named.
use Rattle.std.specs.Prelude.{◌≡◌, ℕ, List}
use Rattle.vc_plan.specs.declared.atoms.Clash.{Clash}
use Rattle.vc_plan.specs.declared.plans.Plan.{Plan}
use Rattle.vc_plan.specs.declared.shown.Status.{Status}
use Rattle.vc_plan.specs.declared.shown.Status.TheVariants.{Contradiction}
use Rattle.vc_plan_users.specs.Choosing.{Chosen}
use Rattle.vc_wire_replies.specs.declared.reply.Reply.TheVariants.{Clashed, Done}
use Rattle.vc_desk_session.specs.Reasons.{AsksSession, Conflict}
use Rattle.vc_desk.specs.Editing.{Becomes}
use Rattle.vc_desk.specs.States.{OpenSessions, standing_in}

-- where a session was opened, edited or loaded and stands as it stood then, a clash blames whom that reply named
abbrev pub ConflictsBlameWhomTheStatusNamed : Type 0
ConflictsBlameWhomTheStatusNamed = (plan : Plan) (sessions next later : OpenSessions) (name : List ℕ) (chosen : Chosen)
    (status : Status) (clash : Clash) → Becomes plan sessions name chosen (Done status) next
    → standing_in later name ≡ standing_in next name
    → AsksSession plan Conflict (standing_in later name) (Clashed clash) → status ≡ Contradiction clash.culprit
