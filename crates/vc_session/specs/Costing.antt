-- What an edit costs.
use Rattle.std.specs.Prelude.{◌≡◌, ℕ, Result, Ok, Err}
use Rattle.vc_plan.specs.declared.plans.Plan.{Plan}
use Rattle.vc_plan_users.specs.Choosing.{users_of}
use Rattle.vc_session_evaluation.specs.Costing.{AreBehind, EvaluationCosts, behind_at_start, nets_asked}
use Rattle.vc_session.specs.Sessions.{Opened}

-- where it is made, the nets of the stages up to the first that is broken go on, once each and within their works;
-- where it isn't, the session stays as it is and no rule is evaluated
abbrev pub EditCosts : {F : Type 0} → Plan → Opened → Opened → Result Unit F → ℕ → ℕ → Type 0
EditCosts plan old new (Ok done) before after =
    EvaluationCosts plan (users_of new.users) old.stages.nets.items new.stages before after
EditCosts plan old new (Err fault) before after = (new ≡ old) × (after ≡ before)

-- nothing is behind the nets that settled at the start
abbrev pub HasStarted : Plan → Opened → Type 0
HasStarted plan session =
    AreBehind plan (behind_at_start plan (nets_asked session.stages.nets.items session.stages.broken)
    session.stages.nets.items) session.stages.nets.items
