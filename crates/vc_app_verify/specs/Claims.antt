-- What is read for `verify`: the model with its tables, and then the chain file.
use Rattle.std.specs.Prelude.{ℕ, ◌≤◌, List, length, Option}
use Rattle.vc_outside.specs.Shelves.{Files, Holds}
use Rattle.vc_outside.specs.declared.file.TheConstants.{FILE_LIMIT}
use Rattle.vc_plan.specs.declared.plans.Plan.{Plan}
use Rattle.vc_app_models.specs.Loading.{IsPlanIn, IsStop, IsUnread}
use Rattle.vc_app_verify.specs.declared.claims.Claim.{Claim}
use Rattle.vc_app_verify.specs.declared.claims.Stop.{Stop}
use Rattle.vc_app_verify.specs.declared.claims.Stop.TheVariants as stops

-- the files, where they are told, hold a model with its tables that has the claim's plan, and the chain file of its
-- text
pub record IsClaim (files : Option Files) (model chain : List ℕ) (claim : Claim) : Type 0 where
  pub loads : IsPlanIn files model claim.plan
  pub held : Holds files chain claim.text
  pub small : length claim.text ≤ FILE_LIMIT

-- why there is no claim: the model has no plan; or it has one, and the chain file wasn't read
abbrev pub IsNoClaim : Option Files → ℕ → ℕ → List ℕ → List ℕ → Stop → Type 0
IsNoClaim files before after model chain (stops.Model stop) = IsStop files before after model stop
IsNoClaim files before after model chain (stops.ChainUnread fault) =
    (plan : Plan) × IsPlanIn files model plan × IsUnread files before after chain fault
