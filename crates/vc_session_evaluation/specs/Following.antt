-- Which nets have the user's values of the last evaluation.
use Rattle.std.specs.Prelude.{◌≡◌, ◌<◌, ℕ, List, slice_get, Option, Some}
use Rattle.vc_value.specs.declared.value.Value.{Value}
use Rattle.vc_net.specs.Differing.{SameBeside}
use Rattle.vc_net.specs.Nets.{Netted}
use Rattle.vc_session_evaluation.specs.Costing.{nets_asked}
use Rattle.vc_session_evaluation.specs.Writing.{IsBlankBeside}
use Rattle.vc_session_evaluation.specs.declared.stages.Stages.{Stages}

-- the net of a stage, if it is one of the first so many, has the user's values but for those of these variables
abbrev pub FollowsBeside : List ℕ → List (Option Value) → ℕ → List Netted → ℕ → Type 0
FollowsBeside vars values n nets k =
    (net : Netted) → k < n → slice_get nets k ≡ Some net → SameBeside vars net.sources.user values

-- so do all of these
abbrev pub FollowBeside : List ℕ → List (Option Value) → ℕ → List Netted → Type 0
FollowBeside vars values n nets = (k : ℕ) → FollowsBeside vars values n nets k

-- these are the user's values of the last evaluation: those that the nets have which went on; and nothing was written
-- but what statements write
pub record HaveTaken (values : List (Option Value)) (stages : Stages) : Type 0 where
  pub sources : stages.sources.user ≡ values
  pub nets : (k : ℕ) (net : Netted) → k < nets_asked stages.nets.items stages.broken
      → slice_get stages.nets.items k ≡ Some net → net.sources.user ≡ values
  pub blank : IsBlankBeside stages.written stages.overlay

-- the user's values differ from those of the last evaluation for these variables at most
pub record DifferAt (vars : List ℕ) (stages : Stages) (values : List (Option Value)) : Type 0 where
  pub before : List (Option Value)
  pub taken : HaveTaken before stages
  pub same : SameBeside vars before values
