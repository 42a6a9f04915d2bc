-- Nets that follow, from stage to stage.
use Rattle.std.proofs.Common.{◌≡◌, ℕ, ◌<◌, ◌≤◌, List, sym, ◌∙◌, subst, arith}
use Rattle.std.specs.Prelude.{Option, slice_get}
use Rattle.vc_value.specs.declared.value.Value.{Value}
use Rattle.vc_net.specs.Differing.{SameBeside}
use Rattle.vc_net.specs.Nets.{Netted}
use Rattle.vc_session_evaluation.specs.Costing.{nets_asked}
use Rattle.vc_session_evaluation.specs.Following.{DifferAt, FollowBeside, FollowsBeside}
use Rattle.vc_session_evaluation.specs.declared.stages.Stages.{Stages}
use Rattle.vc_session_evaluation.proofs.ListLemmas.{StayFrom}

-- the net of a stage that stayed follows as it did
pub follows_on : (vars : List ℕ) (values : List (Option Value)) (n k stage : ℕ) (olds nets : List Netted)
    → FollowBeside vars values n olds → StayFrom k olds nets → k ≤ stage → FollowsBeside vars values n nets stage
follows_on vars values n k stage olds nets follow stay later net below at =
    follow stage net below (sym (stay stage later) ∙ at)

-- nets that have the user's values of the last evaluation follow
pub all_follow : (vars : List ℕ) (stages : Stages) (values : List (Option Value)) (n : ℕ) (nets : List Netted)
    → DifferAt vars stages values → n ≡ nets_asked stages.nets.items stages.broken → nets ≡ stages.nets.items
    → FollowBeside vars values n nets
all_follow vars stages values n nets differ is same k net below at =
    let asked : k < nets_asked stages.nets.items stages.broken = omega (arith, below, is) in
    subst (λ own. SameBeside vars own values)
    (sym (differ.taken.nets k net asked (sym (get same) ∙ at))) differ.same
  where
    get : nets ≡ stages.nets.items → slice_get nets k ≡ slice_get stages.nets.items k
    get e = let f : List Netted → Option Netted = λ all. slice_get all k in λ j. f (e j)
