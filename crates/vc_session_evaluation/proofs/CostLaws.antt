-- The nets of an evaluation go on one after the other, and cost their works together.
use Rattle.std.proofs.Common.{◌≡◌, ℕ, zero, suc, ◌+◌, ◌<◌, ◌≤◌, List, [], ◌∷◌, refl, sym, ap, ◌∙◌, subst, arith}
use Rattle.std.specs.Prelude.{Some, slice_get, slice_set}
use Rattle.vc_plan.specs.declared.plans.Plan.{Plan}
use Rattle.vc_plan.specs.Evaluate.{Users}
use Rattle.vc_plan.specs.Sources.{Sources}
use Rattle.vc_plan.specs.Writes.{last_stage}
use Rattle.vc_net.specs.Nets.{Netted}
use Rattle.vc_session_stages.specs.Stages.{ComesTo}
use Rattle.vc_session_evaluation.specs.Costing.{AreBehind, AreOfStage, GoOn, HasSynced, NetsCostTheirWorks, SyncsAt}
use Rattle.vc_session_evaluation.specs.declared.stages.Stages.{Stages}
use Rattle.vc_session_evaluation.proofs.GoingLaws.{IsAt, count}

-- one net more goes on
pub net_next : (plan : Plan) (users : Users) (k s : ℕ) (olds nets : List Netted) (was net : Netted)
    (before between after : ℕ) → GoOn plan users k s olds nets before between → slice_get nets s ≡ Some was
    → AreOfStage plan users (k + s) net.sources → HasSynced plan net.sources was net between after
    → GoOn plan users k (suc s) olds (slice_set nets s net) before after
net_next plan users k zero olds [] was net before between after so_far there sources synced = absurd (cc there)
net_next plan users k zero olds (x ∷ xs) was net before between after so_far there sources synced =
    let same : was ≡ x = cc there in
    let first : k + zero ≡ k = omega arith in
    subst (λ os. GoOn plan users k 1 os (net ∷ xs) before after) so_far.0 (
      after,
      subst (λ n. AreOfStage plan users n net.sources) first sources,
      subst (λ b. HasSynced plan net.sources x net b after) so_far.1
          (subst (λ o. HasSynced plan net.sources o net between after) same synced),
      (refl, refl),
    )
net_next plan users k (suc s) [] nets was net before between after so_far there sources synced = absurd so_far
net_next plan users k (suc s) (old ∷ olds) [] was net before between after so_far there sources synced = absurd so_far
net_next plan users k (suc s) (old ∷ olds) (x ∷ xs) was net before between after so_far there sources synced =
    let next : k + suc s ≡ suc k + s = omega arith in (
      so_far.0,
      so_far.1,
      so_far.2,
      net_next plan users (suc k) s olds xs was net so_far.0 between after so_far.3 there
          (subst (λ n. AreOfStage plan users n net.sources) next sources) synced,
    )

-- the net of a stage goes on after those before it
pub stage_next : (plan : Plan) (users : Users) (k : ℕ) (olds : List Netted) (old new : Stages)
    (before between after : ℕ) → k ≤ last_stage plan → IsAt plan users old k
    → GoOn plan users 0 k olds old.nets.items before between → SyncsAt plan users k old new between after
    → GoOn plan users 0 (suc k) olds new.nets.items before after
stage_next plan users k olds old new before between after below at so_far s =
    let comes : ComesTo plan users k at.settled.sets old.overlay
    = subst (λ n. ComesTo plan users n at.settled.sets old.overlay)
    (count plan users old k at below) at.settled.comes in
    let number : k ≡ 0 + k = omega arith in
    subst (λ nets. GoOn plan users 0 (suc k) olds nets before after) (sym s.nets)
    (net_next plan users 0 k olds old.nets.items s.was s.net before between after so_far s.there
    (subst (λ n. AreOfStage plan users n s.net.sources) number
    (at.settled.sets, old.overlay, comes, s.synced.has))
    (subst (λ (sources : Sources). HasSynced plan sources s.was s.net between after) (sym s.synced.has) s.synced))

pub nets_cost_their_works : NetsCostTheirWorks
nets_cost_their_works plan users k zero olds news before after g behinds are =
    let same = g.1 in (subst (AreBehind plan behinds) (sym g.0) are, omega (arith, same))
nets_cost_their_works plan users k (suc n) [] news before after g behinds are = absurd g
nets_cost_their_works plan users k (suc n) (old ∷ olds) [] before after g behinds are = absurd g
nets_cost_their_works plan users k (suc n) (old ∷ olds) (new ∷ news) before after g [] are = absurd are
nets_cost_their_works plan users k (suc n) (old ∷ olds) (new ∷ news) before after g (behind ∷ behinds) are =
    let one = g.2.cost behind are.0 in
    let first = one.1 in
    let more = nets_cost_their_works plan users (suc k) n olds news g.0 after g.3 behinds are.1 in
    let rest = more.1 in
    ((one.0, more.0), omega (arith, first, rest))

-- nets that went on have the user's values
pub took : (plan : Plan) (users : Users) (k n : ℕ) (olds news : List Netted) (before after : ℕ)
    → GoOn plan users k n olds news before after → (i : ℕ) (net : Netted) → i < n → slice_get news i ≡ Some net
    → net.sources.user ≡ users.values
took plan users k zero olds news before after g i net below at = absurd (omega (arith, below))
took plan users k (suc n) [] news before after g i net below at = absurd g
took plan users k (suc n) (old ∷ olds) [] before after g i net below at = absurd g
took plan users k (suc n) (old ∷ olds) (new ∷ news) before after g zero net below at =
    let same : net ≡ new = cc at in
    ap (λ (n : Netted). n.sources.user) same ∙ ap (λ (s : Sources). s.user) g.1.3
took plan users k (suc n) (old ∷ olds) (new ∷ news) before after g (suc i) net below at =
    took plan users (suc k) n olds news g.0 after g.3 i net (omega (arith, below)) at
