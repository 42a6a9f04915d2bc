-- What an evaluation costs: nets of its stages go on one after the other, each within its work, and later ones stay.
use Rattle.std.specs.Prelude.{◌≡◌, ◌+◌, ◌≤◌, ℕ, zero, suc, ⊤, List, [], ◌∷◌, length, slice_get, slice_set, Option, None}
use Rattle.std.specs.Prelude.{Some}
use Rattle.std.specs.List.{AllByRecursion}
use Rattle.vc_plan.specs.declared.atoms.Atom.{Atom}
use Rattle.vc_plan.specs.declared.plans.Plan.{Plan}
use Rattle.vc_plan.specs.Entries.{Entries}
use Rattle.vc_plan.specs.Evaluate.{Users, sources_of}
use Rattle.vc_plan.specs.Sources.{Sources}
use Rattle.vc_plan_reasons.specs.Keeping.{kept_of}
use Rattle.vc_plan_reasons.specs.Things.{Thing}
use Rattle.vc_plan_reasons.specs.Work.{work_of}
use Rattle.vc_net.specs.Costing.{CostsItsWork, IsBehind, left_undone, to_do}
use Rattle.vc_net.specs.Nets.{Netted}
use Rattle.vc_net_going.specs.Going.{BeginsWith}
use Rattle.vc_net_laws.specs.Wakings.{things_of}
use Rattle.vc_session_stages.specs.Stages.{ComesTo}
use Rattle.vc_session_evaluation.specs.declared.stages.Stages.{Stages}

-- a net has gone on with these sources: its log begins with what is kept, and its evaluations are within its work
pub record HasSynced (plan : Plan) (sources : Sources) (old new : Netted) (before after : ℕ) : Type 0 where
  pub has : new.sources ≡ sources
  pub kept : BeginsWith (kept_of old.sources sources old.work.log.steps) new.work.log.steps
  pub cost : CostsItsWork plan old new before after

-- the net of a stage has, with the user's values and what was written
pub record SyncsAt (plan : Plan) (users : Users) (stage : ℕ) (old new : Stages) (before after : ℕ) : Type 0 where
  pub was : Netted
  pub there : slice_get old.nets.items stage ≡ Some was
  pub net : Netted
  pub nets : new.nets.items ≡ slice_set old.nets.items stage net
  pub synced : HasSynced plan (sources_of users old.overlay) was net before after

-- the sources are those of the evaluation for the stage of this number
abbrev pub AreOfStage : Plan → Users → ℕ → Sources → Type 0
AreOfStage plan users k sources = (sets : List (List Atom)) × (entries : Entries) × ComesTo plan users k sets entries
    × (sources ≡ sources_of users entries)

-- from the stage of this number on so many nets have gone on with the sources of their stages, each once and in order;
-- those after them are as they were
abbrev pub GoOn : Plan → Users → ℕ → ℕ → List Netted → List Netted → ℕ → ℕ → Type 0
GoOn plan users k zero olds news before after = (news ≡ olds) × (after ≡ before)
GoOn plan users k (suc n) [] news before after = ⊥
GoOn plan users k (suc n) (old ∷ olds) [] before after = ⊥
GoOn plan users k (suc n) (old ∷ olds) (new ∷ news) before after = (between : ℕ)
    × AreOfStage plan users k new.sources × HasSynced plan new.sources old new before between
    × GoOn plan users (suc k) n olds news between after

-- how many nets go on: those up to the first that is broken, or all
abbrev pub nets_asked : List Netted → Option ℕ → ℕ
nets_asked nets None = length nets
nets_asked nets (Some k) = suc k

-- so an evaluation went, from one count of evaluations of rules to another
abbrev pub EvaluationCosts : Plan → Users → List Netted → Stages → ℕ → ℕ → Type 0
EvaluationCosts plan users olds new before after =
    GoOn plan users 0 (nets_asked new.nets.items new.broken) olds new.nets.items before after

-- all things of the plan are behind a net
pub record HasAllBehind (plan : Plan) (net : Netted) : Type 0 where
  pub all : IsBehind plan (things_of plan) net.work

-- what is behind each of the nets
abbrev pub AreBehind : Plan → List (List Thing) → List Netted → Type 0
AreBehind plan [] [] = ⊤
AreBehind plan [] (net ∷ nets) = ⊥
AreBehind plan (behind ∷ behinds) [] = ⊥
AreBehind plan (behind ∷ behinds) (net ∷ nets) = IsBehind plan behind net.work × AreBehind plan behinds nets

-- the work on what was to be done in the first so many nets; and what is behind each of all then
abbrev pub works_of : Plan → ℕ → List (List Thing) → List Netted → List Netted → ℕ
works_of plan zero behinds olds news = 0
works_of plan (suc n) [] olds news = 0
works_of plan (suc n) (behind ∷ behinds) [] news = 0
works_of plan (suc n) (behind ∷ behinds) (old ∷ olds) [] = 0
works_of plan (suc n) (behind ∷ behinds) (old ∷ olds) (new ∷ news) =
    work_of plan (to_do plan behind old.sources new.sources) + works_of plan n behinds olds news

abbrev pub left_behind : Plan → ℕ → List (List Thing) → List Netted → List Netted → List (List Thing)
left_behind plan zero behinds olds news = behinds
left_behind plan (suc n) [] olds news = []
left_behind plan (suc n) (behind ∷ behinds) [] news = behind ∷ behinds
left_behind plan (suc n) (behind ∷ behinds) (old ∷ olds) [] = behind ∷ behinds
left_behind plan (suc n) (behind ∷ behinds) (old ∷ olds) (new ∷ news) =
    left_undone new.work.breaker.culprit (to_do plan behind old.sources new.sources)
    ∷ left_behind plan n behinds olds news

-- whatever was behind each net: the evaluations are no more than these works together
abbrev pub NetsCostTheirWorks : Type 0
NetsCostTheirWorks = (plan : Plan) (users : Users) (k n : ℕ) (olds news : List Netted) (before after : ℕ)
    → GoOn plan users k n olds news before after
    → (behinds : List (List Thing)) → AreBehind plan behinds olds
    → AreBehind plan (left_behind plan n behinds olds news) news × (after ≤ before + works_of plan n behinds olds news)

-- so far behind are the nets after their first evaluation, of which the first so many were asked: all is behind those
-- that weren't, and one where something contradicts, and nothing is behind the others
abbrev pub behind_at_start : Plan → ℕ → List Netted → List (List Thing)
behind_at_start plan zero [] = []
behind_at_start plan zero (net ∷ nets) = things_of plan ∷ behind_at_start plan zero nets
behind_at_start plan (suc n) [] = []
behind_at_start plan (suc n) (net ∷ nets) =
    left_undone net.work.breaker.culprit (things_of plan) ∷ behind_at_start plan n nets

abbrev pub NetsStartBehind : Type 0
NetsStartBehind = (plan : Plan) (users : Users) (k n : ℕ) (olds news : List Netted) (before after : ℕ)
    → GoOn plan users k n olds news before after → AllByRecursion (HasAllBehind plan) olds
    → AreBehind plan (behind_at_start plan n news) news
