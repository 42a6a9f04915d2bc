-- How many rules a net may ask when it goes on with other sources.
use Rattle.std.specs.Prelude.{◌+◌, ◌≤◌, ℕ, List, [], Option, None, Some}
use Rattle.vc_plan.specs.declared.atoms.Culprit.{Culprit}
use Rattle.vc_plan.specs.declared.plans.Plan.{Plan}
use Rattle.vc_plan_reasons.specs.Things.{Thing}
use Rattle.vc_plan_reasons.specs.Work.{work_of}
pub use Rattle.vc_net_going.specs.Behind.{IsBehind, to_do}
use Rattle.vc_net.specs.Nets.{Netted}

-- what is left undone of what is to be done: nothing where the net has settled, all where something contradicts
abbrev pub left_undone : Option Culprit → List Thing → List Thing
left_undone None things = []
left_undone (Some culprit) things = things

-- a net went on with other sources, and from one count of evaluations to another: whatever was behind, these are
-- within the work on what was to be done
abbrev pub CostsItsWork : Plan → Netted → Netted → ℕ → ℕ → Type 0
CostsItsWork plan old new before after = (behind : List Thing) → IsBehind plan behind old.work
    → IsBehind plan (left_undone new.work.breaker.culprit (to_do plan behind old.sources new.sources)) new.work
    × (after ≤ before + work_of plan (to_do plan behind old.sources new.sources))
