-- For which variables sources may differ.
use Rattle.std.specs.Prelude.{◌≡◌, ℕ, true, List, nat_eq, slice_get}
use Rattle.vc_base.specs.Sets.{has}
use Rattle.vc_plan.specs.declared.plans.Plan.{Plan}
use Rattle.vc_plan_reasons.specs.Fitting.{procedure_writes}
pub use Rattle.vc_net_going.specs.Differing.{SameBeside}

-- each variable that a statement of the plan writes is among these
abbrev pub AreAllWritten : Plan → List ℕ → Type 0
AreAllWritten plan vars = (v p n : ℕ) → procedure_writes plan v n (slice_get plan.procedures p) ≡ true
    → has nat_eq vars v ≡ true
