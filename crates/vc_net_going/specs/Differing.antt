-- For which variables sources may differ.
use Rattle.std.specs.Prelude.{◌≡◌, length}
use Rattle.vc_plan.specs.declared.plans.Plan.{Plan}
use Rattle.vc_plan.specs.Sources.{Sources}
pub use Rattle.vc_net_log.specs.Differing.{SameBeside}

-- the sources are of as many variables as the plan has
abbrev pub AreFor : Plan → Sources → Type 0
AreFor plan sources = (length sources.user ≡ length plan.vars) × (length sources.written ≡ length plan.vars)
