-- A log with other steps, and what was taken from one.
use Rattle.std.specs.Prelude.{◌≡◌, List, ◌++◌}
use Rattle.vc_base.specs.Sets.{Within}
use Rattle.vc_plan.specs.declared.atoms.Step.{Step}
use Rattle.vc_plan.specs.Seen.{same_atom}
use Rattle.vc_plan_reasons.specs.Checking.{concluded}
use Rattle.vc_net_standing.specs.declared.standing.Fact.{Fact}
use Rattle.vc_net_standing.specs.Standing.{atoms_of}
use Rattle.vc_net_log.specs.Logs.{Logged, facts_of}

-- the log with these steps in place of its own
abbrev pub with_steps : Logged → List Step → Logged
with_steps log steps = record { index = log.index; begins = log.begins; steps = steps }

-- the facts were those of the last steps; all in front of them still are concluded
pub record WereTaken (old new : List Step) (taken : List Fact) : Type 0 where
  pub front : List Fact
  pub split : facts_of old ≡ front ++ taken
  pub stayed : Within same_atom (atoms_of front) (concluded new)
