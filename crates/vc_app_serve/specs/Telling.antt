-- What is said where not all links were served: a line, and the exit status.
use Rattle.std.specs.Prelude.{◌≡◌, ℕ, List, codes, Option}
use Rattle.vc_app_models.specs.declared.stop.ModelStop.{ModelStop}
use Rattle.vc_app_models.specs.declared.stop.ModelStop.TheVariants as models
use Rattle.vc_app_check.specs.Checking.{IsSaid}
use Rattle.vc_app_check.specs.Lines as lines
use Rattle.vc_app_check.specs.Statuses as statuses
use Rattle.vc_app_serve.specs.declared.stop.Stop.{Stop}
use Rattle.vc_app_serve.specs.declared.stop.Stop.TheVariants as stops

-- why not all links were served
abbrev pub stop_line : List ℕ → Stop → List ℕ
stop_line model (stops.Model stop) = lines.stop_line model stop
stop_line model (stops.Keeper fault) = lines.keeper_line fault
stop_line model stops.OutOfMemory = lines.memory_line
stop_line model stops.Door = codes "door fault\n"

abbrev pub stop_status : Stop → ℕ
stop_status (stops.Model stop) = statuses.stop_status stop
stop_status (stops.Keeper fault) = statuses.keeper_status fault
stop_status stops.OutOfMemory = 8
stop_status stops.Door = 6

-- a stop is told as itself; that of a model, where there is no memory for its line, as want of memory
pub data IsToldAs (stop told : Stop) : Type 0 where
  itself : told ≡ stop → IsToldAs stop told
  exhausted : (of : ModelStop) → stop ≡ stops.Model of → told ≡ stops.Model models.OutOfMemory → IsToldAs stop told

-- what a stop is told as is said, and nothing else
pub record IsToldOf (model : List ℕ) (stop : Stop) (old new : Option (List ℕ)) (before after status : ℕ) : Type 0 where
  pub told : Stop
  pub as_told : IsToldAs stop told
  pub said : IsSaid old new before after (stop_line model told) (stop_status told) status
