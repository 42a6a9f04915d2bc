-- What a session tells of its reasons: of the net of the last stage, or of that which is broken.
use Rattle.std.specs.Prelude.{◌<◌, ◌^◌, ℕ, List, length, option_map, pred, slice_get, Option, None, Some}
use Rattle.vc_plan.specs.declared.atoms.Atom.{Atom}
use Rattle.vc_plan.specs.declared.atoms.Clash.{Clash}
use Rattle.vc_plan.specs.declared.atoms.Culprit.{Culprit}
use Rattle.vc_plan.specs.declared.atoms.Step.{Step}
use Rattle.vc_plan_reasons.specs.Trimming.{trimmed_clash}
use Rattle.vc_net.specs.Ending.{clash_of}
use Rattle.vc_net.specs.Nets.{Netted}
use Rattle.vc_net_chains.specs.Telling.{chain_in}
use Rattle.vc_session_evaluation.specs.declared.stages.Stages.{Stages}

-- the net of the last stage, if none is broken; and that of the stage that is, if one is
abbrev pub settled_by : List Netted → Option ℕ → Option Netted
settled_by nets None = slice_get nets (pred (length nets))
settled_by nets (Some k) = None

abbrev pub broken_by : List Netted → Option ℕ → Option Netted
broken_by nets None = None
broken_by nets (Some k) = slice_get nets k

abbrev pub settled_net : Stages → Option Netted
settled_net stages = settled_by stages.nets.items stages.broken

abbrev pub broken_net : Stages → Option Netted
broken_net stages = broken_by stages.nets.items stages.broken

-- its log has so few steps that numbers of 31 bits tell them
abbrev pub IsShort : Option Netted → Type 0
IsShort None = Unit {0}
IsShort (Some net) = length net.work.log.steps < 2 ^ 31

-- what such a net tells
abbrev pub chain_by : Option Netted → Atom → Option (List Step)
chain_by None atom = None
chain_by (Some net) atom = chain_in net.work.log.steps atom

abbrev pub log_by : Option Netted → Option (List Step)
log_by None = None
log_by (Some net) = Some net.work.log.steps

abbrev pub clash_by : Option Netted → Option Clash
clash_by None = None
clash_by (Some net) = option_map trimmed_clash (clash_of net.work)

-- whom a clash blames, if there is one
abbrev pub blamed_by : Option Clash → Option Culprit
blamed_by clash = option_map (λ c. c.culprit) clash
