use Rattle.vc_wire_chains.proofs.FaultLaws.{first_fault}
use Rattle.vc_wire_chains.proofs.laws.first_fault_is_told.Goals as goal

pub returns : goal.returns
returns c = first_fault
