use Rattle.vc_net_standing.proofs.FreeLaws.{new_atoms_are_free}
use Rattle.vc_net_standing.proofs.laws.new_atoms_are_free.Goals as goal

pub returns : goal.returns
returns c = new_atoms_are_free
