use Rattle.vc_net_sources.proofs.GiverLaws.{clash_fits_cells, found_fits_cells}
use Rattle.vc_net_sources.proofs.laws.found_fits_cells.Goals as goal

pub returns-clause-conclusions : goal.returns-clause-conclusions
returns-clause-conclusions c = found_fits_cells

pub returns-clause-clashes : goal.returns-clause-clashes
returns-clause-clashes c = clash_fits_cells
