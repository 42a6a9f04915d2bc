use Rattle.vc_net_places.proofs.PlaceLaws.Cells.{bounds_are_by_place, cells_are_apart, cells_end_at_total}
use Rattle.vc_net_places.proofs.PlaceLaws.Cells.{cells_suffice, places_are_in_order}
use Rattle.vc_net_places.proofs.laws.cells_suffice.Goals as goal

pub returns-clause-ordered : goal.returns-clause-ordered
returns-clause-ordered c = places_are_in_order

pub returns-clause-bounds : goal.returns-clause-bounds
returns-clause-bounds c = bounds_are_by_place

pub returns-clause-apart : goal.returns-clause-apart
returns-clause-apart c = cells_are_apart

pub returns-clause-ends : goal.returns-clause-ends
returns-clause-ends c = cells_end_at_total

pub returns-clause-all : goal.returns-clause-all
returns-clause-all c = cells_suffice
