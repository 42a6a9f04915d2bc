use Rattle.vc_rule.proofs.BoundLaws.{found_is_few, found_fits_places}
use Rattle.vc_rule.proofs.laws.found_is_few.Goals as goal

pub returns-clause-rule : goal.returns-clause-rule
returns-clause-rule c = found_is_few

pub returns-clause-places : goal.returns-clause-places
returns-clause-places c = found_fits_places
