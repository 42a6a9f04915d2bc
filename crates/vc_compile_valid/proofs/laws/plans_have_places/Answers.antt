use Rattle.vc_compile_valid.proofs.PlaceLaws.{has_places}
use Rattle.vc_compile_valid.proofs.laws.plans_have_places.Goals as goal

pub returns : goal.returns
returns c = has_places
