use Rattle.vc_net_sources.proofs.RoomLaws.{grains_fit_places}
use Rattle.vc_net_sources.proofs.laws.grains_fit_places.Goals as goal

pub returns : goal.returns
returns c = grains_fit_places
