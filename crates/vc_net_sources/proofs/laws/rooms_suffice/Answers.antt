use Rattle.vc_net_sources.proofs.RoomLaws.{rooms_suffice}
use Rattle.vc_net_sources.proofs.laws.rooms_suffice.Goals as goal

pub returns : goal.returns
returns c = rooms_suffice
