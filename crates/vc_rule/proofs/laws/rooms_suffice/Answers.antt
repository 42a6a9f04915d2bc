use Rattle.vc_rule.proofs.RoomLaws.{rooms_suffice}
use Rattle.vc_rule.proofs.laws.rooms_suffice.Goals as goal

pub returns : goal.returns
returns c = rooms_suffice
