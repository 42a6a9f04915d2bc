use Rattle.vc_rule_premises.proofs.SayingLaws.{room_suffices}
use Rattle.vc_rule_premises.proofs.laws.room_suffices.Goals as goal

pub returns : goal.returns
returns c = room_suffices
