use Rattle.vc_desk_shown.proofs.ShownLaws.{standings_have_one_status}
use Rattle.vc_desk_shown.proofs.laws.standings_have_one_status.Goals as goal

pub returns : goal.returns
returns c = standings_have_one_status
