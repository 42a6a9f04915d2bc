use Rattle.vc_desk_names.proofs.MeantLaws.{listed_may_be_given}
use Rattle.vc_desk_names.proofs.laws.listed_may_be_given.Goals as goal

pub returns : goal.returns
returns c = listed_may_be_given
