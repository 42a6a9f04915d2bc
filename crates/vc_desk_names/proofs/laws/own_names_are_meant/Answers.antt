use Rattle.vc_desk_names.proofs.MeantLaws.{own_names_are_meant}
use Rattle.vc_desk_names.proofs.laws.own_names_are_meant.Goals as goal

pub returns : goal.returns
returns c = own_names_are_meant
