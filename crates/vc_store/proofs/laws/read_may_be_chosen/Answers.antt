-- The law is proved over the definitions, by that of what is meant.
use Rattle.vc_store.proofs.FittingLaws.{read_may_be_chosen}
use Rattle.vc_store.proofs.laws.read_may_be_chosen.Goals as goal

pub returns : goal.returns
returns c = read_may_be_chosen c.listed_may_be_given.ensures
