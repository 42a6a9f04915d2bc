-- The law is proved over the definitions.
use Rattle.vc_value.proofs.NumeralLaws.{printed_read}
use Rattle.vc_value.proofs.numeral.printed_is_read.Goals as goal

pub returns : goal.returns
returns c = printed_read
