use Rattle.vc_wire_requests.proofs.RequestLaws.{written_is_read}
use Rattle.vc_wire_requests.proofs.laws.written_is_read.Goals as goal

pub returns : goal.returns
returns c = written_is_read
