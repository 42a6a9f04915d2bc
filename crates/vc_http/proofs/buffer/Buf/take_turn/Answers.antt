-- Bytes that end before a message does are few; and what is behind a request for which memory was wanting.
use Rattle.vc_http.proofs.BoundLaws.{cut_is_short}
use Rattle.vc_http.proofs.TakingLaws.{judged_cut, judged_out}
use Rattle.vc_http.proofs.buffer.Buf.take_turn.Goals as goal

pub returns-in-Cut-clause-short : goal.returns-in-Cut-clause-short
returns-in-Cut-clause-short c = cut_is_short c.args.self.now (judged_cut c.args.self.now c.in-Cut.ensures)

pub returns-in-OutOfMemory-clause-some : goal.returns-in-OutOfMemory-clause-some
returns-in-OutOfMemory-clause-some c =
    judged_out c.args.self.now c.take_front-in-OutOfMemory.new.self c.in-OutOfMemory.size c.in-OutOfMemory.ensures
    c.take_front-in-OutOfMemory.ensures.rest
