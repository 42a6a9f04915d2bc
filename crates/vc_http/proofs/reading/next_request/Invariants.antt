use Rattle.std.proofs.Common.{◌≡◌, ◌-◌, ◌≤◌, length}
use Rattle.vc_http_messages.specs.Laws.{IsSpelled}
use Rattle.vc_http_messages.specs.Messages.{Message, MessageOf}
use Rattle.vc_http.proofs.TurnLaws.{Got}
use Rattle.vc_http.proofs.reading.next_request.Given as goal

abbrev pub invariant-loop-turn : goal.invariant-loop-turn
invariant-loop-turn g l = record {
  got : Got l.fn.buffer (g.L.Link.left l.fn.link) l.buffer (g.L.Link.left l.link);
  kept : (message : Message) → MessageOf l.fn.buffer message → IsSpelled message → l.link ≡ l.fn.link;
  few : length l.fn.buffer ≤ 77824 → length l.buffer ≤ 77824;
  written : g.L.Link.written l.link ≡ g.L.Link.written l.fn.link;
  calm : g.L.Link.faults l.link ≡ g.L.Link.faults l.fn.link;
}

abbrev pub decreases-loop-turn : goal.decreases-loop-turn
decreases-loop-turn g l = 73728 - length l.buffer
