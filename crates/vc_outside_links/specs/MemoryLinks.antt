-- A link in memory.
use Rattle.std.specs.Prelude.{ℕ, List, length, min, drop, Result, Ok, Err, if◌then◌else◌}
use Rattle.vc_outside.specs.Faults.{next_fails}
use Rattle.vc_outside.specs.MemorySinks.{SinkState}
use Rattle.vc_outside.specs.MemorySinks as sinks
use Rattle.vc_outside.specs.declared.fault.Failed.{Failed}
use Rattle.vc_outside_links.specs.Counting.{with_counted}

-- what a link in memory is: the bytes left, how many one read gives at most, and the sink that is written to and counts
-- all calls
pub record LinkState : Type 0 where
  pub left : List ℕ
  pub piece : ℕ
  pub sink : SinkState

-- how many bytes are read to a buffer of this length
abbrev pub read_count : LinkState → ℕ → ℕ
read_count s room = min (length s.left) (min s.piece room)

-- how bytes are read: it fails where the next call is to fail, and nowhere else
abbrev pub read_answer : LinkState → ℕ → Result ℕ Failed
read_answer s room = if next_fails s.sink.calls then Err (record {}) else Ok (read_count s room)

abbrev pub with_read : LinkState → ℕ → LinkState
with_read s room = record {
  left = if next_fails s.sink.calls then s.left else drop (read_count s room) s.left;
  piece = s.piece;
  sink = with_counted s.sink;
}

-- bytes are written as the sink writes them
abbrev pub with_written : LinkState → List ℕ → LinkState
with_written s bytes = record s { sink = sinks.with_written s.sink bytes }
