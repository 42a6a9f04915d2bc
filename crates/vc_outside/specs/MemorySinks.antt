-- A sink in memory.
use Rattle.std.specs.Prelude.{ℕ, ◌+◌, ◌-◌, ◌^◌, Bool, not, ◌&&◌, ◌||◌, ◌==◌, List, ◌++◌, length, min, take, Result, Ok}
use Rattle.std.specs.Prelude.{Err, if◌then◌else◌}
use Rattle.vc_outside.specs.Faults.{Calls, next_fails, with_call}
use Rattle.vc_outside.specs.declared.fault.Failed.{Failed}

-- what a sink in memory is: the bytes written, its whole room, the writes that found none, and its calls
pub record SinkState : Type 0 where
  pub written : List ℕ
  pub room : ℕ
  pub refused : ℕ
  pub calls : Calls

-- how many bytes of a piece find room
abbrev pub fitting : SinkState → List ℕ → ℕ
fitting s bytes = min (length bytes) (s.room - length s.written)

-- no byte of a piece that has some finds room
abbrev pub finds_no_room : SinkState → List ℕ → Bool
finds_no_room s bytes = (fitting s bytes == 0) && not (length bytes == 0)

-- how a piece is written: it fails where the next call is to fail or no byte finds room, and nowhere else
abbrev pub write_answer : SinkState → List ℕ → Result ℕ Failed
write_answer s bytes = if next_fails s.calls || finds_no_room s bytes then Err (record {}) else Ok (fitting s bytes)

abbrev pub with_written : SinkState → List ℕ → SinkState
with_written s bytes = record {
  written = if next_fails s.calls
      || finds_no_room s bytes then s.written else s.written ++ take (fitting s bytes) bytes;
  room = s.room;
  refused = if not (next_fails s.calls) && finds_no_room s bytes then min (s.refused + 1) (2 ^ 64 - 1) else s.refused;
  calls = with_call s.calls;
}
