-- Calls in memory that a sink counts.
use Rattle.std.specs.Prelude.{◌+◌, ◌-◌, ◌^◌, min, Result, Ok, Err, if◌then◌else◌}
use Rattle.vc_outside.specs.Faults.{next_fails, with_call}
use Rattle.vc_outside.specs.MemorySinks.{SinkState}
use Rattle.vc_outside.specs.declared.fault.Failed.{Failed}

-- a call fails where it is to fail, and nowhere else
abbrev pub call_answer : SinkState → Result Unit Failed
call_answer s = if next_fails s.calls then Err (record {}) else Ok tt

abbrev pub with_counted : SinkState → SinkState
with_counted s = record s { calls = with_call s.calls }

-- a call that fails anyhow is counted among those that found no room, but where it was to fail
abbrev pub with_refused : SinkState → SinkState
with_refused s = record s {
  refused = if next_fails s.calls then s.refused else min (s.refused + 1) (2 ^ 64 - 1);
  calls = with_call s.calls;
}
