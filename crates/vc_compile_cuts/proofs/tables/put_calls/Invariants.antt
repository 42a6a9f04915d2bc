use Rattle.std.proofs.Common.{◌≡◌, ◌++◌, drop, map, flat_map}
use Rattle.vc_compile_plan.specs.Cuts.{call_marks}
use Rattle.vc_compile_cuts.specs.Marks.{marks_seen}
use Rattle.vc_types_meanings.specs.Seen.{seen}
use Rattle.vc_types_occurrences.specs.Seen.{calls_seen}
use Rattle.vc_compile_cuts.proofs.tables.put_calls.Given as goal

abbrev pub invariant-loop-call : goal.invariant-loop-call
invariant-loop-call l =
    marks_seen l.out ++ flat_map (call_marks (seen l.setting).model l.rows.tables.now (seen l.setting).variables)
    (calls_seen (drop l.call-index l.calls))
    ≡ marks_seen l.fn.out ++ flat_map (call_marks (seen l.setting).model l.rows.tables.now (seen l.setting).variables)
    (calls_seen l.calls)
