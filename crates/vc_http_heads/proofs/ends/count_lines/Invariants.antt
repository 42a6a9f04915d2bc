use Rattle.std.proofs.Common.{◌≡◌, ◌+◌, ◌≤◌, drop}
use Rattle.vc_http_heads.specs.Ends.{count_lines}
use Rattle.vc_http_heads.proofs.ends.count_lines.Given as goal

abbrev pub invariant-loop-byte : goal.invariant-loop-byte
invariant-loop-byte l = record {
  rest : l.count + count_lines (drop l.byte-index l.bytes) ≡ count_lines l.bytes;
  few : l.count ≤ l.byte-index;
}
