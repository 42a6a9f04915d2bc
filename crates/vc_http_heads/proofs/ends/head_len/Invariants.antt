use Rattle.std.proofs.Common.{◌≡◌, drop}
use Rattle.vc_http_heads.specs.Ends.{end_from, head_len}
use Rattle.vc_http_heads.proofs.ends.head_len.Given as goal

abbrev pub invariant-loop-byte : goal.invariant-loop-byte
invariant-loop-byte l = record {
  rest : end_from l.place l.count (drop l.byte-index l.bytes) ≡ head_len l.bytes;
  counted : l.count ≡ l.byte-index;
}
