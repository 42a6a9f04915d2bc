use Rattle.std.proofs.Common.{◌≡◌, ◌≤◌, length}
use Rattle.vc_syntax_tokens.specs.Limits.{has_long_row}
use Rattle.vc_syntax_tokens.proofs.limits.has_long_row.Given as goal

abbrev pub invariant-loop-rest : goal.invariant-loop-rest
invariant-loop-rest l = record {
  so_far : has_long_row l.prefix l.row l.rest ≡ has_long_row l.prefix 0 l.tokens;
  short : l.row ≤ 32;
}

abbrev pub decreases-loop-rest : goal.decreases-loop-rest
decreases-loop-rest l = length l.rest
