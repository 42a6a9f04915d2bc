use Rattle.std.proofs.Common.{◌≡◌, ◌+◌, ◌≤◌, length}
use Rattle.vc_syntax_tokens.specs.Limits.{nests_deep}
use Rattle.vc_syntax_tokens.proofs.limits.nests_deep.Given as goal

abbrev pub invariant-loop-rest : goal.invariant-loop-rest
invariant-loop-rest l = record {
  so_far : nests_deep l.opened l.closed l.rest ≡ nests_deep 0 0 l.tokens;
  opened : l.opened + length l.rest ≤ length l.tokens;
  closed : l.closed + length l.rest ≤ length l.tokens;
}

abbrev pub decreases-loop-rest : goal.decreases-loop-rest
decreases-loop-rest l = length l.rest
