use Rattle.std.proofs.Common.{◌≡◌, ◌+◌, ◌≤◌, length}
use Rattle.vc_syntax_tokens.specs.Tokens.{first_ones, tokens_from, tokens_of}
use Rattle.vc_syntax_tokens.proofs.TokensFrom.{after}
use Rattle.vc_syntax_tokens.proofs.lexing.first_tokens.Given as goal

abbrev pub invariant-loop-rest : goal.invariant-loop-rest
invariant-loop-rest l = record {
  so_far : first_ones (after l.tokens (tokens_from l.place l.start 0 l.rest)) ≡ first_ones (tokens_of l.text);
  few : length l.tokens ≤ 4001;
  passed : l.start + length l.rest ≡ length l.text;
}

abbrev pub decreases-loop-rest : goal.decreases-loop-rest
decreases-loop-rest l = length l.rest
