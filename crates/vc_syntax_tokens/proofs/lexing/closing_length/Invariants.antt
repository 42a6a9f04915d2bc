use Rattle.std.proofs.Common.{◌≡◌, ◌+◌, length, false}
use Rattle.vc_syntax_tokens.specs.Lexemes.{closing_length}
use Rattle.vc_syntax_tokens.proofs.lexing.closing_length.Given as goal

abbrev pub invariant-loop-rest : goal.invariant-loop-rest
invariant-loop-rest l = record {
  so_far : l.count + closing_length l.after_quote l.rest ≡ closing_length false l.bytes;
  passed : l.count + length l.rest ≡ length l.bytes;
}

abbrev pub decreases-loop-rest : goal.decreases-loop-rest
decreases-loop-rest l = length l.rest
