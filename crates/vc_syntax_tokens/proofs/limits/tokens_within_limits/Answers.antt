-- The first tokens tell the limits.
use Rattle.std.proofs.Common.{sym, ◌∙◌}
use Rattle.vc_syntax_tokens.specs.Limits.{within_limits}
use Rattle.vc_syntax_tokens.specs.Tokens.{tokens_of}
use Rattle.vc_syntax_tokens.proofs.FirstTokens.{gives_itself, limits_told}
use Rattle.vc_syntax_tokens.proofs.limits.tokens_within_limits.Goals as goal

pub returns : goal.returns
returns c =
    gives_itself c.limited.result (within_limits (tokens_of c.args.text.now))
    (c.limited.ensures ∙ sym (limits_told (tokens_of c.args.text.now) c.in_ok-tokens.tokens c.in_ok-tokens.ensures))
