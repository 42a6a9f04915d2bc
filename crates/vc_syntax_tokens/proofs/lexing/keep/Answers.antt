-- One token more, where there is room.
use Rattle.std.proofs.Common.{◌≤◌, ◌<◌, length, sym, ◌∙◌, arith}
use Rattle.vc_syntax_tokens.proofs.FirstTokens.{kept_token, left_token}
use Rattle.vc_syntax_tokens.proofs.lexing.keep.Goals as goal

pub returns-in_ok-push : goal.returns-in_ok-push
returns-in_ok-push c =
    let few : length c.args.tokens.now ≤ 4000 = omega (arith, c.len.ensures, c.if-len-le-MOST_TOKENS.true) in
    c.in_ok-push.ensures.ok ∙ sym (kept_token c.args.tokens.now c.args.token few)

pub returns-else-len-le-MOST_TOKENS : goal.returns-else-len-le-MOST_TOKENS
returns-else-len-le-MOST_TOKENS c =
    let many : 4000 < length c.args.tokens.now = omega (arith, c.len.ensures, c.if-len-le-MOST_TOKENS.false) in
    sym (left_token c.args.tokens.now c.args.token many c.requires)
