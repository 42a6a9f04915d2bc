-- A token is put behind those before it, while there are few.
use Rattle.std.proofs.Common.{◌≡◌, ◌+◌, ◌-◌, ◌∷◌, [], ◌++◌, length, drop, ℕ, ap, sym, ◌∙◌, length-drop, arith}
use Rattle.std.proofs.lemmas.List.{take_rest}
use Rattle.vc_syntax_tokens.specs.Tokens.{first_ones, tokens_from}
use Rattle.vc_syntax_tokens.specs.declared.lexing.Place.TheVariants.{Inside}
use Rattle.vc_syntax_tokens.proofs.TokensFrom.{token_step}
use Rattle.vc_syntax_tokens.proofs.FirstTokens.{first_after, first_are_few, first_at_end}
use Rattle.vc_syntax_tokens.proofs.lexing.first_tokens.Goals as goal

pub loop-rest-preserved : goal.loop-rest-preserved
loop-rest-preserved c =
    let rest = c.loop-rest.rest.now in
    let tokens = c.loop-rest.tokens in
    let token = c.in_ok-token.token in
    let low = c.in_ok-token.ensures.within.0 in
    let high = c.in_ok-token.ensures.within.1 in
    let passed : token.end + length (drop (token.end - c.loop-rest.start) rest) ≡ length c.args.text.now
    = omega (arith, length-drop {A = ℕ}, c.loop-rest.invariant.passed, low, high) in
    rw (take_rest rest (token.end - c.loop-rest.start), c.in_ok-keep.ensures) record {
      so_far =
          first_after (tokens ++ token ∷ [])
          (tokens_from Inside token.end 0 (drop (token.end - c.loop-rest.start) rest))
          ∙ ap first_ones (sym
          (token_step tokens c.loop-rest.place c.loop-rest.start rest token c.in-len1-up.len_at_least
          (sym c.is_gap.ensures ∙ c.if-is_gap.false) c.in_ok-token.ensures.token low high))
          ∙ c.loop-rest.invariant.so_far;
      few = first_are_few (tokens ++ token ∷ []);
      passed = passed;
    }

pub returns : goal.returns
returns c =
    sym c.loop-rest.invariant.so_far
    ∙ first_at_end c.loop-rest.tokens c.loop-rest.place c.loop-rest.start c.loop-rest.rest.now c.in_default.len_below
    c.loop-rest.invariant.few
