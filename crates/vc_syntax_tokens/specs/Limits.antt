-- How many tokens a dependency may have, and how deep they may nest.
use Rattle.std.specs.Prelude.{ℕ, ◌+◌, Bool, true, false, ◌||◌, nat_lt, List, [], ◌∷◌, length, Result, Ok, Err}
use Rattle.std.specs.Prelude.{if◌then◌else◌}
use Rattle.vc_syntax_tokens.specs.declared.fault.SyntaxFault.{SyntaxFault}
use Rattle.vc_syntax_tokens.specs.declared.fault.SyntaxFault.TheVariants.{Bad}
use Rattle.vc_syntax_tokens.specs.declared.fault.SyntaxKind.TheVariants.{TooLong, TooDeep}
use Rattle.vc_syntax_tokens.specs.declared.token.Token.{Token}
use Rattle.vc_syntax_tokens.specs.declared.token.Lexeme.{Lexeme}
use Rattle.vc_syntax_tokens.specs.declared.token.Lexeme.TheVariants.{Reserved, Sign}
use Rattle.vc_syntax_tokens.specs.declared.limits.Prefix.{Prefix}
use Rattle.vc_syntax_tokens.specs.declared.limits.Prefix.TheVariants.{Negation, Negative}
use Rattle.vc_syntax_tokens.specs.declared.token.Reserved.TheVariants.{Not}
use Rattle.vc_syntax_tokens.specs.declared.token.Sign.TheVariants.{OpenParen, CloseParen, Minus}

-- over 4,000 tokens
abbrev pub is_too_long : List Token → Bool
is_too_long tokens = nat_lt 4000 (length tokens)

abbrev pub is_open : Lexeme → Bool
is_open (Sign OpenParen) = true
is_open lexeme = false

abbrev pub is_close : Lexeme → Bool
is_close (Sign CloseParen) = true
is_close lexeme = false

-- NOT, or a minus
abbrev pub is_prefix : Prefix → Lexeme → Bool
is_prefix Negation (Reserved Not) = true
is_prefix Negative (Sign Minus) = true
is_prefix prefix lexeme = false

abbrev pub one_if : Bool → ℕ
one_if true = 1
one_if false = 0

-- `(` less `)` passes 32 up to some of the tokens, where so many were opened and closed before them
abbrev pub nests_deep : ℕ → ℕ → List Token → Bool
nests_deep opened closed [] = false
nests_deep opened closed (token ∷ tokens) =
    let now_opened = opened + one_if (is_open token.lexeme) in
    let now_closed = closed + one_if (is_close token.lexeme) in
    nat_lt (now_closed + 32) now_opened || nests_deep now_opened now_closed tokens

-- how many such prefixes stand in a row up to this lexeme, each `(` between them passed over
abbrev pub row_up_to : Prefix → ℕ → Lexeme → ℕ
row_up_to prefix before lexeme = if is_prefix prefix lexeme then before + 1 else if is_open lexeme then before else 0

-- over 32 such prefixes stand in a row, where so many stood in a row before these tokens
abbrev pub has_long_row : Prefix → ℕ → List Token → Bool
has_long_row prefix before [] = false
has_long_row prefix before (token ∷ tokens) =
    let row = row_up_to prefix before token.lexeme in
    nat_lt 32 row || has_long_row prefix row tokens

-- parentheses over 32 deep, or over 32 NOTs or minuses in a row
abbrev pub is_too_deep : List Token → Bool
is_too_deep tokens = nests_deep 0 0 tokens || (has_long_row Negation 0 tokens || has_long_row Negative 0 tokens)

-- the tokens, where they are neither too many nor too deep
abbrev pub within_limits : Result (List Token) SyntaxFault → Result (List Token) SyntaxFault
within_limits (Err fault) = Err fault
within_limits (Ok tokens) = if is_too_long tokens then Err (Bad TooLong 0) else if is_too_deep tokens
    then Err (Bad TooDeep 0) else Ok tokens
