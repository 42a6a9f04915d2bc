-- The first tokens of a text tell as much of its limits as all of them.
use Rattle.std.proofs.Common.{◌≡◌, ℕ, ◌<◌, ◌≤◌, length-append, append-nil, Bool, true, false, cond, List, [], ◌∷◌, ◌++◌}
use Rattle.std.proofs.Common.{length, take, suc, zero, Result, Ok, Err, refl, ap, sym, ◌∙◌, arith}
use Rattle.std.specs.Prelude.{nat_lt, min}
use Rattle.std.proofs.lemmas.List.{length-take, take-append-le, take_all}
use Rattle.std.proofs.lemmas.Bool.{ltb-false}
use Rattle.vc_syntax_tokens.specs.declared.token.Token.{Token}
use Rattle.vc_syntax_tokens.specs.declared.fault.SyntaxFault.{SyntaxFault}
use Rattle.vc_syntax_tokens.specs.declared.fault.SyntaxFault.TheVariants.{Bad, OutOfMemory}
use Rattle.vc_syntax_tokens.specs.declared.fault.SyntaxKind.TheVariants.{TooLong, TooDeep}
use Rattle.vc_syntax_tokens.specs.declared.lexing.Place.{Place}
use Rattle.vc_syntax_tokens.specs.Limits.{is_too_long, is_too_deep, within_limits}
use Rattle.vc_syntax_tokens.specs.Tokens.{Gives, first_ones, tokens_from}
use Rattle.vc_syntax_tokens.proofs.TokensFrom.{after}

-- what was taken before others is taken again
pub take_again : {A : Type 0} → (n : ℕ) (xs ys : List A) → take n (take n xs ++ ys) ≡ take n (xs ++ ys)
take_again zero xs ys = refl
take_again (suc n) [] ys = refl
take_again (suc n) (x ∷ xs) ys = ap (λ rest. x ∷ rest) (take_again n xs ys)

-- one element more than a limit is over it exactly where there are so many
over_least : (n m : ℕ) → nat_lt n (min (suc n) m) ≡ nat_lt n m
over_least n m = grind arith

pub over_limit : {A : Type 0} → (n : ℕ) (xs : List A) → nat_lt n (length (take (suc n) xs)) ≡ nat_lt n (length xs)
over_limit n xs = ap (nat_lt n) (length-take (suc n) xs) ∙ over_least n (length xs)

-- the first tokens of these before others
pub first_after : (front : List Token) (tokens : Result (List Token) SyntaxFault)
    → first_ones (after (take 4001 front) tokens) ≡ first_ones (after front tokens)
first_after front (Ok tokens) = ap Ok (take_again 4001 front tokens)
first_after front (Err fault) = refl

-- what is asked of tokens only where they aren't too many is told by the first ones
decided_if : {X : Type 0} (f : List Token → X) (long : X) (tokens : List Token) (b : Bool) → is_too_long tokens ≡ b
    → cond (is_too_long (take 4001 tokens)) long (f (take 4001 tokens)) ≡ cond (is_too_long tokens) long (f tokens)
decided_if f long tokens true e =
    ap (λ b. cond b long (f (take 4001 tokens))) (over_limit 4000 tokens ∙ e) ∙ sym (ap (λ b. cond b long (f tokens)) e)
decided_if f long tokens false e =
    let few : length tokens ≤ 4000 = ltb-false 4000 (length tokens) e in
    ap (λ ts. cond (is_too_long ts) long (f ts)) (take_all 4001 tokens (omega arith))

pub decided : {X : Type 0} (f : List Token → X) (long : X) (tokens : List Token)
    → cond (is_too_long (take 4001 tokens)) long (f (take 4001 tokens)) ≡ cond (is_too_long tokens) long (f tokens)
decided f long tokens = decided_if f long tokens (is_too_long tokens) refl

-- the limits
pub first_within : (tokens : Result (List Token) SyntaxFault) → within_limits (first_ones tokens) ≡ within_limits tokens
first_within (Err fault) = refl
first_within (Ok tokens) =
    decided (λ ts. cond (is_too_deep ts) (Err (Bad TooDeep 0)) (Ok ts)) (Err (Bad TooLong 0)) tokens

pub limits_told : (all : Result (List Token) SyntaxFault) (tokens : List Token) → first_ones all ≡ Ok tokens
    → within_limits all ≡ within_limits (Ok tokens)
limits_told all tokens e = sym (first_within all) ∙ ap within_limits e

-- what is told is what there is
pub gives_itself : {A : Type 0} → (told there : Result A SyntaxFault) → told ≡ there → Gives told there
gives_itself (Ok answer) there e = sym e
gives_itself (Err OutOfMemory) there e = tt
gives_itself (Err (Bad kind start)) there e = sym e

-- a token more, where there is room for it and where there is none
pub kept_token : (tokens : List Token) (token : Token) → length tokens ≤ 4000
    → take 4001 (tokens ++ token ∷ []) ≡ tokens ++ token ∷ []
kept_token tokens token few =
    take_all 4001 (tokens ++ token ∷ []) (omega (arith, length-append tokens (token ∷ []), few))

pub left_token : (tokens : List Token) (token : Token) → 4000 < length tokens → length tokens ≤ 4001
    → take 4001 (tokens ++ token ∷ []) ≡ tokens
left_token tokens token many few =
    take-append-le 4001 tokens (token ∷ []) (omega (arith, many)) ∙ take_all 4001 tokens few

pub first_are_few : (tokens : List Token) → length (take 4001 tokens) ≤ 4001
first_are_few tokens = omega (arith, length-take 4001 tokens)

-- at the end of the text
pub first_at_end : (tokens : List Token) (place : Place) (start : ℕ) (rest : List ℕ) → length rest < 1
    → length tokens ≤ 4001
    → first_ones (after tokens (tokens_from place start 0 rest)) ≡ Ok tokens
first_at_end tokens place start [] ends few =
    ap Ok (ap (take 4001) (append-nil tokens) ∙ take_all 4001 tokens few)
first_at_end tokens place start (byte ∷ rest) ends few = absurd (omega arith)
