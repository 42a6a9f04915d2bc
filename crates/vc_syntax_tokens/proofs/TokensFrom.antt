-- The tokens of a text, front by front.
use Rattle.std.proofs.Common.{◌≡◌, ℕ, ◌+◌, ◌-◌, ◌<◌, ◌≤◌, true, false, List, [], ◌∷◌, ◌++◌, length, drop, get_or}
use Rattle.std.proofs.Common.{Result, Ok, Err, refl, ap, sym, ◌∙◌, arith, append_assoc, suc, zero}
use Rattle.vc_syntax_tokens.specs.declared.token.Token.{Token}
use Rattle.vc_syntax_tokens.specs.declared.fault.SyntaxFault.{SyntaxFault}
use Rattle.vc_syntax_tokens.specs.declared.lexing.Place.{Place}
use Rattle.vc_syntax_tokens.specs.declared.lexing.Place.TheVariants.{Inside}
use Rattle.vc_syntax_tokens.specs.Tokens.{tokens_from, is_gap, place_after, token_at, before, rest_length}

-- tokens before others
abbrev pub after : List Token → Result (List Token) SyntaxFault → Result (List Token) SyntaxFault
after front (Ok tokens) = Ok (front ++ tokens)
after front (Err fault) = Err fault

-- the bytes skipped belong to the last token
pub skips : (place : Place) (start k : ℕ) (bytes : List ℕ) → k ≤ length bytes
    → tokens_from place start k bytes ≡ tokens_from place (start + k) 0 (drop k bytes)
skips place start zero bytes h = ap (λ n. tokens_from place n 0 bytes) (omega arith)
skips place start (suc k) [] h = absurd (omega arith)
skips place start (suc k) (byte ∷ bytes) h =
    skips place (start + 1) k bytes (omega arith) ∙ ap (λ n. tokens_from place n 0 (drop k bytes)) (omega arith)

-- a byte that belongs to no token
pub passes_gap : (place : Place) (start : ℕ) (byte : ℕ) (bytes : List ℕ) → is_gap place byte ≡ true
    → tokens_from place start 0 (byte ∷ bytes) ≡ tokens_from (place_after place byte) (start + 1) 0 bytes
passes_gap place start byte bytes h = rw (tokens_from, h) refl

-- a token that stands at the front
first_token : (place : Place) (start : ℕ) (byte : ℕ) (bytes : List ℕ) (token : Token) → is_gap place byte ≡ false
    → token_at start (byte ∷ bytes) ≡ Ok token
    → tokens_from place start 0 (byte ∷ bytes)
    ≡ before (Ok token) (tokens_from Inside (start + 1) (token.end - (start + 1)) bytes)
first_token place start byte bytes token h e =
    rw (tokens_from, h) (ap (λ found. before found (tokens_from Inside (start + 1) (rest_length start found) bytes)) e)

after_before : (front : List Token) (token : Token) (tokens : Result (List Token) SyntaxFault)
    → after front (before (Ok token) tokens) ≡ after (front ++ token ∷ []) tokens
after_before front token (Ok tokens) = ap Ok (sym (append_assoc front (token ∷ []) tokens))
after_before front token (Err fault) = refl

-- the tokens go on behind the first
pub token_step : (front : List Token) (place : Place) (start : ℕ) (rest : List ℕ) (token : Token) → 1 ≤ length rest
    → is_gap place (get_or rest 0 0) ≡ false → token_at start rest ≡ Ok token → start < token.end
    → token.end ≤ start + length rest
    → after front (tokens_from place start 0 rest)
    ≡ after (front ++ token ∷ []) (tokens_from Inside token.end 0 (drop (token.end - start) rest))
token_step front place start [] token some h e low high = absurd (omega arith)
token_step front place start (byte ∷ bytes) token some h e low high =
    let k : token.end - (start + 1) ≤ length bytes = omega arith in
    let one : suc (token.end - (start + 1)) ≡ token.end - start = omega arith in
    ap (after front) (first_token place start byte bytes token h e)
    ∙ after_before front token (tokens_from Inside (start + 1) (token.end - (start + 1)) bytes)
    ∙ ap (after (front ++ token ∷ [])) (
    skips Inside (start + 1) (token.end - (start + 1)) bytes k
    ∙ ap (λ n. tokens_from Inside n 0 (drop (token.end - (start + 1)) bytes)) (omega arith)
    ∙ ap (λ n. tokens_from Inside token.end 0 (drop n (byte ∷ bytes))) one)
