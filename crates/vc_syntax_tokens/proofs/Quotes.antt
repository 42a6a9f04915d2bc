-- Texts in quotes, byte by byte.
use Rattle.std.proofs.Common.{◌≡◌, ℕ, ◌≤◌, Bool, true, false, ◌&&◌, not, List, [], ◌∷◌, ◌++◌, length, drop, get_or}
use Rattle.std.proofs.Common.{Option, Some, None, refl, ap, sym, ◌∙◌, arith, append_assoc}
use Rattle.std.specs.Prelude.{option_map, ◌==◌}
use Rattle.std.proofs.lemmas.Bool.{eqb-true}
use Rattle.vc_syntax_tokens.specs.Lexemes.{text_before_quote, may_close, with_byte}

-- bytes in front of a text, if there is one
abbrev pub in_front : List ℕ → Option (List ℕ) → Option (List ℕ)
in_front front text = option_map (λ t. front ++ t) text

onto : (front : List ℕ) (byte : ℕ) (text : Option (List ℕ))
    → in_front front (option_map (λ t. byte ∷ t) text) ≡ in_front (front ++ byte ∷ []) text
onto front byte None = refl
onto front byte (Some text) = ap Some (sym (append_assoc front (byte ∷ []) text))

same : (text : Option (List ℕ)) → option_map (λ t. t) text ≡ text
same None = refl
same (Some text) = refl

step : (front : List ℕ) (after_quote : Bool) (byte : ℕ) (bytes : List ℕ) (b : Bool) → (byte == 39) ≡ b
    → (after_quote && not b) ≡ false
    → in_front front (text_before_quote after_quote (byte ∷ bytes))
    ≡ in_front (with_byte front after_quote byte) (text_before_quote (may_close after_quote byte) bytes)
step front false byte bytes true e h = rw e (ap (in_front front) (same (text_before_quote true bytes)))
step front false byte bytes false e h = rw e (onto front byte (text_before_quote false bytes))
step front true byte bytes true e h =
    rw e (onto front 39 (text_before_quote false bytes)
    ∙ ap (λ n. in_front (front ++ n ∷ []) (text_before_quote false bytes)) (sym (eqb-true byte 39 e)))
step front true byte bytes false e h = cc

-- the text before the quote is what was taken, and what follows
pub text_step : (front : List ℕ) (after_quote : Bool) (rest : List ℕ) → 1 ≤ length rest
    → (after_quote && not (get_or rest 0 0 == 39)) ≡ false
    → in_front front (text_before_quote after_quote rest)
    ≡ in_front (with_byte front after_quote (get_or rest 0 0))
    (text_before_quote (may_close after_quote (get_or rest 0 0)) (drop 1 rest))
text_step front after_quote [] some h = absurd (omega arith)
text_step front after_quote (byte ∷ bytes) some h = step front after_quote byte bytes (byte == 39) refl h
