-- How tokens are read: at their front, giving what was read and the tokens after it.
use Rattle.std.specs.Prelude.{◌≡◌, ℕ, zero, suc, List, [], ◌∷◌, ◌++◌, length, Option, Some, None, option_map, Result}
use Rattle.std.specs.Prelude.{Ok, Err}
use Rattle.vc_syntax_terms.specs.declared.reading.ReadFault.{ReadFault}
use Rattle.vc_syntax_terms.specs.declared.reading.ReadFault.TheVariants.{Ungrammatical, OutOfMemory}
use Rattle.vc_syntax_tokens.specs.declared.token.Token.{Token}
use Rattle.vc_syntax_tokens.specs.declared.token.Sign.TheVariants.{OpenParen, CloseParen}
use Rattle.vc_syntax_tokens.specs.declared.token.Sign.{Sign}
use Rattle.vc_syntax_tokens.specs.declared.token.Reserved.{Reserved}
use Rattle.vc_syntax_terms.specs.Leaves.{after_sign, after_word}

-- what the call answers, seen by view, is what there is to read, unless memory ran out
abbrev pub Gives : {X Y : Type 0} → (X → Y) → Result X ReadFault → Option Y → Type 0
Gives view (Ok x) found = found ≡ Some (view x)
Gives view (Err Ungrammatical) found = found ≡ None
Gives view (Err OutOfMemory) found = Unit {0}

-- what is read at the front, and the tokens after it
abbrev pub Reader : Type 0 → Type 0
Reader A = List Token → Option (A × List Token)

-- one step after another
abbrev pub then : {A B : Type 0} → Option A → (A → Option B) → Option B
then None next = None
then (Some x) next = next x

-- one way where there is something, another where there is nothing
abbrev pub either : {A B : Type 0} → Option A → Option B → (A → Option B) → Option B
either None without next = without
either (Some x) without next = next x

-- what was read, made into something else
abbrev pub made : {A B : Type 0} → (A → B) → Option (A × List Token) → Option (B × List Token)
made make read = option_map (λ found. (make found.0, found.1)) read

-- what a token is, and the tokens after it
abbrev pub leaving : {A : Type 0} → List Token → Option A → Option (A × List Token)
leaving rest option = option_map (λ x. (x, rest)) option

-- something that the tokens before the rest say without more
abbrev pub leaving_as : {A : Type 0} → A → Option (List Token) → Option (A × List Token)
leaving_as x rest = option_map (λ after. (x, after)) rest

-- what was read, and a closing parenthesis after it
abbrev pub closed : {A : Type 0} → Option (A × List Token) → Option (A × List Token)
closed read = then read (λ found. option_map (λ rest. (found.0, rest)) (after_sign CloseParen found.1))

-- something between parentheses
abbrev pub grouped : {A : Type 0} → Reader A → Reader A
grouped read ts = then (after_sign OpenParen ts) (λ rest. closed (read rest))

-- what follows the first operand of a chain, in at most so many steps
abbrev pub more_in : {A O : Type 0} → Reader O → (O → A → A → A) → Reader A → ℕ → A → Reader A
more_in operator join read zero left ts = Some (left, ts)
more_in operator join read (suc n) left ts = either (operator ts) (Some (left, ts)) (λ found.
    then (read found.1) (λ right. more_in operator join read n (join found.0 left right.0) right.1))

-- the chain whose first operands are joined already
abbrev pub chained : {A O : Type 0} → Reader O → (O → A → A → A) → Reader A → A → Reader A
chained operator join read left ts = more_in operator join read (length ts) left ts

-- operands with operators between them, grouped to the left
abbrev pub chain : {A O : Type 0} → Reader O → (O → A → A → A) → Reader A → Reader A
chain operator join read ts = then (read ts) (λ found. chained operator join read found.0 found.1)

-- a sign, and a word, of which nothing but the place matters
abbrev pub sign : Sign → Reader (Unit {0})
sign which ts = leaving_as tt (after_sign which ts)

abbrev pub word : Reserved → Reader (Unit {0})
word which ts = leaving_as tt (after_word which ts)

-- one thing or more, with a separator between them
abbrev pub append : {A : Type 0} → Unit {0} → List A → List A → List A
append u xs ys = xs ++ ys

abbrev pub single : {A : Type 0} → Reader A → Reader (List A)
single read ts = made (λ x. x ∷ []) (read ts)

abbrev pub listed : {A : Type 0} → Sign → Reader A → Reader (List A)
listed separator read = chain (sign separator) append (single read)

-- the first way that reads something
abbrev pub or_else : {A : Type 0} → Option A → Option A → Option A
or_else None other = other
or_else (Some x) other = Some x
