-- How conditions are read.
use Rattle.std.specs.Prelude.{ℕ, zero, suc, [], ◌∷◌, Bool, true, false, Option, Some, None}
use Rattle.vc_syntax_tokens.specs.declared.token.Token.{Token}
use Rattle.vc_syntax_tokens.specs.declared.token.Lexeme.{Lexeme}
use Rattle.vc_syntax_tokens.specs.declared.token.Lexeme.TheVariants as lexemes
use Rattle.vc_syntax_tokens.specs.declared.token.Sign.TheVariants as signs
use Rattle.vc_syntax_tokens.specs.declared.token.Reserved.TheVariants as words
use Rattle.vc_syntax_tree.specs.declared.NameLeaf.{NameLeaf}
use Rattle.vc_syntax_tree.specs.declared.TextLeaf.{TextLeaf}
use Rattle.vc_syntax_tree.specs.declared.NumberLeaf.{NumberLeaf}
use Rattle.vc_syntax_tree.specs.declared.SignedNumber.{SignedNumber}
use Rattle.vc_syntax_tree.specs.declared.Item.{Item}
use Rattle.vc_syntax_tree.specs.declared.Item.TheVariants as items
use Rattle.vc_syntax_tree.specs.declared.Relator.{Relator}
use Rattle.vc_syntax_tree.specs.declared.Relator.TheVariants as relators
use Rattle.vc_syntax_terms.specs.Leaves.{text_of, number_of, variable_of, after_sign, after_word}
use Rattle.vc_syntax_terms.specs.Reading.{Reader, then, either, or_else, made, leaving, leaving_as, closed, grouped}
use Rattle.vc_syntax_terms.specs.Reading.{word, chain, listed}
use Rattle.vc_syntax_terms.specs.TermReading.{operand, sum}
use Rattle.vc_syntax_tree.specs.Trees as trees
use Rattle.vc_syntax_tree.specs.Trees.{Relation, Condition}

abbrev pub relator_in : Lexeme → Option Relator
relator_in (lexemes.Sign signs.Equal) = Some relators.Equal
relator_in (lexemes.Sign signs.Unequal) = Some relators.Unequal
relator_in (lexemes.Sign signs.Less) = Some relators.Less
relator_in (lexemes.Sign signs.LessEqual) = Some relators.LessEqual
relator_in (lexemes.Sign signs.Greater) = Some relators.Greater
relator_in (lexemes.Sign signs.GreaterEqual) = Some relators.GreaterEqual
relator_in (lexemes.Reserved words.Eq) = Some relators.Equal
relator_in (lexemes.Reserved words.Ne) = Some relators.Unequal
relator_in (lexemes.Reserved words.Lt) = Some relators.Less
relator_in (lexemes.Reserved words.Le) = Some relators.LessEqual
relator_in (lexemes.Reserved words.Gt) = Some relators.Greater
relator_in (lexemes.Reserved words.Ge) = Some relators.GreaterEqual
relator_in _ = None

abbrev pub relator : Reader Relator
relator [] = None
relator (t ∷ ts) = leaving ts (relator_in t.lexeme)

abbrev pub text_ahead : Reader TextLeaf
text_ahead [] = None
text_ahead (t ∷ ts) = leaving ts (text_of t)

abbrev pub number_ahead : Reader NumberLeaf
number_ahead [] = None
number_ahead (t ∷ ts) = leaving ts (number_of t)

abbrev pub variable_ahead : Reader NameLeaf
variable_ahead [] = None
variable_ahead (t ∷ ts) = leaving ts (variable_of t)

abbrev pub with_sign : Bool → NumberLeaf → SignedNumber
with_sign negative leaf = record { negative = negative; leaf = leaf }

abbrev pub signed_number : Reader SignedNumber
signed_number ts = either (after_sign signs.Minus ts) (made (with_sign false) (number_ahead ts))
    (λ rest. made (with_sign true) (number_ahead rest))

-- a number, or an interval
abbrev pub numbers : Reader Item
numbers ts = then (signed_number ts)
    (λ low. either (after_sign signs.Minus low.1) (Some (items.Number low.0, low.1)) (λ rest.
    made (items.Interval low.0) (signed_number rest)))

abbrev pub item : Reader Item
item ts = or_else (made items.Text (text_ahead ts)) (numbers ts)

-- the terms of a relation are nested less deep than the bound
abbrev pub comparison : ℕ → Reader Relation
comparison left ts =
    then (sum left ts) (λ first.
    then (relator first.1) (λ sign. made (trees.Compared first.0 sign.0) (sum left sign.1)))

abbrev pub within : Reader Relation
within ts = then (operand ts) (λ found. then (after_word words.In found.1) (λ rest.
    made (trees.Within found.0) (grouped (listed signs.Comma item) rest)))

abbrev pub relation : ℕ → Reader Relation
relation left ts = or_else (comparison left ts) (within ts)

-- `( ?X , ?Y )` behind PART_OF
abbrev pub part_of : Reader Condition
part_of ts = then (after_sign signs.OpenParen ts) (λ first. then (variable_ahead first) (λ part.
    then (after_sign signs.Comma part.1) (λ second. made (trees.PartOf part.0) (closed (variable_ahead second)))))

abbrev pub specified_behind : Reader Condition
specified_behind ts =
    then (operand ts) (λ found. leaving_as (trees.Specified found.0) (after_word words.Specified found.1))

-- a condition that begins with an operand or a term
abbrev pub plain_condition : ℕ → Reader Condition
plain_condition left ts = or_else (made trees.Related (relation left ts)) (specified_behind ts)

-- what a negation is by its first token
abbrev pub negation_in : ℕ → Reader Condition → Reader Condition → Lexeme → Token → Reader Condition
negation_in left negation condition (lexemes.Reserved words.Not) t ts = made trees.Not (negation ts)
negation_in left negation condition (lexemes.Reserved words.Specified) t ts = made trees.Specified (operand ts)
negation_in left negation condition (lexemes.Reserved words.PartOf) t ts = part_of ts
negation_in left negation condition (lexemes.Sign signs.OpenParen) t ts =
    or_else (made trees.Related (relation left (t ∷ ts))) (closed (condition ts))
negation_in left negation condition _ t ts = plain_condition left (t ∷ ts)

abbrev pub negation_by : ℕ → Reader Condition → Reader Condition → Reader Condition
negation_by left negation condition [] = plain_condition left []
negation_by left negation condition (t ∷ ts) = negation_in left negation condition t.lexeme t ts

abbrev pub both : Unit {0} → Condition → Condition → Condition
both u left right = trees.And left right

abbrev pub any : Unit {0} → Condition → Condition → Condition
any u left right = trees.Or left right

abbrev pub conjunction_by : Reader Condition → Reader Condition
conjunction_by negation = chain (word words.And) both negation

abbrev pub condition_by : Reader Condition → Reader Condition
condition_by negation = chain (word words.Or) any (conjunction_by negation)

-- a negation that is nested less deep than the bound
abbrev pub negation : ℕ → Reader Condition
negation zero ts = None
negation (suc left) ts = negation_by left (negation left) (condition_by (negation left)) ts

abbrev pub conjunction : ℕ → Reader Condition
conjunction left = conjunction_by (negation left)

abbrev pub condition : ℕ → Reader Condition
condition left = condition_by (negation left)
