-- The canonical lexemes of relations and conditions.
use Rattle.std.specs.Prelude.{Bool, true, false, List, [], ◌∷◌, ◌++◌}
use Rattle.vc_syntax_tokens.specs.declared.token.Lexeme.{Lexeme}
use Rattle.vc_syntax_tokens.specs.declared.token.Lexeme.TheVariants as lexemes
use Rattle.vc_syntax_tokens.specs.declared.token.Sign.{Sign}
use Rattle.vc_syntax_tokens.specs.declared.token.Sign.TheVariants as signs
use Rattle.vc_syntax_tokens.specs.declared.token.Reserved.TheVariants as words
use Rattle.vc_syntax_tree.specs.declared.NumberLeaf.{NumberLeaf}
use Rattle.vc_syntax_tree.specs.declared.SignedNumber.{SignedNumber}
use Rattle.vc_syntax_tree.specs.declared.Item.{Item}
use Rattle.vc_syntax_tree.specs.declared.Item.TheVariants as items
use Rattle.vc_syntax_tree.specs.declared.Relator.{Relator}
use Rattle.vc_syntax_tree.specs.declared.Relator.TheVariants as relators
use Rattle.vc_syntax_tree.specs.Trees.{Relation, Compared, Within, Condition, Or, And, Not, Related, Specified, PartOf}
use Rattle.vc_syntax_print.specs.TermLexemes.{wrapped, wrapped_if, operand_lexemes, term_lexemes}

-- what follows the first of several things: each behind a separator
abbrev pub each_behind : {A : Type 0} → Sign → (A → List Lexeme) → List A → List Lexeme
each_behind separator lexemes_of [] = []
each_behind separator lexemes_of (x ∷ xs) = lexemes.Sign separator
    ∷ (lexemes_of x ++ each_behind separator lexemes_of xs)

-- several things with a separator between them
abbrev pub separated : {A : Type 0} → Sign → (A → List Lexeme) → List A → List Lexeme
separated separator lexemes_of [] = []
separated separator lexemes_of (x ∷ xs) = lexemes_of x ++ each_behind separator lexemes_of xs

abbrev pub number_behind : Bool → NumberLeaf → List Lexeme
number_behind true leaf = lexemes.Sign signs.Minus ∷ lexemes.Number leaf.number ∷ []
number_behind false leaf = lexemes.Number leaf.number ∷ []

-- a number, behind its minus if it has one
abbrev pub signed_lexemes : SignedNumber → List Lexeme
signed_lexemes signed = number_behind signed.negative signed.leaf

-- 'X', - 1 or 1 - 5
abbrev pub item_lexemes : Item → List Lexeme
item_lexemes (items.Text leaf) = lexemes.Text leaf.text ∷ []
item_lexemes (items.Number number) = signed_lexemes number
item_lexemes (items.Interval low high) = signed_lexemes low ++ lexemes.Sign signs.Minus ∷ signed_lexemes high

abbrev pub relator_sign : Relator → Sign
relator_sign relators.Equal = signs.Equal
relator_sign relators.Unequal = signs.Unequal
relator_sign relators.Less = signs.Less
relator_sign relators.LessEqual = signs.LessEqual
relator_sign relators.Greater = signs.Greater
relator_sign relators.GreaterEqual = signs.GreaterEqual

-- A <= 1, or A IN ( 1 , 2 )
abbrev pub relation_lexemes : Relation → List Lexeme
relation_lexemes (Compared left relator right) = term_lexemes left ++ lexemes.Sign (relator_sign relator)
    ∷ term_lexemes right
relation_lexemes (Within operand items) =
    operand_lexemes operand ++ lexemes.Reserved words.In ∷ wrapped (separated signs.Comma item_lexemes items)

-- the condition's outermost word is OR
abbrev pub is_or : Condition → Bool
is_or (Or left right) = true
is_or condition = false

-- the condition's outermost word is OR or AND
abbrev pub is_joined : Condition → Bool
is_joined (Or left right) = true
is_joined (And left right) = true
is_joined condition = false

-- a condition, in parentheses where OR or AND stands beside it or NOT before it and they would take less than all of it
abbrev pub condition_lexemes : Condition → List Lexeme
condition_lexemes (Or left right) = condition_lexemes left ++ lexemes.Reserved words.Or
    ∷ wrapped_if (is_or right) (condition_lexemes right)
condition_lexemes (And left right) =
    wrapped_if (is_or left) (condition_lexemes left) ++ lexemes.Reserved words.And
    ∷ wrapped_if (is_joined right) (condition_lexemes right)
condition_lexemes (Not condition) = lexemes.Reserved words.Not
    ∷ wrapped_if (is_joined condition) (condition_lexemes condition)
condition_lexemes (Related relation) = relation_lexemes relation
condition_lexemes (Specified operand) = lexemes.Reserved words.Specified ∷ operand_lexemes operand
condition_lexemes (PartOf part whole) =
    lexemes.Reserved words.PartOf
    ∷ wrapped (lexemes.Variable part.name ∷ lexemes.Sign signs.Comma ∷ lexemes.Variable whole.name ∷ [])
