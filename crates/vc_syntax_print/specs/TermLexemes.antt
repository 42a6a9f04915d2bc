-- The canonical lexemes of operands and terms.
use Rattle.std.specs.Prelude.{Bool, true, false, ◌&&◌, not, if◌then◌else◌, List, [], ◌∷◌, ◌++◌}
use Rattle.vc_syntax_tokens.specs.declared.token.Lexeme.{Lexeme}
use Rattle.vc_syntax_tokens.specs.declared.token.Lexeme.TheVariants as lexemes
use Rattle.vc_syntax_tokens.specs.declared.token.Sign.{Sign}
use Rattle.vc_syntax_tokens.specs.declared.token.Sign.TheVariants as signs
use Rattle.vc_syntax_tokens.specs.declared.token.Dollar.{Dollar}
use Rattle.vc_syntax_tokens.specs.declared.token.Dollar.TheVariants as dollars
use Rattle.vc_syntax_tokens.specs.declared.token.Reserved.{Reserved}
use Rattle.vc_syntax_tokens.specs.declared.token.Reserved.TheVariants as words
use Rattle.vc_syntax_tree.specs.declared.NameLeaf.{NameLeaf}
use Rattle.vc_syntax_tree.specs.declared.Owner.{Owner}
use Rattle.vc_syntax_tree.specs.declared.Owner.TheVariants as owners
use Rattle.vc_syntax_tree.specs.declared.Operand.{Operand}
use Rattle.vc_syntax_tree.specs.declared.Operand.TheVariants as operands
use Rattle.vc_syntax_tree.specs.declared.Operator.{Operator}
use Rattle.vc_syntax_tree.specs.declared.Operator.TheVariants as operators
use Rattle.vc_syntax_tree.specs.declared.Function.{Function}
use Rattle.vc_syntax_tree.specs.declared.Function.TheVariants as functions
use Rattle.vc_syntax_tree.specs.Trees.{Term, Number, Text, Operand as Operand', Negated, Combined, Applied, SumOfParts}
use Rattle.vc_syntax_tree.specs.Trees.{CountOfParts}

-- something between parentheses
abbrev pub wrapped : List Lexeme → List Lexeme
wrapped ls = lexemes.Sign signs.OpenParen ∷ (ls ++ lexemes.Sign signs.CloseParen ∷ [])

-- in parentheses where they are needed
abbrev pub wrapped_if : Bool → List Lexeme → List Lexeme
wrapped_if true ls = wrapped ls
wrapped_if false ls = ls

abbrev pub owner_word : Owner → Dollar
owner_word owners.Itself = dollars.Itself
owner_word owners.Parent = dollars.Parent
owner_word owners.Root = dollars.Root

abbrev pub function_word : Function → Reserved
function_word functions.Abs = words.Abs
function_word functions.Sign = words.Sign
function_word functions.Trunc = words.Trunc
function_word functions.Floor = words.Floor
function_word functions.Ceil = words.Ceil
function_word functions.Frac = words.Frac

abbrev pub operator_sign : Operator → Sign
operator_sign operators.Plus = signs.Plus
operator_sign operators.Minus = signs.Minus
operator_sign operators.Times = signs.Star
operator_sign operators.Over = signs.Slash

-- C, $SELF.C, ?X.C or ?V
abbrev pub operand_lexemes : Operand → List Lexeme
operand_lexemes (operands.Plain name) = lexemes.Name name.name ∷ []
operand_lexemes (operands.Owned owner name) = lexemes.Dollar (owner_word owner) ∷ lexemes.Sign signs.Dot
    ∷ lexemes.Name name.name ∷ []
operand_lexemes (operands.Member variable name) = lexemes.Variable variable.name ∷ lexemes.Sign signs.Dot
    ∷ lexemes.Name name.name ∷ []
operand_lexemes (operands.Variable name) = lexemes.Variable name.name ∷ []

-- `+` and `-` bind looser than `*` and `/`
abbrev pub is_additive : Operator → Bool
is_additive operators.Plus = true
is_additive operators.Minus = true
is_additive operators.Times = false
is_additive operators.Over = false

-- the term's outermost operator is `+` or `-`
abbrev pub is_sum : Term → Bool
is_sum (Combined left operator right) = is_additive operator
is_sum term = false

-- the term's outermost operator is `+`, `-`, `*` or `/`
abbrev pub is_combined : Term → Bool
is_combined (Combined left operator right) = true
is_combined term = false

-- an operand on the left needs parentheses where it binds looser
abbrev pub left_needs : Operator → Term → Bool
left_needs operator term = not (is_additive operator) && is_sum term

-- an operand on the right needs parentheses where it doesn't bind closer
abbrev pub right_needs : Operator → Term → Bool
right_needs operator term = if is_additive operator then is_sum term else is_combined term

-- ( $SELF , C )
abbrev pub self_and_name : NameLeaf → List Lexeme
self_and_name name = lexemes.Sign signs.OpenParen ∷ lexemes.Dollar dollars.Itself ∷ lexemes.Sign signs.Comma
    ∷ lexemes.Name name.name ∷ []

-- a term, in parentheses where a minus stands before it or an operator beside it and they would take less than all of
-- it
abbrev pub term_lexemes : Term → List Lexeme
term_lexemes (Number leaf) = lexemes.Number leaf.number ∷ []
term_lexemes (Text leaf) = lexemes.Text leaf.text ∷ []
term_lexemes (Operand' operand) = operand_lexemes operand
term_lexemes (Negated term) = lexemes.Sign signs.Minus ∷ wrapped_if (is_combined term) (term_lexemes term)
term_lexemes (Combined left operator right) =
    wrapped_if (left_needs operator left) (term_lexemes left) ++ lexemes.Sign (operator_sign operator)
    ∷ wrapped_if (right_needs operator right) (term_lexemes right)
term_lexemes (Applied function term) = lexemes.Reserved (function_word function) ∷ wrapped (term_lexemes term)
term_lexemes (SumOfParts name) = lexemes.Dollar dollars.SumParts
    ∷ (self_and_name name ++ lexemes.Sign signs.CloseParen ∷ [])
term_lexemes CountOfParts = lexemes.Dollar dollars.CountParts ∷ wrapped (lexemes.Dollar dollars.Itself ∷ [])
