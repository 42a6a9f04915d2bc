-- How terms are read.
use Rattle.std.specs.Prelude.{ℕ, zero, suc, List, [], ◌∷◌, Option, Some, None, option_map}
use Rattle.vc_syntax_tokens.specs.declared.token.Token.{Token}
use Rattle.vc_syntax_tokens.specs.declared.token.Lexeme.{Lexeme}
use Rattle.vc_syntax_tokens.specs.declared.token.Lexeme.TheVariants as lexemes
use Rattle.vc_syntax_tokens.specs.declared.token.Sign.TheVariants as signs
use Rattle.vc_syntax_tokens.specs.declared.token.Reserved.{Reserved}
use Rattle.vc_syntax_tokens.specs.declared.token.Reserved.TheVariants as words
use Rattle.vc_syntax_tokens.specs.declared.token.Dollar.{Dollar}
use Rattle.vc_syntax_tokens.specs.declared.token.Dollar.TheVariants as dollars
use Rattle.vc_syntax_tree.specs.declared.NameLeaf.{NameLeaf}
use Rattle.vc_syntax_tree.specs.declared.Owner.{Owner}
use Rattle.vc_syntax_tree.specs.declared.Owner.TheVariants as owners
use Rattle.vc_syntax_tree.specs.declared.Operand.{Operand}
use Rattle.vc_syntax_tree.specs.declared.Operand.TheVariants as operands
use Rattle.vc_syntax_tree.specs.declared.Operator.{Operator}
use Rattle.vc_syntax_tree.specs.declared.Operator.TheVariants as operators
use Rattle.vc_syntax_tree.specs.declared.Function.{Function}
use Rattle.vc_syntax_tree.specs.declared.Function.TheVariants as functions
use Rattle.vc_syntax_terms.specs.Leaves.{name_of, variable_of, text_of, number_of, after_sign, after_self, named}
use Rattle.vc_syntax_terms.specs.Reading.{Reader, then, either, made, leaving, closed, grouped, chain}
use Rattle.vc_syntax_tree.specs.Trees as trees
use Rattle.vc_syntax_tree.specs.Trees.{Term}

abbrev pub owner_of : Dollar → Option Owner
owner_of dollars.Itself = Some owners.Itself
owner_of dollars.Parent = Some owners.Parent
owner_of dollars.Root = Some owners.Root
owner_of _ = None

-- the name behind a dot
abbrev pub dotted : Reader NameLeaf
dotted ts = then (after_sign signs.Dot ts) named

-- a variable, and where a dot follows, the characteristic behind it
abbrev pub member : NameLeaf → Reader Operand
member variable ts = either (after_sign signs.Dot ts) (Some (operands.Variable variable, ts)) (λ rest.
    made (operands.Member variable) (named rest))

abbrev pub operand_in : Lexeme → Token → Reader Operand
operand_in (lexemes.Name name) t ts = option_map (λ leaf. (operands.Plain leaf, ts)) (name_of t)
operand_in (lexemes.Variable name) t ts = then (variable_of t) (λ variable. member variable ts)
operand_in (lexemes.Dollar dollar) t ts = then (owner_of dollar) (λ owner. made (operands.Owned owner) (dotted ts))
operand_in _ t ts = None

abbrev pub operand : Reader Operand
operand [] = None
operand (t ∷ ts) = operand_in t.lexeme t ts

abbrev pub function_of : Reserved → Option Function
function_of words.Abs = Some functions.Abs
function_of words.Sign = Some functions.Sign
function_of words.Trunc = Some functions.Trunc
function_of words.Floor = Some functions.Floor
function_of words.Ceil = Some functions.Ceil
function_of words.Frac = Some functions.Frac
function_of _ = None

abbrev pub product_operator_in : Lexeme → Option Operator
product_operator_in (lexemes.Sign signs.Star) = Some operators.Times
product_operator_in (lexemes.Sign signs.Slash) = Some operators.Over
product_operator_in _ = None

abbrev pub sum_operator_in : Lexeme → Option Operator
sum_operator_in (lexemes.Sign signs.Plus) = Some operators.Plus
sum_operator_in (lexemes.Sign signs.Minus) = Some operators.Minus
sum_operator_in _ = None

abbrev pub product_operator : Reader Operator
product_operator [] = None
product_operator (t ∷ ts) = leaving ts (product_operator_in t.lexeme)

abbrev pub sum_operator : Reader Operator
sum_operator [] = None
sum_operator (t ∷ ts) = leaving ts (sum_operator_in t.lexeme)

-- `( $SELF , name`
abbrev pub self_and_name : Reader NameLeaf
self_and_name ts = then (after_sign signs.OpenParen ts) (λ first. then (after_self first) (λ second.
    then (after_sign signs.Comma second) named))

-- `( $SELF )`
abbrev pub only_self : List Token → Option (List Token)
only_self ts = then (after_sign signs.OpenParen ts) (λ first. then (after_self first) (after_sign signs.CloseParen))

abbrev pub count_of_parts : Reader Term
count_of_parts ts = option_map (λ rest. (trees.CountOfParts, rest)) (only_self ts)

abbrev pub dollar_factor : Dollar → Token → Reader Term
dollar_factor dollars.SumParts t ts = made trees.SumOfParts (closed (self_and_name ts))
dollar_factor dollars.CountParts t ts = count_of_parts ts
dollar_factor _ t ts = made trees.Operand (operand_in t.lexeme t ts)

-- the factors that hold no other term
abbrev pub plain_factor : Lexeme → Token → Reader Term
plain_factor (lexemes.Number number) t ts = option_map (λ leaf. (trees.Number leaf, ts)) (number_of t)
plain_factor (lexemes.Text text) t ts = option_map (λ leaf. (trees.Text leaf, ts)) (text_of t)
plain_factor (lexemes.Dollar dollar) t ts = dollar_factor dollar t ts
plain_factor _ t ts = made trees.Operand (operand_in t.lexeme t ts)

abbrev pub factor_in : Reader Term → Reader Term → Lexeme → Token → Reader Term
factor_in factor sum (lexemes.Sign signs.Minus) t ts = made trees.Negated (factor ts)
factor_in factor sum (lexemes.Sign signs.OpenParen) t ts = closed (sum ts)
factor_in factor sum (lexemes.Reserved word) t ts =
    then (function_of word) (λ function. made (trees.Applied function) (grouped sum ts))
factor_in factor sum lexeme t ts = plain_factor lexeme t ts

abbrev pub factor_by : Reader Term → Reader Term → Reader Term
factor_by factor sum [] = None
factor_by factor sum (t ∷ ts) = factor_in factor sum t.lexeme t ts

abbrev pub join : Operator → Term → Term → Term
join operator left right = trees.Combined left operator right

-- a product of such factors
abbrev pub product_by : Reader Term → Reader Term
product_by factor = chain product_operator join factor

-- a sum of products of such factors
abbrev pub sum_by : Reader Term → Reader Term
sum_by factor = chain sum_operator join (product_by factor)

-- a factor that is nested less deep than the bound
abbrev pub factor : ℕ → Reader Term
factor zero ts = None
factor (suc left) ts = factor_by (factor left) (sum_by (factor left)) ts

abbrev pub product : ℕ → Reader Term
product left = product_by (factor left)

abbrev pub sum : ℕ → Reader Term
sum left = sum_by (factor left)
