-- The grammar of operands and terms, a constructor for each production. The tokens stand left, the tree that they spell
-- right.
use Rattle.std.specs.Prelude.{◌≡◌, List, [], ◌∷◌, ◌++◌, Some}
use Rattle.vc_syntax_tokens.specs.declared.token.Token.{Token}
use Rattle.vc_syntax_tokens.specs.declared.token.Lexeme.TheVariants as lexemes
use Rattle.vc_syntax_tokens.specs.declared.token.Sign.{Sign}
use Rattle.vc_syntax_tokens.specs.declared.token.Sign.TheVariants.{OpenParen, CloseParen, Comma, Dot, Minus}
use Rattle.vc_syntax_tokens.specs.declared.token.Dollar.{Dollar}
use Rattle.vc_syntax_tokens.specs.declared.token.Dollar.TheVariants.{Itself, SumParts, CountParts}
use Rattle.vc_syntax_tokens.specs.declared.token.Reserved.{Reserved}
use Rattle.vc_syntax_tree.specs.declared.NameLeaf.{NameLeaf}
use Rattle.vc_syntax_tree.specs.declared.TextLeaf.{TextLeaf}
use Rattle.vc_syntax_tree.specs.declared.NumberLeaf.{NumberLeaf}
use Rattle.vc_syntax_tree.specs.declared.Owner.{Owner}
use Rattle.vc_syntax_tree.specs.declared.Operand.{Operand}
use Rattle.vc_syntax_tree.specs.declared.Operand.TheVariants.{Plain, Owned, Member, Variable}
use Rattle.vc_syntax_tree.specs.declared.Operator.{Operator}
use Rattle.vc_syntax_tree.specs.declared.Function.{Function}
use Rattle.vc_syntax_terms.specs.Leaves.{name_of, any_name_of, variable_of, text_of, number_of}
use Rattle.vc_syntax_terms.specs.TermReading.{owner_of, function_of, product_operator_in, sum_operator_in}
use Rattle.vc_syntax_tree.specs.Trees as trees
use Rattle.vc_syntax_tree.specs.Trees.{Term}

-- the token is this sign, this word, this `$` word
abbrev pub IsSign : Sign → Token → Type 0
IsSign sign t = t.lexeme ≡ lexemes.Sign sign

abbrev pub IsWord : Reserved → Token → Type 0
IsWord word t = t.lexeme ≡ lexemes.Reserved word

abbrev pub IsDollar : Dollar → Token → Type 0
IsDollar dollar t = t.lexeme ≡ lexemes.Dollar dollar

-- the token is this name, this variable, this text, this number
abbrev pub IsName : Token → NameLeaf → Type 0
IsName t name = name_of t ≡ Some name

-- the token is this name, which may be a reserved word
abbrev pub IsAnyName : Token → NameLeaf → Type 0
IsAnyName t name = any_name_of t ≡ Some name

abbrev pub IsVariable : Token → NameLeaf → Type 0
IsVariable t name = variable_of t ≡ Some name

abbrev pub IsText : Token → TextLeaf → Type 0
IsText t text = text_of t ≡ Some text

abbrev pub IsNumber : Token → NumberLeaf → Type 0
IsNumber t number = number_of t ≡ Some number

-- the token is `$SELF`, `$PARENT` or `$ROOT`
abbrev pub IsOwner : Token → Owner → Type 0
IsOwner t owner = (dollar : Dollar) × IsDollar dollar t × (owner_of dollar ≡ Some owner)

-- the token is the name of this function
abbrev pub IsFunction : Token → Function → Type 0
IsFunction t function = (word : Reserved) × IsWord word t × (function_of word ≡ Some function)

-- the token is `*` or `/`
abbrev pub IsProductOperator : Token → Operator → Type 0
IsProductOperator t operator = product_operator_in t.lexeme ≡ Some operator

-- the token is `+` or `-`
abbrev pub IsSumOperator : Token → Operator → Type 0
IsSumOperator t operator = sum_operator_in t.lexeme ≡ Some operator

-- operand = name | ($SELF | $PARENT | $ROOT) dot name | ?X dot name | ?V
pub data IsOperand : List Token → Operand → Type 0 where
  plain : {t : Token} {name : NameLeaf} → IsName t name → IsOperand (t ∷ []) (Plain name)
  owned : {t dot u : Token} {owner : Owner} {name : NameLeaf} → IsOwner t owner → IsSign Dot dot → IsName u name
      → IsOperand (t ∷ dot ∷ u ∷ []) (Owned owner name)
  member : {t dot u : Token} {variable name : NameLeaf} → IsVariable t variable → IsSign Dot dot → IsName u name
      → IsOperand (t ∷ dot ∷ u ∷ []) (Member variable name)
  variable : {t : Token} {name : NameLeaf} → IsVariable t name → IsOperand (t ∷ []) (Variable name)

-- `( $SELF , name` and `( $SELF )`
pub data IsSelfAndName : List Token → NameLeaf → Type 0 where
  self_and_name : {opening self comma t : Token} {name : NameLeaf} → IsSign OpenParen opening → IsDollar Itself self
      → IsSign Comma comma
      → IsName t name → IsSelfAndName (opening ∷ self ∷ comma ∷ t ∷ []) name

pub data IsOnlySelf : List Token → Type 0 where
  only_self : {opening self closing : Token} → IsSign OpenParen opening → IsDollar Itself self
      → IsSign CloseParen closing
      → IsOnlySelf (opening ∷ self ∷ closing ∷ [])

mutual
  -- factor = number | text | operand | - factor | ( term ) | function ( term ) | $SUM_PARTS ( $SELF , name ) |
  -- $COUNT_PARTS ( $SELF )
  pub data IsFactor : List Token → Term → Type 0 where
    number : {t : Token} {leaf : NumberLeaf} → IsNumber t leaf → IsFactor (t ∷ []) (trees.Number leaf)
    text : {t : Token} {leaf : TextLeaf} → IsText t leaf → IsFactor (t ∷ []) (trees.Text leaf)
    operand : {ts : List Token} {operand : Operand} → IsOperand ts operand → IsFactor ts (trees.Operand operand)
    negated : (minus : Token) (ts : List Token) {term : Term} → IsSign Minus minus → IsFactor ts term
        → IsFactor (minus ∷ ts) (trees.Negated term)
    grouped : (opening : Token) (ts : List Token) (closing : Token) {term : Term}
        → IsSign OpenParen opening → IsSum ts term → IsSign CloseParen closing
        → IsFactor (opening ∷ (ts ++ closing ∷ [])) term
    applied : (t opening : Token) (ts : List Token) (closing : Token) {function : Function} {term : Term}
        → IsFunction t function → IsSign OpenParen opening → IsSum ts term → IsSign CloseParen closing
        → IsFactor (t ∷ opening ∷ (ts ++ closing ∷ [])) (trees.Applied function term)
    sum_of_parts : (t : Token) (ts : List Token) (closing : Token) {name : NameLeaf}
        → IsDollar SumParts t → IsSelfAndName ts name → IsSign CloseParen closing
        → IsFactor (t ∷ (ts ++ closing ∷ [])) (trees.SumOfParts name)
    count_of_parts : (t : Token) (ts : List Token) → IsDollar CountParts t → IsOnlySelf ts
        → IsFactor (t ∷ ts) trees.CountOfParts

  -- product = factor { (* | /) factor }, grouped to the left
  pub data IsProduct : List Token → Term → Type 0 where
    factor : {ts : List Token} {term : Term} → IsFactor ts term → IsProduct ts term
    multiplied : (ts : List Token) (t : Token) (us : List Token) {left right : Term} {operator : Operator}
        → IsProduct ts left → IsProductOperator t operator → IsFactor us right
        → IsProduct (ts ++ t ∷ us) (trees.Combined left operator right)

  -- term = product { (+ | -) product }, grouped to the left
  pub data IsSum : List Token → Term → Type 0 where
    product : {ts : List Token} {term : Term} → IsProduct ts term → IsSum ts term
    added : (ts : List Token) (t : Token) (us : List Token) {left right : Term} {operator : Operator}
        → IsSum ts left → IsSumOperator t operator → IsProduct us right
        → IsSum (ts ++ t ∷ us) (trees.Combined left operator right)
