-- The grammar of relations and conditions, a constructor for each production.
use Rattle.std.specs.Prelude.{◌≡◌, List, [], ◌∷◌, ◌++◌, false, true, Some}
use Rattle.vc_syntax_tokens.specs.declared.token.Token.{Token}
use Rattle.vc_syntax_tokens.specs.declared.token.Sign.{Sign}
use Rattle.vc_syntax_tokens.specs.declared.token.Sign.TheVariants.{OpenParen, CloseParen, Comma, Minus}
use Rattle.vc_syntax_tokens.specs.declared.token.Reserved.TheVariants as words
use Rattle.vc_syntax_tree.specs.declared.NameLeaf.{NameLeaf}
use Rattle.vc_syntax_tree.specs.declared.TextLeaf.{TextLeaf}
use Rattle.vc_syntax_tree.specs.declared.NumberLeaf.{NumberLeaf}
use Rattle.vc_syntax_tree.specs.declared.Operand.{Operand}
use Rattle.vc_syntax_tree.specs.declared.SignedNumber.{SignedNumber}
use Rattle.vc_syntax_tree.specs.declared.Item.{Item}
use Rattle.vc_syntax_tree.specs.declared.Item.TheVariants.{Text, Number, Interval}
use Rattle.vc_syntax_tree.specs.declared.Relator.{Relator}
use Rattle.vc_syntax_terms.specs.ConditionReading.{relator_in, with_sign}
use Rattle.vc_syntax_terms.specs.TermGrammar.{IsSign, IsWord, IsVariable, IsText, IsNumber, IsOperand, IsSum}
use Rattle.vc_syntax_tree.specs.Trees as trees
use Rattle.vc_syntax_tree.specs.Trees.{Term, Relation, Condition}

-- the token is a relation's sign, or the word for it
abbrev pub IsRelator : Token → Relator → Type 0
IsRelator t relator = relator_in t.lexeme ≡ Some relator

-- one thing or more, with a separator between them
pub data IsListed {A : Type 0} (separator : Sign) (IsA : List Token → A → Type 0) : List Token → List A → Type 0 where
  one : {ts : List Token} {x : A} → IsA ts x → IsListed separator IsA ts (x ∷ [])
  more : (ts : List Token) (t : Token) (us : List Token) (xs : List A) (x : A)
      → IsListed separator IsA ts xs → IsSign separator t → IsA us x
      → IsListed separator IsA (ts ++ t ∷ us) (xs ++ x ∷ [])

-- snumber = [-] number
pub data IsSignedNumber : List Token → SignedNumber → Type 0 where
  positive : {t : Token} {leaf : NumberLeaf} → IsNumber t leaf → IsSignedNumber (t ∷ []) (with_sign false leaf)
  negative : {minus t : Token} {leaf : NumberLeaf} → IsSign Minus minus → IsNumber t leaf
      → IsSignedNumber (minus ∷ t ∷ []) (with_sign true leaf)

-- item = text | snumber | snumber - snumber
pub data IsItem : List Token → Item → Type 0 where
  text : {t : Token} {leaf : TextLeaf} → IsText t leaf → IsItem (t ∷ []) (Text leaf)
  number : {ts : List Token} {number : SignedNumber} → IsSignedNumber ts number → IsItem ts (Number number)
  interval : (ts : List Token) (minus : Token) (us : List Token) {low high : SignedNumber}
      → IsSignedNumber ts low → IsSign Minus minus → IsSignedNumber us high
      → IsItem (ts ++ minus ∷ us) (Interval low high)

-- relation = term relop term | operand IN ( item {, item} )
pub data IsRelation : List Token → Relation → Type 0 where
  compared : (ts : List Token) (t : Token) (us : List Token) {left right : Term} {relator : Relator}
      → IsSum ts left → IsRelator t relator → IsSum us right
      → IsRelation (ts ++ t ∷ us) (trees.Compared left relator right)
  within : (ts : List Token) (t opening : Token) (us : List Token) (closing : Token) {operand : Operand}
      {items : List Item}
      → IsOperand ts operand → IsWord words.In t → IsSign OpenParen opening → IsListed Comma IsItem us items
      → IsSign CloseParen closing
      → IsRelation (ts ++ t ∷ opening ∷ (us ++ closing ∷ [])) (trees.Within operand items)

mutual
  -- neg = NOT neg | ( condition ) | relation | SPECIFIED operand | operand SPECIFIED | PART_OF ( ?X , ?Y )
  pub data IsNegation : List Token → Condition → Type 0 where
    negated : (t : Token) (ts : List Token) {condition : Condition} → IsWord words.Not t → IsNegation ts condition
        → IsNegation (t ∷ ts) (trees.Not condition)
    grouped : (opening : Token) (ts : List Token) (closing : Token) {condition : Condition}
        → IsSign OpenParen opening → IsCondition ts condition → IsSign CloseParen closing
        → IsNegation (opening ∷ (ts ++ closing ∷ [])) condition
    related : {ts : List Token} {relation : Relation} → IsRelation ts relation → IsNegation ts (trees.Related relation)
    specified : (t : Token) (ts : List Token) {operand : Operand} → IsWord words.Specified t → IsOperand ts operand
        → IsNegation (t ∷ ts) (trees.Specified operand)
    specified_behind : (ts : List Token) (t : Token) {operand : Operand} → IsOperand ts operand
        → IsWord words.Specified t
        → IsNegation (ts ++ t ∷ []) (trees.Specified operand)
    part_of : {t opening u comma v closing : Token} {part whole : NameLeaf} → IsWord words.PartOf t
        → IsSign OpenParen opening → IsVariable u part
        → IsSign Comma comma → IsVariable v whole → IsSign CloseParen closing
        → IsNegation (t ∷ opening ∷ u ∷ comma ∷ v ∷ closing ∷ []) (trees.PartOf part whole)

  -- conj = neg { AND neg }, grouped to the left
  pub data IsConjunction : List Token → Condition → Type 0 where
    negation : {ts : List Token} {condition : Condition} → IsNegation ts condition → IsConjunction ts condition
    and : (ts : List Token) (t : Token) (us : List Token) {left right : Condition}
        → IsConjunction ts left → IsWord words.And t → IsNegation us right
        → IsConjunction (ts ++ t ∷ us) (trees.And left right)

  -- condition = conj { OR conj }, grouped to the left
  pub data IsCondition : List Token → Condition → Type 0 where
    conjunction : {ts : List Token} {condition : Condition} → IsConjunction ts condition → IsCondition ts condition
    or : (ts : List Token) (t : Token) (us : List Token) {left right : Condition}
        → IsCondition ts left → IsWord words.Or t → IsConjunction us right
        → IsCondition (ts ++ t ∷ us) (trees.Or left right)
