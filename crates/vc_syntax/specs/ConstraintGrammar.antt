-- The grammar of constraints, a constructor for each production.
use Rattle.std.specs.Prelude.{◌≡◌, List, [], ◌∷◌, ◌++◌, true, Option, Some, None}
use Rattle.vc_syntax_tokens.specs.declared.token.Token.{Token}
use Rattle.vc_syntax_tokens.specs.declared.token.Sign.TheVariants.{OpenParen, CloseParen, Comma, Semicolon, Colon}
use Rattle.vc_syntax_tokens.specs.declared.token.Sign.TheVariants.{Period, Equal}
use Rattle.vc_syntax_tokens.specs.declared.token.Reserved.TheVariants as words
use Rattle.vc_syntax_tree.specs.declared.NameLeaf.{NameLeaf}
use Rattle.vc_syntax_tree.specs.declared.TextLeaf.{TextLeaf}
use Rattle.vc_syntax_tree.specs.declared.Operand.{Operand}
use Rattle.vc_syntax_tree.specs.declared.ObjectKind.{ObjectKind}
use Rattle.vc_syntax_tree.specs.declared.ObjectKind.TheVariants.{Class, Material}
use Rattle.vc_syntax_tree.specs.declared.Alias.{Alias}
use Rattle.vc_syntax_tree.specs.declared.Object.{Object}
use Rattle.vc_syntax_terms.specs.TermGrammar.{IsSign, IsWord, IsName, IsAnyName, IsVariable, IsText, IsOperand}
use Rattle.vc_syntax_terms.specs.ConditionGrammar.{IsListed, IsCondition}
use Rattle.vc_syntax.specs.StatementGrammar.{IsRestriction}
use Rattle.vc_syntax.specs.ConstraintReading.{is_class_type, with_alias, with_object, with_constraint}
use Rattle.vc_syntax_tree.specs.Trees.{Condition, Restriction, Constraint}

-- the token is the number 300
abbrev pub IsClassType : Token → Type 0
IsClassType t = is_class_type t.lexeme ≡ true

-- IS_A ( 300 ) name | IS_OBJECT ( MATERIAL ) ( 300 ) ( NR = text )
pub data IsObjectKind : List Token → ObjectKind → Type 0 where
  class : {t opening number closing u : Token} {name : NameLeaf} → IsWord words.IsA t → IsSign OpenParen opening
      → IsClassType number
      → IsSign CloseParen closing → IsAnyName u name
      → IsObjectKind (t ∷ opening ∷ number ∷ closing ∷ u ∷ []) (Class name)
  material : {t a word b c number d e nr equal u f : Token} {text : TextLeaf} → IsWord words.IsObject t
      → IsSign OpenParen a → IsWord words.Material word → IsSign CloseParen b
      → IsSign OpenParen c → IsClassType number → IsSign CloseParen d
      → IsSign OpenParen e → IsWord words.Nr nr → IsSign Equal equal → IsText u text → IsSign CloseParen f
      → IsObjectKind (t ∷ a ∷ word ∷ b ∷ c ∷ number ∷ d ∷ e ∷ nr ∷ equal ∷ u ∷ f ∷ []) (Material text)

-- ?V = name
pub data IsAlias : List Token → Alias → Type 0 where
  alias : {t equal u : Token} {variable name : NameLeaf} → IsVariable t variable → IsSign Equal equal → IsName u name
      → IsAlias (t ∷ equal ∷ u ∷ []) (with_alias variable name)

-- [ where ]    where = WHERE ?V = name { ; ?V = name }
pub data IsWhere : List Token → List Alias → Type 0 where
  nowhere : IsWhere [] []
  where_ : (t : Token) (ts : List Token) {aliases : List Alias} → IsWord words.Where t
      → IsListed Semicolon IsAlias ts aliases → IsWhere (t ∷ ts) aliases

-- object = ?X IS_A .. [ where ] | ?X IS_OBJECT .. [ where ]
pub data IsObject : List Token → Object → Type 0 where
  object : (t : Token) (ts us : List Token) {variable : NameLeaf} {kind : ObjectKind} {aliases : List Alias}
      → IsVariable t variable → IsObjectKind ts kind → IsWhere us aliases
      → IsObject (t ∷ (ts ++ us)) (with_object variable kind aliases)

-- : .. period
pub data IsSection {A : Type 0} (IsA : List Token → A → Type 0) : List Token → A → Type 0 where
  section : (colon : Token) (ts : List Token) (period : Token) (x : A) → IsSign Colon colon → IsA ts x
      → IsSign Period period
      → IsSection IsA (colon ∷ (ts ++ period ∷ [])) x

-- OBJECTS : object {, object} period
pub data IsObjectSection : List Token → List Object → Type 0 where
  objects : (t : Token) (ts : List Token) {objects : List Object} → IsWord words.Objects t
      → IsSection (IsListed Comma IsObject) ts objects
      → IsObjectSection (t ∷ ts) objects

-- [ CONDITION : condition period ]
pub data IsConditionSection : List Token → Option Condition → Type 0 where
  always : IsConditionSection [] None
  when : (t : Token) (ts : List Token) {condition : Condition} → IsWord words.Condition t
      → IsSection IsCondition ts condition
      → IsConditionSection (t ∷ ts) (Some condition)

-- ( RESTRICTION | RESTRICTIONS ) : restrict {, restrict} period
pub data IsRestrictionSection : List Token → List Restriction → Type 0 where
  restriction : (t : Token) (ts : List Token) {restrictions : List Restriction} → IsWord words.Restriction t
      → IsSection (IsListed Comma IsRestriction) ts restrictions → IsRestrictionSection (t ∷ ts) restrictions
  restrictions : (t : Token) (ts : List Token) {restrictions : List Restriction} → IsWord words.Restrictions t
      → IsSection (IsListed Comma IsRestriction) ts restrictions → IsRestrictionSection (t ∷ ts) restrictions

-- [ INFERENCES : operand {, operand} period ]
pub data IsInferenceSection : List Token → List Operand → Type 0 where
  nothing : IsInferenceSection [] []
  inferences : (t : Token) (ts : List Token) {operands : List Operand} → IsWord words.Inferences t
      → IsSection (IsListed Comma IsOperand) ts operands
      → IsInferenceSection (t ∷ ts) operands

-- the four sections, one after another
pub data IsConstraint : List Token → Constraint → Type 0 where
  constraint : (ts us vs ws : List Token) {objects : List Object} {condition : Option Condition}
      {restrictions : List Restriction} {inferences : List Operand}
      → IsObjectSection ts objects → IsConditionSection us condition → IsRestrictionSection vs restrictions
      → IsInferenceSection ws inferences
      → IsConstraint (ts ++ (us ++ (vs ++ ws))) (with_constraint objects condition restrictions inferences)
