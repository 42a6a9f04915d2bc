-- The grammar of the statements of procedures and of the demands of constraints, a constructor for each production.
use Rattle.std.specs.Prelude.{List, [], ◌∷◌, ◌++◌, Option, Some, None}
use Rattle.vc_syntax_tokens.specs.declared.token.Token.{Token}
use Rattle.vc_syntax_tokens.specs.declared.token.Sign.TheVariants.{OpenParen, CloseParen, Comma, Dot, Equal}
use Rattle.vc_syntax_tokens.specs.declared.token.Dollar.TheVariants as dollars
use Rattle.vc_syntax_tokens.specs.declared.token.Reserved.TheVariants as words
use Rattle.vc_syntax_tree.specs.declared.NameLeaf.{NameLeaf}
use Rattle.vc_syntax_terms.specs.TermGrammar.{IsSign, IsWord, IsDollar, IsName, IsAnyName, IsSelfAndName, IsSum}
use Rattle.vc_syntax_terms.specs.ConditionGrammar.{IsListed, IsRelation, IsCondition}
use Rattle.vc_syntax.specs.StatementReading.{bind, call, state, demand}
use Rattle.vc_syntax_tree.specs.Trees as trees
use Rattle.vc_syntax_tree.specs.Trees.{Term, Relation, Condition, Binding, TableCall, Action, Statement, Demand}
use Rattle.vc_syntax_tree.specs.Trees.{Restriction}

-- name = term
pub data IsBinding : List Token → Binding → Type 0 where
  bound : (t equal : Token) (ts : List Token) {column : NameLeaf} {value : Term}
      → IsName t column → IsSign Equal equal → IsSum ts value → IsBinding (t ∷ equal ∷ ts) (bind column value)

-- table = TABLE name ( name = term {, name = term} )
pub data IsTable : List Token → TableCall → Type 0 where
  called : (t u opening : Token) (ts : List Token) (closing : Token) {table : NameLeaf} {bindings : List Binding}
      → IsWord words.Table t → IsAnyName u table → IsSign OpenParen opening → IsListed Comma IsBinding ts bindings
      → IsSign CloseParen closing
      → IsTable (t ∷ u ∷ opening ∷ (ts ++ closing ∷ [])) (call table bindings)

-- $SELF dot name = term | $SET_DEFAULT ( $SELF , name , term ) | $DEL_DEFAULT ( $SELF , name , term ) | table
pub data IsAction : List Token → Action → Type 0 where
  assign : (t dot u equal : Token) (ts : List Token) {name : NameLeaf} {value : Term}
      → IsDollar dollars.Itself t → IsSign Dot dot → IsName u name → IsSign Equal equal → IsSum ts value
      → IsAction (t ∷ dot ∷ u ∷ equal ∷ ts) (trees.Assign name value)
  set_default : (t : Token) (ts : List Token) (comma : Token) (us : List Token) (closing : Token) {name : NameLeaf}
      {value : Term}
      → IsDollar dollars.SetDefault t → IsSelfAndName ts name → IsSign Comma comma → IsSum us value
      → IsSign CloseParen closing
      → IsAction (t ∷ (ts ++ comma ∷ (us ++ closing ∷ []))) (trees.SetDefault name value)
  del_default : (t : Token) (ts : List Token) (comma : Token) (us : List Token) (closing : Token) {name : NameLeaf}
      {value : Term}
      → IsDollar dollars.DelDefault t → IsSelfAndName ts name → IsSign Comma comma → IsSum us value
      → IsSign CloseParen closing
      → IsAction (t ∷ (ts ++ comma ∷ (us ++ closing ∷ []))) (trees.DelDefault name value)
  table : {ts : List Token} {call : TableCall} → IsTable ts call → IsAction ts (trees.Calls call)

-- [ IF condition ]
pub data IsIf : List Token → Option Condition → Type 0 where
  always : IsIf [] None
  when : (t : Token) (ts : List Token) {condition : Condition} → IsWord words.If t → IsCondition ts condition
      → IsIf (t ∷ ts) (Some condition)

-- statement = (..) [ IF condition ]
pub data IsStatement : List Token → Statement → Type 0 where
  stated : (ts us : List Token) {action : Action} {condition : Option Condition} → IsAction ts action
      → IsIf us condition
      → IsStatement (ts ++ us) (state action condition)

-- relation | table | FALSE
pub data IsDemand : List Token → Demand → Type 0 where
  relation : {ts : List Token} {relation : Relation} → IsRelation ts relation → IsDemand ts (trees.Relates relation)
  table : {ts : List Token} {call : TableCall} → IsTable ts call → IsDemand ts (trees.Holds call)
  never : {t : Token} → IsWord words.False t → IsDemand (t ∷ []) trees.Never

-- restrict = (..) [ IF condition ]
pub data IsRestriction : List Token → Restriction → Type 0 where
  demanded : (ts us : List Token) {what : Demand} {condition : Option Condition} → IsDemand ts what → IsIf us condition
      → IsRestriction (ts ++ us) (demand what condition)
