-- The grammar of whole dependencies, a constructor for each kind.
use Rattle.std.specs.Prelude.{List, [], ◌∷◌, ◌++◌}
use Rattle.vc_syntax_tokens.specs.declared.token.Token.{Token}
use Rattle.vc_syntax_tokens.specs.declared.token.Sign.TheVariants as signs
use Rattle.vc_syntax_tokens.specs.declared.fault.Kind.{Kind}
use Rattle.vc_syntax_tokens.specs.declared.fault.Kind.TheVariants as kinds
use Rattle.vc_syntax_terms.specs.TermGrammar.{IsSign, IsSum}
use Rattle.vc_syntax_terms.specs.ConditionGrammar.{IsListed, IsCondition}
use Rattle.vc_syntax.specs.StatementGrammar.{IsStatement}
use Rattle.vc_syntax.specs.ConstraintGrammar.{IsConstraint}
use Rattle.vc_syntax_tree.specs.Trees as trees
use Rattle.vc_syntax_tree.specs.Trees.{Term, Condition, Statement, Constraint, Dependency}

-- [period]
pub data IsStop : List Token → Type 0 where
  nothing : IsStop []
  period : {t : Token} → IsSign signs.Period t → IsStop (t ∷ [])

-- Precondition, Selection: condition [period]. Procedure: statement {, statement} [period]. Constraint: its sections.
-- Term: term
pub data IsDependency : Kind → List Token → Dependency → Type 0 where
  precondition : (ts us : List Token) {x : Condition} → IsCondition ts x → IsStop us
      → IsDependency kinds.Precondition (ts ++ us) (trees.Precondition x)
  selection : (ts us : List Token) {x : Condition} → IsCondition ts x → IsStop us
      → IsDependency kinds.Selection (ts ++ us) (trees.Selection x)
  procedure : (ts us : List Token) {xs : List Statement} → IsListed signs.Comma IsStatement ts xs → IsStop us
      → IsDependency kinds.Procedure (ts ++ us) (trees.Procedure xs)
  constraint : {ts : List Token} {x : Constraint} → IsConstraint ts x
      → IsDependency kinds.Constraint ts (trees.Constrains x)
  term : {ts : List Token} {x : Term} → IsSum ts x → IsDependency kinds.Term ts (trees.Counts x)
