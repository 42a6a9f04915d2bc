-- How the statements of procedures and the demands of constraints are read.
use Rattle.std.specs.Prelude.{ℕ, List, [], ◌∷◌, Option, Some, None}
use Rattle.vc_syntax_tokens.specs.declared.token.Token.{Token}
use Rattle.vc_syntax_tokens.specs.declared.token.Lexeme.{Lexeme}
use Rattle.vc_syntax_tokens.specs.declared.token.Lexeme.TheVariants as lexemes
use Rattle.vc_syntax_tokens.specs.declared.token.Sign.TheVariants as signs
use Rattle.vc_syntax_tokens.specs.declared.token.Dollar.TheVariants as dollars
use Rattle.vc_syntax_tokens.specs.declared.token.Reserved.TheVariants as words
use Rattle.vc_syntax_tree.specs.declared.NameLeaf.{NameLeaf}
use Rattle.vc_syntax_terms.specs.Leaves.{after_sign, after_word, named, any_named}
use Rattle.vc_syntax_terms.specs.Reading.{Reader, then, either, made, closed, grouped, listed}
use Rattle.vc_syntax_terms.specs.TermReading.{dotted, self_and_name, sum}
use Rattle.vc_syntax_terms.specs.ConditionReading.{relation, condition}
use Rattle.vc_syntax_tree.specs.Trees as trees
use Rattle.vc_syntax_tree.specs.Trees.{Term, Condition, Binding, TableCall, Action, Statement, Demand, Restriction}

abbrev pub bind : NameLeaf → Term → Binding
bind column value = record { column = column; value = value }

abbrev pub call : NameLeaf → List Binding → TableCall
call table bindings = record { table = table; bindings = bindings }

abbrev pub state : Action → Option Condition → Statement
state action condition = record { action = action; condition = condition }

abbrev pub demand : Demand → Option Condition → Restriction
demand what condition = record { demand = what; condition = condition }

abbrev pub binding : ℕ → Reader Binding
binding left ts = then (named ts)
    (λ column. then (after_sign signs.Equal column.1) (λ rest. made (bind column.0) (sum left rest)))

-- what stands behind TABLE
abbrev pub table_call : ℕ → Reader TableCall
table_call left ts =
    then (any_named ts) (λ table. made (call table.0) (grouped (listed signs.Comma (binding left)) table.1))

-- what stands behind `$SELF`
abbrev pub assignment : ℕ → Reader Action
assignment left ts =
    then (dotted ts) (λ name. then (after_sign signs.Equal name.1) (λ rest. made (trees.Assign name.0) (sum left rest)))

-- `( $SELF , name , term )`
abbrev pub defaulted : (NameLeaf → Term → Action) → ℕ → Reader Action
defaulted make left ts =
    then (self_and_name ts)
    (λ name. then (after_sign signs.Comma name.1) (λ rest. made (make name.0) (closed (sum left rest))))

abbrev pub action_in : ℕ → Lexeme → Reader Action
action_in left (lexemes.Dollar dollars.Itself) ts = assignment left ts
action_in left (lexemes.Dollar dollars.SetDefault) ts = defaulted trees.SetDefault left ts
action_in left (lexemes.Dollar dollars.DelDefault) ts = defaulted trees.DelDefault left ts
action_in left (lexemes.Reserved words.Table) ts = made trees.Calls (table_call left ts)
action_in left _ ts = None

abbrev pub action : ℕ → Reader Action
action left [] = None
action left (t ∷ ts) = action_in left t.lexeme ts

-- the condition behind IF, if there is an IF
abbrev pub condition_if : ℕ → Reader (Option Condition)
condition_if left ts = either (after_word words.If ts) (Some (None, ts)) (λ rest. made Some (condition left rest))

abbrev pub statement : ℕ → Reader Statement
statement left ts = then (action left ts) (λ found. made (state found.0) (condition_if left found.1))

abbrev pub demand_in : ℕ → Lexeme → Token → Reader Demand
demand_in left (lexemes.Reserved words.Table) t ts = made trees.Holds (table_call left ts)
demand_in left (lexemes.Reserved words.False) t ts = Some (trees.Never, ts)
demand_in left _ t ts = made trees.Relates (relation left (t ∷ ts))

abbrev pub demanded : ℕ → Reader Demand
demanded left [] = made trees.Relates (relation left [])
demanded left (t ∷ ts) = demand_in left t.lexeme t ts

abbrev pub restriction : ℕ → Reader Restriction
restriction left ts = then (demanded left ts) (λ found. made (demand found.0) (condition_if left found.1))
