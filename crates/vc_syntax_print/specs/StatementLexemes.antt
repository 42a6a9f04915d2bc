-- The canonical lexemes of the statements of procedures and of the demands of constraints.
use Rattle.std.specs.Prelude.{List, [], ◌∷◌, ◌++◌, Option, Some, None}
use Rattle.vc_syntax_tokens.specs.declared.token.Lexeme.{Lexeme}
use Rattle.vc_syntax_tokens.specs.declared.token.Lexeme.TheVariants as lexemes
use Rattle.vc_syntax_tokens.specs.declared.token.Sign.TheVariants as signs
use Rattle.vc_syntax_tokens.specs.declared.token.Dollar.TheVariants as dollars
use Rattle.vc_syntax_tokens.specs.declared.token.Reserved.TheVariants as words
use Rattle.vc_syntax_tokens.specs.Lexemes.{lexeme_of_word}
use Rattle.vc_syntax_tree.specs.declared.NameLeaf.{NameLeaf}
use Rattle.vc_syntax_tree.specs.Trees.{Term, Condition, Binding, TableCall, Action, Assign, SetDefault, DelDefault}
use Rattle.vc_syntax_tree.specs.Trees.{Calls, Statement, Demand, Relates, Holds, Never, Restriction}
use Rattle.vc_syntax_print.specs.TermLexemes.{wrapped, self_and_name, term_lexemes}
use Rattle.vc_syntax_print.specs.ConditionLexemes.{separated, relation_lexemes, condition_lexemes}

-- C = 1
abbrev pub binding_lexemes : Binding → List Lexeme
binding_lexemes binding = lexemes.Name binding.column.name ∷ lexemes.Sign signs.Equal ∷ term_lexemes binding.value

-- TABLE T ( C = 1 , D = E )
abbrev pub call_lexemes : TableCall → List Lexeme
call_lexemes call =
    lexemes.Reserved words.Table ∷ lexeme_of_word call.table.name
    ∷ wrapped (separated signs.Comma binding_lexemes call.bindings)

-- ( $SELF , C , 1 )
abbrev pub default_lexemes : NameLeaf → Term → List Lexeme
default_lexemes name term = self_and_name name ++ lexemes.Sign signs.Comma
    ∷ (term_lexemes term ++ lexemes.Sign signs.CloseParen ∷ [])

abbrev pub action_lexemes : Action → List Lexeme
action_lexemes (Assign name term) =
    lexemes.Dollar dollars.Itself ∷ lexemes.Sign signs.Dot ∷ lexemes.Name name.name ∷ lexemes.Sign signs.Equal
    ∷ term_lexemes term
action_lexemes (SetDefault name term) = lexemes.Dollar dollars.SetDefault ∷ default_lexemes name term
action_lexemes (DelDefault name term) = lexemes.Dollar dollars.DelDefault ∷ default_lexemes name term
action_lexemes (Calls call) = call_lexemes call

-- IF A = 1, or nothing
abbrev pub if_lexemes : Option Condition → List Lexeme
if_lexemes None = []
if_lexemes (Some condition) = lexemes.Reserved words.If ∷ condition_lexemes condition

abbrev pub statement_lexemes : Statement → List Lexeme
statement_lexemes statement = action_lexemes statement.action ++ if_lexemes statement.condition

abbrev pub demand_lexemes : Demand → List Lexeme
demand_lexemes (Relates relation) = relation_lexemes relation
demand_lexemes (Holds call) = call_lexemes call
demand_lexemes Never = lexemes.Reserved words.False ∷ []

abbrev pub restriction_lexemes : Restriction → List Lexeme
restriction_lexemes restriction = demand_lexemes restriction.demand ++ if_lexemes restriction.condition
