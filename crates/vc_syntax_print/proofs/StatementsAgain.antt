-- The canonical lexemes of a statement and of a restriction that some text spells, spell it again.
use Rattle.std.proofs.Common.{◌≡◌, ℕ, List, ◌∷◌, ◌++◌, map, Option, Some, None, refl, ap, ◌∙◌}
use Rattle.std.specs.Prelude.{option_map}
use Rattle.vc_syntax_tokens.specs.declared.token.Token.{Token}
use Rattle.vc_syntax_tokens.specs.declared.token.Lexeme.TheVariants as lexemes
use Rattle.vc_syntax_tokens.specs.declared.token.Sign.TheVariants as signs
use Rattle.vc_syntax_tokens.specs.declared.token.Dollar.TheVariants as dollars
use Rattle.vc_syntax_tokens.specs.declared.token.Reserved.{Reserved}
use Rattle.vc_syntax_tokens.specs.declared.token.Reserved.TheVariants as words
use Rattle.vc_syntax_tokens.specs.Spellings.{reserved_of}
use Rattle.vc_syntax_tokens.specs.Lexemes.{named, lexeme_of_word}
use Rattle.vc_syntax_tree.specs.declared.NameLeaf.{NameLeaf}
use Rattle.vc_syntax_terms.specs.Leaves.{any_name_in}
use Rattle.vc_syntax.specs.StatementReading.{bind, call, state, demand}
use Rattle.vc_syntax_terms.specs.TermGrammar.{IsAnyName, IsSelfAndName, IsSum}
use Rattle.vc_syntax_terms.specs.ConditionGrammar.{IsListed, IsRelation, IsCondition}
use Rattle.vc_syntax.specs.StatementGrammar as grammar
use Rattle.vc_syntax.specs.StatementGrammar.{IsBinding, IsTable, IsAction, IsIf, IsStatement, IsDemand, IsRestriction}
use Rattle.vc_syntax_tree.specs.Trees as trees
use Rattle.vc_syntax_tree.specs.Trees.{Term, Relation, Condition, Binding, TableCall, Action, Statement, Demand}
use Rattle.vc_syntax_tree.specs.Trees.{Restriction}
use Rattle.vc_syntax_print.specs.TermLexemes.{self_and_name, term_lexemes}
use Rattle.vc_syntax_print.specs.ConditionLexemes.{separated, condition_lexemes}
use Rattle.vc_syntax_print.specs.StatementLexemes.{binding_lexemes, call_lexemes, action_lexemes, if_lexemes}
use Rattle.vc_syntax_print.specs.StatementLexemes.{statement_lexemes, demand_lexemes, restriction_lexemes}
use Rattle.vc_syntax_print.specs.Places.{bare_name, bare_term, bare_relation, bare_condition, bare_binding, bare_call}
use Rattle.vc_syntax_print.specs.Places.{bare_action, bare_statement, bare_demand, bare_restriction}
use Rattle.vc_syntax_print.proofs.Spelt.{Spelt, Again, front, nothing, single, split, between, ended, name_at}
use Rattle.vc_syntax_print.proofs.Spelt.{name_again, listed_again}
use Rattle.vc_syntax_print.proofs.TermsAgain.{self_again, term_again}
use Rattle.vc_syntax_print.proofs.ConditionsAgain.{relation_again, condition_again}
use Rattle.vc_syntax_print.proofs.ReservedNames.{reserved_is}

any_again_by : (word : List ℕ) (o : Option Reserved) (start end : ℕ) → reserved_of word ≡ o
    → any_name_in (named word o) start end ≡ Some (record { name = word; start = start; end = end })
any_again_by word None start end h = refl
any_again_by word (Some r) start end h =
    ap (λ w. Some (record { name = w; start = start; end = end })) (reserved_is word r h)

pub any_name_again : (t : Token) (leaf : NameLeaf) → t.lexeme ≡ lexeme_of_word leaf.name → IsAnyName t (name_at t leaf)
any_name_again t leaf e = ap (λ l. any_name_in l t.start t.end) e
    ∙ any_again_by leaf.name (reserved_of leaf.name) t.start t.end refl

binding_again : (binding : Binding) → Again IsBinding bare_binding (binding_lexemes binding) binding
binding_again binding ts e =
    front (λ z. Spelt IsBinding bare_binding z binding) (lexemes.Name binding.column.name) _ ts e (λ t us p q.
    front (λ z. Spelt IsBinding bare_binding (t ∷ z) binding) (lexemes.Sign signs.Equal) (term_lexemes binding.value) us
    q (λ equal vs r h.
    let s : Spelt IsSum bare_term vs binding.value = (term_again binding.value).sum vs h in
    record {
      tree = bind (name_at t binding.column) s.tree;
      spelled = grammar.bound t equal vs (name_again t binding.column p) r s.spelled;
      same = ap (λ z. bind (bare_name binding.column) z) s.same;
    }))

call_again : (ts : List Token) (what : TableCall) → IsTable ts what → Again IsTable bare_call (call_lexemes what) what
call_again _ _ (grammar.called t0 u0 opening0 us closing0 {table = table} {bindings = bindings} w0 n0 o0 l c0) ts e =
    front (λ z. Spelt IsTable bare_call z (call table bindings)) (lexemes.Reserved words.Table) _ ts e (λ t ts1 w e1.
    front (λ z. Spelt IsTable bare_call (t ∷ z) (call table bindings)) (lexeme_of_word table.name) _ ts1 e1
    (λ u ts2 n e2.
    front (λ z. Spelt IsTable bare_call (t ∷ u ∷ z) (call table bindings)) (lexemes.Sign signs.OpenParen) _ ts2 e2
    (λ opening ts3 o e3.
    ended (λ z. Spelt IsTable bare_call (t ∷ u ∷ opening ∷ z) (call table bindings))
    (separated signs.Comma binding_lexemes bindings) (lexemes.Sign signs.CloseParen) ts3 e3 (λ ts4 closing h c.
    let s : Spelt (IsListed signs.Comma IsBinding) (map bare_binding) ts4 bindings
    = listed_again signs.Comma IsBinding bare_binding binding_lexemes (λ xs x i. binding_again x) us bindings l ts4
    h in
    record {
      tree = call (name_at u table) s.tree;
      spelled = grammar.called t u opening ts4 closing w (any_name_again u table n) o s.spelled c;
      same = ap (λ z. call (bare_name table) z) s.same;
    }))))

set_again : (name : NameLeaf) (value : Term)
    → Again IsAction bare_action (action_lexemes (trees.SetDefault name value)) (trees.SetDefault name value)
set_again name value ts e =
    front (λ z. Spelt IsAction bare_action z (trees.SetDefault name value)) (lexemes.Dollar dollars.SetDefault) _ ts e
    (λ t ts1 d e1.
    between (λ z. Spelt IsAction bare_action (t ∷ z) (trees.SetDefault name value)) (self_and_name name)
    (lexemes.Sign signs.Comma) _ ts1 e1 (λ us comma ts2 p c e2.
    ended (λ z. Spelt IsAction bare_action (t ∷ (us ++ comma ∷ z)) (trees.SetDefault name value)) (term_lexemes value)
    (lexemes.Sign signs.CloseParen) ts2 e2 (λ vs closing q h.
    let s : Spelt IsSelfAndName bare_name us name = self_again name us p in
    let u : Spelt IsSum bare_term vs value = (term_again value).sum vs q in
    record {
      tree = trees.SetDefault s.tree u.tree;
      spelled = grammar.set_default t us comma vs closing d s.spelled c u.spelled h;
      same = ap (λ z. trees.SetDefault z (bare_term u.tree)) s.same
          ∙ ap (λ z. trees.SetDefault (bare_name name) z) u.same;
    })))

del_again : (name : NameLeaf) (value : Term)
    → Again IsAction bare_action (action_lexemes (trees.DelDefault name value)) (trees.DelDefault name value)
del_again name value ts e =
    front (λ z. Spelt IsAction bare_action z (trees.DelDefault name value)) (lexemes.Dollar dollars.DelDefault) _ ts e
    (λ t ts1 d e1.
    between (λ z. Spelt IsAction bare_action (t ∷ z) (trees.DelDefault name value)) (self_and_name name)
    (lexemes.Sign signs.Comma) _ ts1 e1 (λ us comma ts2 p c e2.
    ended (λ z. Spelt IsAction bare_action (t ∷ (us ++ comma ∷ z)) (trees.DelDefault name value)) (term_lexemes value)
    (lexemes.Sign signs.CloseParen) ts2 e2 (λ vs closing q h.
    let s : Spelt IsSelfAndName bare_name us name = self_again name us p in
    let u : Spelt IsSum bare_term vs value = (term_again value).sum vs q in
    record {
      tree = trees.DelDefault s.tree u.tree;
      spelled = grammar.del_default t us comma vs closing d s.spelled c u.spelled h;
      same = ap (λ z. trees.DelDefault z (bare_term u.tree)) s.same
          ∙ ap (λ z. trees.DelDefault (bare_name name) z) u.same;
    })))

assign_again : (name : NameLeaf) (value : Term)
    → Again IsAction bare_action (action_lexemes (trees.Assign name value)) (trees.Assign name value)
assign_again name value ts e =
    front (λ z. Spelt IsAction bare_action z (trees.Assign name value)) (lexemes.Dollar dollars.Itself) _ ts e
    (λ t ts1 p e1.
    front (λ z. Spelt IsAction bare_action (t ∷ z) (trees.Assign name value)) (lexemes.Sign signs.Dot) _ ts1 e1
    (λ dot ts2 d e2.
    front (λ z. Spelt IsAction bare_action (t ∷ dot ∷ z) (trees.Assign name value)) (lexemes.Name name.name) _ ts2 e2
    (λ u ts3 n e3.
    front (λ z. Spelt IsAction bare_action (t ∷ dot ∷ u ∷ z) (trees.Assign name value)) (lexemes.Sign signs.Equal)
    (term_lexemes value) ts3 e3 (λ equal vs q h.
    let s : Spelt IsSum bare_term vs value = (term_again value).sum vs h in
    record {
      tree = trees.Assign (name_at u name) s.tree;
      spelled = grammar.assign t dot u equal vs p d (name_again u name n) q s.spelled;
      same = ap (λ z. trees.Assign (bare_name name) z) s.same;
    }))))

action_again : (ts : List Token) (action : Action) → IsAction ts action
    → Again IsAction bare_action (action_lexemes action) action
action_again _ _ (grammar.assign t dot u equal ts {name = name} {value = value} s d e q x) = assign_again name value
action_again _ _ (grammar.set_default t ts comma us closing {name = name} {value = value} e x c y d) =
    set_again name value
action_again _ _ (grammar.del_default t ts comma us closing {name = name} {value = value} e x c y d) =
    del_again name value
action_again _ _ (grammar.table {ts = ts} {call = what} x) = λ vs e.
    let s : Spelt IsTable bare_call vs what = call_again ts what x vs e in
    record { tree = trees.Calls s.tree; spelled = grammar.table s.spelled; same = ap trees.Calls s.same }

if_again : (ts : List Token) (condition : Option Condition) → IsIf ts condition
    → Again IsIf (option_map bare_condition) (if_lexemes condition) condition
if_again _ _ grammar.always = λ vs e.
    nothing (λ z. Spelt IsIf (option_map bare_condition) z None) vs e
    (record { tree = None; spelled = grammar.always; same = refl })
if_again _ _ (grammar.when t0 ts {condition = condition} w0 x) = λ vs e.
    front (λ z. Spelt IsIf (option_map bare_condition) z (Some condition)) (lexemes.Reserved words.If)
    (condition_lexemes condition) vs e (λ t us w q.
    let s : Spelt IsCondition bare_condition us condition = (condition_again ts condition x).whole us q in
    record { tree = Some s.tree; spelled = grammar.when t us w s.spelled; same = ap (λ z. Some z) s.same })

pub statement_again : (ts : List Token) (statement : Statement) → IsStatement ts statement
    → Again IsStatement bare_statement (statement_lexemes statement) statement
statement_again _ _ (grammar.stated ts us {action = action} {condition = condition} x y) vs e =
    split (λ z. Spelt IsStatement bare_statement z (state action condition)) (action_lexemes action)
    (if_lexemes condition) vs e (λ ws xs p q.
    let s : Spelt IsAction bare_action ws action = action_again ts action x ws p in
    let u : Spelt IsIf (option_map bare_condition) xs condition = if_again us condition y xs q in
    record {
      tree = state s.tree u.tree;
      spelled = grammar.stated ws xs s.spelled u.spelled;
      same = ap (λ z. state z (option_map bare_condition u.tree)) s.same
          ∙ ap (λ z. state (bare_action action) z) u.same;
    })

demand_again : (ts : List Token) (what : Demand) → IsDemand ts what
    → Again IsDemand bare_demand (demand_lexemes what) what
demand_again _ _ (grammar.relation {ts = ts} {relation = relation} x) = λ vs e.
    let s : Spelt IsRelation bare_relation vs relation = relation_again ts relation x vs e in
    record { tree = trees.Relates s.tree; spelled = grammar.relation s.spelled; same = ap trees.Relates s.same }
demand_again _ _ (grammar.table {ts = ts} {call = what} x) = λ vs e.
    let s : Spelt IsTable bare_call vs what = call_again ts what x vs e in
    record { tree = trees.Holds s.tree; spelled = grammar.table s.spelled; same = ap trees.Holds s.same }
demand_again _ _ (grammar.never {t = t0} w0) = λ vs e.
    single (λ z. Spelt IsDemand bare_demand z trees.Never) (lexemes.Reserved words.False) vs e
    (λ t w. record { tree = trees.Never; spelled = grammar.never w; same = refl })

pub restriction_again : (ts : List Token) (restriction : Restriction) → IsRestriction ts restriction
    → Again IsRestriction bare_restriction (restriction_lexemes restriction) restriction
restriction_again _ _ (grammar.demanded ts us {what = what} {condition = condition} x y) vs e =
    split (λ z. Spelt IsRestriction bare_restriction z (demand what condition)) (demand_lexemes what)
    (if_lexemes condition) vs e (λ ws xs p q.
    let s : Spelt IsDemand bare_demand ws what = demand_again ts what x ws p in
    let u : Spelt IsIf (option_map bare_condition) xs condition = if_again us condition y xs q in
    record {
      tree = demand s.tree u.tree;
      spelled = grammar.demanded ws xs s.spelled u.spelled;
      same = ap (λ z. demand z (option_map bare_condition u.tree)) s.same
          ∙ ap (λ z. demand (bare_demand what) z) u.same;
    })
