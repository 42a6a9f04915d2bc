-- The canonical lexemes of a statement and of a restriction are the simpler ones of each text that spells it.
use Rattle.std.proofs.Common.{◌≡◌, ℕ, true, false, List, [], ◌∷◌, ◌++◌, Option, Some, None, refl, sym, ap, subst, ◌∙◌}
use Rattle.std.specs.Prelude.{◌&&◌}
use Rattle.std.proofs.lemmas.List.{append-nil}
use Rattle.vc_value.specs.Names.{is_name}
use Rattle.vc_value.proofs.GrainLemmas.{both}
use Rattle.vc_syntax_tokens.specs.declared.token.Token.{Token}
use Rattle.vc_syntax_tokens.specs.declared.token.Lexeme.{Lexeme}
use Rattle.vc_syntax_tokens.specs.declared.token.Lexeme.TheVariants as lexemes
use Rattle.vc_syntax_tokens.specs.declared.token.Sign.TheVariants as signs
use Rattle.vc_syntax_tokens.specs.declared.token.Dollar.TheVariants as dollars
use Rattle.vc_syntax_tokens.specs.declared.token.Reserved.{Reserved}
use Rattle.vc_syntax_tokens.specs.declared.token.Reserved.TheVariants as words
use Rattle.vc_syntax_tokens.specs.Spellings.{reserved_of, reserved_spelling}
use Rattle.vc_syntax_tokens.specs.Lexemes.{named, lexeme_of_word}
use Rattle.vc_syntax_tokens.specs.Texts.{is_dot, is_period}
use Rattle.vc_syntax_tokens.specs.Written.{is_lexeme, is_upper, is_unreserved, is_star}
use Rattle.vc_syntax_tokens.proofs.LexemesAgain.{reserved_again}
use Rattle.vc_syntax_tree.specs.declared.NameLeaf.{NameLeaf}
use Rattle.vc_syntax_terms.specs.Leaves.{any_name_in}
use Rattle.vc_syntax_terms.specs.TermGrammar.{IsSign, IsAnyName, IsSelfAndName, IsSum}
use Rattle.vc_syntax.specs.StatementGrammar as grammar
use Rattle.vc_syntax.specs.StatementGrammar.{IsBinding, IsTable, IsAction, IsIf, IsStatement, IsDemand, IsRestriction}
use Rattle.vc_syntax_tree.specs.Trees.{Term, Condition, Binding, TableCall, Action, Statement, Demand, Restriction}
use Rattle.vc_syntax_print.specs.TermLexemes.{self_and_name, term_lexemes}
use Rattle.vc_syntax_print.specs.ConditionLexemes.{condition_lexemes}
use Rattle.vc_syntax_print.specs.StatementLexemes.{binding_lexemes, call_lexemes, default_lexemes, action_lexemes}
use Rattle.vc_syntax_print.specs.StatementLexemes.{if_lexemes, statement_lexemes, demand_lexemes, restriction_lexemes}
use Rattle.vc_syntax_print.proofs.Simpler as simpler
use Rattle.vc_syntax_print.proofs.Simpler.{Alike, Simpler}
use Rattle.vc_syntax_print.proofs.Marks.{alike, token_is, before_is, operated_is, closed_is, wrapped_is, name_lexeme}
use Rattle.vc_syntax_print.proofs.TermsSimpler.{self_simpler, sum_simpler}
use Rattle.vc_syntax_print.proofs.ConditionsSimpler.{relation_simpler, condition_simpler}
use Rattle.vc_syntax_print.proofs.ListsSimpler.{listed_simpler}

unreserved : (word : List ℕ) (o : Option Reserved) → is_unreserved o ≡ true → named word o ≡ lexemes.Name word
unreserved word None e = refl
unreserved word (Some r) e = absurd (cc)

any_name : Option NameLeaf → List ℕ
any_name None = []
any_name (Some leaf) = leaf.name

-- a name's token has the lexeme of the word
any_lexeme_in : (l : Lexeme) (start end : ℕ) (leaf : NameLeaf) → any_name_in l start end ≡ Some leaf
    → is_lexeme l ≡ true → l ≡ lexeme_of_word leaf.name
unfolding any_name
any_lexeme_in (lexemes.Name name) start end leaf e good =
    sym (unreserved name (reserved_of name)
    (both (is_name name && is_upper name) (is_unreserved (reserved_of name)) good).1)
    ∙ ap (λ o. lexeme_of_word (any_name o)) e
any_lexeme_in (lexemes.Reserved word) start end leaf e good =
    sym (ap (named (reserved_spelling word)) (reserved_again word).2) ∙ ap (λ o. lexeme_of_word (any_name o)) e
any_lexeme_in _ start end leaf e good = absurd (cc)

named_no_dot : (word : List ℕ) (o : Option Reserved) → is_dot (named word o) ≡ false
named_no_dot word None = refl
named_no_dot word (Some r) = refl

named_no_period : (word : List ℕ) (o : Option Reserved) → is_period (named word o) ≡ false
named_no_period word None = refl
named_no_period word (Some r) = refl

named_no_star : (word : List ℕ) (o : Option Reserved) → is_star (named word o) ≡ false
named_no_star word None = refl
named_no_star word (Some r) = refl

pub word_no_star : (word : List ℕ) → is_star (lexeme_of_word word) ≡ false
word_no_star word = named_no_star word (reserved_of word)

pub any_alike : (t : Token) (leaf : NameLeaf) → IsAnyName t leaf → Alike t.lexeme (lexeme_of_word leaf.name)
any_alike t leaf e good =
    alike t.lexeme (lexeme_of_word leaf.name) (any_lexeme_in t.lexeme t.start t.end leaf e good)
    (named_no_dot leaf.name (reserved_of leaf.name)) (named_no_period leaf.name (reserved_of leaf.name)) good

binding_simpler : (ts : List Token) (binding : Binding) → IsBinding ts binding
    → Simpler true ts (binding_lexemes binding)
binding_simpler _ _ (grammar.bound t equal ts {column = column} {value = value} e s x) =
    before_is true t (lexemes.Name column.name) _ _ (name_lexeme t column e) refl refl refl
    (before_is true equal (lexemes.Sign signs.Equal) ts _ s refl refl refl (sum_simpler ts value x))

call_simpler : (ts : List Token) (call : TableCall) → IsTable ts call → Simpler true ts (call_lexemes call)
call_simpler _ _ (grammar.called t u opening ts closing {table = table} {bindings = bindings} w n o l c) =
    before_is true t (lexemes.Reserved words.Table) _ _ w refl refl refl
    (simpler.before u (lexeme_of_word table.name) (opening ∷ (ts ++ closing ∷ [])) _ (any_alike u table n)
    (word_no_star table.name)
    (wrapped_is true opening ts closing _ o
    (listed_simpler true signs.Comma IsBinding binding_lexemes refl refl binding_simpler ts bindings l) c))

default_simpler : (ts : List Token) (comma : Token) (us : List Token) (closing : Token) (name : NameLeaf) (value : Term)
    → IsSelfAndName ts name → IsSign signs.Comma comma → IsSum us value → IsSign signs.CloseParen closing
    → Simpler true (ts ++ comma ∷ (us ++ closing ∷ [])) (default_lexemes name value)
default_simpler ts comma us closing name value x c y d =
    operated_is true true ts comma (us ++ closing ∷ []) (self_and_name name) (lexemes.Sign signs.Comma) _
    (self_simpler ts name x) c refl refl
    (closed_is true us closing (term_lexemes value) (sum_simpler us value y) d)

action_simpler : (ts : List Token) (action : Action) → IsAction ts action → Simpler true ts (action_lexemes action)
action_simpler _ _ (grammar.assign t dot u equal ts {name = name} {value = value} s d e q x) =
    simpler.joined (t ∷ dot ∷ u ∷ []) (equal ∷ ts)
    (lexemes.Dollar dollars.Itself ∷ lexemes.Sign signs.Dot ∷ lexemes.Name name.name ∷ [])
    (lexemes.Sign signs.Equal ∷ term_lexemes value)
    (simpler.dotted t dot u (lexemes.Dollar dollars.Itself) name.name
    (alike t.lexeme (lexemes.Dollar dollars.Itself) s refl refl) refl d (name_lexeme u name e))
    (before_is true equal (lexemes.Sign signs.Equal) ts (term_lexemes value) q refl refl refl (sum_simpler ts value x))
action_simpler _ _ (grammar.set_default t ts comma us closing {name = name} {value = value} e x c y d) =
    before_is true t (lexemes.Dollar dollars.SetDefault) _ _ e refl refl refl
    (default_simpler ts comma us closing name value x c y d)
action_simpler _ _ (grammar.del_default t ts comma us closing {name = name} {value = value} e x c y d) =
    before_is true t (lexemes.Dollar dollars.DelDefault) _ _ e refl refl refl
    (default_simpler ts comma us closing name value x c y d)
action_simpler _ _ (grammar.table {ts = ts} {call = call} x) = call_simpler ts call x

-- what an IF follows, with it
if_simpler : (ts us : List Token) (ms : List Lexeme) (condition : Option Condition) → Simpler true ts ms
    → IsIf us condition → Simpler true (ts ++ us) (ms ++ if_lexemes condition)
if_simpler ts _ ms _ x grammar.always =
    subst (λ z. Simpler true z (ms ++ [])) (sym (append-nil ts))
    (subst (λ z. Simpler true ts z) (sym (append-nil ms)) x)
if_simpler ts _ ms _ x (grammar.when t us {condition = condition} w y) =
    operated_is true true ts t us ms (lexemes.Reserved words.If) (condition_lexemes condition) x w refl refl
    (condition_simpler us condition y)

pub statement_simpler : (ts : List Token) (statement : Statement) → IsStatement ts statement
    → Simpler true ts (statement_lexemes statement)
statement_simpler _ _ (grammar.stated ts us {action = action} {condition = condition} x y) =
    if_simpler ts us (action_lexemes action) condition (action_simpler ts action x) y

demand_simpler : (ts : List Token) (what : Demand) → IsDemand ts what → Simpler true ts (demand_lexemes what)
demand_simpler _ _ (grammar.relation {ts = ts} {relation = relation} x) = relation_simpler ts relation x
demand_simpler _ _ (grammar.table {ts = ts} {call = call} x) = call_simpler ts call x
demand_simpler _ _ (grammar.never {t = t} w) =
    token_is t (lexemes.Reserved words.False) w
    record { no_dot = refl; no_period = refl; no_opening = refl; no_not = refl; no_minus = refl; no_star = refl }

pub restriction_simpler : (ts : List Token) (restriction : Restriction) → IsRestriction ts restriction
    → Simpler true ts (restriction_lexemes restriction)
restriction_simpler _ _ (grammar.demanded ts us {what = what} {condition = condition} x y) =
    if_simpler ts us (demand_lexemes what) condition (demand_simpler ts what x) y
