-- What the grammar of statements and restrictions says, is read.
use Rattle.std.proofs.Common.{◌≡◌, ℕ, ◌≤◌, List, [], ◌∷◌, ◌++◌, length, cond, Option, Some, None, refl, ap, ◌∙◌}
use Rattle.std.proofs.Common.{append_assoc, length-append, arith}
use Rattle.vc_syntax_tokens.specs.declared.token.Token.{Token}
use Rattle.vc_syntax_tokens.specs.declared.token.Lexeme.{Lexeme}
use Rattle.vc_syntax_tokens.specs.declared.token.Lexeme.TheVariants as lexemes
use Rattle.vc_syntax_tokens.specs.declared.token.Sign.TheVariants as signs
use Rattle.vc_syntax_tokens.specs.declared.token.Reserved.TheVariants as words
use Rattle.vc_syntax_tree.specs.declared.NameLeaf.{NameLeaf}
use Rattle.vc_syntax_terms.specs.Leaves.{is_sign, is_word, after_sign, after_word}
use Rattle.vc_syntax_terms.specs.Reading.{then, either, made, leaving, leaving_as, closed, grouped, word, listed}
use Rattle.vc_syntax_terms.specs.TermReading.{product_operator_in, sum_operator_in, sum}
use Rattle.vc_syntax_terms.specs.ConditionReading.{any, relation, conjunction, condition}
use Rattle.vc_syntax.specs.StatementReading.{bind, call, state, demand, binding, table_call, defaulted, action_in}
use Rattle.vc_syntax.specs.StatementReading.{action, condition_if, statement, demand_in, demanded, restriction}
use Rattle.vc_syntax_tree.specs.Trees as trees
use Rattle.vc_syntax_tree.specs.Trees.{Term, Relation, Condition, Binding, TableCall, Action, Statement, Demand}
use Rattle.vc_syntax_tree.specs.Trees.{Restriction}
use Rattle.vc_syntax_terms.specs.TermGrammar.{IsSign, IsAnyName, IsSelfAndName, IsSum}
use Rattle.vc_syntax_terms.specs.ConditionGrammar.{IsListed, IsCondition}
use Rattle.vc_syntax.specs.StatementGrammar as grammar
use Rattle.vc_syntax.specs.StatementGrammar.{IsBinding, IsTable, IsAction, IsIf, IsStatement, IsDemand, IsRestriction}
use Rattle.vc_syntax_terms.proofs.Chains.{chained_stops}
use Rattle.vc_syntax_terms.proofs.TokenLaws.{after_sign_again, after_word_again, named_again, any_named_again}
use Rattle.vc_syntax_terms.proofs.Lists.{reads_whole_list}
use Rattle.vc_syntax_terms.proofs.TermCompleteness.{closed_again, close_ends, dotted_again, reads_self_and_name}
use Rattle.vc_syntax_terms.proofs.ConditionCompleteness.{EndsTerm, reads_whole_sum, word_ends, word_no_relation}
use Rattle.vc_syntax_terms.proofs.ConditionCompleteness.{relation_again, reads_condition}
use Rattle.vc_syntax.proofs.StatementSoundness.{binding_shortens}

-- nothing follows that goes on with a condition, and no IF
abbrev pub EndsCondition : List Token → Type 0
EndsCondition rest = EndsTerm rest × (after_word words.And rest ≡ None) × (after_word words.Or rest ≡ None)

abbrev pub EndsStatement : List Token → Type 0
EndsStatement rest = EndsCondition rest × (after_word words.If rest ≡ None)

pub reads_whole_condition : (ts : List Token) (x : Condition) → IsCondition ts x → (n : ℕ) → length ts ≤ n
    → (rest : List Token) → EndsCondition rest
    → condition n (ts ++ rest) ≡ Some (x, rest)
reads_whole_condition ts x d n h rest ends = reads_condition ts x d n h rest ends.0 ends.1
    ∙ chained_stops (word words.Or) any (conjunction n) x rest (ap (λ o. leaving_as tt o) ends.2)

if_ends : (ts : List Token) (x : Option Condition) → IsIf ts x → (rest : List Token) → EndsStatement rest
    → EndsTerm (ts ++ rest)
if_ends _ _ grammar.always rest ends = ends.0.0
if_ends _ _ (grammar.when t ts w d) rest ends = word_ends words.If t (ts ++ rest) w

condition_if_again : (ts : List Token) (x : Option Condition) → IsIf ts x → (n : ℕ) → length ts ≤ n
    → (rest : List Token) → EndsStatement rest
    → condition_if n (ts ++ rest) ≡ Some (x, rest)
condition_if_again _ _ grammar.always n h rest ends =
    ap (λ o. either o (Some (None, rest)) (λ r. made Some (condition n r))) ends.1
condition_if_again _ _ (grammar.when t ts {condition = x} w d) n h rest ends =
    ap (λ o. either o (Some (None, t ∷ (ts ++ rest))) (λ r. made Some (condition n r)))
    (after_word_again words.If t (ts ++ rest) w)
    ∙ ap (λ o. made Some o) (reads_whole_condition ts x d n (omega arith) rest ends.0)

binding_again : (ts : List Token) (x : Binding) → IsBinding ts x → (n : ℕ) → length ts ≤ n → (rest : List Token)
    → EndsTerm rest → binding n (ts ++ rest) ≡ Some (x, rest)
binding_again _ _ (grammar.bound t equal ts {column = column} {value = value} a b d) n h rest ends =
    ap (λ o. then o (λ x. then (after_sign signs.Equal x.1) (λ r. made (bind x.0) (sum n r))))
    (named_again t (equal ∷ (ts ++ rest)) column a)
    ∙ ap (λ o. then o (λ r. made (bind column) (sum n r))) (after_sign_again signs.Equal equal (ts ++ rest) b)
    ∙ ap (λ o. made (bind column) o) (reads_whole_sum ts value d n (omega arith) rest ends)

-- a comma ends whatever stands before it
pub comma_ends : (t : Token) (rest : List Token) → IsSign signs.Comma t → EndsStatement (t ∷ rest)
comma_ends t rest e = (
  (
    (
      ap (λ l. cond (is_sign signs.Dot l) (Some rest) None) e,
      ap (λ l. leaving rest (product_operator_in l)) e,
      ap
          (λ l. leaving rest (sum_operator_in l)) e,
    ),
    ap (λ l. cond (is_word words.And l) (Some rest) None) e,
    ap (λ l. cond (is_word words.Or l) (Some rest) None) e,
  ),
  ap (λ l. cond (is_word words.If l) (Some rest) None) e,
)

called_again : (u opening : Token) (ts : List Token) (closing : Token) (table : NameLeaf) (xs : List Binding)
    → IsAnyName u table → IsSign signs.OpenParen opening
    → IsListed signs.Comma IsBinding ts xs → IsSign signs.CloseParen closing → (n : ℕ) → length ts ≤ n
    → (rest : List Token)
    → table_call n (u ∷ opening ∷ ((ts ++ closing ∷ []) ++ rest)) ≡ Some (call table xs, rest)
called_again u opening ts closing table xs a b d c n h rest =
    ap (λ o. then o (λ x. made (call x.0) (grouped (listed signs.Comma (binding n)) x.1)))
    (any_named_again u (opening ∷ ((ts ++ closing ∷ []) ++ rest)) table a)
    ∙ ap (λ o. made (call table) (then o (λ r. closed (listed signs.Comma (binding n) r))))
    (after_sign_again signs.OpenParen opening ((ts ++ closing ∷ []) ++ rest) b)
    ∙ ap (λ y. made (call table) (closed (listed signs.Comma (binding n) y))) (append_assoc ts (closing ∷ []) rest)
    ∙ ap (λ o. made (call table) (closed o))
    (reads_whole_list signs.Comma (binding n) IsBinding (binding_shortens n) n EndsTerm
    (λ t r e. (comma_ends t r e).0.0) (λ us x e k r ends. binding_again us x e n k r ends) ts xs d h (closing ∷ rest)
    (close_ends closing rest c)
    (ap (λ l. cond (is_sign signs.Comma l) (Some rest) None) c))
    ∙ ap (λ o. made (call table) o) (closed_again xs closing rest c)

defaulted_again : (make : NameLeaf → Term → Action) (ts : List Token) (comma : Token) (us : List Token)
    (closing : Token) (name : NameLeaf) (value : Term)
    → IsSelfAndName ts name → IsSign signs.Comma comma → IsSum us value → IsSign signs.CloseParen closing → (n : ℕ)
    → length us ≤ n → (rest : List Token)
    → defaulted make n ((ts ++ comma ∷ (us ++ closing ∷ [])) ++ rest) ≡ Some (make name value, rest)
defaulted_again make ts comma us closing name value a b d c n h rest =
    ap (λ y. defaulted make n y) (append_assoc ts (comma ∷ (us ++ closing ∷ [])) rest)
    ∙ ap (λ o. then o (λ x. then (after_sign signs.Comma x.1) (λ r. made (make x.0) (closed (sum n r)))))
    (reads_self_and_name ts name a (comma ∷ ((us ++ closing ∷ []) ++ rest)))
    ∙ ap (λ o. then o (λ r. made (make name) (closed (sum n r))))
    (after_sign_again signs.Comma comma ((us ++ closing ∷ []) ++ rest) b)
    ∙ ap (λ y. made (make name) (closed (sum n y))) (append_assoc us (closing ∷ []) rest)
    ∙ ap (λ o. made (make name) (closed o))
    (reads_whole_sum us value d n h (closing ∷ rest) (close_ends closing rest c))
    ∙ ap (λ o. made (make name) o) (closed_again value closing rest c)

action_again : (ts : List Token) (x : Action) → IsAction ts x → (n : ℕ) → length ts ≤ n → (rest : List Token)
    → EndsTerm rest → action n (ts ++ rest) ≡ Some (x, rest)
action_again _ _ (grammar.assign t dot u equal ts {name = name} {value = value} w a b c d) n h rest ends =
    ap (λ l. action_in n l (dot ∷ u ∷ equal ∷ (ts ++ rest))) w
    ∙ ap (λ o. then o (λ x. then (after_sign signs.Equal x.1) (λ r. made (trees.Assign x.0) (sum n r))))
    (dotted_again dot u name (equal ∷ (ts ++ rest)) a b)
    ∙ ap (λ o. then o (λ r. made (trees.Assign name) (sum n r))) (after_sign_again signs.Equal equal (ts ++ rest) c)
    ∙ ap (λ o. made (trees.Assign name) o) (reads_whole_sum ts value d n (omega arith) rest ends)
action_again _ _ (grammar.set_default t ts comma us closing {name = name} {value = value} w a b d c) n h rest ends =
    ap (λ l. action_in n l ((ts ++ comma ∷ (us ++ closing ∷ [])) ++ rest)) w
    ∙ defaulted_again trees.SetDefault ts comma us closing name value a b d c n
    (omega (arith, length-append ts (comma ∷ (us ++ closing ∷ [])), length-append us (closing ∷ []))) rest
action_again _ _ (grammar.del_default t ts comma us closing {name = name} {value = value} w a b d c) n h rest ends =
    ap (λ l. action_in n l ((ts ++ comma ∷ (us ++ closing ∷ [])) ++ rest)) w
    ∙ defaulted_again trees.DelDefault ts comma us closing name value a b d c n
    (omega (arith, length-append ts (comma ∷ (us ++ closing ∷ [])), length-append us (closing ∷ []))) rest
action_again _ _ (grammar.table (grammar.called t u opening ts closing {table = table} {bindings = xs} w a b d c)) n h
    rest ends =
    ap (λ l. action_in n l (u ∷ opening ∷ ((ts ++ closing ∷ []) ++ rest))) w
    ∙ ap (λ o. made trees.Calls o)
    (called_again u opening ts closing table xs a b d c n (omega (arith, length-append ts (closing ∷ []))) rest)

pub reads_statement : (ts : List Token) (x : Statement) → IsStatement ts x → (n : ℕ) → length ts ≤ n
    → (rest : List Token) → EndsStatement rest
    → statement n (ts ++ rest) ≡ Some (x, rest)
reads_statement _ _ (grammar.stated ts us {action = x} {condition = c} a i) n h rest ends =
    ap (λ y. statement n y) (append_assoc ts us rest)
    ∙ ap (λ o. then o (λ found. made (state found.0) (condition_if n found.1)))
    (action_again ts x a n (omega (arith, length-append ts us)) (us ++ rest) (if_ends us c i rest ends))
    ∙ ap (λ o. made (state x) o) (condition_if_again us c i n (omega (arith, length-append ts us)) rest ends)

related_first : (n : ℕ) (l : Lexeme) (t : Token) (ts : List Token) (x : Relation × List Token) → t.lexeme ≡ l
    → relation n (t ∷ ts) ≡ Some x
    → demand_in n l t ts ≡ Some (trees.Relates x.0, x.1)
related_first n (lexemes.Reserved words.Table) t ts x h e = let none : relation n (t ∷ ts)
    ≡ None = word_no_relation words.Table t ts n h (λ k. refl) in absurd (cc)
related_first n (lexemes.Reserved words.False) t ts x h e = let none : relation n (t ∷ ts)
    ≡ None = word_no_relation words.False t ts n h (λ k. refl) in absurd (cc)
related_first n _ t ts x h e = ap (λ o. made trees.Relates o) e

related_at : (n : ℕ) (ts : List Token) (x : Relation × List Token) → relation n ts ≡ Some x
    → demanded n ts ≡ Some (trees.Relates x.0, x.1)
related_at n [] x e = ap (λ o. made trees.Relates o) e
related_at n (t ∷ ts) x e = related_first n t.lexeme t ts x refl e

demand_again : (ts : List Token) (x : Demand) → IsDemand ts x → (n : ℕ) → length ts ≤ n → (rest : List Token)
    → EndsTerm rest → demanded n (ts ++ rest) ≡ Some (x, rest)
demand_again _ _ (grammar.relation {ts = ts} {relation = x} d) n h rest ends =
    related_at n (ts ++ rest) (x, rest) (relation_again ts x d n (omega arith) rest ends)
demand_again _ _ (grammar.table (grammar.called t u opening ts closing {table = table} {bindings = xs} w a b d c)) n h
    rest ends =
    ap (λ l. demand_in n l t (u ∷ opening ∷ ((ts ++ closing ∷ []) ++ rest))) w
    ∙ ap (λ o. made trees.Holds o)
    (called_again u opening ts closing table xs a b d c n (omega (arith, length-append ts (closing ∷ []))) rest)
demand_again _ _ (grammar.never {t = t} w) n h rest ends = ap (λ l. demand_in n l t rest) w

pub reads_restriction : (ts : List Token) (x : Restriction) → IsRestriction ts x → (n : ℕ) → length ts ≤ n
    → (rest : List Token) → EndsStatement rest
    → restriction n (ts ++ rest) ≡ Some (x, rest)
reads_restriction _ _ (grammar.demanded ts us {what = x} {condition = c} a i) n h rest ends =
    ap (λ y. restriction n y) (append_assoc ts us rest)
    ∙ ap (λ o. then o (λ found. made (demand found.0) (condition_if n found.1)))
    (demand_again ts x a n (omega (arith, length-append ts us)) (us ++ rest) (if_ends us c i rest ends))
    ∙ ap (λ o. made (demand x) o) (condition_if_again us c i n (omega (arith, length-append ts us)) rest ends)
