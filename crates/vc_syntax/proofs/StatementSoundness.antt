-- What is read as a statement or a restriction, the grammar says.
use Rattle.std.proofs.Common.{◌≡◌, ℕ, List, [], ◌∷◌, ◌++◌, Option, Some, None, inl, inr, refl, sym, ap, subst, ◌∙◌}
use Rattle.std.proofs.Common.{append_assoc}
use Rattle.vc_syntax_tokens.specs.declared.token.Token.{Token}
use Rattle.vc_syntax_tokens.specs.declared.token.Lexeme.{Lexeme}
use Rattle.vc_syntax_tokens.specs.declared.token.Lexeme.TheVariants as lexemes
use Rattle.vc_syntax_tokens.specs.declared.token.Sign.TheVariants as signs
use Rattle.vc_syntax_tokens.specs.declared.token.Dollar.TheVariants as dollars
use Rattle.vc_syntax_tokens.specs.declared.token.Reserved.TheVariants as words
use Rattle.vc_syntax_tree.specs.declared.NameLeaf.{NameLeaf}
use Rattle.vc_syntax_terms.specs.Leaves.{after_sign, after_word, named, any_named}
use Rattle.vc_syntax_terms.specs.Reading.{then, made, closed, grouped, listed}
use Rattle.vc_syntax_terms.specs.TermReading.{dotted, self_and_name, sum}
use Rattle.vc_syntax_terms.specs.ConditionReading.{relation, condition}
use Rattle.vc_syntax.specs.StatementReading.{bind, call, state, demand, binding, table_call, assignment, defaulted}
use Rattle.vc_syntax.specs.StatementReading.{action_in, action, condition_if, statement, demand_in, demanded}
use Rattle.vc_syntax.specs.StatementReading.{restriction}
use Rattle.vc_syntax_tree.specs.Trees as trees
use Rattle.vc_syntax_tree.specs.Trees.{Term, Relation, Condition, Binding, TableCall, Action, Statement, Demand}
use Rattle.vc_syntax_tree.specs.Trees.{Restriction}
use Rattle.vc_syntax_terms.specs.TermGrammar.{IsSign, IsWord, IsDollar, IsName, IsAnyName, IsSelfAndName, IsSum}
use Rattle.vc_syntax_terms.specs.ConditionGrammar.{IsListed, IsRelation, IsCondition}
use Rattle.vc_syntax.specs.StatementGrammar as grammar
use Rattle.vc_syntax.specs.StatementGrammar.{IsBinding, IsTable, IsAction, IsIf, IsStatement, IsDemand, IsRestriction}
use Rattle.vc_syntax_terms.proofs.Chains.{Took, IsSound, Shortens, sound_shortens, then_some, map_some, either_some}
use Rattle.vc_syntax_terms.proofs.TokenLaws.{after_sign_is, after_word_is, named_is, any_named_is}
use Rattle.vc_syntax_terms.proofs.Lists.{listed_is}
use Rattle.vc_syntax_terms.proofs.TermSoundness.{made_is, closed_is, dotted_is, self_and_name_is, sum_is}
use Rattle.vc_syntax_terms.proofs.ConditionSoundness.{relation_is, condition_is}

pub binding_is : (left : ℕ) → IsSound (binding left) IsBinding
binding_is left ts found e = let P : Binding × List Token → Type 0 = λ x. Took IsBinding ts x in
    let a : (x : NameLeaf × List Token) × (named ts ≡ Some x)
    × (then (after_sign signs.Equal x.1) (λ rest. made (bind x.0) (sum left rest)) ≡ Some found) =
    then_some _ _ found e in
    let b : (rest : List Token) × (after_sign signs.Equal a.0.1 ≡ Some rest)
    × (made (bind a.0.0) (sum left rest) ≡ Some found) = then_some _ _ found a.2 in
    let c : (x : Term × List Token) × (sum left b.0 ≡ Some x) × ((bind a.0.0 x.0, x.1) ≡ found)
    = map_some _ _ found b.2 in
    let a' : (t : Token) × (ts ≡ t ∷ a.0.1) × IsName t a.0.0 = named_is ts a.0 a.1 in
    let b' : (t : Token) × (a.0.1 ≡ t ∷ b.0) × IsSign signs.Equal t = after_sign_is signs.Equal a.0.1 b.0 b.1 in
    let c' : Took IsSum b.0 c.0 = sum_is left b.0 c.0 c.1 in
    subst P c.2 (
      a'.0 ∷ b'.0 ∷ c'.0,
      a'.1
          ∙ ap (λ x. a'.0 ∷ x) (b'.1 ∙ ap (λ x. b'.0 ∷ x) c'.1),
      grammar.bound a'.0 b'.0 c'.0 a'.2 b'.2 c'.2,
    )

pub binding_shortens : (left : ℕ) → Shortens (binding left)
binding_shortens left = sound_shortens (binding left) IsBinding (binding_is left)

table_call_is : (left : ℕ) (t : Token) (ts : List Token) (found : TableCall × List Token) → IsWord words.Table t
    → table_call left ts ≡ Some found → Took IsTable (t ∷ ts) found
table_call_is left t ts found w e = let P : TableCall × List Token → Type 0 = λ x. Took IsTable (t ∷ ts) x in
    let a : (x : NameLeaf × List Token) × (any_named ts ≡ Some x)
    × (made (call x.0) (grouped (listed signs.Comma (binding left)) x.1) ≡ Some found) = then_some _ _ found e in
    let b : (x : List Binding × List Token) × (grouped (listed signs.Comma (binding left)) a.0.1 ≡ Some x)
    × ((call a.0.0 x.0, x.1) ≡ found) = map_some _ _ found a.2 in
    let c : (rest : List Token) × (after_sign signs.OpenParen a.0.1 ≡ Some rest)
    × (closed (listed signs.Comma (binding left) rest) ≡ Some b.0) = then_some _ _ b.0 b.1 in
    let a' : (t : Token) × (ts ≡ t ∷ a.0.1) × IsAnyName t a.0.0 = any_named_is ts a.0 a.1 in
    let c' : (t : Token) × (a.0.1 ≡ t ∷ c.0) × IsSign signs.OpenParen t = after_sign_is signs.OpenParen a.0.1 c.0 c.1 in
    let d : (front : List Token) × (u : Token) × (c.0 ≡ front ++ u ∷ b.0.1) × IsListed signs.Comma IsBinding front b.0.0
    × IsSign signs.CloseParen u
    = closed_is (IsListed signs.Comma IsBinding) c.0 _ b.0 c.2
    (listed_is signs.Comma (binding left) IsBinding (binding_is left) c.0) in
    subst P b.2 (
      t ∷ a'.0 ∷ c'.0 ∷ (d.0 ++ d.1 ∷ []),
      ap (λ x. t ∷ x) (a'.1
          ∙ ap (λ x. a'.0 ∷ x) (c'.1 ∙ ap (λ x. c'.0 ∷ x) (d.2 ∙ sym (append_assoc d.0 (d.1 ∷ []) b.0.1)))),
      grammar.called t a'.0 c'.0 d.0 d.1 w a'.2 c'.2 d.3 d.4,
    )

assignment_is : (left : ℕ) (t : Token) (ts : List Token) (found : Action × List Token) → IsDollar dollars.Itself t
    → assignment left ts ≡ Some found → Took IsAction (t ∷ ts) found
assignment_is left t ts found w e = let P : Action × List Token → Type 0 = λ x. Took IsAction (t ∷ ts) x in
    let a : (x : NameLeaf × List Token) × (dotted ts ≡ Some x)
    × (then (after_sign signs.Equal x.1) (λ rest. made (trees.Assign x.0) (sum left rest)) ≡ Some found) =
    then_some _ _ found e in
    let b : (rest : List Token) × (after_sign signs.Equal a.0.1 ≡ Some rest)
    × (made (trees.Assign a.0.0) (sum left rest) ≡ Some found) = then_some _ _ found a.2 in
    let c : (x : Term × List Token) × (sum left b.0 ≡ Some x) × ((trees.Assign a.0.0 x.0, x.1) ≡ found)
    = map_some _ _ found b.2 in
    let a' : (dot u : Token) × (ts ≡ dot ∷ u ∷ a.0.1) × IsSign signs.Dot dot × IsName u a.0.0 = dotted_is ts a.0 a.1 in
    let b' : (t : Token) × (a.0.1 ≡ t ∷ b.0) × IsSign signs.Equal t = after_sign_is signs.Equal a.0.1 b.0 b.1 in
    let c' : Took IsSum b.0 c.0 = sum_is left b.0 c.0 c.1 in
    subst P c.2 (
      t ∷ a'.0 ∷ a'.1 ∷ b'.0 ∷ c'.0,
      ap (λ x. t ∷ x) (a'.2 ∙ ap (λ x. a'.0 ∷ a'.1 ∷ x) (b'.1 ∙ ap (λ x. b'.0 ∷ x) c'.1)),
      grammar.assign t a'.0 a'.1 b'.0 c'.0 w a'.3 a'.4 b'.2 c'.2,
    )

defaulted_is : (make : NameLeaf → Term → Action) (left : ℕ) (t : Token) (ts : List Token) (found : Action × List Token)
    → ((us : List Token) (comma : Token) (vs : List Token) (closing : Token) (name : NameLeaf) (value : Term)
    → IsSelfAndName us name → IsSign signs.Comma comma → IsSum vs value
    → IsSign signs.CloseParen closing → IsAction (t ∷ (us ++ comma ∷ (vs ++ closing ∷ []))) (make name value))
    → defaulted make left ts ≡ Some found → Took IsAction (t ∷ ts) found
defaulted_is make left t ts found build e = let P : Action × List Token → Type 0 = λ x. Took IsAction (t ∷ ts) x in
    let a : (x : NameLeaf × List Token) × (self_and_name ts ≡ Some x)
    × (then (after_sign signs.Comma x.1) (λ rest. made (make x.0) (closed (sum left rest))) ≡ Some found) =
    then_some _ _ found e in
    let b : (rest : List Token) × (after_sign signs.Comma a.0.1 ≡ Some rest)
    × (made (make a.0.0) (closed (sum left rest)) ≡ Some found) = then_some _ _ found a.2 in
    let c : (x : Term × List Token) × (closed (sum left b.0) ≡ Some x) × ((make a.0.0 x.0, x.1) ≡ found)
    = map_some _ _ found b.2 in
    let a' : Took IsSelfAndName ts a.0 = self_and_name_is ts a.0 a.1 in
    let b' : (t : Token) × (a.0.1 ≡ t ∷ b.0) × IsSign signs.Comma t = after_sign_is signs.Comma a.0.1 b.0 b.1 in
    let d : (front : List Token) × (u : Token) × (b.0 ≡ front ++ u ∷ c.0.1) × IsSum front c.0.0
    × IsSign signs.CloseParen u = closed_is IsSum b.0 _ c.0 c.1 (sum_is left b.0) in
    let inner : a.0.1 ≡ (b'.0 ∷ (d.0 ++ d.1 ∷ [])) ++ c.0.1
    = b'.1 ∙ ap (λ x. b'.0 ∷ x) (d.2 ∙ sym (append_assoc d.0 (d.1 ∷ []) c.0.1)) in
    subst P c.2 (
      t ∷ (a'.0 ++ b'.0 ∷ (d.0 ++ d.1 ∷ [])),
      ap (λ x. t ∷ x) (a'.1 ∙ ap (λ x. a'.0 ++ x) inner ∙ sym (append_assoc a'.0 (b'.0 ∷ (d.0 ++ d.1 ∷ [])) c.0.1)),
      build a'.0 b'.0 d.0 d.1 a.0.0 c.0.0 a'.2 b'.2 d.3 d.4,
    )

action_in_is : (left : ℕ) (l : Lexeme) (t : Token) (ts : List Token) (found : Action × List Token) → t.lexeme ≡ l
    → action_in left l ts ≡ Some found → Took IsAction (t ∷ ts) found
action_in_is left (lexemes.Dollar dollars.Itself) t ts found h e = assignment_is left t ts found h e
action_in_is left (lexemes.Dollar dollars.SetDefault) t ts found h e =
    defaulted_is trees.SetDefault left t ts found
    (λ us comma vs closing name value a b c d. grammar.set_default t us comma vs closing h a b c d) e
action_in_is left (lexemes.Dollar dollars.DelDefault) t ts found h e =
    defaulted_is trees.DelDefault left t ts found
    (λ us comma vs closing name value a b c d. grammar.del_default t us comma vs closing h a b c d) e
action_in_is left (lexemes.Reserved words.Table) t ts found h e = let P : Action × List Token
    → Type 0 = λ x. Took IsAction (t ∷ ts) x in
    let a : (x : TableCall × List Token) × (table_call left ts ≡ Some x) × ((trees.Calls x.0, x.1) ≡ found)
    = map_some _ _ found e in
    let b : Took IsTable (t ∷ ts) a.0 = table_call_is left t ts a.0 h a.1 in
    subst P a.2 (b.0, b.1, grammar.table b.2)
action_in_is left _ t ts found h e = absurd (cc)

action_is : (left : ℕ) → IsSound (action left) IsAction
action_is left [] found e = absurd (cc)
action_is left (t ∷ ts) found e = action_in_is left t.lexeme t ts found refl e

condition_if_is : (left : ℕ) → IsSound (condition_if left) IsIf
condition_if_is left ts found e = let P : Option Condition × List Token → Type 0 = λ x. Took IsIf ts x in
    elim (either_some (after_word words.If ts) _ _ found e) [
      | inl p ↦ let same : (None, ts) ≡ found = cc (p.1) in subst P same ([], refl, grammar.always)
      | inr p ↦
          let a : (x : Condition × List Token) × (condition left p.0 ≡ Some x) × ((Some x.0, x.1) ≡ found)
          = map_some _ _ found p.2 in
          let w : (t : Token) × (ts ≡ t ∷ p.0) × IsWord words.If t = after_word_is words.If ts p.0 p.1 in
          let b : Took IsCondition p.0 a.0 = condition_is left p.0 a.0 a.1 in
          subst P a.2 (w.0 ∷ b.0, w.1 ∙ ap (λ x. w.0 ∷ x) b.1, grammar.when w.0 b.0 w.2 b.2)
    ]

pub statement_is : (left : ℕ) → IsSound (statement left) IsStatement
statement_is left ts found e = let P : Statement × List Token → Type 0 = λ x. Took IsStatement ts x in
    let a : (x : Action × List Token) × (action left ts ≡ Some x)
    × (made (state x.0) (condition_if left x.1) ≡ Some found) = then_some _ _ found e in
    let b : (x : Option Condition × List Token) × (condition_if left a.0.1 ≡ Some x) × ((state a.0.0 x.0, x.1) ≡ found)
    = map_some _ _ found a.2 in
    let a' : Took IsAction ts a.0 = action_is left ts a.0 a.1 in
    let b' : Took IsIf a.0.1 b.0 = condition_if_is left a.0.1 b.0 b.1 in
    subst P b.2 (
      a'.0 ++ b'.0,
      a'.1 ∙ ap (λ x. a'.0 ++ x) b'.1
          ∙ sym (append_assoc a'.0 b'.0 b.0.1),
      grammar.stated a'.0 b'.0 a'.2 b'.2,
    )

pub statement_shortens : (left : ℕ) → Shortens (statement left)
statement_shortens left = sound_shortens (statement left) IsStatement (statement_is left)

related_is : (left : ℕ) (ts : List Token) (found : Demand × List Token)
    → made trees.Relates (relation left ts) ≡ Some found → Took IsDemand ts found
related_is left ts found e =
    made_is IsRelation IsDemand trees.Relates ts ts _ found e (relation_is left ts)
    (λ front rest x g d. (front, g, grammar.relation d))

demand_in_is : (left : ℕ) (l : Lexeme) (t : Token) (ts : List Token) (found : Demand × List Token) → t.lexeme ≡ l
    → demand_in left l t ts ≡ Some found → Took IsDemand (t ∷ ts) found
demand_in_is left (lexemes.Reserved words.Table) t ts found h e = let P : Demand × List Token
    → Type 0 = λ x. Took IsDemand (t ∷ ts) x in
    let a : (x : TableCall × List Token) × (table_call left ts ≡ Some x) × ((trees.Holds x.0, x.1) ≡ found)
    = map_some _ _ found e in
    let b : Took IsTable (t ∷ ts) a.0 = table_call_is left t ts a.0 h a.1 in
    subst P a.2 (b.0, b.1, grammar.table b.2)
demand_in_is left (lexemes.Reserved words.False) t ts found h e = let P : Demand × List Token
    → Type 0 = λ x. Took IsDemand (t ∷ ts) x in
    let same : (trees.Never, ts) ≡ found = cc in subst P same (t ∷ [], refl, grammar.never h)
demand_in_is left _ t ts found h e = related_is left (t ∷ ts) found e

demanded_is : (left : ℕ) → IsSound (demanded left) IsDemand
demanded_is left [] found e = related_is left [] found e
demanded_is left (t ∷ ts) found e = demand_in_is left t.lexeme t ts found refl e

pub restriction_is : (left : ℕ) → IsSound (restriction left) IsRestriction
restriction_is left ts found e = let P : Restriction × List Token → Type 0 = λ x. Took IsRestriction ts x in
    let a : (x : Demand × List Token) × (demanded left ts ≡ Some x)
    × (made (demand x.0) (condition_if left x.1) ≡ Some found) = then_some _ _ found e in
    let b : (x : Option Condition × List Token) × (condition_if left a.0.1 ≡ Some x) × ((demand a.0.0 x.0, x.1) ≡ found)
    = map_some _ _ found a.2 in
    let a' : Took IsDemand ts a.0 = demanded_is left ts a.0 a.1 in
    let b' : Took IsIf a.0.1 b.0 = condition_if_is left a.0.1 b.0 b.1 in
    subst P b.2 (
      a'.0 ++ b'.0,
      a'.1 ∙ ap (λ x. a'.0 ++ x) b'.1
          ∙ sym (append_assoc a'.0 b'.0 b.0.1),
      grammar.demanded a'.0 b'.0 a'.2 b'.2,
    )

pub restriction_shortens : (left : ℕ) → Shortens (restriction left)
restriction_shortens left = sound_shortens (restriction left) IsRestriction (restriction_is left)
