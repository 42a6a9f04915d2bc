-- The canonical lexemes of a condition that some text spells, spell it again.
use Rattle.std.proofs.Common.{◌≡◌, Bool, true, false, List, ◌∷◌, ◌++◌, map, Some, refl, ap, ◌∙◌}
use Rattle.vc_syntax_tokens.specs.declared.token.Token.{Token}
use Rattle.vc_syntax_tokens.specs.declared.token.Lexeme.TheVariants as lexemes
use Rattle.vc_syntax_tokens.specs.declared.token.Sign.TheVariants as signs
use Rattle.vc_syntax_tokens.specs.declared.token.Reserved.TheVariants as words
use Rattle.vc_syntax_tree.specs.declared.NameLeaf.{NameLeaf}
use Rattle.vc_syntax_tree.specs.declared.NumberLeaf.{NumberLeaf}
use Rattle.vc_syntax_tree.specs.declared.Operand.{Operand}
use Rattle.vc_syntax_tree.specs.declared.SignedNumber.{SignedNumber}
use Rattle.vc_syntax_tree.specs.declared.Item.{Item}
use Rattle.vc_syntax_tree.specs.declared.Item.TheVariants as items
use Rattle.vc_syntax_tree.specs.declared.Relator.{Relator}
use Rattle.vc_syntax_tree.specs.declared.Relator.TheVariants as relators
use Rattle.vc_syntax_terms.specs.ConditionReading.{relator_in, with_sign}
use Rattle.vc_syntax_terms.specs.TermGrammar.{IsOperand, IsSum}
use Rattle.vc_syntax_terms.specs.ConditionGrammar as grammar
use Rattle.vc_syntax_terms.specs.ConditionGrammar.{IsListed, IsSignedNumber, IsItem, IsRelation, IsNegation}
use Rattle.vc_syntax_terms.specs.ConditionGrammar.{IsConjunction, IsCondition}
use Rattle.vc_syntax_tree.specs.Trees as trees
use Rattle.vc_syntax_tree.specs.Trees.{Term, Relation, Condition}
use Rattle.vc_syntax_print.specs.TermLexemes.{wrapped, wrapped_if, operand_lexemes, term_lexemes}
use Rattle.vc_syntax_print.specs.ConditionLexemes.{separated, number_behind, signed_lexemes, item_lexemes, relator_sign}
use Rattle.vc_syntax_print.specs.ConditionLexemes.{relation_lexemes, is_or, is_joined, condition_lexemes}
use Rattle.vc_syntax_print.specs.Places.{bare_operand, bare_term, bare_signed, bare_item, bare_relation, bare_condition}
use Rattle.vc_syntax_print.proofs.Spelt.{Spelt, Again, front, single, between, ended, name_at, text_at, number_at}
use Rattle.vc_syntax_print.proofs.Spelt.{variable_again, text_again, number_again, listed_again}
use Rattle.vc_syntax_print.proofs.TermsAgain.{operand_again, term_again}

signed_by : (b : Bool) (leaf : NumberLeaf) → Again IsSignedNumber bare_signed (number_behind b leaf) (with_sign b leaf)
signed_by true leaf ts e =
    front (λ z. Spelt IsSignedNumber bare_signed z (with_sign true leaf)) (lexemes.Sign signs.Minus) _ ts e
    (λ minus us m q.
    single (λ z. Spelt IsSignedNumber bare_signed (minus ∷ z) (with_sign true leaf)) (lexemes.Number leaf.number) us q
    (λ t p.
    record {
      tree = with_sign true (number_at t leaf);
      spelled = grammar.negative m (number_again t leaf p);
      same =
          refl;
    }))
signed_by false leaf ts e =
    single (λ z. Spelt IsSignedNumber bare_signed z (with_sign false leaf)) (lexemes.Number leaf.number) ts e (λ t p.
    record {
      tree = with_sign false (number_at t leaf);
      spelled = grammar.positive (number_again t leaf p);
      same =
          refl;
    })

signed_again : (number : SignedNumber) → Again IsSignedNumber bare_signed (signed_lexemes number) number
signed_again number = signed_by number.negative number.leaf

item_again : (item : Item) → Again IsItem bare_item (item_lexemes item) item
item_again (items.Text leaf) ts e =
    single (λ z. Spelt IsItem bare_item z (items.Text leaf)) (lexemes.Text leaf.text) ts e
    (λ t p. record { tree = items.Text (text_at t leaf); spelled = grammar.text (text_again t leaf p); same = refl })
item_again (items.Number number) ts e =
    let s : Spelt IsSignedNumber bare_signed ts number = signed_again number ts e in
    record { tree = items.Number s.tree; spelled = grammar.number s.spelled; same = ap items.Number s.same }
item_again (items.Interval low high) ts e =
    between (λ z. Spelt IsItem bare_item z (items.Interval low high)) (signed_lexemes low) (lexemes.Sign signs.Minus)
    (signed_lexemes high) ts e (λ us minus vs p m q.
    let s : Spelt IsSignedNumber bare_signed us low = signed_again low us p in
    let u : Spelt IsSignedNumber bare_signed vs high = signed_again high vs q in
    record {
      tree = items.Interval s.tree u.tree;
      spelled = grammar.interval us minus vs s.spelled m u.spelled;
      same = ap (λ z. items.Interval z (bare_signed u.tree)) s.same
          ∙ ap (λ z. items.Interval (bare_signed low) z) u.same;
    })

relator_spelled : (relator : Relator) → relator_in (lexemes.Sign (relator_sign relator)) ≡ Some relator
relator_spelled relators.Equal = refl
relator_spelled relators.Unequal = refl
relator_spelled relators.Less = refl
relator_spelled relators.LessEqual = refl
relator_spelled relators.Greater = refl
relator_spelled relators.GreaterEqual = refl

compared_again : (left right : Term) (relator : Relator)
    → Again IsRelation bare_relation (relation_lexemes (trees.Compared left relator right))
    (trees.Compared left relator right)
compared_again left right relator ts e =
    between (λ z. Spelt IsRelation bare_relation z (trees.Compared left relator right)) (term_lexemes left)
    (lexemes.Sign (relator_sign relator)) (term_lexemes right) ts e (λ us t vs p q r.
    let s : Spelt IsSum bare_term us left = (term_again left).sum us p in
    let u : Spelt IsSum bare_term vs right = (term_again right).sum vs r in
    record {
      tree = trees.Compared s.tree relator u.tree;
      spelled = grammar.compared us t vs s.spelled (ap relator_in q ∙ relator_spelled relator) u.spelled;
      same = ap (λ z. trees.Compared z relator (bare_term u.tree)) s.same
          ∙ ap (λ z. trees.Compared (bare_term left) relator z) u.same;
    })

within_again : (operand : Operand) (us : List Token) (items : List Item) → IsListed signs.Comma IsItem us items
    → Again IsRelation bare_relation (relation_lexemes (trees.Within operand items)) (trees.Within operand items)
within_again operand us items l ts e =
    between (λ z. Spelt IsRelation bare_relation z (trees.Within operand items)) (operand_lexemes operand)
    (lexemes.Reserved words.In) (wrapped (separated signs.Comma item_lexemes items)) ts e (λ vs t ws p w q.
    front (λ z. Spelt IsRelation bare_relation (vs ++ t ∷ z) (trees.Within operand items))
    (lexemes.Sign signs.OpenParen) _ ws q (λ opening xs o r.
    ended (λ z. Spelt IsRelation bare_relation (vs ++ t ∷ opening ∷ z) (trees.Within operand items))
    (separated signs.Comma item_lexemes items) (lexemes.Sign signs.CloseParen) xs r (λ ys closing h c.
    let s : Spelt IsOperand bare_operand vs operand = operand_again operand vs p in
    let u : Spelt (IsListed signs.Comma IsItem) (map bare_item) ys items
    = listed_again signs.Comma IsItem bare_item item_lexemes (λ ts x i. item_again x) us items l ys h in
    record {
      tree = trees.Within s.tree u.tree;
      spelled = grammar.within vs t opening ys closing s.spelled w o u.spelled c;
      same = ap (λ z. trees.Within z (map bare_item u.tree)) s.same
          ∙ ap (λ z. trees.Within (bare_operand operand) z) u.same;
    })))

pub relation_again : (ts : List Token) (relation : Relation) → IsRelation ts relation
    → Again IsRelation bare_relation (relation_lexemes relation) relation
relation_again _ _ (grammar.compared ts t us {left = left} {right = right} {relator = relator} x r y) =
    compared_again left right relator
relation_again _ _ (grammar.within ts t opening us closing {operand = operand} {items = items} x w o l c) =
    within_again operand us items l

-- as a condition; as an operand of AND, if it is no OR; behind NOT, if nothing is joined in it
pub record ConditionAgain (condition : Condition) : Type 0 where
  pub whole : Again IsCondition bare_condition (condition_lexemes condition) condition
  pub conjunct : is_or condition ≡ false → Again IsConjunction bare_condition (condition_lexemes condition) condition
  pub negand : is_joined condition ≡ false → Again IsNegation bare_condition (condition_lexemes condition) condition

as_conjunction : (ts : List Token) (condition : Condition) → Spelt IsNegation bare_condition ts condition
    → Spelt IsConjunction bare_condition ts condition
as_conjunction ts condition s = record { tree = s.tree; spelled = grammar.negation s.spelled; same = s.same }

as_condition : (ts : List Token) (condition : Condition) → Spelt IsConjunction bare_condition ts condition
    → Spelt IsCondition bare_condition ts condition
as_condition ts condition s = record { tree = s.tree; spelled = grammar.conjunction s.spelled; same = s.same }

from_negation : (condition : Condition) → Again IsNegation bare_condition (condition_lexemes condition) condition
    → ConditionAgain condition
from_negation condition again = record {
  whole = λ ts e. as_condition ts condition (as_conjunction ts condition (again ts e));
  conjunct = λ h ts e. as_conjunction ts condition (again ts e);
  negand = λ h. again;
}

grouped_again : (condition : Condition) → ConditionAgain condition
    → Again IsNegation bare_condition (wrapped (condition_lexemes condition)) condition
grouped_again condition again ts e =
    front (λ z. Spelt IsNegation bare_condition z condition) (lexemes.Sign signs.OpenParen) _ ts e (λ opening us o q.
    ended (λ z. Spelt IsNegation bare_condition (opening ∷ z) condition) (condition_lexemes condition)
    (lexemes.Sign signs.CloseParen) us q (λ vs closing r c.
    let s : Spelt IsCondition bare_condition vs condition = again.whole vs r in
    record { tree = s.tree; spelled = grammar.grouped opening vs closing o s.spelled c; same = s.same }))

negation_if : (condition : Condition) (b : Bool) → is_joined condition ≡ b → ConditionAgain condition
    → Again IsNegation bare_condition (wrapped_if b (condition_lexemes condition)) condition
negation_if condition true h again = grouped_again condition again
negation_if condition false h again = again.negand h

conjunction_if : (condition : Condition) (b : Bool) → is_or condition ≡ b → ConditionAgain condition
    → Again IsConjunction bare_condition (wrapped_if b (condition_lexemes condition)) condition
conjunction_if condition true h again = λ ts e. as_conjunction ts condition (grouped_again condition again ts e)
conjunction_if condition false h again = again.conjunct h

not_again : (condition : Condition) → ConditionAgain condition → ConditionAgain (trees.Not condition)
not_again condition again = from_negation (trees.Not condition) (λ ts e.
    front (λ z. Spelt IsNegation bare_condition z (trees.Not condition)) (lexemes.Reserved words.Not) _ ts e
    (λ t us w q.
    let s : Spelt IsNegation bare_condition us condition
    = negation_if condition (is_joined condition) refl again us q in
    record { tree = trees.Not s.tree; spelled = grammar.negated t us w s.spelled; same = ap trees.Not s.same }))

and_again : (left right : Condition) → ConditionAgain left → ConditionAgain right
    → Again IsConjunction bare_condition (condition_lexemes (trees.And left right)) (trees.And left right)
and_again left right x y ts e =
    between (λ z. Spelt IsConjunction bare_condition z (trees.And left right))
    (wrapped_if (is_or left) (condition_lexemes left)) (lexemes.Reserved words.And) _ ts e (λ us t vs p w r.
    let s : Spelt IsConjunction bare_condition us left = conjunction_if left (is_or left) refl x us p in
    let u : Spelt IsNegation bare_condition vs right = negation_if right (is_joined right) refl y vs r in
    record {
      tree = trees.And s.tree u.tree;
      spelled = grammar.and us t vs s.spelled w u.spelled;
      same = ap (λ z. trees.And z (bare_condition u.tree)) s.same ∙ ap (λ z. trees.And (bare_condition left) z) u.same;
    })

or_again : (left right : Condition) → ConditionAgain left → ConditionAgain right
    → Again IsCondition bare_condition (condition_lexemes (trees.Or left right)) (trees.Or left right)
or_again left right x y ts e =
    between (λ z. Spelt IsCondition bare_condition z (trees.Or left right)) (condition_lexemes left)
    (lexemes.Reserved words.Or) _ ts e (λ us t vs p w r.
    let s : Spelt IsCondition bare_condition us left = x.whole us p in
    let u : Spelt IsConjunction bare_condition vs right = conjunction_if right (is_or right) refl y vs r in
    record {
      tree = trees.Or s.tree u.tree;
      spelled = grammar.or us t vs s.spelled w u.spelled;
      same = ap (λ z. trees.Or z (bare_condition u.tree)) s.same ∙ ap (λ z. trees.Or (bare_condition left) z) u.same;
    })

specified_again : (operand : Operand) → ConditionAgain (trees.Specified operand)
specified_again operand = from_negation (trees.Specified operand) (λ ts e.
    front (λ z. Spelt IsNegation bare_condition z (trees.Specified operand)) (lexemes.Reserved words.Specified) _ ts e
    (λ t us w q.
    let s : Spelt IsOperand bare_operand us operand = operand_again operand us q in
    record {
      tree = trees.Specified s.tree;
      spelled = grammar.specified t us w s.spelled;
      same =
          ap trees.Specified s.same;
    }))

part_again : (part whole : NameLeaf) → ConditionAgain (trees.PartOf part whole)
part_again part whole = from_negation (trees.PartOf part whole) (λ ts e.
    front (λ z. Spelt IsNegation bare_condition z (trees.PartOf part whole)) (lexemes.Reserved words.PartOf) _ ts e
    (λ t ts1 w e1.
    front (λ z. Spelt IsNegation bare_condition (t ∷ z) (trees.PartOf part whole)) (lexemes.Sign signs.OpenParen) _ ts1
    e1 (λ opening ts2 o e2.
    front (λ z. Spelt IsNegation bare_condition (t ∷ opening ∷ z) (trees.PartOf part whole))
    (lexemes.Variable part.name) _ ts2 e2 (λ u ts3 p e3.
    front (λ z. Spelt IsNegation bare_condition (t ∷ opening ∷ u ∷ z) (trees.PartOf part whole))
    (lexemes.Sign signs.Comma) _ ts3 e3 (λ comma ts4 c e4.
    front (λ z. Spelt IsNegation bare_condition (t ∷ opening ∷ u ∷ comma ∷ z) (trees.PartOf part whole))
    (lexemes.Variable whole.name) _ ts4 e4 (λ v ts5 q e5.
    single (λ z. Spelt IsNegation bare_condition (t ∷ opening ∷ u ∷ comma ∷ v ∷ z) (trees.PartOf part whole))
    (lexemes.Sign signs.CloseParen) ts5 e5 (λ closing d.
    record {
      tree = trees.PartOf (name_at u part) (name_at v whole);
      spelled =
          grammar.part_of w o (variable_again u part p) c (variable_again v whole q) d;
      same = refl;
    })))))))

related_again : (relation : Relation) → Again IsRelation bare_relation (relation_lexemes relation) relation
    → ConditionAgain (trees.Related relation)
related_again relation again = from_negation (trees.Related relation) (λ ts e.
    let s : Spelt IsRelation bare_relation ts relation = again ts e in
    record { tree = trees.Related s.tree; spelled = grammar.related s.spelled; same = ap trees.Related s.same })

from_conjunction : (left right : Condition)
    → Again IsConjunction bare_condition (condition_lexemes (trees.And left right)) (trees.And left right)
    → ConditionAgain (trees.And left right)
from_conjunction left right again =
    record {
      whole = λ ts e. as_condition ts (trees.And left right) (again ts e);
      conjunct = λ h. again;
      negand =
          λ h. absurd (cc);
    }

from_condition : (left right : Condition)
    → Again IsCondition bare_condition (condition_lexemes (trees.Or left right)) (trees.Or left right)
    → ConditionAgain (trees.Or left right)
from_condition left right again = record { whole = again; conjunct = λ h. absurd (cc); negand = λ h. absurd (cc) }

mutual
  negation_again : (ts : List Token) (condition : Condition) → IsNegation ts condition → ConditionAgain condition
  negation_again _ _ (grammar.negated t ts {condition = condition} w x) =
      not_again condition (negation_again ts condition x)
  negation_again _ _ (grammar.grouped opening ts closing {condition = condition} o x c) = condition_again ts condition x
  negation_again _ _ (grammar.related {ts = ts} {relation = relation} x) =
      related_again relation (relation_again ts relation x)
  negation_again _ _ (grammar.specified t ts {operand = operand} w x) = specified_again operand
  negation_again _ _ (grammar.specified_behind ts t {operand = operand} x w) = specified_again operand
  negation_again _ _ (grammar.part_of {part = part} {whole = whole} w o p c q d) = part_again part whole

  conjunction_again : (ts : List Token) (condition : Condition) → IsConjunction ts condition → ConditionAgain condition
  conjunction_again _ _ (grammar.negation {ts = ts} {condition = condition} x) = negation_again ts condition x
  conjunction_again _ _ (grammar.and ts t us {left = left} {right = right} x w y) =
      from_conjunction left right (and_again left right (conjunction_again ts left x) (negation_again us right y))

  pub condition_again : (ts : List Token) (condition : Condition) → IsCondition ts condition → ConditionAgain condition
  condition_again _ _ (grammar.conjunction {ts = ts} {condition = condition} x) = conjunction_again ts condition x
  condition_again _ _ (grammar.or ts t us {left = left} {right = right} x w y) =
      from_condition left right (or_again left right (condition_again ts left x) (conjunction_again us right y))
