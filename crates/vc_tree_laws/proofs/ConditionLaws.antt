-- The texts in a condition that is read are texts.
use Rattle.std.proofs.Common.{◌≡◌, ℕ, zero, suc, true, false, List, [], ◌∷◌, Some}
use Rattle.std.proofs.Common.{refl}
use Rattle.std.specs.Prelude.{flat_map}
use Rattle.std.proofs.lemmas.Bool.{and_from}
use Rattle.vc_syntax_tokens.specs.declared.token.Lexeme.{Lexeme}
use Rattle.vc_syntax_tokens.specs.declared.token.Lexeme.TheVariants as lexemes
use Rattle.vc_syntax_tokens.specs.declared.token.Reserved.TheVariants as words
use Rattle.vc_syntax_tokens.specs.declared.token.Sign.TheVariants as signs
use Rattle.vc_syntax_tokens.specs.declared.token.Token.{Token}
use Rattle.vc_syntax_tree.specs.Trees as trees
use Rattle.vc_syntax_terms.specs.Reading.{Reader, then, either, made, leaving_as, closed, grouped}
use Rattle.vc_syntax_terms.specs.Reading.{listed, word}
use Rattle.vc_tree_laws.specs.Literals.{is_literal}
use Rattle.vc_tree_laws.proofs.TokenLaws.{Good}
use Rattle.vc_tree_laws.proofs.ReadingLemmas.{Keeps, Reads, Anything, Texts, texts_append, more_texts}
use Rattle.vc_tree_laws.proofs.ReadingLemmas.{one_text}
use Rattle.vc_tree_laws.proofs.ReadingLemmas.{then_keeps, then_rest, either_rest, made_keeps}
use Rattle.vc_tree_laws.proofs.ReadingLemmas.{or_keeps}
use Rattle.vc_tree_laws.proofs.ReadingLemmas.{put_keeps, leaf_keeps, rest_good, first_good, sign_leaves}
use Rattle.vc_tree_laws.proofs.ReadingLemmas.{word_leaves}
use Rattle.vc_tree_laws.proofs.ReadingLemmas.{word_reads, closed_keeps, grouped_reads, chain_reads}
use Rattle.vc_tree_laws.proofs.ReadingLemmas.{listed_reads}
use Rattle.vc_syntax_tree.specs.declared.Item.{Item}
use Rattle.vc_syntax_tree.specs.declared.Item.TheVariants as items
use Rattle.vc_syntax_terms.specs.Leaves.{variable_of, text_of, number_of, after_sign, after_word}
use Rattle.vc_syntax_tree.specs.Trees.{Term, Relation, Condition}
use Rattle.vc_syntax_terms.specs.TermReading.{operand, sum}
use Rattle.vc_syntax_terms.specs.ConditionReading.{relator_in, relator, text_ahead, number_ahead, variable_ahead}
use Rattle.vc_syntax_terms.specs.ConditionReading.{with_sign, signed_number, numbers, item}
use Rattle.vc_syntax_terms.specs.ConditionReading.{comparison, within, relation, part_of, specified_behind}
use Rattle.vc_syntax_terms.specs.ConditionReading.{plain_condition, negation_in, negation_by}
use Rattle.vc_syntax_terms.specs.ConditionReading.{both, any, conjunction_by, condition_by, negation, condition}
use Rattle.vc_compile_plan.specs.Texts.{texts_in_term, texts_in_item, texts_in_relation, texts_in_condition}
use Rattle.vc_tree_laws.proofs.TermLaws.{GoodTerm, text_good, operand_reads, sum_reads}

relator_reads : Reads Anything relator
relator_reads [] h = tt
relator_reads (t ∷ ts) h = leaf_keeps Anything (λ x. x) (relator_in t.lexeme) ts (λ x e. tt) (rest_good t ts h)

pub text_reads : Reads (λ leaf. is_literal leaf.text ≡ true) text_ahead
text_reads [] h = tt
text_reads (t ∷ ts) h =
    leaf_keeps (λ leaf. is_literal leaf.text ≡ true) (λ x. x) (text_of t) ts
    (λ x e. text_good t.lexeme t.start t.end x (first_good t ts h) e) (rest_good t ts h)

number_reads : Reads Anything number_ahead
number_reads [] h = tt
number_reads (t ∷ ts) h = leaf_keeps Anything (λ x. x) (number_of t) ts (λ x e. tt) (rest_good t ts h)

pub variable_reads : Reads Anything variable_ahead
variable_reads [] h = tt
variable_reads (t ∷ ts) h = leaf_keeps Anything (λ x. x) (variable_of t) ts (λ x e. tt) (rest_good t ts h)

signed_reads : Reads Anything signed_number
signed_reads ts h =
    either_rest Anything (after_sign signs.Minus ts) (made (with_sign false) (number_ahead ts))
    (λ rest. made (with_sign true) (number_ahead rest))
    (sign_leaves signs.Minus ts h) (made_keeps Anything Anything (with_sign false) (number_ahead ts)
    (number_reads ts h) (λ a p. tt))
    (λ rest g. made_keeps Anything Anything (with_sign true) (number_ahead rest) (number_reads rest g) (λ a p. tt))

-- items
abbrev GoodItem : Item → Type 0
GoodItem item = Texts (texts_in_item item)

numbers_reads : Reads GoodItem numbers
numbers_reads ts h =
    then_keeps Anything GoodItem (signed_number ts)
    (λ low. either (after_sign signs.Minus low.1) (Some (items.Number low.0, low.1))
    (λ rest. made (items.Interval low.0) (signed_number rest)))
    (signed_reads ts h)
    (λ low p g. either_rest GoodItem (after_sign signs.Minus low.1) (Some (items.Number low.0, low.1))
    (λ rest. made (items.Interval low.0) (signed_number rest)) (sign_leaves signs.Minus low.1 g) (refl, g)
    (λ rest k. made_keeps Anything GoodItem (items.Interval low.0) (signed_number rest) (signed_reads rest k)
    (λ a p. refl)))

item_reads : Reads GoodItem item
item_reads ts h =
    or_keeps GoodItem (made items.Text (text_ahead ts)) (numbers ts)
    (made_keeps (λ leaf. is_literal leaf.text ≡ true) GoodItem items.Text (text_ahead ts) (text_reads ts h)
    (λ leaf p. and_from (is_literal leaf.text) true p refl))
    (numbers_reads ts h)

-- relations
abbrev pub GoodRelation : Relation → Type 0
GoodRelation relation = Texts (texts_in_relation relation)

comparison_reads : (left : ℕ) → Reads GoodRelation (comparison left)
comparison_reads left ts h =
    then_keeps GoodTerm GoodRelation (sum left ts)
    (λ first. then (relator first.1) (λ sign. made (trees.Compared first.0 sign.0) (sum left sign.1)))
    (sum_reads left ts h)
    (λ first p g. then_keeps Anything GoodRelation (relator first.1)
    (λ sign. made (trees.Compared first.0 sign.0) (sum left sign.1)) (relator_reads first.1 g)
    (λ sign u k. made_keeps GoodTerm GoodRelation (trees.Compared first.0 sign.0) (sum left sign.1)
    (sum_reads left sign.1 k)
    (λ second q. texts_append (texts_in_term first.0) (texts_in_term second) p q)))

abbrev GoodItems : List Item → Type 0
GoodItems listed = Texts (flat_map texts_in_item listed)

within_reads : Reads GoodRelation within
within_reads ts h =
    then_keeps Anything GoodRelation (operand ts)
    (λ found. then (after_word words.In found.1)
    (λ rest. made (trees.Within found.0) (grouped (listed signs.Comma item) rest))) (operand_reads ts h)
    (λ found p g. then_rest GoodRelation (after_word words.In found.1)
    (λ rest. made (trees.Within found.0) (grouped (listed signs.Comma item) rest))
    (word_leaves words.In found.1 g)
    (λ rest k. made_keeps GoodItems GoodRelation (trees.Within found.0) (grouped (listed signs.Comma item) rest)
    (grouped_reads GoodItems (listed signs.Comma item)
    (listed_reads GoodItem GoodItems signs.Comma item item_reads (λ x q. one_text texts_in_item x q)
    (λ xs ys q r. more_texts texts_in_item xs ys q r)) rest k)
    (λ a q. q)))

pub relation_reads : (left : ℕ) → Reads GoodRelation (relation left)
relation_reads left ts h = or_keeps GoodRelation (comparison left ts) (within ts) (comparison_reads left ts h)
    (within_reads ts h)

-- conditions
abbrev pub GoodCondition : Condition → Type 0
GoodCondition condition = Texts (texts_in_condition condition)

part_reads : Reads GoodCondition part_of
part_reads ts h =
    then_rest GoodCondition (after_sign signs.OpenParen ts) (λ first. then (variable_ahead first) (λ part.
    then (after_sign signs.Comma part.1) (λ second. made (trees.PartOf part.0) (closed (variable_ahead second)))))
    (sign_leaves signs.OpenParen ts h)
    (λ first g. then_keeps Anything GoodCondition (variable_ahead first) (λ part.
    then (after_sign signs.Comma part.1) (λ second. made (trees.PartOf part.0) (closed (variable_ahead second))))
    (variable_reads first g)
    (λ part p k. then_rest GoodCondition (after_sign signs.Comma part.1)
    (λ second. made (trees.PartOf part.0) (closed (variable_ahead second)))
    (sign_leaves signs.Comma part.1 k)
    (λ second m. made_keeps Anything GoodCondition (trees.PartOf part.0) (closed (variable_ahead second))
    (closed_keeps Anything (variable_ahead second) (variable_reads second m)) (λ a q. refl))))

specified_reads : Reads GoodCondition specified_behind
specified_reads ts h =
    then_keeps Anything GoodCondition (operand ts)
    (λ found. leaving_as (trees.Specified found.0) (after_word words.Specified found.1)) (operand_reads ts h)
    (λ found p g. put_keeps GoodCondition (trees.Specified found.0) (after_word words.Specified found.1) refl
    (word_leaves words.Specified found.1 g))

related : (left : ℕ) (ts : List Token) → Good ts → Keeps GoodCondition (made trees.Related (relation left ts))
related left ts h = made_keeps GoodRelation GoodCondition trees.Related (relation left ts) (relation_reads left ts h)
    (λ a p. p)

plain_reads : (left : ℕ) → Reads GoodCondition (plain_condition left)
plain_reads left ts h =
    or_keeps GoodCondition (made trees.Related (relation left ts)) (specified_behind ts) (related left ts h)
    (specified_reads ts h)

negation_in_keeps : (left : ℕ) (inner outer : Reader Condition) → Reads GoodCondition inner → Reads GoodCondition outer
    → (lexeme : Lexeme) (t : Token) (ts : List Token)
    → Good (t ∷ ts) → Keeps GoodCondition (negation_in left inner outer lexeme t ts)
negation_in_keeps left inner outer i o (lexemes.Name x) t ts h = plain_reads left (t ∷ ts) h
negation_in_keeps left inner outer i o (lexemes.Variable x) t ts h = plain_reads left (t ∷ ts) h
negation_in_keeps left inner outer i o (lexemes.Text x) t ts h = plain_reads left (t ∷ ts) h
negation_in_keeps left inner outer i o (lexemes.Number x) t ts h = plain_reads left (t ∷ ts) h
negation_in_keeps left inner outer i o (lexemes.Reserved words.And) t ts h = plain_reads left (t ∷ ts) h
negation_in_keeps left inner outer i o (lexemes.Reserved words.Or) t ts h = plain_reads left (t ∷ ts) h
negation_in_keeps left inner outer i o (lexemes.Reserved words.Not) t ts h =
    made_keeps GoodCondition GoodCondition trees.Not (inner ts) (i ts (rest_good t ts h)) (λ a p. p)
negation_in_keeps left inner outer i o (lexemes.Reserved words.In) t ts h = plain_reads left (t ∷ ts) h
negation_in_keeps left inner outer i o (lexemes.Reserved words.If) t ts h = plain_reads left (t ∷ ts) h
negation_in_keeps left inner outer i o (lexemes.Reserved words.Specified) t ts h =
    made_keeps Anything GoodCondition trees.Specified (operand ts) (operand_reads ts (rest_good t ts h)) (λ a p. refl)
negation_in_keeps left inner outer i o (lexemes.Reserved words.Table) t ts h = plain_reads left (t ∷ ts) h
negation_in_keeps left inner outer i o (lexemes.Reserved words.False) t ts h = plain_reads left (t ∷ ts) h
negation_in_keeps left inner outer i o (lexemes.Reserved words.IsA) t ts h = plain_reads left (t ∷ ts) h
negation_in_keeps left inner outer i o (lexemes.Reserved words.IsObject) t ts h = plain_reads left (t ∷ ts) h
negation_in_keeps left inner outer i o (lexemes.Reserved words.Material) t ts h = plain_reads left (t ∷ ts) h
negation_in_keeps left inner outer i o (lexemes.Reserved words.Where) t ts h = plain_reads left (t ∷ ts) h
negation_in_keeps left inner outer i o (lexemes.Reserved words.PartOf) t ts h = part_reads ts (rest_good t ts h)
negation_in_keeps left inner outer i o (lexemes.Reserved words.Eq) t ts h = plain_reads left (t ∷ ts) h
negation_in_keeps left inner outer i o (lexemes.Reserved words.Ne) t ts h = plain_reads left (t ∷ ts) h
negation_in_keeps left inner outer i o (lexemes.Reserved words.Lt) t ts h = plain_reads left (t ∷ ts) h
negation_in_keeps left inner outer i o (lexemes.Reserved words.Le) t ts h = plain_reads left (t ∷ ts) h
negation_in_keeps left inner outer i o (lexemes.Reserved words.Gt) t ts h = plain_reads left (t ∷ ts) h
negation_in_keeps left inner outer i o (lexemes.Reserved words.Ge) t ts h = plain_reads left (t ∷ ts) h
negation_in_keeps left inner outer i o (lexemes.Reserved words.Objects) t ts h = plain_reads left (t ∷ ts) h
negation_in_keeps left inner outer i o (lexemes.Reserved words.Condition) t ts h = plain_reads left (t ∷ ts) h
negation_in_keeps left inner outer i o (lexemes.Reserved words.Restriction) t ts h = plain_reads left (t ∷ ts) h
negation_in_keeps left inner outer i o (lexemes.Reserved words.Restrictions) t ts h = plain_reads left (t ∷ ts) h
negation_in_keeps left inner outer i o (lexemes.Reserved words.Inferences) t ts h = plain_reads left (t ∷ ts) h
negation_in_keeps left inner outer i o (lexemes.Reserved words.Nr) t ts h = plain_reads left (t ∷ ts) h
negation_in_keeps left inner outer i o (lexemes.Reserved words.End) t ts h = plain_reads left (t ∷ ts) h
negation_in_keeps left inner outer i o (lexemes.Reserved words.Abs) t ts h = plain_reads left (t ∷ ts) h
negation_in_keeps left inner outer i o (lexemes.Reserved words.Sign) t ts h = plain_reads left (t ∷ ts) h
negation_in_keeps left inner outer i o (lexemes.Reserved words.Trunc) t ts h = plain_reads left (t ∷ ts) h
negation_in_keeps left inner outer i o (lexemes.Reserved words.Floor) t ts h = plain_reads left (t ∷ ts) h
negation_in_keeps left inner outer i o (lexemes.Reserved words.Ceil) t ts h = plain_reads left (t ∷ ts) h
negation_in_keeps left inner outer i o (lexemes.Reserved words.Frac) t ts h = plain_reads left (t ∷ ts) h
negation_in_keeps left inner outer i o (lexemes.Dollar x) t ts h = plain_reads left (t ∷ ts) h
negation_in_keeps left inner outer i o (lexemes.Sign signs.OpenParen) t ts h =
    or_keeps GoodCondition (made trees.Related (relation left (t ∷ ts))) (closed (outer ts)) (related left (t ∷ ts) h)
    (closed_keeps GoodCondition (outer ts) (o ts (rest_good t ts h)))
negation_in_keeps left inner outer i o (lexemes.Sign signs.CloseParen) t ts h = plain_reads left (t ∷ ts) h
negation_in_keeps left inner outer i o (lexemes.Sign signs.Comma) t ts h = plain_reads left (t ∷ ts) h
negation_in_keeps left inner outer i o (lexemes.Sign signs.Semicolon) t ts h = plain_reads left (t ∷ ts) h
negation_in_keeps left inner outer i o (lexemes.Sign signs.Colon) t ts h = plain_reads left (t ∷ ts) h
negation_in_keeps left inner outer i o (lexemes.Sign signs.Dot) t ts h = plain_reads left (t ∷ ts) h
negation_in_keeps left inner outer i o (lexemes.Sign signs.Period) t ts h = plain_reads left (t ∷ ts) h
negation_in_keeps left inner outer i o (lexemes.Sign signs.Equal) t ts h = plain_reads left (t ∷ ts) h
negation_in_keeps left inner outer i o (lexemes.Sign signs.Unequal) t ts h = plain_reads left (t ∷ ts) h
negation_in_keeps left inner outer i o (lexemes.Sign signs.Less) t ts h = plain_reads left (t ∷ ts) h
negation_in_keeps left inner outer i o (lexemes.Sign signs.LessEqual) t ts h = plain_reads left (t ∷ ts) h
negation_in_keeps left inner outer i o (lexemes.Sign signs.Greater) t ts h = plain_reads left (t ∷ ts) h
negation_in_keeps left inner outer i o (lexemes.Sign signs.GreaterEqual) t ts h = plain_reads left (t ∷ ts) h
negation_in_keeps left inner outer i o (lexemes.Sign signs.Plus) t ts h = plain_reads left (t ∷ ts) h
negation_in_keeps left inner outer i o (lexemes.Sign signs.Minus) t ts h = plain_reads left (t ∷ ts) h
negation_in_keeps left inner outer i o (lexemes.Sign signs.Star) t ts h = plain_reads left (t ∷ ts) h
negation_in_keeps left inner outer i o (lexemes.Sign signs.Slash) t ts h = plain_reads left (t ∷ ts) h

negation_by_reads : (left : ℕ) (inner outer : Reader Condition) → Reads GoodCondition inner → Reads GoodCondition outer
    → Reads GoodCondition (negation_by left inner outer)
negation_by_reads left inner outer i o [] h = plain_reads left [] h
negation_by_reads left inner outer i o (t ∷ ts) h = negation_in_keeps left inner outer i o t.lexeme t ts h

condition_by_reads : (inner : Reader Condition) → Reads GoodCondition inner → Reads GoodCondition (condition_by inner)
condition_by_reads inner i =
    chain_reads GoodCondition (word words.Or) any (conjunction_by inner) (word_reads words.Or)
    (chain_reads GoodCondition (word words.And) both inner (word_reads words.And) i
    (λ u left right p q. texts_append (texts_in_condition left) (texts_in_condition right) p q))
    (λ u left right p q. texts_append (texts_in_condition left) (texts_in_condition right) p q)

negation_reads : (left : ℕ) → Reads GoodCondition (negation left)
negation_reads zero ts h = tt
negation_reads (suc left) ts h =
    negation_by_reads left (negation left) (condition_by (negation left)) (negation_reads left)
    (condition_by_reads (negation left) (negation_reads left)) ts h

pub condition_reads : (left : ℕ) → Reads GoodCondition (condition left)
condition_reads left = condition_by_reads (negation left) (negation_reads left)
