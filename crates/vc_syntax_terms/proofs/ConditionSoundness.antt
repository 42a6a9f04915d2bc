-- What is read as a relation or a condition, the grammar says.
use Rattle.std.proofs.Common.{◌≡◌, ℕ, zero, suc, List, [], ◌∷◌, ◌++◌, false, true, Option, Some, None, ◌⊎◌, inl, inr}
use Rattle.std.proofs.Common.{refl, sym, ap, subst, ◌∙◌, append_assoc}
use Rattle.vc_syntax_tokens.specs.declared.token.Token.{Token}
use Rattle.vc_syntax_tokens.specs.declared.token.Lexeme.{Lexeme}
use Rattle.vc_syntax_tokens.specs.declared.token.Lexeme.TheVariants as lexemes
use Rattle.vc_syntax_tokens.specs.declared.token.Sign.TheVariants as signs
use Rattle.vc_syntax_tokens.specs.declared.token.Reserved.TheVariants as words
use Rattle.vc_syntax_tree.specs.declared.NameLeaf.{NameLeaf}
use Rattle.vc_syntax_tree.specs.declared.TextLeaf.{TextLeaf}
use Rattle.vc_syntax_tree.specs.declared.NumberLeaf.{NumberLeaf}
use Rattle.vc_syntax_tree.specs.declared.Operand.{Operand}
use Rattle.vc_syntax_tree.specs.declared.SignedNumber.{SignedNumber}
use Rattle.vc_syntax_tree.specs.declared.Item.{Item}
use Rattle.vc_syntax_tree.specs.declared.Item.TheVariants as items
use Rattle.vc_syntax_tree.specs.declared.Relator.{Relator}
use Rattle.vc_syntax_terms.specs.Leaves.{text_of, number_of, variable_of, after_sign, after_word}
use Rattle.vc_syntax_terms.specs.Reading.{Reader, then, either, or_else, made, leaving_as, closed, grouped, word}
use Rattle.vc_syntax_terms.specs.Reading.{listed}
use Rattle.vc_syntax_terms.specs.TermReading.{operand, sum}
use Rattle.vc_syntax_terms.specs.ConditionReading.{relator_in, relator, text_ahead, number_ahead, variable_ahead}
use Rattle.vc_syntax_terms.specs.ConditionReading.{with_sign, signed_number, numbers, item, comparison, within}
use Rattle.vc_syntax_terms.specs.ConditionReading.{relation, part_of, specified_behind, plain_condition, negation_in}
use Rattle.vc_syntax_terms.specs.ConditionReading.{negation_by, both, any, conjunction_by, condition_by, negation}
use Rattle.vc_syntax_terms.specs.ConditionReading.{conjunction, condition}
use Rattle.vc_syntax_tree.specs.Trees as trees
use Rattle.vc_syntax_tree.specs.Trees.{Term, Relation, Condition}
use Rattle.vc_syntax_terms.specs.TermGrammar.{IsSign, IsWord, IsVariable, IsText, IsNumber, IsOperand, IsSum}
use Rattle.vc_syntax_terms.specs.ConditionGrammar as grammar
use Rattle.vc_syntax_terms.specs.ConditionGrammar.{IsRelator, IsListed, IsSignedNumber, IsItem, IsRelation, IsNegation}
use Rattle.vc_syntax_terms.specs.ConditionGrammar.{IsConjunction, IsCondition}
use Rattle.vc_syntax_terms.proofs.Chains.{Took, IsSound, Reads, Shortens, sound_shortens, then_some, map_some}
use Rattle.vc_syntax_terms.proofs.Chains.{either_some, chain_is}
use Rattle.vc_syntax_terms.proofs.TokenLaws.{after_sign_is, after_word_is}
use Rattle.vc_syntax_terms.proofs.Lists.{WordStands, word_reads, listed_is}
use Rattle.vc_syntax_terms.proofs.TermSoundness.{made_is, closed_is, operand_is, sum_is}

pub or_else_some : {A : Type 0} (first other : Option A) (y : A) → or_else first other ≡ Some y
    → (first ≡ Some y) ⊎ (other ≡ Some y)
or_else_some None other y e = inr e
or_else_some (Some x) other y e = inl e

pub relator_is : Reads relator IsRelator
relator_is [] found e = absurd (cc)
relator_is (t ∷ ts) found e =
    let p : (x : Relator) × (relator_in t.lexeme ≡ Some x) × ((x, ts) ≡ found)
    = map_some (relator_in t.lexeme) _ found e in
    (t, ap (λ x. t ∷ x.1) p.2, p.1 ∙ ap (λ x. Some x.0) p.2)

pub text_ahead_is : Reads text_ahead IsText
text_ahead_is [] found e = absurd (cc)
text_ahead_is (t ∷ ts) found e =
    let p : (x : TextLeaf) × (text_of t ≡ Some x) × ((x, ts) ≡ found) = map_some (text_of t) _ found e in
    (t, ap (λ x. t ∷ x.1) p.2, p.1 ∙ ap (λ x. Some x.0) p.2)

pub number_ahead_is : Reads number_ahead IsNumber
number_ahead_is [] found e = absurd (cc)
number_ahead_is (t ∷ ts) found e =
    let p : (x : NumberLeaf) × (number_of t ≡ Some x) × ((x, ts) ≡ found) = map_some (number_of t) _ found e in
    (t, ap (λ x. t ∷ x.1) p.2, p.1 ∙ ap (λ x. Some x.0) p.2)

pub variable_ahead_is : Reads variable_ahead IsVariable
variable_ahead_is [] found e = absurd (cc)
variable_ahead_is (t ∷ ts) found e =
    let p : (x : NameLeaf) × (variable_of t ≡ Some x) × ((x, ts) ≡ found) = map_some (variable_of t) _ found e in
    (t, ap (λ x. t ∷ x.1) p.2, p.1 ∙ ap (λ x. Some x.0) p.2)

signed_number_is : IsSound signed_number IsSignedNumber
signed_number_is ts found e = let P : SignedNumber × List Token → Type 0 = λ x. Took IsSignedNumber ts x in
    elim (either_some (after_sign signs.Minus ts) _ _ found e) [
      | inl p ↦
          let q : (x : NumberLeaf × List Token) × (number_ahead ts ≡ Some x) × ((with_sign false x.0, x.1) ≡ found)
          = map_some _ _ found p.1 in
          let r : (t : Token) × (ts ≡ t ∷ q.0.1) × IsNumber t q.0.0 = number_ahead_is ts q.0 q.1 in
          subst P q.2 (r.0 ∷ [], r.1, grammar.positive r.2)
      | inr p ↦
          let m : (t : Token) × (ts ≡ t ∷ p.0) × IsSign signs.Minus t = after_sign_is signs.Minus ts p.0 p.1 in
          let q : (x : NumberLeaf × List Token) × (number_ahead p.0 ≡ Some x) × ((with_sign true x.0, x.1) ≡ found)
          = map_some _ _ found p.2 in
          let r : (t : Token) × (p.0 ≡ t ∷ q.0.1) × IsNumber t q.0.0 = number_ahead_is p.0 q.0 q.1 in
          subst P q.2 (m.0 ∷ r.0 ∷ [], m.1 ∙ ap (λ x. m.0 ∷ x) r.1, grammar.negative m.2 r.2)
    ]

numbers_is : IsSound numbers IsItem
numbers_is ts found e = let P : Item × List Token → Type 0 = λ x. Took IsItem ts x in
    let low : (x : SignedNumber × List Token) × (signed_number ts ≡ Some x)
    × (either (after_sign signs.Minus x.1) (Some (items.Number x.0, x.1)) (λ rest.
    made (items.Interval x.0) (signed_number rest)) ≡ Some found) = then_some _ _ found e in
    let l : Took IsSignedNumber ts low.0 = signed_number_is ts low.0 low.1 in
    elim (either_some (after_sign signs.Minus low.0.1) _ _ found low.2) [
      | inl p ↦ let same : (items.Number low.0.0, low.0.1)
          ≡ found = cc (p.1) in subst P same (l.0, l.1, grammar.number l.2)
      | inr p ↦
          let m : (t : Token) × (low.0.1 ≡ t ∷ p.0) × IsSign signs.Minus t
          = after_sign_is signs.Minus low.0.1 p.0 p.1 in
          let q : (x : SignedNumber × List Token) × (signed_number p.0 ≡ Some x)
          × ((items.Interval low.0.0 x.0, x.1) ≡ found) = map_some _ _ found p.2 in
          let r : Took IsSignedNumber p.0 q.0 = signed_number_is p.0 q.0 q.1 in
          subst P q.2 (
            l.0 ++ m.0 ∷ r.0,
            l.1 ∙ ap (λ x. l.0 ++ x) (m.1 ∙ ap (λ x. m.0 ∷ x) r.1) ∙ sym (append_assoc l.0 (m.0 ∷ r.0) q.0.1),
            grammar.interval l.0 m.0 r.0 l.2 m.2 r.2,
          )
    ]

pub item_is : IsSound item IsItem
item_is ts found e = let P : Item × List Token → Type 0 = λ x. Took IsItem ts x in
    elim (or_else_some (made items.Text (text_ahead ts)) _ found e) [
      | inl p ↦
          let q : (x : TextLeaf × List Token) × (text_ahead ts ≡ Some x) × ((items.Text x.0, x.1) ≡ found)
          = map_some _ _ found p in
          let r : (t : Token) × (ts ≡ t ∷ q.0.1) × IsText t q.0.0 = text_ahead_is ts q.0 q.1 in
          subst P q.2 (r.0 ∷ [], r.1, grammar.text r.2)
      | inr p ↦ numbers_is ts found p
    ]

pub item_shortens : Shortens item
item_shortens = sound_shortens item IsItem item_is

comparison_is : (left : ℕ) → IsSound (comparison left) IsRelation
comparison_is left ts found e = let P : Relation × List Token → Type 0 = λ x. Took IsRelation ts x in
    let a : (x : Term × List Token) × (sum left ts ≡ Some x)
    × (then (relator x.1) (λ sign. made (trees.Compared x.0 sign.0) (sum left sign.1)) ≡ Some found) =
    then_some _ _ found e in
    let b : (x : Relator × List Token) × (relator a.0.1 ≡ Some x)
    × (made (trees.Compared a.0.0 x.0) (sum left x.1) ≡ Some found) = then_some _ _ found a.2 in
    let c : (x : Term × List Token) × (sum left b.0.1 ≡ Some x) × ((trees.Compared a.0.0 b.0.0 x.0, x.1) ≡ found)
    = map_some _ _ found b.2 in
    let a' : Took IsSum ts a.0 = sum_is left ts a.0 a.1 in
    let b' : (t : Token) × (a.0.1 ≡ t ∷ b.0.1) × IsRelator t b.0.0 = relator_is a.0.1 b.0 b.1 in
    let c' : Took IsSum b.0.1 c.0 = sum_is left b.0.1 c.0 c.1 in
    subst P c.2 (
      a'.0 ++ b'.0 ∷ c'.0,
      a'.1 ∙ ap (λ x. a'.0 ++ x) (b'.1 ∙ ap (λ x. b'.0 ∷ x) c'.1) ∙ sym (append_assoc a'.0 (b'.0 ∷ c'.0) c.0.1),
      grammar.compared a'.0 b'.0 c'.0 a'.2 b'.2 c'.2,
    )

within_is : IsSound within IsRelation
within_is ts found e = let P : Relation × List Token → Type 0 = λ x. Took IsRelation ts x in
    let a : (x : Operand × List Token) × (operand ts ≡ Some x)
    × (then (after_word words.In x.1) (λ rest. made (trees.Within x.0) (grouped (listed signs.Comma item) rest))
    ≡ Some found) = then_some _ _ found e in
    let b : (rest : List Token) × (after_word words.In a.0.1 ≡ Some rest)
    × (made (trees.Within a.0.0) (grouped (listed signs.Comma item) rest) ≡ Some found) = then_some _ _ found a.2 in
    let c : (x : List Item × List Token) × (grouped (listed signs.Comma item) b.0 ≡ Some x)
    × ((trees.Within a.0.0 x.0, x.1) ≡ found) = map_some _ _ found b.2 in
    let d : (rest : List Token) × (after_sign signs.OpenParen b.0 ≡ Some rest)
    × (closed (listed signs.Comma item rest) ≡ Some c.0) = then_some _ _ c.0 c.1 in
    let a' : Took IsOperand ts a.0 = operand_is ts a.0 a.1 in
    let b' : (t : Token) × (a.0.1 ≡ t ∷ b.0) × IsWord words.In t = after_word_is words.In a.0.1 b.0 b.1 in
    let d' : (t : Token) × (b.0 ≡ t ∷ d.0) × IsSign signs.OpenParen t = after_sign_is signs.OpenParen b.0 d.0 d.1 in
    let f : (front : List Token) × (u : Token) × (d.0 ≡ front ++ u ∷ c.0.1) × IsListed signs.Comma IsItem front c.0.0
    × IsSign signs.CloseParen u
    = closed_is (IsListed signs.Comma IsItem) d.0 _ c.0 d.2 (listed_is signs.Comma item IsItem item_is d.0) in
    let inner : d.0 ≡ (f.0 ++ f.1 ∷ []) ++ c.0.1 = f.2 ∙ sym (append_assoc f.0 (f.1 ∷ []) c.0.1) in
    subst P c.2 (
      a'.0 ++ b'.0 ∷ d'.0 ∷ (f.0 ++ f.1 ∷ []),
      a'.1 ∙ ap (λ x. a'.0 ++ x) (b'.1 ∙ ap (λ x. b'.0 ∷ x) (d'.1 ∙ ap (λ x. d'.0 ∷ x) inner))
          ∙ sym (append_assoc a'.0 (b'.0 ∷ d'.0 ∷ (f.0 ++ f.1 ∷ [])) c.0.1),
      grammar.within a'.0 b'.0 d'.0 f.0 f.1 a'.2 b'.2 d'.2 f.3 f.4,
    )

pub relation_is : (left : ℕ) → IsSound (relation left) IsRelation
relation_is left ts found e =
    elim (or_else_some (comparison left ts) _ found e)
    [ inl p ↦ comparison_is left ts found p | inr p ↦ within_is ts found p ]

part_of_is : (t : Token) (ts : List Token) (found : Condition × List Token) → IsWord words.PartOf t
    → part_of ts ≡ Some found → Took IsNegation (t ∷ ts) found
part_of_is t ts found w e = let P : Condition × List Token → Type 0 = λ x. Took IsNegation (t ∷ ts) x in
    let a : (rest : List Token) × (after_sign signs.OpenParen ts ≡ Some rest) × (then (variable_ahead rest) (λ part.
    then (after_sign signs.Comma part.1) (λ second. made (trees.PartOf part.0) (closed (variable_ahead second))))
    ≡ Some found) = then_some _ _ found e in
    let b : (x : NameLeaf × List Token) × (variable_ahead a.0 ≡ Some x)
    × (then (after_sign signs.Comma x.1) (λ second. made (trees.PartOf x.0) (closed (variable_ahead second)))
    ≡ Some found) = then_some _ _ found a.2 in
    let c : (rest : List Token) × (after_sign signs.Comma b.0.1 ≡ Some rest)
    × (made (trees.PartOf b.0.0) (closed (variable_ahead rest)) ≡ Some found) = then_some _ _ found b.2 in
    let d : (x : NameLeaf × List Token) × (closed (variable_ahead c.0) ≡ Some x)
    × ((trees.PartOf b.0.0 x.0, x.1) ≡ found) = map_some _ _ found c.2 in
    let f : (x : NameLeaf × List Token) × (variable_ahead c.0 ≡ Some x)
    × (leaving_as x.0 (after_sign signs.CloseParen x.1) ≡ Some d.0) = then_some _ _ d.0 d.1 in
    let g : (rest : List Token) × (after_sign signs.CloseParen f.0.1 ≡ Some rest) × ((f.0.0, rest) ≡ d.0)
    = map_some _ _ d.0 f.2 in
    let a' : (t : Token) × (ts ≡ t ∷ a.0) × IsSign signs.OpenParen t = after_sign_is signs.OpenParen ts a.0 a.1 in
    let b' : (t : Token) × (a.0 ≡ t ∷ b.0.1) × IsVariable t b.0.0 = variable_ahead_is a.0 b.0 b.1 in
    let c' : (t : Token) × (b.0.1 ≡ t ∷ c.0) × IsSign signs.Comma t = after_sign_is signs.Comma b.0.1 c.0 c.1 in
    let f' : (t : Token) × (c.0 ≡ t ∷ f.0.1) × IsVariable t f.0.0 = variable_ahead_is c.0 f.0 f.1 in
    let g' : (t : Token) × (f.0.1 ≡ t ∷ g.0) × IsSign signs.CloseParen t
    = after_sign_is signs.CloseParen f.0.1 g.0 g.1 in
    let whole : IsVariable f'.0 d.0.0 = f'.2 ∙ ap (λ x. Some x.0) g.2 in
    let last : f.0.1 ≡ g'.0 ∷ d.0.1 = g'.1 ∙ ap (λ x. g'.0 ∷ x.1) g.2 in
    subst P d.2 (
      t ∷ a'.0 ∷ b'.0 ∷ c'.0 ∷ f'.0 ∷ g'.0 ∷ [],
      ap (λ x. t ∷ x) (a'.1
          ∙ ap (λ x. a'.0 ∷ x)
          (b'.1 ∙ ap (λ x. b'.0 ∷ x) (c'.1 ∙ ap (λ x. c'.0 ∷ x) (f'.1 ∙ ap (λ x. f'.0 ∷ x) last)))),
      grammar.part_of w a'.2 b'.2 c'.2 whole g'.2,
    )

specified_behind_is : IsSound specified_behind IsNegation
specified_behind_is ts found e = let P : Condition × List Token → Type 0 = λ x. Took IsNegation ts x in
    let a : (x : Operand × List Token) × (operand ts ≡ Some x)
    × (leaving_as (trees.Specified x.0) (after_word words.Specified x.1) ≡ Some found) = then_some _ _ found e in
    let b : (rest : List Token) × (after_word words.Specified a.0.1 ≡ Some rest)
    × ((trees.Specified a.0.0, rest) ≡ found) = map_some _ _ found a.2 in
    let a' : Took IsOperand ts a.0 = operand_is ts a.0 a.1 in
    let b' : (t : Token) × (a.0.1 ≡ t ∷ b.0) × IsWord words.Specified t = after_word_is words.Specified a.0.1 b.0 b.1 in
    subst P b.2 (
      a'.0 ++ b'.0 ∷ [],
      a'.1 ∙ ap (λ x. a'.0 ++ x) b'.1
          ∙ sym (append_assoc a'.0 (b'.0 ∷ []) b.0),
      grammar.specified_behind a'.0 b'.0 a'.2 b'.2,
    )

related_is : (left : ℕ) (ts : List Token) (found : Condition × List Token)
    → made trees.Related (relation left ts) ≡ Some found → Took IsNegation ts found
related_is left ts found e =
    made_is IsRelation IsNegation trees.Related ts ts _ found e (relation_is left ts)
    (λ front rest x g d. (front, g, grammar.related d))

plain_condition_is : (left : ℕ) → IsSound (plain_condition left) IsNegation
plain_condition_is left ts found e = elim (or_else_some (made trees.Related (relation left ts)) _ found e) [
  | inl p ↦ related_is left ts found p
  | inr p ↦ specified_behind_is ts found p
]

module _ (left : ℕ) (read_negation read_condition : Reader Condition)
    (negation_sound : IsSound read_negation IsNegation) (condition_sound : IsSound read_condition IsCondition) where
  grouped_is : (t : Token) (ts : List Token) (found : Condition × List Token) → IsSign signs.OpenParen t
      → closed (read_condition ts) ≡ Some found → Took IsNegation (t ∷ ts) found
  grouped_is t ts found h e =
      let q : (front : List Token) × (u : Token) × (ts ≡ front ++ u ∷ found.1) × IsCondition front found.0
      × IsSign signs.CloseParen u = closed_is IsCondition ts _ found e (condition_sound ts) in (
        t ∷ (q.0 ++ q.1 ∷ []),
        ap (λ x. t ∷ x) (q.2 ∙ sym (append_assoc q.0 (q.1 ∷ []) found.1)),
        grammar.grouped t q.0
            q.1 h q.3 q.4,
      )

  negation_in_is : (l : Lexeme) (t : Token) (ts : List Token) (found : Condition × List Token) → t.lexeme ≡ l
      → negation_in left read_negation read_condition l t ts ≡ Some found → Took IsNegation (t ∷ ts) found
  negation_in_is (lexemes.Reserved words.Not) t ts found h e =
      made_is IsNegation IsNegation trees.Not (t ∷ ts) ts _ found e (negation_sound ts)
      (λ front rest x g d. (t ∷ front, ap (λ x. t ∷ x) g, grammar.negated t front h d))
  negation_in_is (lexemes.Reserved words.Specified) t ts found h e =
      made_is IsOperand IsNegation trees.Specified (t ∷ ts) ts _ found e (operand_is ts)
      (λ front rest x g d. (t ∷ front, ap (λ x. t ∷ x) g, grammar.specified t front h d))
  negation_in_is (lexemes.Reserved words.PartOf) t ts found h e = part_of_is t ts found h e
  negation_in_is (lexemes.Sign signs.OpenParen) t ts found h e =
      elim (or_else_some (made trees.Related (relation left (t ∷ ts))) _ found e) [
        | inl p ↦ related_is left (t ∷ ts) found p
        | inr p ↦ grouped_is t ts found h p
      ]
  negation_in_is _ t ts found h e = plain_condition_is left (t ∷ ts) found e

  negation_by_is : IsSound (negation_by left read_negation read_condition) IsNegation
  negation_by_is [] found e = plain_condition_is left [] found e
  negation_by_is (t ∷ ts) found e = negation_in_is t.lexeme t ts found refl e

conjunction_by_is : (read_negation : Reader Condition) → IsSound read_negation IsNegation
    → IsSound (conjunction_by read_negation) IsConjunction
conjunction_by_is read_negation sound =
    chain_is (word words.And) (WordStands words.And) both read_negation IsNegation IsConjunction (word_reads words.And)
    sound
    (λ ts t us left right u d i x. grammar.and ts t us d i x) (λ ts x d. grammar.negation d)

condition_by_is : (read_negation : Reader Condition) → IsSound read_negation IsNegation
    → IsSound (condition_by read_negation) IsCondition
condition_by_is read_negation sound =
    chain_is (word words.Or) (WordStands words.Or) any (conjunction_by read_negation) IsConjunction IsCondition
    (word_reads words.Or) (conjunction_by_is read_negation sound)
    (λ ts t us left right u d i x. grammar.or ts t us d i x) (λ ts x d. grammar.conjunction d)

pub negation_is : (left : ℕ) → IsSound (negation left) IsNegation
negation_is zero ts found e = absurd (cc)
negation_is (suc left) ts found e =
    negation_by_is left (negation left) (condition_by (negation left)) (negation_is left)
    (condition_by_is (negation left) (negation_is left)) ts found e

pub conjunction_is : (left : ℕ) → IsSound (conjunction left) IsConjunction
conjunction_is left = conjunction_by_is (negation left) (negation_is left)

pub condition_is : (left : ℕ) → IsSound (condition left) IsCondition
condition_is left = condition_by_is (negation left) (negation_is left)

pub negation_shortens : (left : ℕ) → Shortens (negation left)
negation_shortens left = sound_shortens (negation left) IsNegation (negation_is left)

pub conjunction_shortens : (left : ℕ) → Shortens (conjunction left)
conjunction_shortens left = sound_shortens (conjunction left) IsConjunction (conjunction_is left)
