-- What the grammar of conditions says, is read.
use Rattle.std.proofs.Common.{◌≡◌, ℕ, zero, suc, ◌+◌, ◌<◌, ◌≤◌, List, [], ◌∷◌, ◌++◌, length, cond, false, true, Some}
use Rattle.std.proofs.Common.{None, refl, ap, ◌∙◌, append_assoc, length-append, arith}
use Rattle.vc_syntax_tokens.specs.declared.token.Token.{Token}
use Rattle.vc_syntax_tokens.specs.declared.token.Lexeme.{Lexeme}
use Rattle.vc_syntax_tokens.specs.declared.token.Lexeme.TheVariants as lexemes
use Rattle.vc_syntax_tokens.specs.declared.token.Sign.TheVariants as signs
use Rattle.vc_syntax_tokens.specs.declared.token.Reserved.{Reserved}
use Rattle.vc_syntax_tokens.specs.declared.token.Reserved.TheVariants as words
use Rattle.vc_syntax_tree.specs.declared.NameLeaf.{NameLeaf}
use Rattle.vc_syntax_tree.specs.declared.TextLeaf.{TextLeaf}
use Rattle.vc_syntax_tree.specs.declared.NumberLeaf.{NumberLeaf}
use Rattle.vc_syntax_tree.specs.declared.Operand.{Operand}
use Rattle.vc_syntax_tree.specs.declared.SignedNumber.{SignedNumber}
use Rattle.vc_syntax_tree.specs.declared.Item.{Item}
use Rattle.vc_syntax_tree.specs.declared.Item.TheVariants as items
use Rattle.vc_syntax_tree.specs.declared.Relator.{Relator}
use Rattle.vc_syntax_terms.specs.Leaves.{is_sign, is_word, text_in, number_in, after_sign, after_word}
use Rattle.vc_syntax_terms.specs.Reading.{Reader, then, either, or_else, made, leaving, leaving_as, closed, grouped}
use Rattle.vc_syntax_terms.specs.Reading.{word, listed, chained}
use Rattle.vc_syntax_terms.specs.TermReading.{operand_in, operand, product_operator_in, sum_operator_in}
use Rattle.vc_syntax_terms.specs.TermReading.{product_operator, sum_operator, factor_in, join, factor, product, sum}
use Rattle.vc_syntax_terms.specs.ConditionReading.{relator_in, relator, text_ahead, number_ahead, variable_ahead}
use Rattle.vc_syntax_terms.specs.ConditionReading.{with_sign, signed_number, numbers, item, comparison, within}
use Rattle.vc_syntax_terms.specs.ConditionReading.{relation, part_of, specified_behind, plain_condition, negation_in}
use Rattle.vc_syntax_terms.specs.ConditionReading.{both, any, negation, conjunction, condition}
use Rattle.vc_syntax_tree.specs.Trees as trees
use Rattle.vc_syntax_tree.specs.Trees.{Term, Relation, Condition}
use Rattle.vc_syntax_terms.specs.TermGrammar as terms
use Rattle.vc_syntax_terms.specs.TermGrammar.{IsSign, IsWord, IsVariable, IsText, IsNumber, IsOperand, IsSum}
use Rattle.vc_syntax_terms.specs.ConditionGrammar as grammar
use Rattle.vc_syntax_terms.specs.ConditionGrammar.{IsRelator, IsListed, IsSignedNumber, IsItem, IsRelation, IsNegation}
use Rattle.vc_syntax_terms.specs.ConditionGrammar.{IsConjunction, IsCondition}
use Rattle.vc_syntax_terms.proofs.Chains.{chained_step, chained_stops}
use Rattle.vc_syntax_terms.proofs.TokenLaws.{after_sign_again, after_word_again}
use Rattle.vc_syntax_terms.proofs.Lists.{word_takes, reads_whole_list}
use Rattle.vc_syntax_terms.proofs.TermCompleteness.{EndsName, closed_again, close_ends, reads_operand, reads_sum}
use Rattle.vc_syntax_terms.proofs.ConditionSoundness.{item_shortens, negation_shortens, conjunction_shortens}

-- nothing follows that goes on with a term
abbrev pub EndsTerm : List Token → Type 0
EndsTerm rest = EndsName rest × (product_operator rest ≡ None) × (sum_operator rest ≡ None)

pub reads_whole_sum : (ts : List Token) (term : Term) → IsSum ts term → (n : ℕ) → length ts ≤ n → (rest : List Token)
    → EndsTerm rest → sum n (ts ++ rest) ≡ Some (term, rest)
reads_whole_sum ts term d n h rest ends = reads_sum ts term d n h rest ends.0 ends.1
    ∙ chained_stops sum_operator join (product n) term rest ends.2

relator_ends : (l : Lexeme) (r : Relator) (rest : List Token) → relator_in l ≡ Some r
    → (cond (is_sign signs.Dot l) (Some rest) None ≡ None) × (leaving rest (product_operator_in l) ≡ None)
    × (leaving rest (sum_operator_in l) ≡ None)
relator_ends (lexemes.Sign signs.Equal) r rest e = (refl, refl, refl)
relator_ends (lexemes.Sign signs.Unequal) r rest e = (refl, refl, refl)
relator_ends (lexemes.Sign signs.Less) r rest e = (refl, refl, refl)
relator_ends (lexemes.Sign signs.LessEqual) r rest e = (refl, refl, refl)
relator_ends (lexemes.Sign signs.Greater) r rest e = (refl, refl, refl)
relator_ends (lexemes.Sign signs.GreaterEqual) r rest e = (refl, refl, refl)
relator_ends (lexemes.Reserved word) r rest e = (refl, refl, refl)
relator_ends _ r rest e = absurd (cc)

relator_closes : (l : Lexeme) (r : Relator) (rest : List Token) → relator_in l ≡ Some r
    → cond (is_sign signs.CloseParen l) (Some rest) None ≡ None
relator_closes (lexemes.Sign signs.Equal) r rest e = refl
relator_closes (lexemes.Sign signs.Unequal) r rest e = refl
relator_closes (lexemes.Sign signs.Less) r rest e = refl
relator_closes (lexemes.Sign signs.LessEqual) r rest e = refl
relator_closes (lexemes.Sign signs.Greater) r rest e = refl
relator_closes (lexemes.Sign signs.GreaterEqual) r rest e = refl
relator_closes (lexemes.Reserved word) r rest e = refl
relator_closes _ r rest e = absurd (cc)

-- a word ends a term
pub word_ends : (which : Reserved) (t : Token) (rest : List Token) → IsWord which t → EndsTerm (t ∷ rest)
word_ends which t rest e = (
  ap (λ l. cond (is_sign signs.Dot l) (Some rest) None) e,
  ap (λ l. leaving rest (product_operator_in l)) e,
  ap (λ l. leaving rest (sum_operator_in l)) e,
)

pub text_ahead_again : (t : Token) (rest : List Token) (leaf : TextLeaf) → IsText t leaf
    → text_ahead (t ∷ rest) ≡ Some (leaf, rest)
text_ahead_again t rest leaf e = ap (λ o. leaving rest o) e

number_ahead_again : (t : Token) (rest : List Token) (leaf : NumberLeaf) → IsNumber t leaf
    → number_ahead (t ∷ rest) ≡ Some (leaf, rest)
number_ahead_again t rest leaf e = ap (λ o. leaving rest o) e

pub variable_ahead_again : (t : Token) (rest : List Token) (leaf : NameLeaf) → IsVariable t leaf
    → variable_ahead (t ∷ rest) ≡ Some (leaf, rest)
variable_ahead_again t rest leaf e = ap (λ o. leaving rest o) e

number_no_minus : (l : Lexeme) (start end : ℕ) (leaf : NumberLeaf) (rest : List Token)
    → number_in l start end ≡ Some leaf
    → (cond (is_sign signs.Minus l) (Some rest) None ≡ None) × (leaving rest (text_in l start end) ≡ None)
number_no_minus (lexemes.Number n) start end leaf rest e = (refl, refl)
number_no_minus _ start end leaf rest e = absurd (cc)

signed_again : (ts : List Token) (number : SignedNumber) → IsSignedNumber ts number → (rest : List Token)
    → signed_number (ts ++ rest) ≡ Some (number, rest)
signed_again _ _ (grammar.positive {t = t} {leaf = leaf} e) rest =
    ap (λ o. either o (made (with_sign false) (number_ahead (t ∷ rest))) (λ r. made (with_sign true) (number_ahead r)))
    ((number_no_minus t.lexeme t.start t.end leaf rest e).0)
    ∙ ap (λ o. made (with_sign false) o) (number_ahead_again t rest leaf e)
signed_again _ _ (grammar.negative {minus = minus} {t = t} {leaf = leaf} m e) rest =
    ap (λ o. either o (made (with_sign false) (number_ahead (minus ∷ t ∷ rest)))
    (λ r. made (with_sign true) (number_ahead r))) (after_sign_again signs.Minus minus (t ∷ rest) m)
    ∙ ap (λ o. made (with_sign true) o) (number_ahead_again t rest leaf e)

signed_no_text : (ts : List Token) (number : SignedNumber) → IsSignedNumber ts number → (rest : List Token)
    → text_ahead (ts ++ rest) ≡ None
signed_no_text _ _ (grammar.positive {t = t} {leaf = leaf} e) rest =
    (number_no_minus t.lexeme t.start t.end leaf rest e).1
signed_no_text _ _ (grammar.negative {minus = minus} {t = t} m e) rest =
    ap (λ l. leaving (t ∷ rest) (text_in l minus.start minus.end)) m

abbrev EndsItem : List Token → Type 0
EndsItem rest = after_sign signs.Minus rest ≡ None

reads_item : (ts : List Token) (x : Item) → IsItem ts x → (rest : List Token) → EndsItem rest
    → item (ts ++ rest) ≡ Some (x, rest)
reads_item _ _ (grammar.text {t = t} {leaf = leaf} e) rest ends =
    ap (λ o. or_else (made items.Text o) (numbers (t ∷ rest))) (text_ahead_again t rest leaf e)
reads_item _ _ (grammar.number {ts = ts} {number = number} d) rest ends =
    ap (λ o. or_else (made items.Text o) (numbers (ts ++ rest))) (signed_no_text ts number d rest)
    ∙ ap (λ o. then o (λ low. either (after_sign signs.Minus low.1) (Some (items.Number low.0, low.1))
    (λ r. made (items.Interval low.0) (signed_number r)))) (signed_again ts number d rest)
    ∙ ap (λ o. either o (Some (items.Number number, rest)) (λ r. made (items.Interval number) (signed_number r))) ends
reads_item _ _ (grammar.interval ts minus us {low = low} {high = high} d m e) rest ends =
    ap (λ y. item y) (append_assoc ts (minus ∷ us) rest)
    ∙ ap (λ o. or_else (made items.Text o) (numbers (ts ++ minus ∷ (us ++ rest))))
    (signed_no_text ts low d (minus ∷ (us ++ rest)))
    ∙ ap (λ o. then o (λ x. either (after_sign signs.Minus x.1) (Some (items.Number x.0, x.1))
    (λ r. made (items.Interval x.0) (signed_number r)))) (signed_again ts low d (minus ∷ (us ++ rest)))
    ∙ ap (λ o. either o (Some (items.Number low, minus ∷ (us ++ rest)))
    (λ r. made (items.Interval low) (signed_number r))) (after_sign_again signs.Minus minus (us ++ rest) m)
    ∙ ap (λ o. made (items.Interval low) o) (signed_again us high e rest)

reads_items : (ts : List Token) (xs : List Item) → IsListed signs.Comma IsItem ts xs
    → (closing : Token) (rest : List Token) → IsSign signs.CloseParen closing
    → closed (listed signs.Comma item ((ts ++ closing ∷ []) ++ rest)) ≡ Some (xs, rest)
reads_items ts xs d closing rest c =
    ap (λ y. closed (listed signs.Comma item y)) (append_assoc ts (closing ∷ []) rest)
    ∙ ap (λ o. closed o) (reads_whole_list signs.Comma item IsItem item_shortens (length ts) EndsItem
    (λ t r e. ap (λ l. cond (is_sign signs.Minus l) (Some r) None) e) (λ us x e k r ends. reads_item us x e r ends)
    ts xs d (omega arith) (closing ∷ rest) (ap (λ l. cond (is_sign signs.Minus l) (Some rest) None) c)
    (ap (λ l. cond (is_sign signs.Comma l) (Some rest) None) c))
    ∙ closed_again xs closing rest c

-- an operand, read as a term, up to a word
operand_sum : (ts : List Token) (o : Operand) → IsOperand ts o → (n : ℕ) → length ts ≤ n
    → (which : Reserved) (t : Token) (rest : List Token) → IsWord which t
    → sum n (ts ++ t ∷ rest) ≡ Some (trees.Operand o, t ∷ rest)
operand_sum ts o d n h which t rest w =
    reads_whole_sum ts (trees.Operand o) (terms.product (terms.factor (terms.operand d))) n h (t ∷ rest)
    (word_ends which t rest w)

-- an operand before a word that relates nothing begins no comparison
operand_no_comparison : (ts : List Token) (o : Operand) → IsOperand ts o → (n : ℕ) → length ts ≤ n
    → (which : Reserved) (t : Token) (rest : List Token) → IsWord which t
    → relator_in (lexemes.Reserved which) ≡ None → comparison n (ts ++ t ∷ rest) ≡ None
operand_no_comparison ts o d n h which t rest w nothing =
    ap (λ s. then s (λ first. then (relator first.1) (λ sign. made (trees.Compared first.0 sign.0) (sum n sign.1))))
    (operand_sum ts o d n h which t rest w)
    ∙ ap (λ r. then (leaving rest r) (λ sign. made (trees.Compared (trees.Operand o) sign.0) (sum n sign.1)))
    (ap (λ l. relator_in l) w ∙ nothing)

comparison_again : (ts : List Token) (t : Token) (us : List Token) (left right : Term) (r : Relator) → IsSum ts left
    → IsRelator t r → IsSum us right
    → (n : ℕ) → length ts ≤ n → length us ≤ n → (rest : List Token) → EndsTerm rest
    → comparison n (ts ++ t ∷ (us ++ rest)) ≡ Some (trees.Compared left r right, rest)
comparison_again ts t us left right r d i e n h k rest ends =
    ap (λ s. then s (λ first. then (relator first.1) (λ sign. made (trees.Compared first.0 sign.0) (sum n sign.1))))
    (reads_whole_sum ts left d n h (t ∷ (us ++ rest)) (relator_ends t.lexeme r (us ++ rest) i))
    ∙ ap (λ o. then (leaving (us ++ rest) o) (λ sign. made (trees.Compared left sign.0) (sum n sign.1))) i
    ∙ ap (λ s. made (trees.Compared left r) s) (reads_whole_sum us right e n k rest ends)

pub relation_again : (ts : List Token) (x : Relation) → IsRelation ts x → (n : ℕ) → length ts ≤ suc n
    → (rest : List Token) → EndsTerm rest → relation n (ts ++ rest) ≡ Some (x, rest)
relation_again _ _ (grammar.compared ts t us {left = left} {right = right} {relator = r} d i e) n h rest ends =
    ap (λ y. relation n y) (append_assoc ts (t ∷ us) rest)
    ∙ ap (λ o. or_else o (within (ts ++ t ∷ (us ++ rest)))) (comparison_again ts t us left right r d i e n
    (omega (arith, length-append ts (t ∷ us))) (omega (arith, length-append ts (t ∷ us))) rest ends)
relation_again _ _ (grammar.within ts t opening us closing {operand = o} {items = xs} d w p e c) n h rest ends =
    let tail : List Token = opening ∷ ((us ++ closing ∷ []) ++ rest) in
    ap (λ y. relation n y) (append_assoc ts (t ∷ opening ∷ (us ++ closing ∷ [])) rest)
    ∙ ap (λ x. or_else x (within (ts ++ t ∷ tail))) (operand_no_comparison ts o d n
    (omega (arith, length-append ts (t ∷ opening ∷ (us ++ closing ∷ [])))) words.In t tail w refl)
    ∙ ap (λ x. then x (λ found.
    then (after_word words.In found.1) (λ r. made (trees.Within found.0) (grouped (listed signs.Comma item) r))))
    (reads_operand ts o d (t ∷ tail) ((word_ends words.In t tail w).0))
    ∙ ap (λ x. then x (λ r. made (trees.Within o) (grouped (listed signs.Comma item) r)))
    (after_word_again words.In t tail w)
    ∙ ap (λ x. made (trees.Within o) (then x (λ r. closed (listed signs.Comma item r))))
    (after_sign_again signs.OpenParen opening ((us ++ closing ∷ []) ++ rest) p)
    ∙ ap (λ x. made (trees.Within o) x) (reads_items us xs e closing rest c)

relation_some : (ts : List Token) (x : Relation) → IsRelation ts x → 0 < length ts
relation_some _ _ (grammar.compared ts t us d i e) = omega (arith, length-append ts (t ∷ us))
relation_some _ _ (grammar.within ts t opening us closing d w p e c) =
    omega (arith, length-append ts (t ∷ opening ∷ (us ++ closing ∷ [])))

-- where no factor begins, no term and no relation does
no_factor_no_sum : (n : ℕ) (ts : List Token) → factor n ts ≡ None → sum n ts ≡ None
no_factor_no_sum n ts e =
    ap (λ o. then (then o (λ f. chained product_operator join (factor n) f.0 f.1))
    (λ f. chained sum_operator join (product n) f.0 f.1)) e

no_factor_no_relation : (n : ℕ) (ts : List Token) → factor n ts ≡ None → operand ts ≡ None → relation n ts ≡ None
no_factor_no_relation n ts e f =
    ap (λ o. or_else (then o
    (λ first. then (relator first.1) (λ sign. made (trees.Compared first.0 sign.0) (sum n sign.1)))) (within ts))
    (no_factor_no_sum n ts e)
    ∙ ap (λ o. then o (λ found.
    then (after_word words.In found.1) (λ rest. made (trees.Within found.0) (grouped (listed signs.Comma item) rest))))
    f

word_no_factor : (which : Reserved) (t : Token) (rest : List Token) (n : ℕ) → IsWord which t
    → ((m : ℕ) → factor_in (factor m) (sum m) (lexemes.Reserved which) t rest ≡ None) → factor n (t ∷ rest) ≡ None
word_no_factor which t rest zero w nothing = refl
word_no_factor which t rest (suc m) w nothing = ap (λ l. factor_in (factor m) (sum m) l t rest) w ∙ nothing m

pub word_no_relation : (which : Reserved) (t : Token) (rest : List Token) (n : ℕ) → IsWord which t
    → ((m : ℕ) → factor_in (factor m) (sum m) (lexemes.Reserved which) t rest ≡ None) → relation n (t ∷ rest) ≡ None
word_no_relation which t rest n w nothing =
    no_factor_no_relation n (t ∷ rest) (word_no_factor which t rest n w nothing) (ap (λ l. operand_in l t rest) w)

closed_none : {A : Type 0} (x : A) (rest : List Token) → after_sign signs.CloseParen rest ≡ None
    → closed (Some (x, rest)) ≡ None
closed_none x rest e = ap (λ o. leaving_as x o) e

-- before a condition, an opening parenthesis begins no term
relation_begins_no_group : (ts : List Token) (x : Relation) → IsRelation ts x → (n : ℕ) → length ts ≤ n
    → (rest : List Token) → closed (sum n (ts ++ rest)) ≡ None
relation_begins_no_group _ _ (grammar.compared ts t us {left = left} {relator = r} d i e) n h rest =
    ap (λ y. closed (sum n y)) (append_assoc ts (t ∷ us) rest)
    ∙ ap (λ o. closed o)
    (reads_whole_sum ts left d n (omega (arith, length-append ts (t ∷ us))) (t ∷ (us ++ rest))
    (relator_ends t.lexeme r (us ++ rest) i))
    ∙ closed_none left (t ∷ (us ++ rest)) (relator_closes t.lexeme r (us ++ rest) i)
relation_begins_no_group _ _ (grammar.within ts t opening us closing {operand = o} d w p e c) n h rest =
    let tail : List Token = opening ∷ ((us ++ closing ∷ []) ++ rest) in
    ap (λ y. closed (sum n y)) (append_assoc ts (t ∷ opening ∷ (us ++ closing ∷ [])) rest)
    ∙ ap (λ x. closed x)
    (operand_sum ts o d n (omega (arith, length-append ts (t ∷ opening ∷ (us ++ closing ∷ [])))) words.In t tail w)
    ∙ closed_none (trees.Operand o) (t ∷ tail) (ap (λ l. cond (is_sign signs.CloseParen l) (Some tail) None) w)

-- a group in which no term ends is no factor
group_no_factor : (opening : Token) (ts : List Token) (closing : Token) (rest : List Token)
    → IsSign signs.OpenParen opening → (n : ℕ)
    → ((m : ℕ) → n ≡ suc m → closed (sum m (ts ++ closing ∷ rest)) ≡ None)
    → factor n (opening ∷ ((ts ++ closing ∷ []) ++ rest)) ≡ None
group_no_factor opening ts closing rest p zero f = refl
group_no_factor opening ts closing rest p (suc m) f =
    ap (λ l. factor_in (factor m) (sum m) l opening ((ts ++ closing ∷ []) ++ rest)) p
    ∙ ap (λ y. closed (sum m y)) (append_assoc ts (closing ∷ []) rest) ∙ f m refl

mutual
  negation_begins_no_group : (ts : List Token) (x : Condition) → IsNegation ts x → (n : ℕ) → length ts ≤ n
      → (rest : List Token) → closed (sum n (ts ++ rest)) ≡ None
  negation_begins_no_group _ _ (grammar.negated t ts w d) n h rest =
      ap (λ o. closed o) (no_factor_no_sum n (t ∷ (ts ++ rest))
      (word_no_factor words.Not t (ts ++ rest) n w (λ m. refl)))
  negation_begins_no_group _ _ (grammar.grouped opening ts closing {condition = x} p d c) n h rest =
      ap (λ o. closed o) (no_factor_no_sum n (opening ∷ ((ts ++ closing ∷ []) ++ rest))
      (group_no_factor opening ts closing rest p n
      (λ m e. condition_begins_no_group ts x d m (omega (arith, length-append ts (closing ∷ []))) (closing ∷ rest))))
  negation_begins_no_group _ _ (grammar.related {ts = ts} {relation = x} d) n h rest =
      relation_begins_no_group ts x d n h rest
  negation_begins_no_group _ _ (grammar.specified t ts w d) n h rest =
      ap (λ o. closed o) (no_factor_no_sum n (t ∷ (ts ++ rest))
      (word_no_factor words.Specified t (ts ++ rest) n w (λ m. refl)))
  negation_begins_no_group _ _ (grammar.specified_behind ts t {operand = o} d w) n h rest =
      ap (λ y. closed (sum n y)) (append_assoc ts (t ∷ []) rest)
      ∙ ap (λ x. closed x) (operand_sum ts o d n (omega (arith, length-append ts (t ∷ []))) words.Specified t rest w)
      ∙ closed_none (trees.Operand o) (t ∷ rest) (ap (λ l. cond (is_sign signs.CloseParen l) (Some rest) None) w)
  negation_begins_no_group _ _
      (grammar.part_of {t = t} {opening = a} {u = b} {comma = c} {v = d} {closing = e} w p q r s z) n h rest =
      ap (λ o. closed o) (no_factor_no_sum n (t ∷ a ∷ b ∷ c ∷ d ∷ e ∷ rest)
      (word_no_factor words.PartOf t (a ∷ b ∷ c ∷ d ∷ e ∷ rest) n w (λ m. refl)))

  conjunction_begins_no_group : (ts : List Token) (x : Condition) → IsConjunction ts x → (n : ℕ) → length ts ≤ n
      → (rest : List Token) → closed (sum n (ts ++ rest)) ≡ None
  conjunction_begins_no_group _ _ (grammar.negation {ts = ts} {condition = x} d) n h rest =
      negation_begins_no_group ts x d n h rest
  conjunction_begins_no_group _ _ (grammar.and ts t us {left = x} d w e) n h rest =
      ap (λ y. closed (sum n y)) (append_assoc ts (t ∷ us) rest)
      ∙ conjunction_begins_no_group ts x d n (omega (arith, length-append ts (t ∷ us))) (t ∷ (us ++ rest))

  condition_begins_no_group : (ts : List Token) (x : Condition) → IsCondition ts x → (n : ℕ) → length ts ≤ n
      → (rest : List Token) → closed (sum n (ts ++ rest)) ≡ None
  condition_begins_no_group _ _ (grammar.conjunction {ts = ts} {condition = x} d) n h rest =
      conjunction_begins_no_group ts x d n h rest
  condition_begins_no_group _ _ (grammar.or ts t us {left = x} d w e) n h rest =
      ap (λ y. closed (sum n y)) (append_assoc ts (t ∷ us) rest)
      ∙ condition_begins_no_group ts x d n (omega (arith, length-append ts (t ∷ us))) (t ∷ (us ++ rest))

negation_at : (n : ℕ) (t : Token) (ts : List Token) (x : Condition × List Token) → 0 < n
    → ((m : ℕ) → n ≡ suc m → negation_in m (negation m) (condition m) t.lexeme t ts ≡ Some x)
    → negation n (t ∷ ts) ≡ Some x
negation_at zero t ts x h f = let no : ⊥ = omega arith in absurd no
negation_at (suc m) t ts x h f = f m refl

module _ (m : ℕ) (read_negation read_condition : Reader Condition) where
  related_first : (l : Lexeme) (t : Token) (ts : List Token) (x : Relation × List Token) → t.lexeme ≡ l
      → relation m (t ∷ ts) ≡ Some x
      → negation_in m read_negation read_condition l t ts ≡ Some (trees.Related x.0, x.1)
  related_first (lexemes.Reserved words.Not) t ts x h e = let no : relation m (t ∷ ts)
      ≡ None = word_no_relation words.Not t ts m h (λ k. refl) in absurd (cc)
  related_first (lexemes.Reserved words.Specified) t ts x h e = let no : relation m (t ∷ ts)
      ≡ None = word_no_relation words.Specified t ts m h (λ k. refl) in absurd (cc)
  related_first (lexemes.Reserved words.PartOf) t ts x h e = let no : relation m (t ∷ ts)
      ≡ None = word_no_relation words.PartOf t ts m h (λ k. refl) in absurd (cc)
  related_first (lexemes.Sign signs.OpenParen) t ts x h e =
      ap (λ o. or_else (made trees.Related o) (closed (read_condition ts))) e
  related_first _ t ts x h e = ap (λ o. or_else (made trees.Related o) (specified_behind (t ∷ ts))) e

  operand_first : (l : Lexeme) (t : Token) (ts : List Token) (x : Operand × List Token) → operand_in l t ts ≡ Some x
      → negation_in m read_negation read_condition l t ts ≡ plain_condition m (t ∷ ts)
  operand_first (lexemes.Name n) t ts x e = refl
  operand_first (lexemes.Variable n) t ts x e = refl
  operand_first (lexemes.Dollar n) t ts x e = refl
  operand_first _ t ts x e = absurd (cc)

related_at : (n : ℕ) (ts : List Token) (x : Relation × List Token) → 0 < n
    → ((m : ℕ) → n ≡ suc m → relation m ts ≡ Some x) → negation n ts ≡ Some (trees.Related x.0, x.1)
related_at zero ts x h f = let no : ⊥ = omega arith in absurd no
related_at (suc m) [] x h f = ap (λ o. or_else (made trees.Related o) (specified_behind [])) (f m refl)
related_at (suc m) (t ∷ ts) x h f = related_first m (negation m) (condition m) t.lexeme t ts x refl (f m refl)

plain_at : (n : ℕ) (ts : List Token) (o : Operand) (us : List Token) (x : Condition × List Token) → 0 < n
    → operand ts ≡ Some (o, us)
    → ((m : ℕ) → n ≡ suc m → plain_condition m ts ≡ Some x) → negation n ts ≡ Some x
plain_at zero ts o us x h e f = let no : ⊥ = omega arith in absurd no
plain_at (suc m) [] o us x h e f = absurd (cc)
plain_at (suc m) (t ∷ ts) o us x h e f = operand_first m (negation m) (condition m) t.lexeme t ts (o, us) e ∙ f m refl

specified_again : (ts : List Token) (o : Operand) → IsOperand ts o → (t : Token) → IsWord words.Specified t → (m : ℕ)
    → length ts ≤ m → (rest : List Token)
    → plain_condition m (ts ++ t ∷ rest) ≡ Some (trees.Specified o, rest)
specified_again ts o d t w m h rest = let read : operand (ts ++ t ∷ rest)
    ≡ Some (o, t ∷ rest) = reads_operand ts o d (t ∷ rest) ((word_ends words.Specified t rest w).0) in
    ap (λ x. or_else (made trees.Related (or_else x (within (ts ++ t ∷ rest)))) (specified_behind (ts ++ t ∷ rest)))
    (operand_no_comparison ts o d m h words.Specified t rest w refl)
    ∙ ap (λ x. or_else (made trees.Related
    (then x (λ found. then (after_word words.In found.1)
    (λ r. made (trees.Within found.0) (grouped (listed signs.Comma item) r))))) (specified_behind (ts ++ t ∷ rest)))
    read
    ∙ ap (λ x. or_else (made trees.Related (then x (λ r. made (trees.Within o) (grouped (listed signs.Comma item) r))))
    (specified_behind (ts ++ t ∷ rest)))
    (ap (λ l. cond (is_word words.In l) (Some rest) None) w)
    ∙ ap (λ x. then x (λ found. leaving_as (trees.Specified found.0) (after_word words.Specified found.1))) read
    ∙ ap (λ x. leaving_as (trees.Specified o) x) (after_word_again words.Specified t rest w)

reads_part_of : (a b c d e : Token) (part whole : NameLeaf) (rest : List Token) → IsSign signs.OpenParen a
    → IsVariable b part → IsSign signs.Comma c → IsVariable d whole
    → IsSign signs.CloseParen e → part_of (a ∷ b ∷ c ∷ d ∷ e ∷ rest) ≡ Some (trees.PartOf part whole, rest)
reads_part_of a b c d e part whole rest p q r s z =
    ap (λ x. then x (λ first.
    then (variable_ahead first)
    (λ y. then (after_sign signs.Comma y.1) (λ second. made (trees.PartOf y.0) (closed (variable_ahead second))))))
    (after_sign_again signs.OpenParen a (b ∷ c ∷ d ∷ e ∷ rest) p)
    ∙ ap (λ x. then x (λ y.
    then (after_sign signs.Comma y.1) (λ second. made (trees.PartOf y.0) (closed (variable_ahead second)))))
    (variable_ahead_again b (c ∷ d ∷ e ∷ rest) part q)
    ∙ ap (λ x. then x (λ second. made (trees.PartOf part) (closed (variable_ahead second))))
    (after_sign_again signs.Comma c (d ∷ e ∷ rest) r)
    ∙ ap (λ x. made (trees.PartOf part) (closed x)) (variable_ahead_again d (e ∷ rest) whole s)
    ∙ ap (λ x. made (trees.PartOf part) x) (closed_again whole e rest z)

-- a group that holds a condition is read as one, since no relation begins there
group_again : (m : ℕ) (opening : Token) (ts : List Token) (closing : Token) (rest : List Token) (x : Condition)
    → IsSign signs.OpenParen opening → IsCondition ts x
    → IsSign signs.CloseParen closing → length ts + 1 ≤ m
    → condition m (ts ++ closing ∷ rest) ≡ chained (word words.Or) any (conjunction m) x (closing ∷ rest)
    → negation_in m (negation m) (condition m) opening.lexeme opening ((ts ++ closing ∷ []) ++ rest) ≡ Some (x, rest)
group_again m opening ts closing rest x p d c h e =
    let tail : List Token = (ts ++ closing ∷ []) ++ rest in
    ap (λ l. negation_in m (negation m) (condition m) l opening tail) p
    ∙ ap (λ o. or_else (made trees.Related o) (closed (condition m tail))) (no_factor_no_relation m (opening ∷ tail)
    (group_no_factor opening ts closing rest p m
    (λ k f. condition_begins_no_group ts x d k (omega arith) (closing ∷ rest))) (ap (λ l. operand_in l opening tail) p))
    ∙ ap (λ y. closed (condition m y)) (append_assoc ts (closing ∷ []) rest)
    ∙ ap (λ o. closed o)
    (e ∙ chained_stops (word words.Or) any (conjunction m) x (closing ∷ rest)
    (ap (λ l. leaving_as tt (cond (is_word words.Or l) (Some rest) None)) c))
    ∙ closed_again x closing rest c

mutual
  pub reads_negation : (ts : List Token) (x : Condition) → IsNegation ts x → (n : ℕ) → length ts ≤ n
      → (rest : List Token) → EndsTerm rest → negation n (ts ++ rest) ≡ Some (x, rest)
  reads_negation _ _ (grammar.negated t ts {condition = x} w d) n h rest ends =
      negation_at n t (ts ++ rest) _ (omega arith) (λ m e.
      ap (λ l. negation_in m (negation m) (condition m) l t (ts ++ rest)) w
      ∙ ap (λ o. made trees.Not o) (reads_negation ts x d m (omega arith) rest ends))
  reads_negation _ _ (grammar.grouped opening ts closing {condition = x} p d c) n h rest ends =
      negation_at n opening ((ts ++ closing ∷ []) ++ rest) _ (omega arith) (λ m e.
      group_again m opening ts closing rest x p d c (omega (arith, length-append ts (closing ∷ [])))
      (reads_condition ts x d m (omega (arith, length-append ts (closing ∷ []))) (closing ∷ rest)
      (close_ends closing rest c)
      (ap (λ l. cond (is_word words.And l) (Some rest) None) c)))
  reads_negation _ _ (grammar.related {ts = ts} {relation = x} d) n h rest ends =
      related_at n (ts ++ rest) (x, rest) (omega (arith, relation_some ts x d))
      (λ m e. relation_again ts x d m (omega arith) rest ends)
  reads_negation _ _ (grammar.specified t ts {operand = o} w d) n h rest ends =
      negation_at n t (ts ++ rest) _ (omega arith) (λ m e.
      ap (λ l. negation_in m (negation m) (condition m) l t (ts ++ rest)) w
      ∙ ap (λ y. made trees.Specified y) (reads_operand ts o d rest ends.0))
  reads_negation _ _ (grammar.specified_behind ts t {operand = o} d w) n h rest ends =
      ap (λ y. negation n y) (append_assoc ts (t ∷ []) rest)
      ∙ plain_at n (ts ++ t ∷ rest) o (t ∷ rest) _ (omega (arith, length-append ts (t ∷ [])))
      (reads_operand ts o d (t ∷ rest) ((word_ends words.Specified t rest w).0))
      (λ m e. specified_again ts o d t w m (omega (arith, length-append ts (t ∷ []))) rest)
  reads_negation _ _ (grammar.part_of {t = t} {opening = a} {u = b} {comma = c} {v = d} {closing = e} {part = part}
      {whole = whole} w p q r s z) n h rest ends =
      negation_at n t (a ∷ b ∷ c ∷ d ∷ e ∷ rest) _ (omega arith) (λ m f.
      ap (λ l. negation_in m (negation m) (condition m) l t (a ∷ b ∷ c ∷ d ∷ e ∷ rest)) w
      ∙ reads_part_of a b c d e part whole rest p q r s z)

  pub reads_conjunction : (ts : List Token) (x : Condition) → IsConjunction ts x → (n : ℕ) → length ts ≤ n
      → (rest : List Token) → EndsTerm rest
      → conjunction n (ts ++ rest) ≡ chained (word words.And) both (negation n) x rest
  reads_conjunction _ _ (grammar.negation {ts = ts} {condition = x} d) n h rest ends =
      ap (λ o. then o (λ found. chained (word words.And) both (negation n) found.0 found.1))
      (reads_negation ts x d n h rest ends)
  reads_conjunction _ _ (grammar.and ts t us {left = left} {right = right} d w e) n h rest ends =
      ap (λ y. conjunction n y) (append_assoc ts (t ∷ us) rest)
      ∙ reads_conjunction ts left d n (omega (arith, length-append ts (t ∷ us))) (t ∷ (us ++ rest))
      (word_ends words.And t (us ++ rest) w)
      ∙ chained_step (word words.And) both (negation n) (word_takes words.And) (negation_shortens n) left
      (t ∷ (us ++ rest)) (tt, us ++ rest) (right, rest)
      (ap (λ o. leaving_as tt o) (after_word_again words.And t (us ++ rest) w))
      (reads_negation us right e n (omega (arith, length-append ts (t ∷ us))) rest ends)

  pub reads_condition : (ts : List Token) (x : Condition) → IsCondition ts x → (n : ℕ) → length ts ≤ n
      → (rest : List Token) → EndsTerm rest → after_word words.And rest ≡ None
      → condition n (ts ++ rest) ≡ chained (word words.Or) any (conjunction n) x rest
  reads_condition _ _ (grammar.conjunction {ts = ts} {condition = x} d) n h rest ends stops =
      ap (λ o. then o (λ found. chained (word words.Or) any (conjunction n) found.0 found.1))
      (reads_conjunction ts x d n h rest ends
      ∙ chained_stops (word words.And) both (negation n) x rest (ap (λ o. leaving_as tt o) stops))
  reads_condition _ _ (grammar.or ts t us {left = left} {right = right} d w e) n h rest ends stops =
      ap (λ y. condition n y) (append_assoc ts (t ∷ us) rest)
      ∙ reads_condition ts left d n (omega (arith, length-append ts (t ∷ us))) (t ∷ (us ++ rest))
      (word_ends words.Or t (us ++ rest) w)
      (ap (λ l. cond (is_word words.And l) (Some (us ++ rest)) None) w)
      ∙ chained_step (word words.Or) any (conjunction n) (word_takes words.Or) (conjunction_shortens n) left
      (t ∷ (us ++ rest)) (tt, us ++ rest) (right, rest)
      (ap (λ o. leaving_as tt o) (after_word_again words.Or t (us ++ rest) w))
      (reads_conjunction us right e n (omega (arith, length-append ts (t ∷ us))) rest ends
      ∙ chained_stops (word words.And) both (negation n) right rest (ap (λ o. leaving_as tt o) stops))
