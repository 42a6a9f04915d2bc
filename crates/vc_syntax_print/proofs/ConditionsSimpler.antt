-- The canonical lexemes of a condition are the simpler ones of each text that spells it.
use Rattle.std.proofs.Common.{◌≡◌, Bool, true, false, List, [], ◌∷◌, ◌++◌, Some, refl}
use Rattle.vc_syntax_tokens.specs.declared.token.Token.{Token}
use Rattle.vc_syntax_tokens.specs.declared.token.Lexeme.{Lexeme}
use Rattle.vc_syntax_tokens.specs.declared.token.Lexeme.TheVariants as lexemes
use Rattle.vc_syntax_tokens.specs.declared.token.Sign.TheVariants as signs
use Rattle.vc_syntax_tokens.specs.declared.token.Reserved.TheVariants as words
use Rattle.vc_syntax_tokens.specs.declared.limits.Prefix.{Prefix}
use Rattle.vc_syntax_tokens.specs.declared.limits.Prefix.TheVariants.{Negation, Negative}
use Rattle.vc_syntax_tokens.specs.Limits.{is_open, is_close, is_prefix}
use Rattle.vc_syntax_tokens.specs.Texts.{is_dot, is_period}
use Rattle.vc_syntax_tokens.specs.Written.{is_lexeme}
use Rattle.vc_syntax_tree.specs.declared.SignedNumber.{SignedNumber}
use Rattle.vc_syntax_tree.specs.declared.Item.{Item}
use Rattle.vc_syntax_tree.specs.declared.Relator.{Relator}
use Rattle.vc_syntax_tree.specs.declared.Relator.TheVariants as relators
use Rattle.vc_syntax_terms.specs.ConditionReading.{relator_in}
use Rattle.vc_syntax_terms.specs.ConditionGrammar as grammar
use Rattle.vc_syntax_terms.specs.ConditionGrammar.{IsListed, IsSignedNumber, IsItem, IsRelation, IsNegation}
use Rattle.vc_syntax_terms.specs.ConditionGrammar.{IsConjunction, IsCondition}
use Rattle.vc_syntax_tree.specs.Trees as trees
use Rattle.vc_syntax_tree.specs.Trees.{Relation, Condition}
use Rattle.vc_syntax_print.specs.TermLexemes.{wrapped_if, operand_lexemes, term_lexemes}
use Rattle.vc_syntax_print.specs.ConditionLexemes.{signed_lexemes, item_lexemes, relator_sign, relation_lexemes, is_or}
use Rattle.vc_syntax_print.specs.ConditionLexemes.{is_joined, condition_lexemes}
use Rattle.vc_syntax_print.proofs.Simpler as simpler
use Rattle.vc_syntax_print.proofs.Simpler.{Same, Alike, Simpler}
use Rattle.vc_syntax_print.proofs.Marks.{before_is, operated_is, wrapped_is, regrouped, bare_if, variable_is, text_is}
use Rattle.vc_syntax_print.proofs.Marks.{number_is}
use Rattle.vc_syntax_print.proofs.TermsSimpler.{operand_simpler, sum_simpler}
use Rattle.vc_syntax_print.proofs.ListsSimpler.{listed_simpler}

signed_simpler : (ts : List Token) (number : SignedNumber) → IsSignedNumber ts number
    → Simpler true ts (signed_lexemes number)
signed_simpler _ _ (grammar.positive {t = t} {leaf = leaf} e) = number_is t leaf e
signed_simpler _ _ (grammar.negative {minus = minus} {t = t} {leaf = leaf} m e) =
    before_is true minus (lexemes.Sign signs.Minus) (t ∷ []) _ m refl refl refl (number_is t leaf e)

item_simpler : (ts : List Token) (item : Item) → IsItem ts item → Simpler true ts (item_lexemes item)
item_simpler _ _ (grammar.text {t = t} {leaf = leaf} e) = text_is t leaf e
item_simpler _ _ (grammar.number {ts = ts} {number = number} x) = signed_simpler ts number x
item_simpler _ _ (grammar.interval ts minus us {low = low} {high = high} x m y) =
    operated_is true true ts minus us _ (lexemes.Sign signs.Minus) _ (signed_simpler ts low x) m refl refl
    (signed_simpler us high y)

counts : (l m : Lexeme) → is_prefix Negation l ≡ is_prefix Negation m → is_prefix Negative l ≡ is_prefix Negative m
    → (p : Prefix) → is_prefix p l ≡ is_prefix p m
counts l m e f Negation = e
counts l m e f Negative = f

-- another lexeme in the place of one, as a sign in the place of the word for it
pub alike_sign : (l m : Lexeme) → is_open l ≡ is_open m → is_close l ≡ is_close m
    → is_prefix Negation l ≡ is_prefix Negation m → is_prefix Negative l ≡ is_prefix Negative m
    → is_lexeme m ≡ true → is_dot m ≡ false → is_period m ≡ false → Alike l m
alike_sign l m o c e f g d p good =
    record { opens = o; closes = c; prefixes = counts l m e f; good = g; no_dot = d; no_period = p }

relator_alike : (l : Lexeme) (relator : Relator) → relator_in l ≡ Some relator
    → Alike l (lexemes.Sign (relator_sign relator))
relator_alike (lexemes.Sign signs.Equal) relators.Equal e = alike_sign _ _ refl refl refl refl refl refl refl
relator_alike (lexemes.Sign signs.Unequal) relators.Unequal e = alike_sign _ _ refl refl refl refl refl refl refl
relator_alike (lexemes.Sign signs.Less) relators.Less e = alike_sign _ _ refl refl refl refl refl refl refl
relator_alike (lexemes.Sign signs.LessEqual) relators.LessEqual e = alike_sign _ _ refl refl refl refl refl refl refl
relator_alike (lexemes.Sign signs.Greater) relators.Greater e = alike_sign _ _ refl refl refl refl refl refl refl
relator_alike (lexemes.Sign signs.GreaterEqual) relators.GreaterEqual e =
    alike_sign _ _ refl refl refl refl refl refl refl
relator_alike (lexemes.Reserved words.Eq) relators.Equal e = alike_sign _ _ refl refl refl refl refl refl refl
relator_alike (lexemes.Reserved words.Ne) relators.Unequal e = alike_sign _ _ refl refl refl refl refl refl refl
relator_alike (lexemes.Reserved words.Lt) relators.Less e = alike_sign _ _ refl refl refl refl refl refl refl
relator_alike (lexemes.Reserved words.Le) relators.LessEqual e = alike_sign _ _ refl refl refl refl refl refl refl
relator_alike (lexemes.Reserved words.Gt) relators.Greater e = alike_sign _ _ refl refl refl refl refl refl refl
relator_alike (lexemes.Reserved words.Ge) relators.GreaterEqual e = alike_sign _ _ refl refl refl refl refl refl refl
relator_alike _ _ e = absurd (cc)

pub relation_simpler : (ts : List Token) (relation : Relation) → IsRelation ts relation
    → Simpler true ts (relation_lexemes relation)
relation_simpler _ _ (grammar.compared ts t us {left = left} {right = right} {relator = relator} x r y) =
    simpler.operated ts t us (term_lexemes left) (lexemes.Sign (relator_sign relator)) (term_lexemes right)
    (sum_simpler ts left x) (relator_alike t.lexeme relator r) (sum_simpler us right y)
relation_simpler _ _ (grammar.within ts t opening us closing {operand = operand} {items = items} x w o l c) =
    operated_is true true ts t (opening ∷ (us ++ closing ∷ [])) (operand_lexemes operand) (lexemes.Reserved words.In) _
    (operand_simpler ts operand x) w refl refl
    (wrapped_is true opening us closing _ o
    (listed_simpler true signs.Comma IsItem item_lexemes refl refl item_simpler us items l) c)

or_joins : (condition : Condition) → is_joined condition ≡ false → is_or condition ≡ false
or_joins (trees.Or left right) e = absurd (cc)
or_joins (trees.And left right) e = absurd (cc)
or_joins (trees.Not condition) e = refl
or_joins (trees.Related relation) e = refl
or_joins (trees.Specified operand) e = refl
or_joins (trees.PartOf part whole) e = refl

mutual
  negation_simpler : (ts : List Token) (condition : Condition) → IsNegation ts condition → (b : Bool)
      → (is_joined condition ≡ false → b ≡ false)
      → Simpler true ts (wrapped_if b (condition_lexemes condition))
  negation_simpler _ _ (grammar.negated t ts {condition = condition} w x) b h =
      bare_if b (t ∷ ts) _ (h refl)
      (before_is true t (lexemes.Reserved words.Not) ts _ w refl refl refl
      (negation_simpler ts condition x (is_joined condition) (λ c. c)))
  negation_simpler _ _ (grammar.grouped opening ts closing {condition = condition} o x c) b h =
      regrouped b opening ts closing (condition_lexemes condition) o (condition_simpler ts condition x) c
  negation_simpler _ _ (grammar.related {ts = ts} {relation = relation} x) b h =
      bare_if b ts _ (h refl) (relation_simpler ts relation x)
  negation_simpler _ _ (grammar.specified t ts {operand = operand} w x) b h =
      bare_if b (t ∷ ts) _ (h refl)
      (before_is true t (lexemes.Reserved words.Specified) ts _ w refl refl refl (operand_simpler ts operand x))
  negation_simpler _ _ (grammar.specified_behind ts t {operand = operand} x w) b h =
      bare_if b (ts ++ t ∷ []) _ (h refl)
      (simpler.turned ts t (operand_lexemes operand) (operand_simpler ts operand x) w)
  negation_simpler _ _
      (grammar.part_of {t = t} {opening = opening} {u = u} {comma = comma} {v = v} {closing = closing} {part = part}
      {whole = whole} w o p c q d) b h =
      bare_if b _ _ (h refl) (before_is true t (lexemes.Reserved words.PartOf) _ _ w refl refl refl
      (wrapped_is true opening (u ∷ comma ∷ v ∷ []) closing _ o
      (operated_is true true (u ∷ []) comma (v ∷ []) (lexemes.Variable part.name ∷ []) (lexemes.Sign signs.Comma)
      (lexemes.Variable whole.name ∷ []) (variable_is u part p) c refl refl (variable_is v whole q)) d))

  conjunction_simpler : (ts : List Token) (condition : Condition) → IsConjunction ts condition → (b : Bool)
      → (is_or condition ≡ false → b ≡ false)
      → Simpler true ts (wrapped_if b (condition_lexemes condition))
  conjunction_simpler _ _ (grammar.negation {ts = ts} {condition = condition} x) b h =
      negation_simpler ts condition x b (λ c. h (or_joins condition c))
  conjunction_simpler _ _ (grammar.and ts t us {left = left} {right = right} x w y) b h =
      bare_if b (ts ++ t ∷ us) _ (h refl) (operated_is true true ts t us _ (lexemes.Reserved words.And) _
      (conjunction_simpler ts left x (is_or left) (λ c. c)) w refl refl
      (negation_simpler us right y (is_joined right) (λ c. c)))

  pub condition_simpler : (ts : List Token) (condition : Condition) → IsCondition ts condition
      → Simpler true ts (condition_lexemes condition)
  condition_simpler _ _ (grammar.conjunction {ts = ts} {condition = condition} x) =
      conjunction_simpler ts condition x false (λ c. refl)
  condition_simpler _ _ (grammar.or ts t us {left = left} {right = right} x w y) =
      operated_is true true ts t us _ (lexemes.Reserved words.Or) _ (condition_simpler ts left x) w refl refl
      (conjunction_simpler us right y (is_or right) (λ c. c))
