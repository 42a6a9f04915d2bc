-- The canonical lexemes of a term are the simpler ones of each text that spells it.
use Rattle.std.proofs.Common.{◌≡◌, Bool, true, false, List, [], ◌∷◌, ◌++◌, Some, refl, ap, ◌∙◌}
use Rattle.std.specs.Prelude.{◌&&◌, not, if◌then◌else◌}
use Rattle.vc_syntax_tokens.specs.declared.token.Token.{Token}
use Rattle.vc_syntax_tokens.specs.declared.token.Lexeme.{Lexeme}
use Rattle.vc_syntax_tokens.specs.declared.token.Lexeme.TheVariants as lexemes
use Rattle.vc_syntax_tokens.specs.declared.token.Sign.TheVariants as signs
use Rattle.vc_syntax_tokens.specs.declared.token.Dollar.{Dollar}
use Rattle.vc_syntax_tokens.specs.declared.token.Dollar.TheVariants as dollars
use Rattle.vc_syntax_tokens.specs.declared.token.Reserved.{Reserved}
use Rattle.vc_syntax_tokens.specs.declared.token.Reserved.TheVariants as words
use Rattle.vc_syntax_tokens.specs.Texts.{is_dot, is_period}
use Rattle.vc_syntax_tree.specs.declared.NameLeaf.{NameLeaf}
use Rattle.vc_syntax_tree.specs.declared.Owner.{Owner}
use Rattle.vc_syntax_tree.specs.declared.Owner.TheVariants as owners
use Rattle.vc_syntax_tree.specs.declared.Operand.{Operand}
use Rattle.vc_syntax_tree.specs.declared.Operator.{Operator}
use Rattle.vc_syntax_tree.specs.declared.Operator.TheVariants as operators
use Rattle.vc_syntax_tree.specs.declared.Function.{Function}
use Rattle.vc_syntax_tree.specs.declared.Function.TheVariants as functions
use Rattle.vc_syntax_terms.specs.TermReading.{owner_of, function_of, product_operator_in, sum_operator_in}
use Rattle.vc_syntax_terms.specs.TermGrammar as grammar
use Rattle.vc_syntax_terms.specs.TermGrammar.{IsSign, IsOwner, IsFunction, IsOperand, IsSelfAndName, IsOnlySelf}
use Rattle.vc_syntax_terms.specs.TermGrammar.{IsFactor, IsProduct, IsSum}
use Rattle.vc_syntax_tree.specs.Trees as trees
use Rattle.vc_syntax_tree.specs.Trees.{Term}
use Rattle.vc_syntax_print.specs.TermLexemes.{wrapped, wrapped_if, owner_word, function_word, operator_sign}
use Rattle.vc_syntax_print.specs.TermLexemes.{operand_lexemes, is_additive, is_sum, is_combined, left_needs}
use Rattle.vc_syntax_print.specs.TermLexemes.{right_needs, self_and_name, term_lexemes}
use Rattle.vc_syntax_print.proofs.Simpler as simpler
use Rattle.vc_syntax_print.proofs.Simpler.{Simpler}
use Rattle.vc_syntax_print.proofs.Marks.{alike, token_is, before_is, operated_is, closed_is, wrapped_is, regrouped}
use Rattle.vc_syntax_print.proofs.Marks.{bare_if, name_lexeme, variable_lexeme, name_is, variable_is, text_is}
use Rattle.vc_syntax_print.proofs.Marks.{number_is}

owner_again : (dollar : Dollar) (owner : Owner) → owner_of dollar ≡ Some owner → dollar ≡ owner_word owner
owner_again dollars.Itself owners.Itself e = refl
owner_again dollars.Parent owners.Parent e = refl
owner_again dollars.Root owners.Root e = refl
owner_again _ _ e = absurd (cc)

pub owner_lexeme : (t : Token) (owner : Owner) → IsOwner t owner → t.lexeme ≡ lexemes.Dollar (owner_word owner)
owner_lexeme t owner o = o.1 ∙ ap lexemes.Dollar (owner_again o.0 owner o.2)

function_again : (word : Reserved) (function : Function) → function_of word ≡ Some function
    → word ≡ function_word function
function_again words.Abs functions.Abs e = refl
function_again words.Sign functions.Sign e = refl
function_again words.Trunc functions.Trunc e = refl
function_again words.Floor functions.Floor e = refl
function_again words.Ceil functions.Ceil e = refl
function_again words.Frac functions.Frac e = refl
function_again _ _ e = absurd (cc)

pub function_lexeme : (t : Token) (function : Function) → IsFunction t function
    → t.lexeme ≡ lexemes.Reserved (function_word function)
function_lexeme t function o = o.1 ∙ ap lexemes.Reserved (function_again o.0 function o.2)

pub product_lexeme : (l : Lexeme) (operator : Operator) → product_operator_in l ≡ Some operator
    → (l ≡ lexemes.Sign (operator_sign operator)) × (is_additive operator ≡ false)
product_lexeme (lexemes.Sign signs.Star) operators.Times e = (refl, refl)
product_lexeme (lexemes.Sign signs.Slash) operators.Over e = (refl, refl)
product_lexeme _ _ e = absurd (cc)

pub sum_lexeme : (l : Lexeme) (operator : Operator) → sum_operator_in l ≡ Some operator
    → (l ≡ lexemes.Sign (operator_sign operator)) × (is_additive operator ≡ true)
sum_lexeme (lexemes.Sign signs.Plus) operators.Plus e = (refl, refl)
sum_lexeme (lexemes.Sign signs.Minus) operators.Minus e = (refl, refl)
sum_lexeme _ _ e = absurd (cc)

operator_no_dot : (operator : Operator) → is_dot (lexemes.Sign (operator_sign operator)) ≡ false
operator_no_dot operators.Plus = refl
operator_no_dot operators.Minus = refl
operator_no_dot operators.Times = refl
operator_no_dot operators.Over = refl

operator_no_period : (operator : Operator) → is_period (lexemes.Sign (operator_sign operator)) ≡ false
operator_no_period operators.Plus = refl
operator_no_period operators.Minus = refl
operator_no_period operators.Times = refl
operator_no_period operators.Over = refl

pub operand_simpler : (ts : List Token) (operand : Operand) → IsOperand ts operand
    → Simpler true ts (operand_lexemes operand)
operand_simpler _ _ (grammar.plain {t = t} {name = name} e) = name_is t name e
operand_simpler _ _ (grammar.owned {t = t} {dot = dot} {u = u} {owner = owner} {name = name} o d e) =
    simpler.dotted t dot u (lexemes.Dollar (owner_word owner)) name.name
    (alike t.lexeme (lexemes.Dollar (owner_word owner)) (owner_lexeme t owner o) refl refl) refl d
    (name_lexeme u name e)
operand_simpler _ _ (grammar.member {t = t} {dot = dot} {u = u} {variable = variable} {name = name} v d e) =
    simpler.dotted t dot u (lexemes.Variable variable.name) name.name
    (alike t.lexeme (lexemes.Variable variable.name) (variable_lexeme t variable v) refl refl) refl d
    (name_lexeme u name e)
operand_simpler _ _ (grammar.variable {t = t} {name = name} v) = variable_is t name v

pub self_simpler : (ts : List Token) (name : NameLeaf) → IsSelfAndName ts name → Simpler true ts (self_and_name name)
self_simpler _ _ (grammar.self_and_name {opening = opening} {self = self} {comma = comma} {t = t} {name = name} o s c
    e) =
    before_is true opening (lexemes.Sign signs.OpenParen) _ _ o refl refl refl
    (before_is true self (lexemes.Dollar dollars.Itself) _ _ s refl refl refl
    (before_is true comma (lexemes.Sign signs.Comma) _ _ c refl refl refl (name_is t name e)))

only_self_simpler : (ts : List Token) → IsOnlySelf ts → Simpler true ts (wrapped (lexemes.Dollar dollars.Itself ∷ []))
only_self_simpler _ (grammar.only_self {opening = opening} {self = self} {closing = closing} o s c) =
    wrapped_is true opening (self ∷ []) closing (lexemes.Dollar dollars.Itself ∷ []) o
    (token_is self (lexemes.Dollar dollars.Itself) s
    record { no_dot = refl; no_period = refl; no_opening = refl; no_not = refl; no_minus = refl; no_star = refl }) c

sum_combines : (term : Term) → is_combined term ≡ false → is_sum term ≡ false
sum_combines (trees.Combined left operator right) e = absurd (cc)
sum_combines (trees.Number leaf) e = refl
sum_combines (trees.Text leaf) e = refl
sum_combines (trees.Operand operand) e = refl
sum_combines (trees.Negated term) e = refl
sum_combines (trees.Applied function term) e = refl
sum_combines (trees.SumOfParts name) e = refl
sum_combines trees.CountOfParts e = refl

and_false : (a b : Bool) → b ≡ false → (a && b) ≡ false
and_false true b e = e
and_false false b e = refl

if_false : (a b c : Bool) → b ≡ false → c ≡ false → (if a then b else c) ≡ false
if_false true b c e f = e
if_false false b c e f = f

combined_simpler : (ts : List Token) (t : Token) (us : List Token) (left right : Term) (operator : Operator)
    → t.lexeme ≡ lexemes.Sign (operator_sign operator)
    → Simpler true ts (wrapped_if (left_needs operator left) (term_lexemes left))
    → Simpler true us (wrapped_if (right_needs operator right) (term_lexemes right))
    → Simpler true (ts ++ t ∷ us) (term_lexemes (trees.Combined left operator right))
combined_simpler ts t us left right operator e x y =
    operated_is true true ts t us _ (lexemes.Sign (operator_sign operator)) _ x e (operator_no_dot operator)
    (operator_no_period operator) y

mutual
  factor_simpler : (ts : List Token) (term : Term) → IsFactor ts term → (b : Bool)
      → (is_combined term ≡ false → b ≡ false)
      → Simpler true ts (wrapped_if b (term_lexemes term))
  factor_simpler _ _ (grammar.number {t = t} {leaf = leaf} e) b h = bare_if b (t ∷ []) _ (h refl) (number_is t leaf e)
  factor_simpler _ _ (grammar.text {t = t} {leaf = leaf} e) b h = bare_if b (t ∷ []) _ (h refl) (text_is t leaf e)
  factor_simpler _ _ (grammar.operand {ts = ts} {operand = operand} x) b h =
      bare_if b ts _ (h refl) (operand_simpler ts operand x)
  factor_simpler _ _ (grammar.negated minus ts {term = term} e x) b h =
      bare_if b (minus ∷ ts) _ (h refl)
      (before_is true minus (lexemes.Sign signs.Minus) ts _ e refl refl refl
      (factor_simpler ts term x (is_combined term) (λ c. c)))
  factor_simpler _ _ (grammar.grouped opening ts closing {term = term} o x c) b h =
      regrouped b opening ts closing (term_lexemes term) o (sum_simpler ts term x) c
  factor_simpler _ _ (grammar.applied t opening ts closing {function = function} {term = term} f o x c) b h =
      bare_if b _ _ (h refl)
      (before_is true t (lexemes.Reserved (function_word function)) _ _ (function_lexeme t function f) refl refl
      refl
      (wrapped_is true opening ts closing (term_lexemes term) o (sum_simpler ts term x) c))
  factor_simpler _ _ (grammar.sum_of_parts t ts closing {name = name} e x c) b h =
      bare_if b _ _ (h refl)
      (before_is true t (lexemes.Dollar dollars.SumParts) _ _ e refl refl refl
      (closed_is true ts closing _ (self_simpler ts name x) c))
  factor_simpler _ _ (grammar.count_of_parts t ts e x) b h =
      bare_if b _ _ (h refl)
      (before_is true t (lexemes.Dollar dollars.CountParts) _ _ e refl refl refl (only_self_simpler ts x))

  product_simpler : (ts : List Token) (term : Term) → IsProduct ts term → (b : Bool) → (is_sum term ≡ false → b ≡ false)
      → Simpler true ts (wrapped_if b (term_lexemes term))
  product_simpler _ _ (grammar.factor {ts = ts} {term = term} x) b h =
      factor_simpler ts term x b (λ c. h (sum_combines term c))
  product_simpler _ _ (grammar.multiplied ts t us {left = left} {right = right} {operator = operator} x o y) b h =
      let p = product_lexeme t.lexeme operator o in
      bare_if b (ts ++ t ∷ us) _ (h p.1) (combined_simpler ts t us left right operator p.0
      (product_simpler ts left x (left_needs operator left)
      (λ c. and_false (not (is_additive operator)) (is_sum left) c))
      (factor_simpler us right y (right_needs operator right)
      (λ c. if_false (is_additive operator) (is_sum right) (is_combined right) (sum_combines right c) c)))

  pub sum_simpler : (ts : List Token) (term : Term) → IsSum ts term → Simpler true ts (term_lexemes term)
  sum_simpler _ _ (grammar.product {ts = ts} {term = term} x) = product_simpler ts term x false (λ c. refl)
  sum_simpler _ _ (grammar.added ts t us {left = left} {right = right} {operator = operator} x o y) =
      let p = sum_lexeme t.lexeme operator o in
      combined_simpler ts t us left right operator p.0
      (bare_if (left_needs operator left) ts _ (ap (λ a. not a && is_sum left) p.1) (sum_simpler ts left x))
      (product_simpler us right y (right_needs operator right)
      (λ c. ap (λ a. if a then is_sum right else is_combined right) p.1 ∙ c))
