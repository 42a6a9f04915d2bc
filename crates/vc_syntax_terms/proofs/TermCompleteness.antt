-- What the grammar of terms says, is read.
use Rattle.std.proofs.Common.{◌≡◌, ℕ, zero, suc, ◌<◌, ◌≤◌, List, [], ◌∷◌, ◌++◌, length, cond, Some, None, option_map}
use Rattle.std.proofs.Common.{refl, ap, ◌∙◌, append_assoc, length-append, arith}
use Rattle.vc_syntax_tokens.specs.declared.token.Token.{Token}
use Rattle.vc_syntax_tokens.specs.declared.token.Lexeme.{Lexeme}
use Rattle.vc_syntax_tokens.specs.declared.token.Lexeme.TheVariants as lexemes
use Rattle.vc_syntax_tokens.specs.declared.token.Sign.TheVariants as signs
use Rattle.vc_syntax_tokens.specs.declared.token.Dollar.TheVariants as dollars
use Rattle.vc_syntax_tree.specs.declared.NameLeaf.{NameLeaf}
use Rattle.vc_syntax_tree.specs.declared.TextLeaf.{TextLeaf}
use Rattle.vc_syntax_tree.specs.declared.NumberLeaf.{NumberLeaf}
use Rattle.vc_syntax_tree.specs.declared.Operand.{Operand}
use Rattle.vc_syntax_tree.specs.declared.Operand.TheVariants as operands
use Rattle.vc_syntax_tree.specs.declared.Operator.{Operator}
use Rattle.vc_syntax_terms.specs.Leaves.{is_sign, name_in, variable_in, text_in, number_in, after_sign, after_self}
use Rattle.vc_syntax_terms.specs.Leaves.{named}
use Rattle.vc_syntax_terms.specs.Reading.{Reader, then, either, made, leaving, closed, grouped, chained}
use Rattle.vc_syntax_tree.specs.Trees as trees
use Rattle.vc_syntax_tree.specs.Trees.{Term}
use Rattle.vc_syntax_terms.specs.TermReading.{dotted, member, operand_in, operand, product_operator_in, sum_operator_in}
use Rattle.vc_syntax_terms.specs.TermReading.{product_operator, sum_operator, self_and_name, only_self, factor_in, join}
use Rattle.vc_syntax_terms.specs.TermReading.{factor, product, sum}
use Rattle.vc_syntax_terms.specs.TermGrammar as grammar
use Rattle.vc_syntax_terms.specs.TermGrammar.{IsSign, IsDollar, IsName, IsVariable, IsText, IsNumber, IsOwner}
use Rattle.vc_syntax_terms.specs.TermGrammar.{IsOperand, IsSelfAndName, IsOnlySelf, IsFactor, IsProduct, IsSum}
use Rattle.vc_syntax_terms.specs.TermGrammar.{IsProductOperator, IsSumOperator}
use Rattle.vc_syntax_terms.proofs.Chains.{chained_step, chained_stops}
use Rattle.vc_syntax_terms.proofs.TokenLaws.{after_sign_again, after_self_again, named_again}
use Rattle.vc_syntax_terms.proofs.TermSoundness.{factor_shortens, product_shortens, product_operator_takes}
use Rattle.vc_syntax_terms.proofs.TermSoundness.{sum_operator_takes}

-- no dot follows
abbrev pub EndsName : List Token → Type 0
EndsName rest = after_sign signs.Dot rest ≡ None

pub dotted_again : (dot u : Token) (name : NameLeaf) (rest : List Token) → IsSign signs.Dot dot → IsName u name
    → dotted (dot ∷ u ∷ rest) ≡ Some (name, rest)
dotted_again dot u name rest d e = ap (λ o. then o named) (after_sign_again signs.Dot dot (u ∷ rest) d)
    ∙ named_again u rest name e

plain_again : (l : Lexeme) (t : Token) (rest : List Token) (name : NameLeaf) → name_in l t.start t.end ≡ Some name
    → IsName t name
    → operand_in l t rest ≡ Some (operands.Plain name, rest)
plain_again (lexemes.Name n) t rest name e f = ap (λ o. option_map (λ leaf. (operands.Plain leaf, rest)) o) f
plain_again _ t rest name e f = absurd (cc)

variable_again : (l : Lexeme) (t : Token) (rest : List Token) (name : NameLeaf)
    → variable_in l t.start t.end ≡ Some name → IsVariable t name
    → operand_in l t rest ≡ member name rest
variable_again (lexemes.Variable n) t rest name e f = ap (λ o. then o (λ variable. member variable rest)) f
variable_again _ t rest name e f = absurd (cc)

pub reads_operand : (ts : List Token) (o : Operand) → IsOperand ts o → (rest : List Token) → EndsName rest
    → operand (ts ++ rest) ≡ Some (o, rest)
reads_operand _ _ (grammar.plain {t = t} {name = name} e) rest ends = plain_again t.lexeme t rest name e e
reads_operand _ _ (grammar.owned {t = t} {dot = dot} {u = u} {owner = owner} {name = name} w d e) rest ends =
    ap (λ l. operand_in l t (dot ∷ u ∷ rest)) w.1
    ∙ ap (λ o. then o (λ owner. made (operands.Owned owner) (dotted (dot ∷ u ∷ rest)))) w.2
    ∙ ap (λ o. made (operands.Owned owner) o) (dotted_again dot u name rest d e)
reads_operand _ _ (grammar.member {t = t} {dot = dot} {u = u} {variable = variable} {name = name} v d e) rest ends =
    variable_again t.lexeme t (dot ∷ u ∷ rest) variable v v
    ∙ ap (λ o. either o (Some (operands.Variable variable, dot ∷ u ∷ rest))
    (λ x. made (operands.Member variable) (named x))) (after_sign_again signs.Dot dot (u ∷ rest) d)
    ∙ ap (λ o. made (operands.Member variable) o) (named_again u rest name e)
reads_operand _ _ (grammar.variable {t = t} {name = name} v) rest ends =
    variable_again t.lexeme t rest name v v
    ∙ ap (λ o. either o (Some (operands.Variable name, rest)) (λ x. made (operands.Member name) (named x))) ends

operand_some : (ts : List Token) (o : Operand) → IsOperand ts o → 0 < length ts
operand_some _ _ (grammar.plain e) = omega arith
operand_some _ _ (grammar.owned w d e) = omega arith
operand_some _ _ (grammar.member v d e) = omega arith
operand_some _ _ (grammar.variable v) = omega arith

pub reads_self_and_name : (ts : List Token) (name : NameLeaf) → IsSelfAndName ts name → (rest : List Token)
    → self_and_name (ts ++ rest) ≡ Some (name, rest)
reads_self_and_name _ _ (grammar.self_and_name {opening = a} {self = b} {comma = c} {t = t} {name = name} p q r e)
    rest =
    ap (λ o. then o (λ first. then (after_self first) (λ second. then (after_sign signs.Comma second) named)))
    (after_sign_again signs.OpenParen a (b ∷ c ∷ t ∷ rest) p)
    ∙ ap (λ o. then o (λ second. then (after_sign signs.Comma second) named)) (after_self_again b (c ∷ t ∷ rest) q)
    ∙ ap (λ o. then o named) (after_sign_again signs.Comma c (t ∷ rest) r)
    ∙ named_again t rest name e

reads_only_self : (ts : List Token) → IsOnlySelf ts → (rest : List Token) → only_self (ts ++ rest) ≡ Some rest
reads_only_self _ (grammar.only_self {opening = a} {self = b} {closing = c} p q r) rest =
    ap (λ o. then o (λ first. then (after_self first) (after_sign signs.CloseParen)))
    (after_sign_again signs.OpenParen a (b ∷ c ∷ rest) p)
    ∙ ap (λ o. then o (after_sign signs.CloseParen)) (after_self_again b (c ∷ rest) q)
    ∙ after_sign_again signs.CloseParen c rest r

pub closed_again : {A : Type 0} (x : A) (t : Token) (rest : List Token) → IsSign signs.CloseParen t
    → closed (Some (x, t ∷ rest)) ≡ Some (x, rest)
closed_again x t rest e = ap (λ o. option_map (λ r. (x, r)) o) (after_sign_again signs.CloseParen t rest e)

-- what a sign other than a dot or an operator ends
pub close_ends : (t : Token) (rest : List Token) → IsSign signs.CloseParen t
    → EndsName (t ∷ rest) × (product_operator (t ∷ rest) ≡ None) × (sum_operator (t ∷ rest) ≡ None)
close_ends t rest e = (
  ap (λ l. cond (is_sign signs.Dot l) (Some rest) None) e,
  ap (λ l. leaving rest (product_operator_in l)) e,
  ap (λ l. leaving rest (sum_operator_in l)) e,
)

product_operator_ends : (l : Lexeme) (operator : Operator) (rest : List Token) → product_operator_in l ≡ Some operator
    → cond (is_sign signs.Dot l) (Some rest) None ≡ None
product_operator_ends (lexemes.Sign signs.Star) operator rest e = refl
product_operator_ends (lexemes.Sign signs.Slash) operator rest e = refl
product_operator_ends _ operator rest e = absurd (cc)

sum_operator_ends : (l : Lexeme) (operator : Operator) (rest : List Token) → sum_operator_in l ≡ Some operator
    → (cond (is_sign signs.Dot l) (Some rest) None ≡ None) × (leaving rest (product_operator_in l) ≡ None)
sum_operator_ends (lexemes.Sign signs.Plus) operator rest e = (refl, refl)
sum_operator_ends (lexemes.Sign signs.Minus) operator rest e = (refl, refl)
sum_operator_ends _ operator rest e = absurd (cc)

module _ (read_factor read_sum : Reader Term) where
  number_factor : (l : Lexeme) (t : Token) (rest : List Token) (leaf : NumberLeaf)
      → number_in l t.start t.end ≡ Some leaf → IsNumber t leaf
      → factor_in read_factor read_sum l t rest ≡ Some (trees.Number leaf, rest)
  number_factor (lexemes.Number n) t rest leaf e f = ap (λ o. option_map (λ x. (trees.Number x, rest)) o) f
  number_factor _ t rest leaf e f = absurd (cc)

  text_factor : (l : Lexeme) (t : Token) (rest : List Token) (leaf : TextLeaf) → text_in l t.start t.end ≡ Some leaf
      → IsText t leaf
      → factor_in read_factor read_sum l t rest ≡ Some (trees.Text leaf, rest)
  text_factor (lexemes.Text n) t rest leaf e f = ap (λ o. option_map (λ x. (trees.Text x, rest)) o) f
  text_factor _ t rest leaf e f = absurd (cc)

  operand_factor : (l : Lexeme) (t : Token) (ts rest : List Token) (o : Operand) → operand_in l t ts ≡ Some (o, rest)
      → operand_in t.lexeme t ts ≡ Some (o, rest)
      → factor_in read_factor read_sum l t ts ≡ Some (trees.Operand o, rest)
  operand_factor (lexemes.Name n) t ts rest o e f = ap (λ x. made trees.Operand x) f
  operand_factor (lexemes.Variable n) t ts rest o e f = ap (λ x. made trees.Operand x) f
  operand_factor (lexemes.Dollar dollars.Itself) t ts rest o e f = ap (λ x. made trees.Operand x) f
  operand_factor (lexemes.Dollar dollars.Parent) t ts rest o e f = ap (λ x. made trees.Operand x) f
  operand_factor (lexemes.Dollar dollars.Root) t ts rest o e f = ap (λ x. made trees.Operand x) f
  operand_factor _ t ts rest o e f = absurd (cc)

-- a bound that isn't 0 allows a factor
factor_at : (n : ℕ) (t : Token) (ts : List Token) (x : Term × List Token) → 0 < n
    → ((m : ℕ) → n ≡ suc m → factor_in (factor m) (sum m) t.lexeme t ts ≡ Some x) → factor n (t ∷ ts) ≡ Some x
factor_at zero t ts x h f = let no : ⊥ = omega arith in absurd no
factor_at (suc m) t ts x h f = f m refl

operand_factor_at : (n : ℕ) (ts rest : List Token) (o : Operand) → 0 < n → operand ts ≡ Some (o, rest)
    → factor n ts ≡ Some (trees.Operand o, rest)
operand_factor_at n [] rest o h e = absurd (cc)
operand_factor_at n (t ∷ ts) rest o h e =
    factor_at n t ts _ h (λ m f. operand_factor (factor m) (sum m) t.lexeme t ts rest o e e)

-- a sum between parentheses
pub sum_closed : (m : ℕ) (ts : List Token) (closing : Token) (rest : List Token) (term : Term)
    → IsSign signs.CloseParen closing
    → sum m (ts ++ closing ∷ rest) ≡ chained sum_operator join (product m) term (closing ∷ rest)
    → closed (sum m ((ts ++ closing ∷ []) ++ rest)) ≡ Some (term, rest)
sum_closed m ts closing rest term e h = let ends : EndsName (closing ∷ rest)
    × (product_operator (closing ∷ rest) ≡ None) × (sum_operator (closing ∷ rest) ≡ None) = close_ends closing rest e in
    ap (λ x. closed (sum m x)) (append_assoc ts (closing ∷ []) rest)
    ∙ ap (λ x. closed x) (h ∙ chained_stops sum_operator join (product m) term (closing ∷ rest) ends.2)
    ∙ closed_again term closing rest e

mutual
  pub reads_factor : (ts : List Token) (term : Term) → IsFactor ts term → (n : ℕ) → length ts ≤ n → (rest : List Token)
      → EndsName rest → factor n (ts ++ rest) ≡ Some (term, rest)
  reads_factor _ _ (grammar.number {t = t} {leaf = leaf} e) n h rest ends =
      factor_at n t rest _ (omega arith) (λ m f. number_factor (factor m) (sum m) t.lexeme t rest leaf e e)
  reads_factor _ _ (grammar.text {t = t} {leaf = leaf} e) n h rest ends =
      factor_at n t rest _ (omega arith) (λ m f. text_factor (factor m) (sum m) t.lexeme t rest leaf e e)
  reads_factor _ _ (grammar.operand {ts = ts} {operand = o} d) n h rest ends =
      operand_factor_at n (ts ++ rest) rest o (omega (arith, operand_some ts o d)) (reads_operand ts o d rest ends)
  reads_factor _ _ (grammar.negated minus ts {term = term} e d) n h rest ends =
      factor_at n minus (ts ++ rest) _ (omega arith) (λ m f.
      ap (λ l. factor_in (factor m) (sum m) l minus (ts ++ rest)) e
      ∙ ap (λ x. made trees.Negated x) (reads_factor ts term d m (omega arith) rest ends))
  reads_factor _ _ (grammar.grouped opening ts closing {term = term} o d c) n h rest ends =
      factor_at n opening ((ts ++ closing ∷ []) ++ rest) _ (omega arith) (λ m f.
      ap (λ l. factor_in (factor m) (sum m) l opening ((ts ++ closing ∷ []) ++ rest)) o
      ∙ sum_closed m ts closing rest term c
      (reads_sum ts term d m (omega (arith, length-append ts (closing ∷ []))) (closing ∷ rest)
      ((close_ends closing rest c).0) ((close_ends closing rest c).1)))
  reads_factor _ _ (grammar.applied t opening ts closing {function = function} {term = term} w o d c) n h rest ends =
      factor_at n t (opening ∷ ((ts ++ closing ∷ []) ++ rest)) _ (omega arith) (λ m f.
      ap (λ l. factor_in (factor m) (sum m) l t (opening ∷ ((ts ++ closing ∷ []) ++ rest))) w.1
      ∙ ap (λ x. then x (λ g. made (trees.Applied g) (grouped (sum m) (opening ∷ ((ts ++ closing ∷ []) ++ rest))))) w.2
      ∙ ap (λ x. made (trees.Applied function) (then x (λ r. closed (sum m r))))
      (after_sign_again signs.OpenParen opening ((ts ++ closing ∷ []) ++ rest) o)
      ∙ ap (λ x. made (trees.Applied function) x)
      (sum_closed m ts closing rest term c
      (reads_sum ts term d m (omega (arith, length-append ts (closing ∷ []))) (closing ∷ rest)
      ((close_ends closing rest c).0) ((close_ends closing rest c).1))))
  reads_factor _ _ (grammar.sum_of_parts t ts closing {name = name} w d c) n h rest ends =
      factor_at n t ((ts ++ closing ∷ []) ++ rest) _ (omega arith) (λ m f.
      ap (λ l. factor_in (factor m) (sum m) l t ((ts ++ closing ∷ []) ++ rest)) w
      ∙ ap (λ x. made trees.SumOfParts (closed (self_and_name x))) (append_assoc ts (closing ∷ []) rest)
      ∙ ap (λ x. made trees.SumOfParts (closed x)) (reads_self_and_name ts name d (closing ∷ rest))
      ∙ ap (λ x. made trees.SumOfParts x) (closed_again name closing rest c))
  reads_factor _ _ (grammar.count_of_parts t ts w d) n h rest ends = factor_at n t (ts ++ rest) _ (omega arith) (λ m f.
      ap (λ l. factor_in (factor m) (sum m) l t (ts ++ rest)) w
      ∙ ap (λ x. option_map (λ r. (trees.CountOfParts, r)) x) (reads_only_self ts d rest))

  pub reads_product : (ts : List Token) (term : Term) → IsProduct ts term → (n : ℕ) → length ts ≤ n
      → (rest : List Token) → EndsName rest
      → product n (ts ++ rest) ≡ chained product_operator join (factor n) term rest
  reads_product _ _ (grammar.factor {ts = ts} {term = term} d) n h rest ends =
      ap (λ x. then x (λ found. chained product_operator join (factor n) found.0 found.1))
      (reads_factor ts term d n h rest ends)
  reads_product _ _ (grammar.multiplied ts t us {left = left} {right = right} {operator = operator} d o e) n h rest
      ends =
      ap (λ x. product n x) (append_assoc ts (t ∷ us) rest)
      ∙ reads_product ts left d n (omega (arith, length-append ts (t ∷ us))) (t ∷ (us ++ rest))
      (product_operator_ends t.lexeme operator (us ++ rest) o)
      ∙ chained_step product_operator join (factor n) product_operator_takes (factor_shortens n) left (t ∷ (us ++ rest))
      (operator, us ++ rest) (right, rest)
      (ap (λ x. leaving (us ++ rest) x) o)
      (reads_factor us right e n (omega (arith, length-append ts (t ∷ us))) rest ends)

  pub reads_sum : (ts : List Token) (term : Term) → IsSum ts term → (n : ℕ) → length ts ≤ n → (rest : List Token)
      → EndsName rest → product_operator rest ≡ None
      → sum n (ts ++ rest) ≡ chained sum_operator join (product n) term rest
  reads_sum _ _ (grammar.product {ts = ts} {term = term} d) n h rest ends stops =
      ap (λ x. then x (λ found. chained sum_operator join (product n) found.0 found.1))
      (reads_product ts term d n h rest ends ∙ chained_stops product_operator join (factor n) term rest stops)
  reads_sum _ _ (grammar.added ts t us {left = left} {right = right} {operator = operator} d o e) n h rest ends stops =
      ap (λ x. sum n x) (append_assoc ts (t ∷ us) rest)
      ∙ reads_sum ts left d n (omega (arith, length-append ts (t ∷ us))) (t ∷ (us ++ rest))
      ((sum_operator_ends t.lexeme operator (us ++ rest) o).0) ((sum_operator_ends t.lexeme operator (us ++ rest) o).1)
      ∙ chained_step sum_operator join (product n) sum_operator_takes (product_shortens n) left (t ∷ (us ++ rest))
      (operator, us ++ rest) (right, rest)
      (ap (λ x. leaving (us ++ rest) x) o)
      (reads_product us right e n (omega (arith, length-append ts (t ∷ us))) rest ends
      ∙ chained_stops product_operator join (factor n) right rest stops)
