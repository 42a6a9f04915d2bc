-- What is read as a term, the grammar of terms says.
use Rattle.std.proofs.Common.{◌≡◌, ℕ, zero, suc, List, [], ◌∷◌, ◌++◌, Option, Some, option_map, inl, inr, refl, sym, ap}
use Rattle.std.proofs.Common.{subst, ◌∙◌, append_assoc}
use Rattle.vc_syntax_tokens.specs.declared.token.Token.{Token}
use Rattle.vc_syntax_tokens.specs.declared.token.Lexeme.{Lexeme}
use Rattle.vc_syntax_tokens.specs.declared.token.Lexeme.TheVariants as lexemes
use Rattle.vc_syntax_tokens.specs.declared.token.Sign.TheVariants as signs
use Rattle.vc_syntax_tokens.specs.declared.token.Dollar.{Dollar}
use Rattle.vc_syntax_tokens.specs.declared.token.Dollar.TheVariants as dollars
use Rattle.vc_syntax_tree.specs.declared.NameLeaf.{NameLeaf}
use Rattle.vc_syntax_tree.specs.declared.TextLeaf.{TextLeaf}
use Rattle.vc_syntax_tree.specs.declared.NumberLeaf.{NumberLeaf}
use Rattle.vc_syntax_tree.specs.declared.Owner.{Owner}
use Rattle.vc_syntax_tree.specs.declared.Operand.{Operand}
use Rattle.vc_syntax_tree.specs.declared.Operand.TheVariants as operands
use Rattle.vc_syntax_tree.specs.declared.Operator.{Operator}
use Rattle.vc_syntax_tree.specs.declared.Function.{Function}
use Rattle.vc_syntax_terms.specs.Leaves.{name_of, variable_of, text_of, number_of, after_sign, after_self, named}
use Rattle.vc_syntax_terms.specs.Reading.{Reader, then, made, closed, grouped}
use Rattle.vc_syntax_tree.specs.Trees as trees
use Rattle.vc_syntax_tree.specs.Trees.{Term}
use Rattle.vc_syntax_terms.specs.TermReading.{owner_of, dotted, member, operand_in, operand, function_of}
use Rattle.vc_syntax_terms.specs.TermReading.{product_operator_in, sum_operator_in, product_operator, sum_operator}
use Rattle.vc_syntax_terms.specs.TermReading.{self_and_name, only_self, dollar_factor, plain_factor, factor_in}
use Rattle.vc_syntax_terms.specs.TermReading.{factor_by, product_by, sum_by, join, factor, product, sum}
use Rattle.vc_syntax_terms.specs.TermGrammar as grammar
use Rattle.vc_syntax_terms.specs.TermGrammar.{IsSign, IsDollar, IsName, IsVariable, IsOperand, IsSelfAndName}
use Rattle.vc_syntax_terms.specs.TermGrammar.{IsOnlySelf, IsFactor, IsProduct, IsSum, IsProductOperator, IsSumOperator}
use Rattle.vc_syntax_terms.proofs.Chains.{Took, IsSound, Reads, Shortens, Takes, sound_shortens, reads_takes, then_some}
use Rattle.vc_syntax_terms.proofs.Chains.{map_some, either_some, chain_is}
use Rattle.vc_syntax_terms.proofs.TokenLaws.{after_sign_is, after_self_is, named_is}

-- what was made of what was read
pub made_is : {A B : Type 0} (IsA : List Token → A → Type 0) (IsB : List Token → B → Type 0) (make : A → B)
    (ts us : List Token)
    (read : Option (A × List Token)) (found : B × List Token) → made make read ≡ Some found
    → ((x : A × List Token) → read ≡ Some x → Took IsA us x)
    → ((front rest : List Token) (x : A) → us ≡ front ++ rest → IsA front x → Took IsB ts (make x, rest))
    → Took IsB ts found
made_is {A = A} {B = B} IsA IsB make ts us read found e sound build =
    let p : (x : A × List Token) × (read ≡ Some x) × ((make x.0, x.1) ≡ found) = map_some read _ found e in
    let q : Took IsA us p.0 = sound p.0 p.1 in
    let P : B × List Token → Type 0 = λ x. Took IsB ts x in
    subst P p.2 (build q.0 p.0.1 p.0.0 q.1 q.2)

-- what was read before a closing parenthesis
pub closed_is : {A : Type 0} (IsA : List Token → A → Type 0) (us : List Token) (read : Option (A × List Token))
    (found : A × List Token) → closed read ≡ Some found
    → ((x : A × List Token) → read ≡ Some x → Took IsA us x)
    → (front : List Token) × (t : Token) × (us ≡ front ++ t ∷ found.1) × IsA front found.0 × IsSign signs.CloseParen t
closed_is {A = A} IsA us read found e sound =
    let p : (x : A × List Token) × (read ≡ Some x)
    × (option_map (λ rest. (x.0, rest)) (after_sign signs.CloseParen x.1) ≡ Some found) =
    then_some read _ found e in
    let q : (rest : List Token) × (after_sign signs.CloseParen p.0.1 ≡ Some rest) × ((p.0.0, rest) ≡ found)
    = map_some _ _ found p.2 in
    let r : (t : Token) × (p.0.1 ≡ t ∷ q.0) × IsSign signs.CloseParen t
    = after_sign_is signs.CloseParen p.0.1 q.0 q.1 in
    let s : Took IsA us p.0 = sound p.0 p.1 in
    let P : A × List Token → Type 0
    = λ x. (front : List Token) × (t : Token) × (us ≡ front ++ t ∷ x.1) × IsA front x.0
    × IsSign signs.CloseParen t in
    subst P q.2 (s.0, r.0, s.1 ∙ ap (λ x. s.0 ++ x) r.1, s.2, r.2)

pub dotted_is : (ts : List Token) (found : NameLeaf × List Token) → dotted ts ≡ Some found
    → (dot t : Token) × (ts ≡ dot ∷ t ∷ found.1) × IsSign signs.Dot dot × IsName t found.0
dotted_is ts found e =
    let p : (rest : List Token) × (after_sign signs.Dot ts ≡ Some rest) × (named rest ≡ Some found)
    = then_some _ _ found e in
    let q : (t : Token) × (ts ≡ t ∷ p.0) × IsSign signs.Dot t = after_sign_is signs.Dot ts p.0 p.1 in
    let r : (t : Token) × (p.0 ≡ t ∷ found.1) × IsName t found.0 = named_is p.0 found p.2 in
    (q.0, r.0, q.1 ∙ ap (λ x. q.0 ∷ x) r.1, q.2, r.2)

member_is : (t : Token) (variable : NameLeaf) (ts : List Token) (found : Operand × List Token) → IsVariable t variable
    → member variable ts ≡ Some found → Took IsOperand (t ∷ ts) found
member_is t variable ts found v e = let P : Operand × List Token → Type 0 = λ x. Took IsOperand (t ∷ ts) x in
    elim (either_some (after_sign signs.Dot ts) _ _ found e) [
      | inl p ↦ let same : (operands.Variable variable, ts)
          ≡ found = cc in subst P same (t ∷ [], refl, grammar.variable v)
      | inr p ↦
          let q : (t : Token) × (ts ≡ t ∷ p.0) × IsSign signs.Dot t = after_sign_is signs.Dot ts p.0 p.1 in
          let r : (x : NameLeaf × List Token) × (named p.0 ≡ Some x) × ((operands.Member variable x.0, x.1) ≡ found)
          = map_some _ _ found p.2 in
          let s : (t : Token) × (p.0 ≡ t ∷ r.0.1) × IsName t r.0.0 = named_is p.0 r.0 r.1 in
          subst P r.2 (t ∷ q.0 ∷ s.0 ∷ [], ap (λ x. t ∷ x) (q.1 ∙ ap (λ x. q.0 ∷ x) s.1), grammar.member v q.2 s.2)
    ]

operand_in_is : (l : Lexeme) (t : Token) (ts : List Token) (found : Operand × List Token) → t.lexeme ≡ l
    → operand_in l t ts ≡ Some found → Took IsOperand (t ∷ ts) found
operand_in_is (lexemes.Name name) t ts found h e =
    let p : (leaf : NameLeaf) × (name_of t ≡ Some leaf) × ((operands.Plain leaf, ts) ≡ found)
    = map_some (name_of t) _ found e in
    let P : Operand × List Token → Type 0 = λ x. Took IsOperand (t ∷ ts) x in
    subst P p.2 (t ∷ [], refl, grammar.plain p.1)
operand_in_is (lexemes.Variable name) t ts found h e =
    let p : (leaf : NameLeaf) × (variable_of t ≡ Some leaf) × (member leaf ts ≡ Some found)
    = then_some (variable_of t) _ found e in
    member_is t p.0 ts found p.1 p.2
operand_in_is (lexemes.Dollar dollar) t ts found h e =
    let p : (owner : Owner) × (owner_of dollar ≡ Some owner) × (made (operands.Owned owner) (dotted ts) ≡ Some found)
    = then_some (owner_of dollar) _ found e in
    let q : (x : NameLeaf × List Token) × (dotted ts ≡ Some x) × ((operands.Owned p.0 x.0, x.1) ≡ found)
    = map_some _ _ found p.2 in
    let r : (dot u : Token) × (ts ≡ dot ∷ u ∷ q.0.1) × IsSign signs.Dot dot × IsName u q.0.0 = dotted_is ts q.0 q.1 in
    let P : Operand × List Token → Type 0 = λ x. Took IsOperand (t ∷ ts) x in
    subst P q.2 (t ∷ r.0 ∷ r.1 ∷ [], ap (λ x. t ∷ x) r.2, grammar.owned (dollar, h, p.1) r.3 r.4)
operand_in_is _ t ts found h e = absurd (cc)

pub operand_is : IsSound operand IsOperand
operand_is [] found e = absurd (cc)
operand_is (t ∷ ts) found e = operand_in_is t.lexeme t ts found refl e

pub product_operator_is : Reads product_operator IsProductOperator
product_operator_is [] found e = absurd (cc)
product_operator_is (t ∷ ts) found e =
    let p : (operator : Operator) × (product_operator_in t.lexeme ≡ Some operator) × ((operator, ts) ≡ found)
    = map_some (product_operator_in t.lexeme) _ found e in
    (t, ap (λ x. t ∷ x.1) p.2, p.1 ∙ ap (λ x. Some x.0) p.2)

pub sum_operator_is : Reads sum_operator IsSumOperator
sum_operator_is [] found e = absurd (cc)
sum_operator_is (t ∷ ts) found e =
    let p : (operator : Operator) × (sum_operator_in t.lexeme ≡ Some operator) × ((operator, ts) ≡ found)
    = map_some (sum_operator_in t.lexeme) _ found e in
    (t, ap (λ x. t ∷ x.1) p.2, p.1 ∙ ap (λ x. Some x.0) p.2)

pub self_and_name_is : IsSound self_and_name IsSelfAndName
self_and_name_is ts found e =
    let p : (a : List Token) × (after_sign signs.OpenParen ts ≡ Some a)
    × (then (after_self a) (λ second. then (after_sign signs.Comma second) named) ≡ Some found) =
    then_some _ _ found e in
    let q : (b : List Token) × (after_self p.0 ≡ Some b) × (then (after_sign signs.Comma b) named ≡ Some found)
    = then_some _ _ found p.2 in
    let r : (c : List Token) × (after_sign signs.Comma q.0 ≡ Some c) × (named c ≡ Some found)
    = then_some _ _ found q.2 in
    let p' : (t : Token) × (ts ≡ t ∷ p.0) × IsSign signs.OpenParen t = after_sign_is signs.OpenParen ts p.0 p.1 in
    let q' : (t : Token) × (p.0 ≡ t ∷ q.0) × IsDollar dollars.Itself t = after_self_is p.0 q.0 q.1 in
    let r' : (t : Token) × (q.0 ≡ t ∷ r.0) × IsSign signs.Comma t = after_sign_is signs.Comma q.0 r.0 r.1 in
    let s' : (t : Token) × (r.0 ≡ t ∷ found.1) × IsName t found.0 = named_is r.0 found r.2 in (
      p'.0 ∷ q'.0 ∷ r'.0 ∷ s'.0 ∷ [],
      p'.1 ∙ ap (λ x. p'.0 ∷ x) (q'.1 ∙ ap (λ x. q'.0 ∷ x) (r'.1 ∙ ap (λ x. r'.0 ∷ x) s'.1)),
      grammar.self_and_name p'.2 q'.2 r'.2 s'.2,
    )

only_self_is : (ts rest : List Token) → only_self ts ≡ Some rest
    → (front : List Token) × (ts ≡ front ++ rest) × IsOnlySelf front
only_self_is ts rest e =
    let p : (a : List Token) × (after_sign signs.OpenParen ts ≡ Some a)
    × (then (after_self a) (after_sign signs.CloseParen) ≡ Some rest) = then_some _ _ rest e in
    let q : (b : List Token) × (after_self p.0 ≡ Some b) × (after_sign signs.CloseParen b ≡ Some rest)
    = then_some _ _ rest p.2 in
    let p' : (t : Token) × (ts ≡ t ∷ p.0) × IsSign signs.OpenParen t = after_sign_is signs.OpenParen ts p.0 p.1 in
    let q' : (t : Token) × (p.0 ≡ t ∷ q.0) × IsDollar dollars.Itself t = after_self_is p.0 q.0 q.1 in
    let r' : (t : Token) × (q.0 ≡ t ∷ rest) × IsSign signs.CloseParen t
    = after_sign_is signs.CloseParen q.0 rest q.2 in (
      p'.0 ∷ q'.0 ∷ r'.0 ∷ [],
      p'.1
          ∙ ap (λ x. p'.0 ∷ x) (q'.1 ∙ ap (λ x. q'.0 ∷ x) r'.1),
      grammar.only_self p'.2 q'.2 r'.2,
    )

operand_term_is : (t : Token) (ts : List Token) (found : Term × List Token)
    → made trees.Operand (operand_in t.lexeme t ts) ≡ Some found → Took IsFactor (t ∷ ts) found
operand_term_is t ts found e = made_is IsOperand IsFactor trees.Operand (t ∷ ts) (t ∷ ts) _ found e
    (λ x f. operand_is (t ∷ ts) x f) (λ front rest x g d. (front, g, grammar.operand d))

dollar_factor_is : (dollar : Dollar) (t : Token) (ts : List Token) (found : Term × List Token) → IsDollar dollar t
    → dollar_factor dollar t ts ≡ Some found → Took IsFactor (t ∷ ts) found
dollar_factor_is dollars.SumParts t ts found h e =
    let p : (x : NameLeaf × List Token) × (closed (self_and_name ts) ≡ Some x) × ((trees.SumOfParts x.0, x.1) ≡ found)
    = map_some _ _ found e in
    let q : (front : List Token) × (u : Token) × (ts ≡ front ++ u ∷ p.0.1) × IsSelfAndName front p.0.0
    × IsSign signs.CloseParen u = closed_is IsSelfAndName ts _ p.0 p.1 (self_and_name_is ts) in
    let P : Term × List Token → Type 0 = λ x. Took IsFactor (t ∷ ts) x in
    subst P p.2 (
      t ∷ (q.0 ++ q.1 ∷ []),
      ap (λ x. t ∷ x) (q.2 ∙ sym (append_assoc q.0 (q.1 ∷ []) p.0.1)),
      grammar.sum_of_parts t q.0 q.1 h q.3 q.4,
    )
dollar_factor_is dollars.CountParts t ts found h e =
    let p : (rest : List Token) × (only_self ts ≡ Some rest) × ((trees.CountOfParts, rest) ≡ found)
    = map_some _ _ found e in
    let q : (front : List Token) × (ts ≡ front ++ p.0) × IsOnlySelf front = only_self_is ts p.0 p.1 in
    let P : Term × List Token → Type 0 = λ x. Took IsFactor (t ∷ ts) x in
    subst P p.2 (t ∷ q.0, ap (λ x. t ∷ x) q.1, grammar.count_of_parts t q.0 h q.2)
dollar_factor_is _ t ts found h e = operand_term_is t ts found e

plain_factor_is : (l : Lexeme) (t : Token) (ts : List Token) (found : Term × List Token) → t.lexeme ≡ l
    → plain_factor l t ts ≡ Some found → Took IsFactor (t ∷ ts) found
plain_factor_is (lexemes.Number number) t ts found h e =
    let p : (leaf : NumberLeaf) × (number_of t ≡ Some leaf) × ((trees.Number leaf, ts) ≡ found)
    = map_some (number_of t) _ found e in
    let P : Term × List Token → Type 0 = λ x. Took IsFactor (t ∷ ts) x in
    subst P p.2 (t ∷ [], refl, grammar.number p.1)
plain_factor_is (lexemes.Text text) t ts found h e =
    let p : (leaf : TextLeaf) × (text_of t ≡ Some leaf) × ((trees.Text leaf, ts) ≡ found)
    = map_some (text_of t) _ found e in
    let P : Term × List Token → Type 0 = λ x. Took IsFactor (t ∷ ts) x in
    subst P p.2 (t ∷ [], refl, grammar.text p.1)
plain_factor_is (lexemes.Dollar dollar) t ts found h e = dollar_factor_is dollar t ts found h e
plain_factor_is _ t ts found h e = operand_term_is t ts found e

module _ (read_factor read_sum : Reader Term) (factor_sound : IsSound read_factor IsFactor)
    (sum_sound : IsSound read_sum IsSum) where
  factor_in_is : (l : Lexeme) (t : Token) (ts : List Token) (found : Term × List Token) → t.lexeme ≡ l
      → factor_in read_factor read_sum l t ts ≡ Some found → Took IsFactor (t ∷ ts) found
  factor_in_is (lexemes.Sign signs.Minus) t ts found h e =
      made_is IsFactor IsFactor trees.Negated (t ∷ ts) ts _ found e (factor_sound ts)
      (λ front rest x g d. (t ∷ front, ap (λ x. t ∷ x) g, grammar.negated t front h d))
  factor_in_is (lexemes.Sign signs.OpenParen) t ts found h e =
      let q : (front : List Token) × (u : Token) × (ts ≡ front ++ u ∷ found.1) × IsSum front found.0
      × IsSign signs.CloseParen u = closed_is IsSum ts _ found e (sum_sound ts) in (
        t ∷ (q.0 ++ q.1 ∷ []),
        ap (λ x. t ∷ x) (q.2 ∙ sym (append_assoc q.0 (q.1 ∷ []) found.1)),
        grammar.grouped t q.0
            q.1 h q.3 q.4,
      )
  factor_in_is (lexemes.Reserved word) t ts found h e =
      let p : (function : Function) × (function_of word ≡ Some function)
      × (made (trees.Applied function) (grouped read_sum ts) ≡ Some found) = then_some _ _ found e in
      let x : (y : Term × List Token) × (grouped read_sum ts ≡ Some y) × ((trees.Applied p.0 y.0, y.1) ≡ found)
      = map_some _ _ found p.2 in
      let o : (rest : List Token) × (after_sign signs.OpenParen ts ≡ Some rest) × (closed (read_sum rest) ≡ Some x.0)
      = then_some _ _ x.0 x.1 in
      let o' : (u : Token) × (ts ≡ u ∷ o.0) × IsSign signs.OpenParen u = after_sign_is signs.OpenParen ts o.0 o.1 in
      let q : (front : List Token) × (u : Token) × (o.0 ≡ front ++ u ∷ x.0.1) × IsSum front x.0.0
      × IsSign signs.CloseParen u = closed_is IsSum o.0 _ x.0 o.2 (sum_sound o.0) in
      let P : Term × List Token → Type 0 = λ y. Took IsFactor (t ∷ ts) y in
      subst P x.2 (
        t ∷ o'.0 ∷ (q.0 ++ q.1 ∷ []),
        ap (λ y. t ∷ y) (o'.1 ∙ ap (λ y. o'.0 ∷ y) (q.2 ∙ sym (append_assoc q.0 (q.1 ∷ []) x.0.1))),
        grammar.applied t o'.0 q.0 q.1 (word, h, p.1) o'.2 q.3 q.4,
      )
  factor_in_is l t ts found h e = plain_factor_is l t ts found h e

  factor_by_is : IsSound (factor_by read_factor read_sum) IsFactor
  factor_by_is [] found e = absurd (cc)
  factor_by_is (t ∷ ts) found e = factor_in_is t.lexeme t ts found refl e

product_by_is : (read_factor : Reader Term) → IsSound read_factor IsFactor → IsSound (product_by read_factor) IsProduct
product_by_is read_factor sound =
    chain_is product_operator IsProductOperator join read_factor IsFactor IsProduct product_operator_is sound
    (λ ts t us left right o d i x. grammar.multiplied ts t us d i x) (λ ts x d. grammar.factor d)

sum_by_is : (read_factor : Reader Term) → IsSound read_factor IsFactor → IsSound (sum_by read_factor) IsSum
sum_by_is read_factor sound =
    chain_is sum_operator IsSumOperator join (product_by read_factor) IsProduct IsSum sum_operator_is
    (product_by_is read_factor sound)
    (λ ts t us left right o d i x. grammar.added ts t us d i x) (λ ts x d. grammar.product d)

pub factor_is : (left : ℕ) → IsSound (factor left) IsFactor
factor_is zero ts found e = absurd (cc)
factor_is (suc left) ts found e =
    factor_by_is (factor left) (sum_by (factor left)) (factor_is left) (sum_by_is (factor left) (factor_is left)) ts
    found e

pub product_is : (left : ℕ) → IsSound (product left) IsProduct
product_is left = product_by_is (factor left) (factor_is left)

pub sum_is : (left : ℕ) → IsSound (sum left) IsSum
sum_is left = sum_by_is (factor left) (factor_is left)

pub factor_shortens : (left : ℕ) → Shortens (factor left)
factor_shortens left = sound_shortens (factor left) IsFactor (factor_is left)

pub product_shortens : (left : ℕ) → Shortens (product left)
product_shortens left = sound_shortens (product left) IsProduct (product_is left)

pub product_operator_takes : Takes product_operator
product_operator_takes = reads_takes product_operator IsProductOperator product_operator_is

pub sum_operator_takes : Takes sum_operator
sum_operator_takes = reads_takes sum_operator IsSumOperator sum_operator_is

pub sum_shortens : (left : ℕ) → Shortens (sum left)
sum_shortens left = sound_shortens (sum left) IsSum (sum_is left)
