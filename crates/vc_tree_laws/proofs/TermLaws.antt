-- The texts in a term that is read are texts.
use Rattle.std.proofs.Common.{◌≡◌, ℕ, zero, suc, true, List, [], ◌∷◌, Option, Some}
use Rattle.std.proofs.Common.{refl, sym, ap, ◌∙◌}
use Rattle.std.proofs.lemmas.Bool.{and_from}
use Rattle.vc_syntax_tokens.specs.declared.token.Dollar.{Dollar}
use Rattle.vc_syntax_tokens.specs.declared.token.Dollar.TheVariants as dollars
use Rattle.vc_syntax_tokens.specs.declared.token.Lexeme.{Lexeme}
use Rattle.vc_syntax_tokens.specs.declared.token.Lexeme.TheVariants as lexemes
use Rattle.vc_syntax_tokens.specs.declared.token.Sign.TheVariants as signs
use Rattle.vc_syntax_tokens.specs.declared.token.Token.{Token}
use Rattle.vc_syntax_tree.specs.declared.NameLeaf.{NameLeaf}
use Rattle.vc_syntax_tree.specs.declared.TextLeaf.{TextLeaf}
use Rattle.vc_syntax_tree.specs.declared.Operand.{Operand}
use Rattle.vc_syntax_tree.specs.declared.Operand.TheVariants as operands
use Rattle.vc_syntax_tree.specs.declared.Operator.{Operator}
use Rattle.vc_syntax_tree.specs.Trees as trees
use Rattle.vc_syntax_terms.specs.Reading.{Reader, then, made, closed, grouped}
use Rattle.vc_tree_laws.specs.Literals.{is_literal}
use Rattle.vc_tree_laws.proofs.TokenLaws.{is_good, Good}
use Rattle.vc_tree_laws.proofs.ReadingLemmas.{Keeps, Leaves, Reads, Anything, Texts, texts_append}
use Rattle.vc_tree_laws.proofs.ReadingLemmas.{then_rest, then_leaves, then_any, either_rest, made_keeps}
use Rattle.vc_tree_laws.proofs.ReadingLemmas.{put_keeps, leaf_keeps, rest_good, first_good, some_if, sign_leaves}
use Rattle.vc_tree_laws.proofs.ReadingLemmas.{closed_keeps, grouped_reads, chain_reads}
use Rattle.vc_syntax_terms.specs.Leaves.{name_of, any_name_of, any_named, variable_of, text_in, text_of, number_of}
use Rattle.vc_syntax_terms.specs.Leaves.{is_self, after_sign, after_self, named}
use Rattle.vc_syntax_tree.specs.Trees.{Term}
use Rattle.vc_syntax_terms.specs.TermReading.{owner_of, dotted, member, operand_in, operand, function_of}
use Rattle.vc_syntax_terms.specs.TermReading.{product_operator_in, sum_operator_in}
use Rattle.vc_syntax_terms.specs.TermReading.{product_operator, sum_operator, self_and_name, only_self}
use Rattle.vc_syntax_terms.specs.TermReading.{dollar_factor}
use Rattle.vc_syntax_terms.specs.TermReading.{plain_factor, factor_in, factor_by, join, product_by, sum_by, factor, sum}
use Rattle.vc_compile_plan.specs.Texts.{texts_in_term}

-- names, which hold no text
pub named_reads : Reads Anything named
named_reads [] h = tt
named_reads (t ∷ ts) h = leaf_keeps Anything (λ name. name) (name_of t) ts (λ x e. tt) (rest_good t ts h)

pub any_named_reads : Reads Anything any_named
any_named_reads [] h = tt
any_named_reads (t ∷ ts) h = leaf_keeps Anything (λ name. name) (any_name_of t) ts (λ x e. tt) (rest_good t ts h)

pub dotted_reads : Reads Anything dotted
dotted_reads ts h = then_rest Anything (after_sign signs.Dot ts) named (sign_leaves signs.Dot ts h) named_reads

member_reads : (variable : NameLeaf) → Reads Anything (member variable)
member_reads variable ts h =
    either_rest Anything (after_sign signs.Dot ts) (Some (operands.Variable variable, ts))
    (λ rest. made (operands.Member variable) (named rest))
    (sign_leaves signs.Dot ts h) (tt, h) (λ rest g. made_keeps Anything Anything (operands.Member variable)
    (named rest) (named_reads rest g) (λ a p. tt))

operand_in_keeps : (lexeme : Lexeme) (t : Token) (ts : List Token) → Good ts → Keeps Anything (operand_in lexeme t ts)
operand_in_keeps (lexemes.Name x) t ts h = leaf_keeps Anything operands.Plain (name_of t) ts (λ x e. tt) h
operand_in_keeps (lexemes.Variable x) t ts h =
    then_any Anything (variable_of t) (λ variable. member variable ts) (λ variable. member_reads variable ts h)
operand_in_keeps (lexemes.Text x) t ts h = tt
operand_in_keeps (lexemes.Number x) t ts h = tt
operand_in_keeps (lexemes.Reserved x) t ts h = tt
operand_in_keeps (lexemes.Dollar x) t ts h =
    then_any Anything (owner_of x) (λ owner. made (operands.Owned owner) (dotted ts))
    (λ owner. made_keeps Anything Anything (operands.Owned owner) (dotted ts) (dotted_reads ts h) (λ a p. tt))
operand_in_keeps (lexemes.Sign x) t ts h = tt

pub operand_reads : Reads Anything operand
operand_reads [] h = tt
operand_reads (t ∷ ts) h = operand_in_keeps t.lexeme t ts (rest_good t ts h)

-- operators
product_operator_reads : Reads Anything product_operator
product_operator_reads [] h = tt
product_operator_reads (t ∷ ts) h = leaf_keeps Anything (λ x. x) (product_operator_in t.lexeme) ts (λ x e. tt)
    (rest_good t ts h)

sum_operator_reads : Reads Anything sum_operator
sum_operator_reads [] h = tt
sum_operator_reads (t ∷ ts) h = leaf_keeps Anything (λ x. x) (sum_operator_in t.lexeme) ts (λ x e. tt)
    (rest_good t ts h)

-- parts
self_leaves : (ts : List Token) → Good ts → Leaves (after_self ts)
self_leaves [] h = tt
self_leaves (t ∷ ts) h = some_if (is_self t.lexeme) ts (rest_good t ts h)

pub self_and_name_reads : Reads Anything self_and_name
self_and_name_reads ts h =
    then_rest Anything (after_sign signs.OpenParen ts)
    (λ first. then (after_self first) (λ second. then (after_sign signs.Comma second) named))
    (sign_leaves signs.OpenParen ts h)
    (λ first g. then_rest Anything (after_self first) (λ second. then (after_sign signs.Comma second) named)
    (self_leaves first g)
    (λ second k. then_rest Anything (after_sign signs.Comma second) named (sign_leaves signs.Comma second k)
    named_reads))

only_self_leaves : (ts : List Token) → Good ts → Leaves (only_self ts)
only_self_leaves ts h =
    then_leaves (after_sign signs.OpenParen ts) (λ first. then (after_self first) (after_sign signs.CloseParen))
    (sign_leaves signs.OpenParen ts h)
    (λ first g. then_leaves (after_self first) (after_sign signs.CloseParen) (self_leaves first g)
    (sign_leaves signs.CloseParen))

-- a term's texts
abbrev pub GoodTerm : Term → Type 0
GoodTerm term = Texts (texts_in_term term)

one_leaf : (x : List ℕ) (start end : ℕ) (leaf : TextLeaf) → is_literal x ≡ true
    → text_in (lexemes.Text x) start end ≡ Some leaf → is_literal leaf.text ≡ true
one_leaf x start end leaf g e =
    let made : TextLeaf = record { text = x; start = start; end = end } in
    let same : made ≡ leaf = some_same made leaf e in
    ap (λ (l : TextLeaf). is_literal l.text) (sym same) ∙ g
  where
    some_same : (a b : TextLeaf) → Some a ≡ Some b → a ≡ b
    some_same a b e = cc

pub text_good : (lexeme : Lexeme) (start end : ℕ) (leaf : TextLeaf) → is_good lexeme ≡ true
    → text_in lexeme start end ≡ Some leaf → is_literal leaf.text ≡ true
text_good (lexemes.Name x) start end leaf g e = absurd (cc)
text_good (lexemes.Variable x) start end leaf g e = absurd (cc)
text_good (lexemes.Text x) start end leaf g e = one_leaf x start end leaf g e
text_good (lexemes.Number x) start end leaf g e = absurd (cc)
text_good (lexemes.Reserved x) start end leaf g e = absurd (cc)
text_good (lexemes.Dollar x) start end leaf g e = absurd (cc)
text_good (lexemes.Sign x) start end leaf g e = absurd (cc)

operand_term : (o : Option (Operand × List Token)) → Keeps Anything o → Keeps GoodTerm (made trees.Operand o)
operand_term o k = made_keeps Anything GoodTerm trees.Operand o k (λ a p. refl)

dollar_keeps : (dollar : Dollar) (t : Token) (ts : List Token) → Good ts → Keeps GoodTerm (dollar_factor dollar t ts)
dollar_keeps dollars.Itself t ts h = operand_term (operand_in t.lexeme t ts) (operand_in_keeps t.lexeme t ts h)
dollar_keeps dollars.Parent t ts h = operand_term (operand_in t.lexeme t ts) (operand_in_keeps t.lexeme t ts h)
dollar_keeps dollars.Root t ts h = operand_term (operand_in t.lexeme t ts) (operand_in_keeps t.lexeme t ts h)
dollar_keeps dollars.SetDefault t ts h = operand_term (operand_in t.lexeme t ts) (operand_in_keeps t.lexeme t ts h)
dollar_keeps dollars.DelDefault t ts h = operand_term (operand_in t.lexeme t ts) (operand_in_keeps t.lexeme t ts h)
dollar_keeps dollars.SumParts t ts h = made_keeps Anything GoodTerm trees.SumOfParts (closed (self_and_name ts))
    (closed_keeps Anything (self_and_name ts) (self_and_name_reads ts h)) (λ a p. refl)
dollar_keeps dollars.CountParts t ts h =
    put_keeps GoodTerm trees.CountOfParts (only_self ts) refl (only_self_leaves ts h)

plain_keeps : (lexeme : Lexeme) (t : Token) (ts : List Token) → is_good t.lexeme ≡ true → Good ts
    → Keeps GoodTerm (plain_factor lexeme t ts)
plain_keeps (lexemes.Name x) t ts g h = operand_term (operand_in t.lexeme t ts) (operand_in_keeps t.lexeme t ts h)
plain_keeps (lexemes.Variable x) t ts g h = operand_term (operand_in t.lexeme t ts) (operand_in_keeps t.lexeme t ts h)
plain_keeps (lexemes.Text x) t ts g h = leaf_keeps GoodTerm trees.Text (text_of t) ts
    (λ x e. and_from (is_literal x.text) true (text_good t.lexeme t.start t.end x g e) refl) h
plain_keeps (lexemes.Number x) t ts g h = leaf_keeps GoodTerm trees.Number (number_of t) ts (λ x e. refl) h
plain_keeps (lexemes.Reserved x) t ts g h = operand_term (operand_in t.lexeme t ts) (operand_in_keeps t.lexeme t ts h)
plain_keeps (lexemes.Dollar x) t ts g h = dollar_keeps x t ts h
plain_keeps (lexemes.Sign x) t ts g h = operand_term (operand_in t.lexeme t ts) (operand_in_keeps t.lexeme t ts h)

factor_in_keeps : (inner outer : Reader Term) → Reads GoodTerm inner → Reads GoodTerm outer
    → (lexeme : Lexeme) (t : Token) (ts : List Token)
    → is_good t.lexeme ≡ true → Good ts → Keeps GoodTerm (factor_in inner outer lexeme t ts)
factor_in_keeps inner outer i o (lexemes.Name x) t ts g h = plain_keeps (lexemes.Name x) t ts g h
factor_in_keeps inner outer i o (lexemes.Variable x) t ts g h = plain_keeps (lexemes.Variable x) t ts g h
factor_in_keeps inner outer i o (lexemes.Text x) t ts g h = plain_keeps (lexemes.Text x) t ts g h
factor_in_keeps inner outer i o (lexemes.Number x) t ts g h = plain_keeps (lexemes.Number x) t ts g h
factor_in_keeps inner outer i o (lexemes.Dollar x) t ts g h = plain_keeps (lexemes.Dollar x) t ts g h
factor_in_keeps inner outer i o (lexemes.Reserved x) t ts g h =
    then_any GoodTerm (function_of x) (λ function. made (trees.Applied function) (grouped outer ts))
    (λ function. made_keeps GoodTerm GoodTerm (trees.Applied function) (grouped outer ts)
    (grouped_reads GoodTerm outer o ts h) (λ a p. p))
factor_in_keeps inner outer i o (lexemes.Sign signs.OpenParen) t ts g h = closed_keeps GoodTerm (outer ts) (o ts h)
factor_in_keeps inner outer i o (lexemes.Sign signs.CloseParen) t ts g h =
    plain_keeps (lexemes.Sign signs.CloseParen) t ts g h
factor_in_keeps inner outer i o (lexemes.Sign signs.Comma) t ts g h = plain_keeps (lexemes.Sign signs.Comma) t ts g h
factor_in_keeps inner outer i o (lexemes.Sign signs.Semicolon) t ts g h =
    plain_keeps (lexemes.Sign signs.Semicolon) t ts g h
factor_in_keeps inner outer i o (lexemes.Sign signs.Colon) t ts g h = plain_keeps (lexemes.Sign signs.Colon) t ts g h
factor_in_keeps inner outer i o (lexemes.Sign signs.Dot) t ts g h = plain_keeps (lexemes.Sign signs.Dot) t ts g h
factor_in_keeps inner outer i o (lexemes.Sign signs.Period) t ts g h = plain_keeps (lexemes.Sign signs.Period) t ts g h
factor_in_keeps inner outer i o (lexemes.Sign signs.Equal) t ts g h = plain_keeps (lexemes.Sign signs.Equal) t ts g h
factor_in_keeps inner outer i o (lexemes.Sign signs.Unequal) t ts g h =
    plain_keeps (lexemes.Sign signs.Unequal) t ts g h
factor_in_keeps inner outer i o (lexemes.Sign signs.Less) t ts g h = plain_keeps (lexemes.Sign signs.Less) t ts g h
factor_in_keeps inner outer i o (lexemes.Sign signs.LessEqual) t ts g h =
    plain_keeps (lexemes.Sign signs.LessEqual) t ts g h
factor_in_keeps inner outer i o (lexemes.Sign signs.Greater) t ts g h =
    plain_keeps (lexemes.Sign signs.Greater) t ts g h
factor_in_keeps inner outer i o (lexemes.Sign signs.GreaterEqual) t ts g h =
    plain_keeps (lexemes.Sign signs.GreaterEqual) t ts g h
factor_in_keeps inner outer i o (lexemes.Sign signs.Plus) t ts g h = plain_keeps (lexemes.Sign signs.Plus) t ts g h
factor_in_keeps inner outer i o (lexemes.Sign signs.Minus) t ts g h =
    made_keeps GoodTerm GoodTerm trees.Negated (inner ts) (i ts h) (λ a p. p)
factor_in_keeps inner outer i o (lexemes.Sign signs.Star) t ts g h = plain_keeps (lexemes.Sign signs.Star) t ts g h
factor_in_keeps inner outer i o (lexemes.Sign signs.Slash) t ts g h = plain_keeps (lexemes.Sign signs.Slash) t ts g h

factor_by_reads : (inner outer : Reader Term) → Reads GoodTerm inner → Reads GoodTerm outer
    → Reads GoodTerm (factor_by inner outer)
factor_by_reads inner outer i o [] h = tt
factor_by_reads inner outer i o (t ∷ ts) h =
    factor_in_keeps inner outer i o t.lexeme t ts (first_good t ts h) (rest_good t ts h)

joined : (operator : Operator) (left right : Term) → GoodTerm left → GoodTerm right
    → GoodTerm (join operator left right)
joined operator left right p q = texts_append (texts_in_term left) (texts_in_term right) p q

sum_by_reads : (inner : Reader Term) → Reads GoodTerm inner → Reads GoodTerm (sum_by inner)
sum_by_reads inner i =
    chain_reads GoodTerm sum_operator join (product_by inner) sum_operator_reads
    (chain_reads GoodTerm product_operator join inner product_operator_reads i joined) joined

factor_reads : (left : ℕ) → Reads GoodTerm (factor left)
factor_reads zero ts h = tt
factor_reads (suc left) ts h = factor_by_reads (factor left) (sum_by (factor left)) (factor_reads left)
    (sum_by_reads (factor left) (factor_reads left)) ts h

pub sum_reads : (left : ℕ) → Reads GoodTerm (sum left)
sum_reads left = sum_by_reads (factor left) (factor_reads left)
