-- The canonical lexemes of a term spell it again.
use Rattle.std.proofs.Common.{◌≡◌, Bool, true, false, List, [], ◌∷◌, ◌++◌, Some, refl, ap, ◌∙◌}
use Rattle.vc_syntax_tokens.specs.declared.token.Token.{Token}
use Rattle.vc_syntax_tokens.specs.declared.token.Lexeme.TheVariants as lexemes
use Rattle.vc_syntax_tokens.specs.declared.token.Sign.TheVariants as signs
use Rattle.vc_syntax_tokens.specs.declared.token.Dollar.TheVariants as dollars
use Rattle.vc_syntax_tree.specs.declared.NameLeaf.{NameLeaf}
use Rattle.vc_syntax_tree.specs.declared.Owner.{Owner}
use Rattle.vc_syntax_tree.specs.declared.Owner.TheVariants as owners
use Rattle.vc_syntax_tree.specs.declared.Operand.{Operand}
use Rattle.vc_syntax_tree.specs.declared.Operand.TheVariants as operands
use Rattle.vc_syntax_tree.specs.declared.Operator.{Operator}
use Rattle.vc_syntax_tree.specs.declared.Operator.TheVariants as operators
use Rattle.vc_syntax_tree.specs.declared.Function.{Function}
use Rattle.vc_syntax_tree.specs.declared.Function.TheVariants as functions
use Rattle.vc_syntax_terms.specs.TermReading.{owner_of, function_of, product_operator_in, sum_operator_in}
use Rattle.vc_syntax_terms.specs.TermGrammar as grammar
use Rattle.vc_syntax_terms.specs.TermGrammar.{IsOperand, IsSelfAndName, IsFactor, IsProduct, IsSum}
use Rattle.vc_syntax_tree.specs.Trees as trees
use Rattle.vc_syntax_tree.specs.Trees.{Term}
use Rattle.vc_syntax_print.specs.TermLexemes.{wrapped, wrapped_if, owner_word, function_word, operator_sign}
use Rattle.vc_syntax_print.specs.TermLexemes.{operand_lexemes, is_sum, is_combined, self_and_name, term_lexemes}
use Rattle.vc_syntax_print.specs.Places.{bare_name, bare_operand, bare_term}
use Rattle.vc_syntax_print.proofs.Spelt.{Spelt, Again, front, single, between, ended, name_at, text_at, number_at}
use Rattle.vc_syntax_print.proofs.Spelt.{name_again, variable_again, text_again, number_again}

owner_spelled : (owner : Owner) → owner_of (owner_word owner) ≡ Some owner
owner_spelled owners.Itself = refl
owner_spelled owners.Parent = refl
owner_spelled owners.Root = refl

function_spelled : (function : Function) → function_of (function_word function) ≡ Some function
function_spelled functions.Abs = refl
function_spelled functions.Sign = refl
function_spelled functions.Trunc = refl
function_spelled functions.Floor = refl
function_spelled functions.Ceil = refl
function_spelled functions.Frac = refl

pub operand_again : (operand : Operand) → Again IsOperand bare_operand (operand_lexemes operand) operand
operand_again (operands.Plain name) ts e =
    single (λ z. Spelt IsOperand bare_operand z (operands.Plain name)) (lexemes.Name name.name) ts e
    (λ t p. record {
      tree = operands.Plain (name_at t name);
      spelled = grammar.plain (name_again t name p);
      same =
          refl;
    })
operand_again (operands.Owned owner name) ts e =
    front (λ z. Spelt IsOperand bare_operand z (operands.Owned owner name)) (lexemes.Dollar (owner_word owner)) _ ts e
    (λ t us p q.
    front (λ z. Spelt IsOperand bare_operand (t ∷ z) (operands.Owned owner name)) (lexemes.Sign signs.Dot) _ us q
    (λ dot vs r s.
    single (λ z. Spelt IsOperand bare_operand (t ∷ dot ∷ z) (operands.Owned owner name)) (lexemes.Name name.name) vs s
    (λ u x.
    record {
      tree = operands.Owned owner (name_at u name);
      spelled =
          grammar.owned (owner_word owner, p, owner_spelled owner) r (name_again u name x);
      same = refl;
    })))
operand_again (operands.Member variable name) ts e =
    front (λ z. Spelt IsOperand bare_operand z (operands.Member variable name)) (lexemes.Variable variable.name) _ ts e
    (λ t us p q.
    front (λ z. Spelt IsOperand bare_operand (t ∷ z) (operands.Member variable name)) (lexemes.Sign signs.Dot) _ us q
    (λ dot vs r s.
    single (λ z. Spelt IsOperand bare_operand (t ∷ dot ∷ z) (operands.Member variable name)) (lexemes.Name name.name) vs
    s (λ u x.
    record {
      tree = operands.Member (name_at t variable) (name_at u name);
      spelled =
          grammar.member (variable_again t variable p) r (name_again u name x);
      same = refl;
    })))
operand_again (operands.Variable name) ts e =
    single (λ z. Spelt IsOperand bare_operand z (operands.Variable name)) (lexemes.Variable name.name) ts e
    (λ t p. record {
      tree = operands.Variable (name_at t name);
      spelled =
          grammar.variable (variable_again t name p);
      same = refl;
    })

pub self_again : (name : NameLeaf) → Again IsSelfAndName bare_name (self_and_name name) name
self_again name ts e =
    front (λ z. Spelt IsSelfAndName bare_name z name) (lexemes.Sign signs.OpenParen) _ ts e (λ opening us p q.
    front (λ z. Spelt IsSelfAndName bare_name (opening ∷ z) name) (lexemes.Dollar dollars.Itself) _ us q (λ self vs r s.
    front (λ z. Spelt IsSelfAndName bare_name (opening ∷ self ∷ z) name) (lexemes.Sign signs.Comma) _ vs s
    (λ comma ws x y.
    single (λ z. Spelt IsSelfAndName bare_name (opening ∷ self ∷ comma ∷ z) name) (lexemes.Name name.name) ws y (λ t h.
    record { tree = name_at t name; spelled = grammar.self_and_name p r x (name_again t name h); same = refl }))))

-- as a term; as an operand of a product, if it is no sum; as a factor, if nothing is combined in it
pub record TermAgain (term : Term) : Type 0 where
  pub sum : Again IsSum bare_term (term_lexemes term) term
  pub product : is_sum term ≡ false → Again IsProduct bare_term (term_lexemes term) term
  pub factor : is_combined term ≡ false → Again IsFactor bare_term (term_lexemes term) term

as_product : (ts : List Token) (term : Term) → Spelt IsFactor bare_term ts term → Spelt IsProduct bare_term ts term
as_product ts term s = record { tree = s.tree; spelled = grammar.factor s.spelled; same = s.same }

as_sum : (ts : List Token) (term : Term) → Spelt IsProduct bare_term ts term → Spelt IsSum bare_term ts term
as_sum ts term s = record { tree = s.tree; spelled = grammar.product s.spelled; same = s.same }

from_factor : (term : Term) → Again IsFactor bare_term (term_lexemes term) term → TermAgain term
from_factor term again = record {
  sum = λ ts e. as_sum ts term (as_product ts term (again ts e));
  product = λ h ts e. as_product ts term (again ts e);
  factor = λ h. again;
}

grouped_again : (term : Term) → TermAgain term → Again IsFactor bare_term (wrapped (term_lexemes term)) term
grouped_again term again ts e =
    front (λ z. Spelt IsFactor bare_term z term) (lexemes.Sign signs.OpenParen) _ ts e (λ opening us o q.
    ended (λ z. Spelt IsFactor bare_term (opening ∷ z) term) (term_lexemes term) (lexemes.Sign signs.CloseParen) us q
    (λ vs closing r c.
    let s : Spelt IsSum bare_term vs term = again.sum vs r in
    record { tree = s.tree; spelled = grammar.grouped opening vs closing o s.spelled c; same = s.same }))

factor_if : (term : Term) (b : Bool) → is_combined term ≡ b → TermAgain term
    → Again IsFactor bare_term (wrapped_if b (term_lexemes term)) term
factor_if term true h again = grouped_again term again
factor_if term false h again = again.factor h

product_if : (term : Term) (b : Bool) → is_sum term ≡ b → TermAgain term
    → Again IsProduct bare_term (wrapped_if b (term_lexemes term)) term
product_if term true h again = λ ts e. as_product ts term (grouped_again term again ts e)
product_if term false h again = again.product h

added_again : (left right : Term) (operator : Operator)
    → sum_operator_in (lexemes.Sign (operator_sign operator)) ≡ Some operator → TermAgain left → TermAgain right
    → Again IsSum bare_term
    (term_lexemes left ++ lexemes.Sign (operator_sign operator) ∷ wrapped_if (is_sum right) (term_lexemes right))
    (trees.Combined left operator right)
added_again left right operator o x y ts e =
    between (λ z. Spelt IsSum bare_term z (trees.Combined left operator right)) (term_lexemes left)
    (lexemes.Sign (operator_sign operator)) _ ts e (λ us t vs p q r.
    let s : Spelt IsSum bare_term us left = x.sum us p in
    let u : Spelt IsProduct bare_term vs right = product_if right (is_sum right) refl y vs r in
    record {
      tree = trees.Combined s.tree operator u.tree;
      spelled = grammar.added us t vs s.spelled (ap sum_operator_in q ∙ o) u.spelled;
      same = ap (λ z. trees.Combined z operator (bare_term u.tree)) s.same
          ∙ ap (λ z. trees.Combined (bare_term left) operator z) u.same;
    })

multiplied_again : (left right : Term) (operator : Operator)
    → product_operator_in (lexemes.Sign (operator_sign operator)) ≡ Some operator → TermAgain left → TermAgain right
    → Again IsProduct bare_term
    (wrapped_if (is_sum left) (term_lexemes left) ++ lexemes.Sign (operator_sign operator)
    ∷ wrapped_if (is_combined right) (term_lexemes right)) (trees.Combined left operator right)
multiplied_again left right operator o x y ts e =
    between (λ z. Spelt IsProduct bare_term z (trees.Combined left operator right))
    (wrapped_if (is_sum left) (term_lexemes left)) (lexemes.Sign (operator_sign operator)) _ ts e (λ us t vs p q r.
    let s : Spelt IsProduct bare_term us left = product_if left (is_sum left) refl x us p in
    let u : Spelt IsFactor bare_term vs right = factor_if right (is_combined right) refl y vs r in
    record {
      tree = trees.Combined s.tree operator u.tree;
      spelled = grammar.multiplied us t vs s.spelled (ap product_operator_in q ∙ o) u.spelled;
      same = ap (λ z. trees.Combined z operator (bare_term u.tree)) s.same
          ∙ ap (λ z. trees.Combined (bare_term left) operator z) u.same;
    })

negated_again : (term : Term) → TermAgain term
    → Again IsFactor bare_term (term_lexemes (trees.Negated term)) (trees.Negated term)
negated_again term again ts e =
    front (λ z. Spelt IsFactor bare_term z (trees.Negated term)) (lexemes.Sign signs.Minus) _ ts e (λ minus us m q.
    let s : Spelt IsFactor bare_term us term = factor_if term (is_combined term) refl again us q in
    record {
      tree = trees.Negated s.tree;
      spelled = grammar.negated minus us m s.spelled;
      same =
          ap trees.Negated s.same;
    })

applied_again : (function : Function) (term : Term) → TermAgain term
    → Again IsFactor bare_term (term_lexemes (trees.Applied function term)) (trees.Applied function term)
applied_again function term again ts e =
    front (λ z. Spelt IsFactor bare_term z (trees.Applied function term)) (lexemes.Reserved (function_word function)) _
    ts e (λ t us f q.
    front (λ z. Spelt IsFactor bare_term (t ∷ z) (trees.Applied function term)) (lexemes.Sign signs.OpenParen) _ us q
    (λ opening vs o r.
    ended (λ z. Spelt IsFactor bare_term (t ∷ opening ∷ z) (trees.Applied function term)) (term_lexemes term)
    (lexemes.Sign signs.CloseParen) vs r (λ ws closing h c.
    let s : Spelt IsSum bare_term ws term = again.sum ws h in
    record {
      tree = trees.Applied function s.tree;
      spelled = grammar.applied t opening ws closing (function_word function, f, function_spelled function) o s.spelled
          c;
      same = ap (trees.Applied function) s.same;
    })))

parts_again : (name : NameLeaf)
    → Again IsFactor bare_term (term_lexemes (trees.SumOfParts name)) (trees.SumOfParts name)
parts_again name ts e =
    front (λ z. Spelt IsFactor bare_term z (trees.SumOfParts name)) (lexemes.Dollar dollars.SumParts) _ ts e
    (λ t us d q.
    ended (λ z. Spelt IsFactor bare_term (t ∷ z) (trees.SumOfParts name)) (self_and_name name)
    (lexemes.Sign signs.CloseParen) us q (λ vs closing r c.
    let s : Spelt IsSelfAndName bare_name vs name = self_again name vs r in
    record {
      tree = trees.SumOfParts s.tree;
      spelled = grammar.sum_of_parts t vs closing d s.spelled c;
      same =
          ap trees.SumOfParts s.same;
    }))

count_again : Again IsFactor bare_term (term_lexemes trees.CountOfParts) trees.CountOfParts
count_again ts e =
    front (λ z. Spelt IsFactor bare_term z trees.CountOfParts) (lexemes.Dollar dollars.CountParts) _ ts e (λ t us d q.
    front (λ z. Spelt IsFactor bare_term (t ∷ z) trees.CountOfParts) (lexemes.Sign signs.OpenParen) _ us q
    (λ opening vs o r.
    front (λ z. Spelt IsFactor bare_term (t ∷ opening ∷ z) trees.CountOfParts) (lexemes.Dollar dollars.Itself) _ vs r
    (λ self ws h k.
    single (λ z. Spelt IsFactor bare_term (t ∷ opening ∷ self ∷ z) trees.CountOfParts) (lexemes.Sign signs.CloseParen)
    ws k (λ closing c.
    record {
      tree = trees.CountOfParts;
      spelled =
          grammar.count_of_parts t (opening ∷ self ∷ closing ∷ []) d (grammar.only_self o h c);
      same = refl;
    }))))

-- a sum, and a product, of two terms
from_sum : (left right : Term) (operator : Operator) → is_sum (trees.Combined left operator right) ≡ true
    → Again IsSum bare_term (term_lexemes (trees.Combined left operator right)) (trees.Combined left operator right)
    → TermAgain (trees.Combined left operator right)
from_sum left right operator h again = record { sum = again; product = λ k. absurd (cc); factor = λ k. absurd (cc) }

from_product : (left right : Term) (operator : Operator)
    → Again IsProduct bare_term (term_lexemes (trees.Combined left operator right)) (trees.Combined left operator right)
    → TermAgain (trees.Combined left operator right)
from_product left right operator again =
    record {
      sum = λ ts e. as_sum ts (trees.Combined left operator right) (again ts e);
      product = λ k. again;
      factor =
          λ k. absurd (cc);
    }

pub term_again : (term : Term) → TermAgain term
term_again (trees.Number leaf) = from_factor (trees.Number leaf) (λ ts e.
    single (λ z. Spelt IsFactor bare_term z (trees.Number leaf)) (lexemes.Number leaf.number) ts e
    (λ t p. record {
      tree = trees.Number (number_at t leaf);
      spelled = grammar.number (number_again t leaf p);
      same =
          refl;
    }))
term_again (trees.Text leaf) = from_factor (trees.Text leaf) (λ ts e.
    single (λ z. Spelt IsFactor bare_term z (trees.Text leaf)) (lexemes.Text leaf.text) ts e
    (λ t p. record { tree = trees.Text (text_at t leaf); spelled = grammar.text (text_again t leaf p); same = refl }))
term_again (trees.Operand operand) = from_factor (trees.Operand operand) (λ ts e.
    let s : Spelt IsOperand bare_operand ts operand = operand_again operand ts e in
    record { tree = trees.Operand s.tree; spelled = grammar.operand s.spelled; same = ap trees.Operand s.same })
term_again (trees.Negated term) = from_factor (trees.Negated term) (negated_again term (term_again term))
term_again (trees.Combined left operators.Plus right) =
    from_sum left right operators.Plus refl
    (added_again left right operators.Plus refl (term_again left) (term_again right))
term_again (trees.Combined left operators.Minus right) =
    from_sum left right operators.Minus refl
    (added_again left right operators.Minus refl (term_again left) (term_again right))
term_again (trees.Combined left operators.Times right) =
    from_product left right operators.Times
    (multiplied_again left right operators.Times refl (term_again left) (term_again right))
term_again (trees.Combined left operators.Over right) =
    from_product left right operators.Over
    (multiplied_again left right operators.Over refl (term_again left) (term_again right))
term_again (trees.Applied function term) =
    from_factor (trees.Applied function term) (applied_again function term (term_again term))
term_again (trees.SumOfParts name) = from_factor (trees.SumOfParts name) (parts_again name)
term_again trees.CountOfParts = from_factor trees.CountOfParts count_again
