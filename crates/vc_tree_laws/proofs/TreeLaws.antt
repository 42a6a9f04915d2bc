-- The texts in the dependencies of a model that a text spells are texts.
use Rattle.std.proofs.Common.{ℕ, Bool, true, false, cond, List, length, Option}
use Rattle.std.proofs.Common.{Some, None}
use Rattle.std.proofs.Common.{Result, Ok, Err, IsUtf8, subst}
use Rattle.std.proofs.lemmas.Bool.{ltb-false}
use Rattle.std.proofs.Common.{◌≡◌, ◌≤◌, refl, arith}
use Rattle.std.specs.Prelude.{flat_map, option_map}
use Rattle.std.specs.Result.{result_ok}
use Rattle.vc_syntax_tokens.specs.declared.fault.Kind.{Kind}
use Rattle.vc_syntax_tokens.specs.declared.fault.Kind.TheVariants as kinds
use Rattle.vc_syntax_tokens.specs.declared.fault.SyntaxFault.{SyntaxFault}
use Rattle.vc_syntax_tokens.specs.declared.fault.SyntaxFault.TheVariants.{Bad}
use Rattle.vc_syntax_tokens.specs.declared.fault.SyntaxKind.TheVariants as limits
use Rattle.vc_syntax_tokens.specs.declared.token.Sign.TheVariants as signs
use Rattle.vc_syntax_tokens.specs.declared.token.Token.{Token}
use Rattle.vc_syntax_tokens.specs.Limits.{is_too_long, is_too_deep}
use Rattle.vc_syntax_tokens.specs.Tokens.{tokens_of}
use Rattle.vc_syntax_terms.specs.Reading.{listed}
use Rattle.vc_syntax_terms.specs.TermReading.{sum}
use Rattle.vc_syntax_terms.specs.ConditionReading.{condition}
use Rattle.vc_syntax_tree.specs.Trees as trees
use Rattle.vc_syntax_tree.specs.Trees.{Condition, Constraint, Dependency, Statement, Term}
use Rattle.vc_syntax.specs.ConstraintReading.{constraint}
use Rattle.vc_syntax.specs.DependencyReading.{is_end, is_stop, up_to, dependency}
use Rattle.vc_syntax.specs.DependencyTexts.{spelled, judged, judged_if, dependency_in}
use Rattle.vc_syntax.specs.StatementReading.{statement}
use Rattle.vc_compile_plan.specs.Texts.{texts_in, texts_in_statement}
use Rattle.vc_tree_laws.specs.Statements.{statements_in}
use Rattle.vc_tree_laws.specs.Literals.{ReadTextsAreTexts}
use Rattle.vc_tree_laws.proofs.ConditionLaws.{GoodCondition, condition_reads}
use Rattle.vc_tree_laws.proofs.ReadingLemmas.{Counts, Keeps, listed_few, Texts, more_texts, one_text, listed_reads}
use Rattle.vc_tree_laws.proofs.StatementLaws.{GoodConstraint, GoodStatement, constraint_reads, statement_reads}
use Rattle.vc_tree_laws.proofs.TermLaws.{GoodTerm, sum_reads}
use Rattle.vc_tree_laws.proofs.TokenLaws.{AllGood, AreGood, Good, text_tokens}

-- what is there has a property
abbrev pub Has : {A : Type 0} → (A → Type 0) → Option A → Type 0
Has P None = Unit {0}
Has P (Some a) = P a

-- a tree's texts, and its statements
abbrev pub GoodTree : Dependency → Type 0
GoodTree tree = Texts (texts_in tree) × (statements_in tree ≤ 4001)

up_to_has : {A : Type 0} (P : A → Type 0) (ends : List Token → Bool) (make : A → Dependency)
    (o : Option (A × List Token)) → Keeps P o
    → ((a : A) → P a → GoodTree (make a)) → Has GoodTree (option_map make (up_to ends o))
up_to_has P ends make None k h = tt
up_to_has P ends make (Some found) k h = by (ends found.1)
  where
    by : (b : Bool) → Has GoodTree (option_map make (cond b (Some found.0) None))
    by true = h found.0 k.0
    by false = tt

abbrev GoodStatements : List Statement → Type 0
GoodStatements statements = Texts (flat_map texts_in_statement statements)

abbrev FewStatements : List Statement → Type 0
FewStatements statements = GoodStatements statements × (length statements ≤ 4001)

few_keep : (o : Option (List Statement × List Token)) → Keeps GoodStatements o → Counts 4001 o → Keeps FewStatements o
few_keep None k c = tt
few_keep (Some found) k c = ((k.0, c), k.1)

none : 0 ≤ 4001
none = omega arith

tree_has : (kind : Kind) (n : ℕ) (ts : List Token) → Good ts → Has GoodTree (dependency kind n ts)
tree_has kinds.Precondition n ts h =
    up_to_has GoodCondition is_stop trees.Precondition (condition n ts) (condition_reads n ts h) (λ a p. (p, none))
tree_has kinds.Selection n ts h =
    up_to_has GoodCondition is_stop trees.Selection (condition n ts) (condition_reads n ts h) (λ a p. (p, none))
tree_has kinds.Procedure n ts h =
    up_to_has FewStatements is_stop trees.Procedure (listed signs.Comma (statement n) ts)
    (few_keep (listed signs.Comma (statement n) ts)
    (listed_reads GoodStatement GoodStatements signs.Comma (statement n) (statement_reads n)
    (λ x p. one_text texts_in_statement x p) (λ xs ys p q. more_texts texts_in_statement xs ys p q) ts h)
    (listed_few GoodStatement signs.Comma (statement n) (statement_reads n) ts h)) (λ a p. p)
tree_has kinds.Constraint n ts h =
    up_to_has GoodConstraint is_end trees.Constrains (constraint n ts) (constraint_reads n ts h) (λ a p. (p, none))
tree_has kinds.Term n ts h = up_to_has GoodTerm is_end trees.Counts (sum n ts) (sum_reads n ts h) (λ a p. (p, none))

spelled_has : (o : Option Dependency) → Has GoodTree o → Has GoodTree (result_ok (spelled o))
spelled_has None h = tt
spelled_has (Some tree) h = h

judged_has : (kind : Kind) (ts : List Token) → AllGood ts → Has GoodTree (result_ok (judged kind ts))
judged_has kind ts h = by (is_too_long ts) refl (is_too_deep ts) (Bad limits.TooLong 0) (Bad limits.TooDeep 0)
  where
    by : (long : Bool) → is_too_long ts ≡ long → (deep : Bool) (one other : SyntaxFault)
        → Has GoodTree (result_ok (cond long (Err one)
        (cond deep (Err other) (spelled (dependency kind (length ts) ts)))))
    by true is deep one other = tt
    by false is true one other = tt
    by false is false one other =
        spelled_has (dependency kind (length ts) ts) (tree_has kind (length ts) ts (h, ltb-false 4000 (length ts) is))

pub text_has : (kind : Kind) (text : List ℕ) → IsUtf8 text → Has GoodTree (result_ok (dependency_in kind text))
text_has kind text h = by (tokens_of text) (text_tokens text h)
  where
    by : (r : Result (List Token) SyntaxFault) → AreGood r → Has GoodTree (result_ok (judged_if kind r))
    by (Ok ts) g = judged_has kind ts g
    by (Err fault) g = tt

pub read_texts_are_texts : ReadTextsAreTexts
read_texts_are_texts kind text tree h e = (subst (λ r. Has GoodTree (result_ok r)) e (text_has kind text h)).0
