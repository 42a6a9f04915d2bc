-- The canonical text of a dependency that some text spells, spells it again.
use Rattle.std.proofs.Common.{◌∙◌, ◌≡◌, ℕ, true, List, [], ◌++◌, map, Ok, sym, ap, subst}
use Rattle.std.specs.List.{list_all}
use Rattle.std.proofs.lemmas.List.{append-nil}
use Rattle.vc_syntax_tokens.specs.declared.token.Token.{Token}
use Rattle.vc_syntax_tokens.specs.declared.token.Sign.TheVariants as signs
use Rattle.vc_syntax_tokens.specs.declared.fault.Kind.{Kind}
use Rattle.vc_syntax_tokens.specs.declared.fault.Kind.TheVariants as kinds
use Rattle.vc_syntax_tokens.specs.Tokens.{tokens_of}
use Rattle.vc_syntax_tokens.specs.Texts.{text_of}
use Rattle.vc_syntax_tokens.specs.Written.{is_lexeme}
use Rattle.vc_syntax_tokens.proofs.TextsAgain.{texts_again}
use Rattle.vc_syntax_tokens.proofs.LexemesGood.{tokens_good}
use Rattle.vc_syntax_terms.specs.TermGrammar.{IsSum}
use Rattle.vc_syntax_terms.specs.ConditionGrammar.{IsListed, IsCondition}
use Rattle.vc_syntax.specs.StatementGrammar.{IsStatement}
use Rattle.vc_syntax.specs.ConstraintGrammar.{IsConstraint}
use Rattle.vc_syntax.specs.DependencyGrammar as grammar
use Rattle.vc_syntax.specs.DependencyGrammar.{IsDependency}
use Rattle.vc_syntax.specs.Spelled.{Spells}
use Rattle.vc_syntax.proofs.SpelledLaws.{one_tree}
use Rattle.vc_syntax_tree.specs.Trees as trees
use Rattle.vc_syntax_tree.specs.Trees.{Term, Condition, Constraint, Dependency}
use Rattle.vc_syntax_print.specs.StatementLexemes.{statement_lexemes}
use Rattle.vc_syntax_print.specs.DependencyLexemes.{dependency_lexemes, canonical_text}
use Rattle.vc_syntax_print.specs.Places.{bare_term, bare_condition, bare_statement, bare_constraint, bare}
use Rattle.vc_syntax_print.proofs.Spelt.{seen, Spelt, Again, listed_again}
use Rattle.vc_syntax_print.proofs.TermsAgain.{term_again}
use Rattle.vc_syntax_print.proofs.ConditionsAgain.{condition_again}
use Rattle.vc_syntax_print.proofs.StatementsAgain.{statement_again}
use Rattle.vc_syntax_print.proofs.ConstraintsAgain.{constraint_again}
use Rattle.vc_syntax_print.proofs.Simplified.{Simplified, simplified_lexemes, simplified_short, simplified_shallow}
use Rattle.vc_syntax_print.proofs.DependenciesSimpler.{dependency_simplified}

-- without the period at the end
unstopped : (kind : Kind) (ts : List Token) (tree : Dependency) → IsDependency kind (ts ++ []) tree
    → IsDependency kind ts tree
unstopped kind ts tree x = subst (λ z. IsDependency kind z tree) (append-nil ts) x

dependency_again : (kind : Kind) (ts : List Token) (tree : Dependency) → IsDependency kind ts tree
    → Again (IsDependency kind) bare (dependency_lexemes tree) tree
dependency_again _ _ _ (grammar.precondition ts us {x = x} c h) vs e =
    let s : Spelt IsCondition bare_condition vs x = (condition_again ts x c).whole vs e in
    record {
      tree = trees.Precondition s.tree;
      spelled = unstopped kinds.Precondition vs (trees.Precondition s.tree)
          (grammar.precondition vs [] s.spelled grammar.nothing);
      same = ap trees.Precondition s.same;
    }
dependency_again _ _ _ (grammar.selection ts us {x = x} c h) vs e =
    let s : Spelt IsCondition bare_condition vs x = (condition_again ts x c).whole vs e in
    record {
      tree = trees.Selection s.tree;
      spelled = unstopped kinds.Selection vs (trees.Selection s.tree)
          (grammar.selection vs [] s.spelled grammar.nothing);
      same = ap trees.Selection s.same;
    }
dependency_again _ _ _ (grammar.procedure ts us {xs = xs} l h) vs e =
    let s : Spelt (IsListed signs.Comma IsStatement) (map bare_statement) vs xs
    = listed_again signs.Comma IsStatement bare_statement statement_lexemes statement_again ts xs l vs e in
    record {
      tree = trees.Procedure s.tree;
      spelled = unstopped kinds.Procedure vs (trees.Procedure s.tree)
          (grammar.procedure vs [] s.spelled grammar.nothing);
      same = ap trees.Procedure s.same;
    }
dependency_again _ _ _ (grammar.constraint {ts = ts} {x = x} c) vs e =
    let s : Spelt IsConstraint bare_constraint vs x = constraint_again ts x c vs e in
    record { tree = trees.Constrains s.tree; spelled = grammar.constraint s.spelled; same = ap trees.Constrains s.same }
dependency_again _ _ _ (grammar.term {ts = ts} {x = x} t) vs e =
    let s : Spelt IsSum bare_term vs x = (term_again x).sum vs e in
    record { tree = trees.Counts s.tree; spelled = grammar.term s.spelled; same = ap trees.Counts s.same }

pub spelled_again : (kind : Kind) (text : List ℕ) (tree : Dependency) → Spells kind text tree
    → (again : Dependency) × Spells kind (canonical_text tree) again × (bare again ≡ bare tree)
spelled_again kind text tree x =
    let good : list_all (λ t. is_lexeme t.lexeme) x.tokens ≡ true = tokens_good text x.tokens x.cut in
    let simple : Simplified x.tokens (dependency_lexemes tree) = dependency_simplified kind x.tokens tree x.spelled in
    let cut : (tokens : List Token) × (tokens_of (text_of (dependency_lexemes tree)) ≡ Ok tokens)
    × (map (λ token. token.lexeme) tokens ≡ dependency_lexemes tree) =
    texts_again (dependency_lexemes tree) (simplified_lexemes x.tokens (dependency_lexemes tree) simple good) in
    let kept : Simplified x.tokens (seen cut.0) = subst (λ z. Simplified x.tokens z) (sym cut.2) simple in
    let s : Spelt (IsDependency kind) bare cut.0 tree = dependency_again kind x.tokens tree x.spelled cut.0 cut.2 in (
      s.tree,
      record {
        tokens = cut.0;
        cut = cut.1;
        short = simplified_short x.tokens cut.0 kept x.short;
        shallow = simplified_shallow x.tokens cut.0 kept good x.shallow;
        spelled = s.spelled;
      },
      s.same,
    )

-- and nothing else
pub spelled_alone : (kind : Kind) (text : List ℕ) (tree again : Dependency) → Spells kind text tree
    → Spells kind (canonical_text tree) again → bare again ≡ bare tree
spelled_alone kind text tree again x y =
    let p : (other : Dependency) × Spells kind (canonical_text tree) other × (bare other ≡ bare tree)
    = spelled_again kind text tree x in
    ap bare (one_tree kind (canonical_text tree) again p.0 y p.1) ∙ p.2
