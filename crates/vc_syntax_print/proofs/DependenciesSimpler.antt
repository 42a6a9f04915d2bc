-- The canonical lexemes of a dependency are the simpler ones of each text that spells it.
use Rattle.std.proofs.Common.{true, List, refl}
use Rattle.vc_syntax_tokens.specs.declared.token.Token.{Token}
use Rattle.vc_syntax_tokens.specs.declared.token.Sign.TheVariants as signs
use Rattle.vc_syntax_tokens.specs.declared.fault.Kind.{Kind}
use Rattle.vc_syntax.specs.StatementGrammar.{IsStatement}
use Rattle.vc_syntax.specs.DependencyGrammar as grammar
use Rattle.vc_syntax.specs.DependencyGrammar.{IsDependency}
use Rattle.vc_syntax_tree.specs.Trees.{Dependency}
use Rattle.vc_syntax_print.specs.StatementLexemes.{statement_lexemes}
use Rattle.vc_syntax_print.specs.DependencyLexemes.{dependency_lexemes}
use Rattle.vc_syntax_print.proofs.Simplified.{Simplified, simplified_before, simplified, simplified_sections}
use Rattle.vc_syntax_print.proofs.TermsSimpler.{sum_simpler}
use Rattle.vc_syntax_print.proofs.ConditionsSimpler.{condition_simpler}
use Rattle.vc_syntax_print.proofs.ListsSimpler.{listed_simpler}
use Rattle.vc_syntax_print.proofs.StatementsSimpler.{statement_simpler}
use Rattle.vc_syntax_print.proofs.ConstraintsSimpler.{constraint_simpler}

pub dependency_simplified : (kind : Kind) (ts : List Token) (tree : Dependency) → IsDependency kind ts tree
    → Simplified ts (dependency_lexemes tree)
dependency_simplified _ _ _ (grammar.precondition ts us {x = x} c s) =
    simplified_before true ts _ (condition_simpler ts x c) us
dependency_simplified _ _ _ (grammar.selection ts us {x = x} c s) =
    simplified_before true ts _ (condition_simpler ts x c) us
dependency_simplified _ _ _ (grammar.procedure ts us {xs = xs} l s) =
    simplified_before true ts _
    (listed_simpler true signs.Comma IsStatement statement_lexemes refl refl statement_simpler ts xs l) us
dependency_simplified _ _ _ (grammar.constraint {ts = ts} {x = x} c) =
    simplified_sections ts _ (constraint_simpler ts x c)
dependency_simplified _ _ _ (grammar.term {ts = ts} {x = x} t) = simplified true ts _ (sum_simpler ts x t)
