-- The canonical lexemes of whole dependencies, and their canonical text.
use Rattle.std.specs.Prelude.{ℕ, List}
use Rattle.vc_syntax_tokens.specs.declared.token.Lexeme.{Lexeme}
use Rattle.vc_syntax_tokens.specs.declared.token.Sign.TheVariants as signs
use Rattle.vc_syntax_tokens.specs.Texts.{text_of}
use Rattle.vc_syntax_tree.specs.Trees.{Dependency, Precondition, Selection, Procedure, Constrains, Counts}
use Rattle.vc_syntax_print.specs.TermLexemes.{term_lexemes}
use Rattle.vc_syntax_print.specs.ConditionLexemes.{separated, condition_lexemes}
use Rattle.vc_syntax_print.specs.StatementLexemes.{statement_lexemes}
use Rattle.vc_syntax_print.specs.ConstraintLexemes.{constraint_lexemes}

abbrev pub dependency_lexemes : Dependency → List Lexeme
dependency_lexemes (Precondition condition) = condition_lexemes condition
dependency_lexemes (Selection condition) = condition_lexemes condition
dependency_lexemes (Procedure statements) = separated signs.Comma statement_lexemes statements
dependency_lexemes (Constrains constraint) = constraint_lexemes constraint
dependency_lexemes (Counts term) = term_lexemes term

abbrev pub canonical_text : Dependency → List ℕ
canonical_text dependency = text_of (dependency_lexemes dependency)
