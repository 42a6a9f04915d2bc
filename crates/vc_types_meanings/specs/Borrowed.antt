-- The tree of a dependency, wherever its parts are kept.
use Rattle.std.specs.Prelude.{map}
use Rattle.vc_syntax_tree.specs.Trees.{Dependency, Precondition, Selection, Procedure, Constrains, Counts}
use Rattle.vc_syntax_tree.specs.Trees.{condition_of, constraint_of, statement_of, term_of}
use Rattle.vc_types_meanings.specs.declared.tree.Tree.{Tree}
use Rattle.vc_types_meanings.specs.declared.tree.Tree.TheVariants as trees

abbrev pub tree_of : Tree → Dependency
tree_of (trees.Precondition condition) = Precondition (condition_of condition.now)
tree_of (trees.Selection condition) = Selection (condition_of condition.now)
tree_of (trees.Procedure statements) = Procedure (map statement_of statements.now)
tree_of (trees.Constraint constraint) = Constrains (constraint_of constraint.now)
tree_of (trees.Term term) = Counts (term_of term.now)
