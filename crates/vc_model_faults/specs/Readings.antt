-- What the blocks and terms of a text are read as.
use Rattle.std.specs.Prelude.{ℕ, Bool, true, false, List, map, Option, Some, None}
use Rattle.std.specs.Result.{result_ok}
use Rattle.vc_model_lines.specs.declared.line.Line.{Line}
use Rattle.vc_model_lines.specs.declared.line.Line.TheVariants as lines
use Rattle.vc_model_faults.specs.declared.readings.Reading.{Reading as StoredReading}
use Rattle.vc_model_faults.specs.declared.readings.Reading.TheVariants as stored
use Rattle.vc_model_scope.specs.LookAhead.{block_text}
use Rattle.vc_syntax_tokens.specs.declared.fault.Kind.{Kind}
use Rattle.vc_syntax_tokens.specs.declared.fault.Kind.TheVariants as kinds
use Rattle.vc_syntax.specs.DependencyTexts.{dependency_in}
use Rattle.vc_syntax_tree.specs.Trees as trees
use Rattle.vc_syntax_tree.specs.Trees.{Dependency, Term, dependency_of, term_of}

-- what a block's text or a term is read as, without the places of nodes in memory
pub data Reading : Type 0 where
  Depends : Dependency → Reading
  Counts : Term → Reading
  Unread : Reading

-- the readings that are kept in memory
unfoldable pub seen_reading : StoredReading → Reading
seen_reading (stored.Dependency dependency) = Depends (dependency_of dependency)
seen_reading (stored.Term term) = Counts (term_of term.value)
seen_reading stored.Unread = Unread

unfoldable pub seen_readings : List StoredReading → List Reading
seen_readings readings = map seen_reading readings

-- the tree that a text spells as a dependency of a kind, if it spells one
unfoldable pub tree_in : Kind → List ℕ → Option Dependency
tree_in kind text = result_ok (dependency_in kind text)

abbrev pub term_in_tree : Option Dependency → Option Term
term_in_tree (Some (trees.Counts term)) = Some term
term_in_tree other = None

-- the term that a text spells, if it spells one
abbrev pub term_in : List ℕ → Option Term
term_in text = term_in_tree (tree_in kinds.Term text)

abbrev pub dependency_reading : Option Dependency → Reading
dependency_reading None = Unread
dependency_reading (Some tree) = Depends tree

abbrev pub count_reading : Option Term → Reading
count_reading None = Unread
count_reading (Some term) = Counts term

-- what a block of a kind, or a term, is read as
abbrev pub block_reading : Kind → List ℕ → Reading
block_reading kind text = dependency_reading (tree_in kind text)

abbrev pub term_reading : List ℕ → Reading
term_reading text = count_reading (term_in text)

-- for a block that of its text, for a line of a bill or an operation that of its term; other lines read nothing
unfoldable pub reading : Line → List Line → Option Reading
reading (lines.Block block) after = Some (block_reading block.kind (block_text after))
reading (lines.Bill bill) after = Some (term_reading bill.quantity)
reading (lines.Operation operation) after = Some (term_reading operation.time)
reading line after = None

-- the dependency or the term that a line reads, if it reads one
abbrev pub dependency_read : Option Reading → Option Dependency
dependency_read (Some (Depends tree)) = Some tree
dependency_read other = None

abbrev pub term_read : Option Reading → Option Term
term_read (Some (Counts term)) = Some term
term_read other = None

abbrev pub tells_unread : Option Reading → Bool
tells_unread (Some Unread) = true
tells_unread other = false

-- the block's text or the term is none of the dependency language
unfoldable pub is_unread : Line → List Line → Bool
is_unread line after = tells_unread (reading line after)
