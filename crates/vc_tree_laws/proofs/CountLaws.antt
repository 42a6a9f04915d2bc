-- What the lines and the operations of a model count are terms that some text spells.
use Rattle.std.proofs.Common.{◌≡◌, ℕ, ◌+◌, Bool, true, List, [], ◌∷◌, Option, Some, None, Result, refl}
use Rattle.std.specs.Prelude.{option_map}
use Rattle.std.specs.List.{list_all}
use Rattle.std.specs.Result.{result_ok}
use Rattle.vc_syntax_tokens.specs.declared.fault.Kind.{Kind}
use Rattle.vc_syntax_tokens.specs.declared.fault.Kind.TheVariants as kinds
use Rattle.vc_syntax_tokens.specs.declared.fault.SyntaxFault.{SyntaxFault}
use Rattle.vc_syntax_tree.specs.Trees.{Constrains, Counts, Dependency, Precondition, Procedure, Selection, Term}
use Rattle.vc_syntax.specs.DependencyTexts.{dependency_in}
use Rattle.vc_syntax.proofs.SpelledLaws as ways
use Rattle.vc_syntax.proofs.SpelledLaws.{Found, found}
use Rattle.vc_model_lines.specs.declared.line.BillLine.{BillLine}
use Rattle.vc_model_lines.specs.declared.line.Line.{Line}
use Rattle.vc_model_lines.specs.declared.line.Line.TheVariants as lines
use Rattle.vc_model_lines.specs.declared.line.OperationLine.{OperationLine}
use Rattle.vc_model_scope.specs.Scope.{scope_of}
use Rattle.vc_model_scope.specs.Stands.{opens}
use Rattle.vc_model_scope.specs.declared.scope.Scope.{Scope}
use Rattle.vc_model_faults.specs.First.{backwards}
use Rattle.vc_model_faults.specs.Readings.{count_reading, reading, term_in, term_in_tree, term_read, tree_in}
use Rattle.vc_model_drafts.specs.Models.{item_at, model_of, object_at, operation_at}
use Rattle.vc_model_drafts.specs.Seen.{SeenItem, SeenOperation}
use Rattle.vc_model_laws.specs.Laws.{SpelledKeeps}
use Rattle.vc_model_laws.proofs.Holding.{each}
use Rattle.vc_model_laws.proofs.LineCases.{at_object, item_made, operation_made}
use Rattle.vc_model_laws.proofs.NamesLaws.{made}
use Rattle.vc_model_laws.proofs.Walks.{Sound, each_said}
use Rattle.vc_model_laws.proofs.SpelledLaws.{spelled}
use Rattle.vc_tree_laws.specs.Spelled.{IsSpelled, KeepsCounts}

-- what is read as a term is one that a text spells
module _ (test : Dependency → Bool) (holds : (tree : Dependency) → IsSpelled tree → test tree ≡ true) where
  abbrev AllCount : Option Term → Type 0
  AllCount o = each (λ t. test (Counts t)) o ≡ true

  tree_counts : (tree : Dependency) → IsSpelled tree → AllCount (term_in_tree (Some tree))
  tree_counts (Counts term) h = holds (Counts term) h
  tree_counts (Precondition condition) h = refl
  tree_counts (Selection condition) h = refl
  tree_counts (Procedure statements) h = refl
  tree_counts (Constrains constraint) h = refl

  found_counts : (kind : Kind) (text : List ℕ) (r : Result Dependency SyntaxFault) → Found kind text r
      → AllCount (term_in_tree (result_ok r))
  found_counts kind text _ (ways.tree {t = tree} spells) = tree_counts tree
      (record { kind = kind; text = text; spells = spells })
  found_counts kind text _ (ways.fault fault) = refl
  found_counts kind text _ ways.memory = refl

  text_counts : (text : List ℕ) → AllCount (term_in text)
  unfolding tree_in
  text_counts text = found_counts kinds.Term text (dependency_in kinds.Term text) (found kinds.Term text)

  read_counts : (o : Option Term) → AllCount o → AllCount (term_read (Some (count_reading o)))
  read_counts None h = refl
  read_counts (Some term) h = h

  item_counts : (a : Scope) (n : ℕ) (x : BillLine) (below : List Line) (o : Option Term) → AllCount o
      → each (λ item. test (Counts item.quantity)) (option_map (item_made a n x below) o) ≡ true
  item_counts a n x below None h = refl
  item_counts a n x below (Some term) h = h

  operation_counts : (a : Scope) (n : ℕ) (x : OperationLine) (below : List Line) (o : Option Term) → AllCount o
      → each (λ operation. test (Counts operation.time)) (option_map (operation_made a n x below) o) ≡ true
  operation_counts a n x below None h = refl
  operation_counts a n x below (Some term) h = h

  bill_counts : (a : Scope) (n : ℕ) (x : BillLine) (below : List Line)
      → each (λ item. test (Counts item.quantity))
      (option_map (item_made a n x below) (term_read (reading (lines.Bill x) below))) ≡ true
  unfolding reading
  bill_counts a n x below =
      item_counts a n x below (term_read (Some (count_reading (term_in x.quantity))))
      (read_counts (term_in x.quantity) (text_counts x.quantity))

  routing_counts : (a : Scope) (n : ℕ) (x : OperationLine) (below : List Line)
      → each (λ operation. test (Counts operation.time))
      (option_map (operation_made a n x below) (term_read (reading (lines.Operation x) below))) ≡ true
  unfolding reading
  routing_counts a n x below =
      operation_counts a n x below (term_read (Some (count_reading (term_in x.time))))
      (read_counts (term_in x.time) (text_counts x.time))

  items_at : (a : Scope) (n : ℕ) (line : Line) (below : List Line)
      → each (λ item. test (Counts item.quantity)) (item_at a n line below) ≡ true
  items_at a n lines.Skipped below = refl
  items_at a n (lines.Inner x) below = refl
  items_at a n lines.LongInner below = refl
  items_at a n lines.End below = refl
  items_at a n (lines.TooLong x) below = refl
  items_at a n (lines.NoForm x) below = refl
  items_at a n (lines.Head x) below = refl
  items_at a n (lines.Char x) below = refl
  items_at a n (lines.Num x) below = refl
  items_at a n (lines.Text x) below = refl
  items_at a n (lines.Interval x) below = refl
  items_at a n (lines.Uses x) below = refl
  items_at a n (lines.Class x) below = refl
  items_at a n (lines.Has x) below = refl
  items_at a n (lines.Table x) below = refl
  items_at a n (lines.Column x) below = refl
  items_at a n (lines.Net x) below = refl
  items_at a n (lines.Object x) below = refl
  items_at a n (lines.Bill x) below = bill_counts a n x below
  items_at a n (lines.Operation x) below = refl
  items_at a n (lines.Block x) below = refl
  items_at a n (lines.Root x) below = refl
  items_at a n lines.Action below = refl

  operations_at : (a : Scope) (n : ℕ) (line : Line) (below : List Line)
      → each (λ operation. test (Counts operation.time)) (operation_at a n line below) ≡ true
  operations_at a n lines.Skipped below = refl
  operations_at a n (lines.Inner x) below = refl
  operations_at a n lines.LongInner below = refl
  operations_at a n lines.End below = refl
  operations_at a n (lines.TooLong x) below = refl
  operations_at a n (lines.NoForm x) below = refl
  operations_at a n (lines.Head x) below = refl
  operations_at a n (lines.Char x) below = refl
  operations_at a n (lines.Num x) below = refl
  operations_at a n (lines.Text x) below = refl
  operations_at a n (lines.Interval x) below = refl
  operations_at a n (lines.Uses x) below = refl
  operations_at a n (lines.Class x) below = refl
  operations_at a n (lines.Has x) below = refl
  operations_at a n (lines.Table x) below = refl
  operations_at a n (lines.Column x) below = refl
  operations_at a n (lines.Net x) below = refl
  operations_at a n (lines.Object x) below = refl
  operations_at a n (lines.Bill x) below = refl
  operations_at a n (lines.Operation x) below = routing_counts a n x below
  operations_at a n (lines.Block x) below = refl
  operations_at a n (lines.Root x) below = refl
  operations_at a n lines.Action below = refl

  -- so in each object
  all_quantities : (ls : List Line) → Sound [] ls
      → list_all (λ object. list_all (λ item. test (Counts item.quantity)) object.bill) (model_of ls).objects ≡ true
  all_quantities ls s =
      let all = backwards [] ls in
      let a = scope_of (backwards [] ls) in
      let passes : SeenItem → Bool = λ item. test (Counts item.quantity) in
      made (object_at a) (λ object. list_all (λ item. test (Counts item.quantity)) object.bill) ls s
      (λ e n line below p. at_object all e a n line below
      (λ object. list_all (λ item. test (Counts item.quantity)) object.bill)
      (λ x q. each_said opens (item_at a) passes all (λ e n line below p. items_at a n line below) (lines.Object x ∷ e)
      (n + 1) below
      q.after q.all_are) p)

  all_times : (ls : List Line) → Sound [] ls
      → list_all (λ object. list_all (λ operation. test (Counts operation.time)) object.operations)
      (model_of ls).objects ≡ true
  all_times ls s =
      let all = backwards [] ls in
      let a = scope_of (backwards [] ls) in
      let passes : SeenOperation → Bool = λ operation. test (Counts operation.time) in
      made (object_at a) (λ object. list_all (λ operation. test (Counts operation.time)) object.operations) ls s
      (λ e n line below p. at_object all e a n line below
      (λ object. list_all (λ operation. test (Counts operation.time)) object.operations)
      (λ x q. each_said opens (operation_at a) passes all (λ e n line below p. operations_at a n line below)
      (lines.Object x ∷ e) (n + 1)
      below q.after q.all_are) p)

pub spelled_keeps_counts : SpelledKeeps KeepsCounts
spelled_keeps_counts =
    spelled KeepsCounts
    (λ ls s. record {
      quantities = λ test holds. all_quantities test holds ls s;
      times =
          λ test holds. all_times test holds ls s;
    })
