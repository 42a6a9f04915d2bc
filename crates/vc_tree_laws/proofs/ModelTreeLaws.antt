-- Blocks are UTF-8 where a text is, so the texts in a model's dependencies are texts; and their statements are few.
use Rattle.std.proofs.Common.{◌≡◌, ℕ, zero, suc, Bool, true, List, [], ◌∷◌, Option, Some, None}
use Rattle.std.proofs.Common.{IsUtf8, Result, refl, arith}
use Rattle.std.specs.Prelude.{option_map}
use Rattle.std.specs.Result.{result_ok}
use Rattle.std.specs.List.{list_all}
use Rattle.std.specs.Str.{IsAscii}
use Rattle.std.proofs.lemmas.Str.{IsUtf8-append, IsUtf8-nil, IsUtf8-from_ascii, IsUtf8-from_is_utf8}
use Rattle.vc_syntax_tokens.specs.declared.fault.Kind.{Kind}
use Rattle.vc_syntax_tokens.specs.declared.fault.SyntaxFault.{SyntaxFault}
use Rattle.vc_syntax_tree.specs.Trees.{Dependency}
use Rattle.vc_syntax.specs.DependencyTexts.{dependency_in}
use Rattle.vc_syntax.proofs.SpelledLaws as ways
use Rattle.vc_syntax.proofs.SpelledLaws.{Found, found}
use Rattle.vc_model_lines.specs.declared.line.Line.{Line}
use Rattle.vc_model_lines.specs.declared.line.Line.TheVariants as lines
use Rattle.vc_model_lines.specs.declared.line.BlockLine.{BlockLine}
use Rattle.vc_model_scope.specs.LookAhead.{inner_of, more_with, more_text, text_with, block_text}
use Rattle.vc_model_scope.specs.Scope.{scope_of}
use Rattle.vc_model_scope.specs.declared.scope.Scope.{Scope}
use Rattle.vc_model_faults.specs.First.{backwards}
use Rattle.vc_model_faults.specs.Readings.{dependency_reading, dependency_read, reading, tree_in}
use Rattle.vc_model_drafts.specs.Models.{dependency_at, model_of}
use Rattle.vc_compile_plan.specs.Texts.{texts_in}
use Rattle.vc_model_laws.specs.Laws.{SpelledKeeps}
use Rattle.vc_model_laws.proofs.LineCases.{dependency_made}
use Rattle.vc_model_laws.proofs.Holding.{each}
use Rattle.vc_model_laws.proofs.LineForms.{is_formed}
use Rattle.vc_model_laws.proofs.NamesLaws.{made}
use Rattle.vc_model_laws.proofs.Walks.{Sound, Stands}
use Rattle.std.specs.Prelude.{nat_le}
use Rattle.std.proofs.lemmas.Bool.{le-leb}
use Rattle.vc_model_laws.proofs.SpelledLaws.{spelled}
use Rattle.vc_tree_laws.specs.Literals.{is_literal, KeepsLiterals}
use Rattle.vc_tree_laws.specs.Spelled.{IsSpelled, KeepsTrees}
use Rattle.vc_tree_laws.specs.Statements.{statements_in, KeepsStatements}
use Rattle.vc_tree_laws.proofs.TreeLaws.{GoodTree, Has, text_has}

-- the text of a block
abbrev Text : Option (List ℕ) → Type 0
Text None = Unit {0}
Text (Some text) = IsUtf8 text

line_feed : IsUtf8 (10 ∷ [])
line_feed = IsUtf8-from_ascii (10 ∷ []) low
  where
    low : IsAscii (10 ∷ [])
    low zero = omega arith
    low (suc n) = omega arith

inner_is : (line : Line) → is_formed line ≡ true → Text (inner_of line)
inner_is lines.Skipped h = tt
inner_is (lines.Inner x) h = IsUtf8-from_is_utf8 x h
inner_is lines.LongInner h = tt
inner_is lines.End h = tt
inner_is (lines.TooLong x) h = tt
inner_is (lines.NoForm x) h = tt
inner_is (lines.Head x) h = tt
inner_is (lines.Char x) h = tt
inner_is (lines.Num x) h = tt
inner_is (lines.Text x) h = tt
inner_is (lines.Interval x) h = tt
inner_is (lines.Uses x) h = tt
inner_is (lines.Class x) h = tt
inner_is (lines.Has x) h = tt
inner_is (lines.Table x) h = tt
inner_is (lines.Column x) h = tt
inner_is (lines.Net x) h = tt
inner_is (lines.Object x) h = tt
inner_is (lines.Bill x) h = tt
inner_is (lines.Operation x) h = tt
inner_is (lines.Block x) h = tt
inner_is (lines.Root x) h = tt
inner_is lines.Action h = tt

with_more : (o : Option (List ℕ)) (more : List ℕ) → Text o → IsUtf8 more → IsUtf8 (more_with o more)
with_more None more h m = IsUtf8-nil
with_more (Some text) more h m = IsUtf8-append (10 ∷ text) more (IsUtf8-append (10 ∷ []) text line_feed h) m

with_text : (o : Option (List ℕ)) (more : List ℕ) → Text o → IsUtf8 more → IsUtf8 (text_with o more)
with_text None more h m = IsUtf8-nil
with_text (Some text) more h m = IsUtf8-append text more h m

more_is : (earlier ls : List Line) → Sound earlier ls → IsUtf8 (more_text ls)
more_is earlier [] s = IsUtf8-nil
more_is earlier (line ∷ below) s =
    with_more (inner_of line) (more_text below) (inner_is line s.0.formed) (more_is (line ∷ earlier) below s.1)

block_is : (earlier ls : List Line) → Sound earlier ls → IsUtf8 (block_text ls)
block_is earlier [] s = IsUtf8-nil
block_is earlier (line ∷ below) s =
    with_text (inner_of line) (more_text below) (inner_is line s.0.formed) (more_is (line ∷ earlier) below s.1)

-- a tree that a block reads
abbrev ReadTree : Dependency → Type 0
ReadTree tree = GoodTree tree × IsSpelled tree

-- a dependency that a block reads passes a test of its tree
abbrev Holds : (Dependency → Bool) → Type 0
Holds test = (tree : Dependency) → ReadTree tree → test tree ≡ true

read_has : (test : Dependency → Bool) → Holds test → (n : ℕ) (x : BlockLine) (o : Option Dependency) → Has ReadTree o
    → each (λ d. test d.tree) (option_map (dependency_made n x) (dependency_read (Some (dependency_reading o)))) ≡ true
read_has test holds n x None h = refl
read_has test holds n x (Some tree) h = holds tree h

found_has : (kind : Kind) (text : List ℕ) (r : Result Dependency SyntaxFault) → Found kind text r
    → Has GoodTree (result_ok r) → Has ReadTree (result_ok r)
found_has kind text _ (ways.tree spells) good = (good, record { kind = kind; text = text; spells = spells })
found_has kind text _ (ways.fault fault) good = tt
found_has kind text _ ways.memory good = tt

tree_has : (kind : Kind) (text : List ℕ) → IsUtf8 text → Has ReadTree (tree_in kind text)
unfolding tree_in
tree_has kind text h = found_has kind text (dependency_in kind text) (found kind text) (text_has kind text h)

block_has : (test : Dependency → Bool) → Holds test → (n : ℕ) (x : BlockLine) (below : List Line)
    → IsUtf8 (block_text below)
    → each (λ d. test d.tree) (option_map (dependency_made n x) (dependency_read (reading (lines.Block x) below)))
    ≡ true
unfolding reading
block_has test holds n x below h =
    read_has test holds n x (tree_in x.kind (block_text below)) (tree_has x.kind (block_text below) h)

trees_at : (test : Dependency → Bool) → Holds test
    → (all earlier : List Line) (a : Scope) (n : ℕ) (line : Line) (below : List Line)
    → Stands all earlier line below → each (λ d. test d.tree) (dependency_at a n line below) ≡ true
trees_at test holds all earlier a n lines.Skipped below s = refl
trees_at test holds all earlier a n (lines.Inner x) below s = refl
trees_at test holds all earlier a n lines.LongInner below s = refl
trees_at test holds all earlier a n lines.End below s = refl
trees_at test holds all earlier a n (lines.TooLong x) below s = refl
trees_at test holds all earlier a n (lines.NoForm x) below s = refl
trees_at test holds all earlier a n (lines.Head x) below s = refl
trees_at test holds all earlier a n (lines.Char x) below s = refl
trees_at test holds all earlier a n (lines.Num x) below s = refl
trees_at test holds all earlier a n (lines.Text x) below s = refl
trees_at test holds all earlier a n (lines.Interval x) below s = refl
trees_at test holds all earlier a n (lines.Uses x) below s = refl
trees_at test holds all earlier a n (lines.Class x) below s = refl
trees_at test holds all earlier a n (lines.Has x) below s = refl
trees_at test holds all earlier a n (lines.Table x) below s = refl
trees_at test holds all earlier a n (lines.Column x) below s = refl
trees_at test holds all earlier a n (lines.Net x) below s = refl
trees_at test holds all earlier a n (lines.Object x) below s = refl
trees_at test holds all earlier a n (lines.Bill x) below s = refl
trees_at test holds all earlier a n (lines.Operation x) below s = refl
trees_at test holds all earlier a n (lines.Block x) below s =
    block_has test holds n x below (block_is (lines.Block x ∷ earlier) below s.after)
trees_at test holds all earlier a n (lines.Root x) below s = refl
trees_at test holds all earlier a n lines.Action below s = refl

-- so does each dependency of a model
all_trees : (test : Dependency → Bool) → Holds test → (ls : List Line) → Sound [] ls
    → list_all (λ d. test d.tree) (model_of ls).dependencies ≡ true
all_trees test holds ls s =
    made (dependency_at (scope_of (backwards [] ls))) (λ d. test d.tree) ls s
    (λ e n line below p. trees_at test holds (backwards [] ls) e (scope_of (backwards [] ls)) n line below p)

pub spelled_keeps_literals : SpelledKeeps KeepsLiterals
spelled_keeps_literals =
    spelled KeepsLiterals
    (λ ls s. record { literals = all_trees (λ tree. list_all is_literal (texts_in tree)) (λ tree read. read.0.0) ls s })

pub spelled_keeps_statements : SpelledKeeps KeepsStatements
spelled_keeps_statements =
    spelled KeepsStatements
    (λ ls s. record {
      statements = all_trees (λ tree. nat_le (statements_in tree) 4_001)
          (λ tree read. le-leb (statements_in tree) 4_001 read.0.1) ls s;
    })

pub spelled_keeps_trees : SpelledKeeps KeepsTrees
spelled_keeps_trees =
    spelled KeepsTrees
    (λ ls s. record { trees = λ test holds. all_trees test (λ tree read. holds tree read.1) ls s })
