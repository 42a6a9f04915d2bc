-- Conditions and terms as they grow, and things that have their numbers.
use Rattle.std.specs.Prelude.{ℕ, List, [], ◌∷◌, ◌++◌, length, map}
use Rattle.vc_compile_plan.specs.Numbering.{Brings}
use Rattle.vc_compile_plan.specs.Trees.{Condition, Term, condition_of, term_of}
use Rattle.vc_compile_numbering.specs.declared.trees.Trees.{Trees}
use Rattle.vc_compile_numbering.specs.declared.numbering.Numbering.{Numbering}

-- conditions and terms, without the places of their nodes in memory
pub record Kept : Type 0 where
  pub conditions : List Condition
  pub terms : List Term

abbrev pub kept : Trees → Kept
kept trees = record { conditions = map condition_of trees.conditions; terms = map term_of trees.terms }

abbrev pub with_conditions : Kept → List Condition → Kept
with_conditions before conditions = record before { conditions = before.conditions ++ conditions }

abbrev pub with_terms : Kept → List Term → Kept
with_terms before terms = record before { terms = before.terms ++ terms }

-- things, with the conditions and terms that have their numbers
pub record Numbered (X : Type 0) : Type 0 where
  pub kept : Kept
  pub items : List X

abbrev pub seen : {X : Type 0} → Numbering X → Numbered X
seen numbering = record { kept = kept numbering.trees; items = numbering.items }

-- a draft more: it brings its conditions and terms, which follow those that are there, and has their numbers
abbrev pub with_draft : {D X : Type 0} → Brings D → (ℕ → ℕ → D → X) → Numbered X → D → Numbered X
with_draft brings make before draft = record {
  kept = with_terms (with_conditions before.kept (brings.conditions draft)) (brings.terms draft);
  items = before.items ++ make (length before.kept.conditions) (length before.kept.terms) draft ∷ [];
}

abbrev pub with_drafts : {D X : Type 0} → Brings D → (ℕ → ℕ → D → X) → Numbered X → List D → Numbered X
with_drafts brings make before [] = before
with_drafts brings make before (draft ∷ drafts) = with_drafts brings make (with_draft brings make before draft) drafts
