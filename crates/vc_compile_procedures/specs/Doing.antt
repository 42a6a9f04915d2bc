-- Statements and their terms, with numbers.
use Rattle.std.specs.Prelude.{◌≡◌, List, length, map}
use Rattle.vc_plan.specs.declared.procedures.Action as doing
use Rattle.vc_plan.specs.declared.procedures.KeyTerm.{KeyTerm}
use Rattle.vc_compile_plan.specs.Numbering.{action_from, action_terms, keys_from}
use Rattle.vc_compile_plan.specs.Procedures.{Action, KeyDraft}
use Rattle.vc_compile_numbering.specs.declared.trees.Trees.{Trees}
use Rattle.vc_compile_numbering.specs.Growing.{Kept, Numbered, kept, with_terms}

-- keys whose terms come behind the others, each with the number of its term
pub record AreKeys (before : Kept) (drafts : List KeyDraft) (numbered : List KeyTerm) (after : Kept) : Type 0 where
  pub keys : numbered ≡ keys_from (length before.terms) drafts
  pub kept : after ≡ with_terms before (map (λ key. key.term) drafts)

-- what a statement does, whose terms come behind the others
pub record IsDone (before : Kept) (draft : Action) (done : doing.Action) (after : Kept) : Type 0 where
  pub action : done ≡ action_from (length before.terms) draft
  pub kept : after ≡ with_terms before (action_terms draft)

-- things apart from the conditions and terms that they have the numbers of
abbrev pub seen_with : {X : Type 0} → Trees → List X → Numbered X
seen_with trees items = record { kept = kept trees; items = items }
