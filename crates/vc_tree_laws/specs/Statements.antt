-- The procedures of a model are no longer than dependencies may be.
use Rattle.std.specs.Prelude.{◌≡◌, ℕ, true, nat_le, length}
use Rattle.std.specs.List.{list_all}
use Rattle.vc_syntax_tree.specs.Trees.{Dependency, Procedure}
use Rattle.vc_model_drafts.specs.Seen.{SeenModel}

-- how many statements a procedure has
abbrev pub statements_in : Dependency → ℕ
statements_in (Procedure statements) = length statements
statements_in tree = 0

-- as a dependency has at most 4,000 tokens
pub record KeepsStatements (model : SeenModel) : Type 0 where
  pub statements : list_all (λ dependency. nat_le (statements_in dependency.tree) 4_001) model.dependencies ≡ true
