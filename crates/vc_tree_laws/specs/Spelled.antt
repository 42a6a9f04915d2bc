-- Each dependency of a model is a tree that some text spells, and so is what each line and each operation counts.
use Rattle.std.specs.Prelude.{◌≡◌, ℕ, Bool, true, List}
use Rattle.std.specs.List.{list_all}
use Rattle.vc_syntax_tokens.specs.declared.fault.Kind.{Kind}
use Rattle.vc_syntax_tree.specs.Trees.{Counts, Dependency}
use Rattle.vc_syntax.specs.Spelled.{Spells}
use Rattle.vc_model_drafts.specs.Seen.{SeenModel}

-- some text spells it as a dependency of some kind
pub record IsSpelled (tree : Dependency) : Type 0 where
  pub kind : Kind
  pub text : List ℕ
  pub spells : Spells kind text tree

-- what holds of each tree that some text spells holds of each dependency of the model
pub record KeepsTrees (model : SeenModel) : Type 0 where
  pub trees : (test : Dependency → Bool) → ((tree : Dependency) → IsSpelled tree → test tree ≡ true)
      → list_all (λ dependency. test dependency.tree) model.dependencies ≡ true

-- and of what each line and each operation counts
pub record KeepsCounts (model : SeenModel) : Type 0 where
  pub quantities : (test : Dependency → Bool) → ((tree : Dependency) → IsSpelled tree → test tree ≡ true)
      → list_all (λ object. list_all (λ item. test (Counts item.quantity)) object.bill) model.objects ≡ true
  pub times : (test : Dependency → Bool) → ((tree : Dependency) → IsSpelled tree → test tree ≡ true)
      → list_all (λ object. list_all (λ operation. test (Counts operation.time)) object.operations) model.objects ≡ true
