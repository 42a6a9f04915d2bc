-- What each tree of a model passes, whether a dependency or what a line or an operation counts.
use Rattle.std.specs.Prelude.{◌≡◌, Bool, true}
use Rattle.std.specs.List.{list_all}
use Rattle.vc_model_parts.specs.declared.parts.Model.{Model}
use Rattle.vc_syntax_tree.specs.Trees.{Counts, Dependency, dependency_of, term_of}

pub record TreesPass (test : Dependency → Bool) (model : Model) : Type 0 where
  pub dependencies : list_all (λ named. test (dependency_of named.tree)) model.dependencies ≡ true
  pub quantities :
      list_all (λ object. list_all (λ item. test (Counts
      (term_of item.quantity.value))) object.bill) model.objects ≡ true
  pub times :
      list_all (λ object. list_all (λ operation. test
      (Counts (term_of operation.time.value))) object.operations) model.objects
      ≡ true
