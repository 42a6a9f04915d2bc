-- What passes of each tree that some text spells passes of each tree of a model that some text spells.
use Rattle.std.proofs.Common.{◌≡◌, ℕ, Bool, true, List, map, sym, ◌∙◌}
use Rattle.std.specs.List.{list_all}
use Rattle.std.proofs.lemmas.List.Folds.{list_all-map}
use Rattle.vc_model.specs.Spelled.{Spells}
use Rattle.vc_model_drafts.specs.Seen.{seen_dependency, seen_item, seen_model, seen_object, seen_operation}
use Rattle.vc_model_parts.specs.declared.parts.Model.{Model}
use Rattle.vc_syntax_tree.specs.Trees.{Counts, Dependency, term_of}
use Rattle.vc_tree_laws.specs.Spelled.{IsSpelled}
use Rattle.vc_tree_laws.proofs.CountLaws.{spelled_keeps_counts}
use Rattle.vc_tree_laws.proofs.ModelTreeLaws.{spelled_keeps_trees}
use Rattle.vc_compile_valid.proofs.ListLaws.{weaker}
use Rattle.vc_compile_origins.specs.Trees.{TreesPass}
use Rattle.vc_compile_ranges.specs.Numbers.{KeepsNumbers, has_stored_numbers}
use Rattle.vc_compile_laws.proofs.NumberLaws.{spelled_stores}

pub trees_pass : (test : Dependency → Bool) → ((tree : Dependency) → IsSpelled tree → test tree ≡ true)
    → (text : List ℕ) (model : Model)
    → Spells text (seen_model model) → TreesPass test model
trees_pass test holds text model spells =
    let counts = spelled_keeps_counts text (seen_model model) spells in
    record {
      dependencies = sym (list_all-map (λ dependency. test dependency.tree) seen_dependency model.dependencies)
          ∙ (spelled_keeps_trees text (seen_model model) spells).trees test holds;
      quantities = weaker (λ object. list_all (λ item. test (Counts item.quantity)) (map seen_item object.bill))
          (λ object. list_all (λ item. test (Counts (term_of item.quantity.value))) object.bill) model.objects
          (λ object h. sym (list_all-map (λ item. test (Counts item.quantity)) seen_item object.bill) ∙ h)
          (sym (list_all-map (λ object. list_all (λ item. test
          (Counts item.quantity)) object.bill) seen_object model.objects)
          ∙ counts.quantities test holds);
      times = weaker (λ object. list_all (λ operation. test (Counts operation.time))
          (map seen_operation object.operations))
          (λ object. list_all (λ operation. test (Counts
          (term_of operation.time.value))) object.operations) model.objects
          (λ object h. sym (list_all-map (λ operation. test (Counts operation.time)) seen_operation object.operations)
          ∙ h)
          (sym (list_all-map (λ object. list_all (λ operation. test
          (Counts operation.time)) object.operations) seen_object model.objects)
          ∙ counts.times test holds);
    }

-- its numbers have at most nine digits before the point
pub keeps_numbers : (text : List ℕ) (model : Model) → Spells text (seen_model model) → KeepsNumbers model
keeps_numbers text model spells = trees_pass has_stored_numbers spelled_stores text model spells
