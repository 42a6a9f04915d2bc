-- What stands twice in a dependency, from its lists.
use Rattle.std.proofs.Common.{◌≡◌, Bool, true, false, ◌||◌, List, map, flat_map, refl, sym, ap, ◌∙◌}
use Rattle.std.specs.List.{list_any}
use Rattle.vc_model_parts.specs.declared.parts.Model.{Model}
use Rattle.vc_syntax_tree.specs.declared.Object.{Object}
use Rattle.vc_syntax_tree.specs.Trees.{Dependency, Precondition, Selection, Procedure, Constrains, Counts, TableCall}
use Rattle.vc_types.specs.Meanings.{variables_of}
use Rattle.vc_types.specs.NameFaults.{double_name, names_column_twice, objects_in, some_twice}
use Rattle.vc_types.specs.Occurrences.{calls_in}
use Rattle.vc_types.specs.Settings.{Setting, variables_in}
use Rattle.vc_types_dependency.specs.DeclaredNames.{declared_names}
use Rattle.vc_types_dependency.proofs.TwiceLemmas.{names_declared}

variables_are : (model : Model) (dependency : Dependency)
    → variables_of model (objects_in dependency) ≡ variables_in model dependency
variables_are model (Precondition condition) = refl
variables_are model (Selection condition) = refl
variables_are model (Procedure statements) = refl
variables_are model (Constrains constraint) = refl
variables_are model (Counts term) = refl

pub double_is : (setting : Setting) (dependency : Dependency) (objects : List Object) (calls : List TableCall)
    (declared named : Bool)
    → setting.variables ≡ variables_in setting.model dependency
    → declared ≡ some_twice (flat_map declared_names objects) → objects ≡ objects_in dependency
    → named ≡ list_any names_column_twice calls → calls ≡ calls_in dependency
    → (declared || named) ≡ double_name setting dependency
double_is setting dependency objects calls declared named variables is_declared are_objects is_named are_calls =
    ap (λ b. b || named)
    (is_declared ∙ ap (λ os. some_twice (flat_map declared_names os)) are_objects
    ∙ ap some_twice (names_declared setting.model (objects_in dependency))
    ∙ ap (λ vs. some_twice (map (λ v. v.name) vs)) (variables_are setting.model dependency ∙ sym variables))
    ∙ ap (λ b. some_twice (map (λ v. v.name) setting.variables) || b)
    (is_named ∙ ap (list_any names_column_twice) are_calls)

pub or_then : (a b : Bool) → a ≡ true → a ≡ (a || b)
or_then true b is = refl
or_then false b is = absurd (cc is)

pub or_else : (a b : Bool) → a ≡ false → b ≡ (a || b)
or_else true b is = absurd (cc is)
or_else false b is = refl
