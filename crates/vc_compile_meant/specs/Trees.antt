-- What of a model's trees its plan rests on.
use Rattle.std.specs.Prelude.{◌≡◌, Bool, true, nat_lt, length}
use Rattle.std.specs.List.{list_all}
use Rattle.vc_model_parts.specs.declared.parts.Model.{Model}
use Rattle.vc_syntax_tree.specs.Trees.{Constrains, Counts, Dependency, Precondition, Procedure, Selection}
use Rattle.vc_syntax_tree.specs.Trees.{dependency_of}

-- whether a constraint speaks of some object
abbrev pub has_objects : Dependency → Bool
has_objects (Precondition condition) = true
has_objects (Selection condition) = true
has_objects (Procedure statements) = true
has_objects (Constrains constraint) = nat_lt 0 (length constraint.objects)
has_objects (Counts term) = true

pub record KeepsObjects (model : Model) : Type 0 where
  pub objects : list_all (λ named. has_objects (dependency_of named.tree)) model.dependencies ≡ true
