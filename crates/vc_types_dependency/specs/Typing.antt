-- What a typed dependency is, and why one isn't typed.
use Rattle.std.specs.Prelude.{◌≡◌, Option, Some}
use Rattle.vc_model_parts.specs.declared.parts.Model.{Model}
use Rattle.vc_syntax_tree.specs.Trees.{Dependency}
use Rattle.vc_types.specs.Settings.{setting_of}
use Rattle.vc_types.specs.declared.fault.TypeFaultKind.{TypeFaultKind}
use Rattle.vc_types.specs.declared.place.Place.{Place}
use Rattle.vc_types_dependency.specs.declared.typing.TypeFault.{TypeFault}
use Rattle.vc_types_dependency.specs.declared.typing.TypeFault.TheVariants.{Bad, OutOfMemory}
use Rattle.vc_types_dependency.specs.declared.typing.Typed.{Typed}
use Rattle.vc_types_meanings.specs.Borrowed.{tree_of}
use Rattle.vc_types_meanings.specs.Seen.{seen}

-- the dependency, in its setting at the place in the model
pub record IsTyped (model : Model) (place : Place) (dependency : Dependency) (typed : Typed) : Type 0 where
  pub setting : seen typed.setting ≡ setting_of model place dependency
  pub tree : tree_of typed.tree ≡ dependency

-- the least kind that stands, or want of memory
abbrev pub IsTypeFault : Option TypeFaultKind → TypeFault → Type 0
IsTypeFault fault (Bad kind) = fault ≡ Some kind
IsTypeFault fault OutOfMemory = Unit {0}
