-- Of which instance an operand names a characteristic, seen from where its dependency stands.
use Rattle.std.specs.Prelude.{ℕ, Bool, List, [], position, Option, None, Some}
use Rattle.std.specs.List.{list_any}
use Rattle.std.specs.Str.{bytes_eq}
use Rattle.vc_syntax_tree.specs.Trees.{Dependency, Precondition, Selection, Procedure, Constrains, Counts}
use Rattle.vc_syntax_tree.specs.declared.Object.{Object}
use Rattle.vc_syntax_tree.specs.declared.Operand.{Operand}
use Rattle.vc_syntax_tree.specs.declared.Operand.TheVariants as operands
use Rattle.vc_syntax_tree.specs.declared.Owner.{Owner}
use Rattle.vc_syntax_tree.specs.declared.Owner.TheVariants as owners
use Rattle.vc_types.specs.declared.place.At.{At}
use Rattle.vc_types.specs.declared.place.At.TheVariants as at
use Rattle.vc_types_dependency.specs.declared.instances.Instance.{Instance}
use Rattle.vc_types_dependency.specs.declared.instances.Instance.TheVariants as instances

-- the objects of a constraint; no other dependency has any
abbrev pub objects_of : Dependency → List Object
objects_of (Precondition condition) = []
objects_of (Selection condition) = []
objects_of (Procedure statements) = []
objects_of (Constrains constraint) = constraint.objects
objects_of (Counts term) = []

-- whether the `?` variable is the object's own, or stands for one of its characteristics
abbrev pub is_called : List ℕ → Object → Bool
is_called name object = bytes_eq object.variable.name name

abbrev pub has_alias : List ℕ → Object → Bool
has_alias name object = list_any (λ alias. bytes_eq alias.variable.name name) object.aliases

abbrev pub of_object : Option ℕ → Instance
of_object None = instances.Undeclared
of_object (Some n) = instances.Object n

-- the superior of the instance where it stands; a line is its owner's, which is the superior of its component
abbrev pub superior_at : At → Instance
superior_at at.Constraint = instances.Superior
superior_at at.Characteristic = instances.Superior
superior_at at.Procedure = instances.Superior
superior_at (at.Line configurable) = instances.Own
superior_at at.Operation = instances.Superior

abbrev pub of_owner : At → Owner → Instance
of_owner place owners.Itself = instances.Own
of_owner place owners.Parent = superior_at place
of_owner place owners.Root = instances.Root

abbrev pub instance_of : At → List Object → Operand → Instance
instance_of place objects (operands.Plain leaf) = instances.Own
instance_of place objects (operands.Owned owner leaf) = of_owner place owner
instance_of place objects (operands.Member variable leaf) = of_object (position (is_called variable.name) objects)
instance_of place objects (operands.Variable leaf) = of_object (position (has_alias leaf.name) objects)
