-- Of which instance operands name a characteristic: at a line, elsewhere, and in a constraint with two objects.
use Rattle.std.proofs.Common.{◌≡◌, true, false, [], ◌∷◌, refl}
use Rattle.std.specs.Prelude.{codes, List}
use Rattle.vc_syntax_tree.specs.declared.Object.{Object}
use Rattle.vc_syntax_tree.specs.declared.Operand.TheVariants as operands
use Rattle.vc_syntax_tree.specs.declared.Owner.TheVariants.{Itself, Parent, Root}
use Rattle.vc_types.specs.declared.place.At.TheVariants as at
use Rattle.vc_types.proofs.FaultRows.Small.{leaf, plain, owned, member, of_class, of_class_where}
use Rattle.vc_types_dependency.specs.Instances.{instance_of}
use Rattle.vc_types_dependency.specs.declared.instances.Instance.TheVariants as instances

own : instance_of at.Characteristic [] (plain (codes "A")) ≡ instances.Own
own = refl

own_by_name : instance_of at.Procedure [] (owned Itself (codes "A")) ≡ instances.Own
own_by_name = refl

superior : instance_of at.Operation [] (owned Parent (codes "A")) ≡ instances.Superior
superior = refl

owner_of_a_line : instance_of (at.Line true) [] (owned Parent (codes "A")) ≡ instances.Own
owner_of_a_line = refl

root_at_a_line : instance_of (at.Line false) [] (owned Root (codes "A")) ≡ instances.Root
root_at_a_line = refl

-- ?X, and ?Y with ?V for its A
abbrev objects : List Object
objects =
    of_class (codes "X") (codes "K") ∷ of_class_where (codes "Y") (codes "K") (codes "V") (codes "A") ∷ []

second_object : instance_of at.Constraint objects (member (codes "Y") (codes "A")) ≡ instances.Object 1
second_object = refl

by_a_value : instance_of at.Constraint objects (operands.Variable (leaf (codes "V"))) ≡ instances.Object 1
by_a_value = refl

undeclared : instance_of at.Constraint objects (member (codes "V") (codes "A")) ≡ instances.Undeclared
undeclared = refl
