-- What an operand means where a dependency stands.
use Rattle.std.specs.Prelude.{ℕ, List, ◌∷◌, map, flat_map, Option, Some, None, find}
use Rattle.std.specs.Str.{bytes_eq}
use Rattle.vc_model_parts.specs.declared.parts.Model.{Model}
use Rattle.vc_syntax_tree.specs.declared.Alias.{Alias}
use Rattle.vc_syntax_tree.specs.declared.Object.{Object}
use Rattle.vc_syntax_tree.specs.declared.ObjectKind.{ObjectKind}
use Rattle.vc_syntax_tree.specs.declared.ObjectKind.TheVariants as objects
use Rattle.vc_syntax_tree.specs.declared.Operand.{Operand}
use Rattle.vc_syntax_tree.specs.declared.Operand.TheVariants as operands
use Rattle.vc_syntax_tree.specs.declared.Owner.{Owner}
use Rattle.vc_syntax_tree.specs.declared.Owner.TheVariants as owners
use Rattle.vc_types.specs.Looking.{member_of, class_of, class_named, object_named}
use Rattle.vc_types.specs.declared.meaning.Meaning.{Meaning}
use Rattle.vc_types.specs.declared.meaning.Meaning.TheVariants as meanings
use Rattle.vc_types.specs.declared.meaning.Referent.{Referent}
use Rattle.vc_types.specs.declared.meaning.Referent.TheVariants as referents
use Rattle.vc_types.specs.declared.place.At.{At}
use Rattle.vc_types.specs.declared.place.At.TheVariants as at
use Rattle.vc_types.specs.declared.place.Place.{Place}

-- a `?` variable
pub record Variable : Type 0 where
  pub name : List ℕ
  pub referent : Referent

-- the class of what a constraint names
abbrev pub class_meant : Model → ObjectKind → Option ℕ
class_meant model (objects.Class leaf) = class_named model leaf.name
class_meant model (objects.Material leaf) = class_of model (object_named model leaf.text)

-- the variables that an object declares, and those of a constraint in the order of the text
abbrev pub alias_of : Model → Option ℕ → Alias → Variable
alias_of model class alias =
    record { name = alias.variable.name; referent = referents.Value (member_of model alias.characteristic.name class) }

abbrev pub variables_of_object : Model → Object → List Variable
variables_of_object model object =
    record { name = object.variable.name; referent = referents.Object (class_meant model object.kind) }
    ∷ map (alias_of model (class_meant model object.kind)) object.aliases

abbrev pub variables_of : Model → List Object → List Variable
variables_of model declared = flat_map (variables_of_object model) declared

abbrev pub variable_named : List Variable → List ℕ → Option Variable
variable_named variables name = find (λ variable. bytes_eq variable.name name) variables

-- what an operand means; where something is wrong with it, nothing else is
abbrev pub known : Option ℕ → Meaning
known None = meanings.Unknown
known (Some c) = meanings.Characteristic c

-- a characteristic of an object
abbrev pub of_object : Model → List ℕ → Option ℕ → Meaning
of_object model name object = known (member_of model name (class_of model object))

-- of the object of the direct superior instance
abbrev pub of_parent : Model → List ℕ → Option ℕ → Meaning
of_parent model name None = meanings.NoParent
of_parent model name (Some object) = of_object model name (Some object)

-- a name alone means the instance itself; in a line that is the owner of the bill
abbrev pub plain_meaning : Model → Place → List ℕ → At → Meaning
plain_meaning model place name at.Constraint = meanings.SelfInConstraint
plain_meaning model place name at.Characteristic = of_object model name (Some place.object)
plain_meaning model place name at.Procedure = of_object model name (Some place.object)
plain_meaning model place name (at.Line configurable) = of_object model name (Some place.object)
plain_meaning model place name at.Operation = of_object model name (Some place.object)

abbrev pub self_meaning : Model → Place → List ℕ → At → Meaning
self_meaning model place name at.Constraint = meanings.SelfInConstraint
self_meaning model place name at.Characteristic = of_object model name (Some place.object)
self_meaning model place name at.Procedure = of_object model name (Some place.object)
self_meaning model place name (at.Line configurable) = meanings.SelfInLine
self_meaning model place name at.Operation = of_object model name (Some place.object)

-- `$PARENT` in a line is the owner of the bill, as the instance is the component
abbrev pub parent_meaning : Model → Place → List ℕ → At → Meaning
parent_meaning model place name at.Constraint = meanings.SelfInConstraint
parent_meaning model place name at.Characteristic = of_parent model name place.parent
parent_meaning model place name at.Procedure = of_parent model name place.parent
parent_meaning model place name (at.Line configurable) = of_object model name (Some place.object)
parent_meaning model place name at.Operation = of_parent model name place.parent

abbrev pub root_meaning : Model → List ℕ → At → Meaning
root_meaning model name at.Constraint = meanings.SelfInConstraint
root_meaning model name at.Characteristic = of_object model name (Some model.root)
root_meaning model name at.Procedure = of_object model name (Some model.root)
root_meaning model name (at.Line configurable) = of_object model name (Some model.root)
root_meaning model name at.Operation = of_object model name (Some model.root)

abbrev pub owned_meaning : Model → Place → Owner → List ℕ → Meaning
owned_meaning model place owners.Itself name = self_meaning model place name place.at
owned_meaning model place owners.Parent name = parent_meaning model place name place.at
owned_meaning model place owners.Root name = root_meaning model name place.at

-- a characteristic of a variable's object
abbrev pub member_meaning : Model → List ℕ → Option Referent → Meaning
member_meaning model name None = meanings.Unknown
member_meaning model name (Some (referents.Object class)) = known (member_of model name class)
member_meaning model name (Some (referents.Value c)) = meanings.ValueForObject

-- a variable that stands for a value
abbrev pub value_meaning : Option Referent → Meaning
value_meaning None = meanings.Unknown
value_meaning (Some (referents.Object class)) = meanings.ObjectForValue
value_meaning (Some (referents.Value c)) = known c

abbrev pub referent_of : Option Variable → Option Referent
referent_of None = None
referent_of (Some variable) = Some variable.referent

-- `?` variables are for constraints alone
abbrev pub if_constraint : At → Meaning → Meaning
if_constraint at.Constraint meaning = meaning
if_constraint at.Characteristic meaning = meanings.VariableOutside
if_constraint at.Procedure meaning = meanings.VariableOutside
if_constraint (at.Line configurable) meaning = meanings.VariableOutside
if_constraint at.Operation meaning = meanings.VariableOutside

abbrev pub meaning_of : Model → Place → List Variable → Operand → Meaning
meaning_of model place variables (operands.Plain leaf) = plain_meaning model place leaf.name place.at
meaning_of model place variables (operands.Owned owner leaf) = owned_meaning model place owner leaf.name
meaning_of model place variables (operands.Member variable leaf) =
    if_constraint place.at (member_meaning model leaf.name (referent_of (variable_named variables variable.name)))
meaning_of model place variables (operands.Variable leaf) =
    if_constraint place.at (value_meaning (referent_of (variable_named variables leaf.name)))
