-- Names mean the same in two models of which the same is seen.
use Rattle.std.proofs.Common.{◌≡◌, ℕ, List, [], ◌∷◌, map, flat_map, refl, sym, ◌∙◌, Option, None, Some}
use Rattle.std.proofs.Common.{option_map}
use Rattle.std.specs.Prelude.{filter_map}
use Rattle.std.specs.Str.{bytes_eq}
use Rattle.vc_model_parts.specs.declared.parts.BillItem.{BillItem}
use Rattle.vc_model_parts.specs.declared.parts.Component.{Component}
use Rattle.vc_model_parts.specs.declared.parts.Component.TheVariants as components
use Rattle.vc_model_parts.specs.declared.parts.Model.{Model}
use Rattle.vc_model_parts.specs.declared.parts.Object.{Object}
use Rattle.vc_model_drafts.specs.Seen.{SeenObject, seen_item, seen_object}
use Rattle.vc_syntax_tree.specs.declared.Alias.{Alias}
use Rattle.vc_syntax_tree.specs.declared.Object as syntax
use Rattle.vc_syntax_tree.specs.declared.ObjectKind.{ObjectKind}
use Rattle.vc_syntax_tree.specs.declared.ObjectKind.TheVariants as objects
use Rattle.vc_syntax_tree.specs.declared.Operand.{Operand}
use Rattle.vc_syntax_tree.specs.declared.Operand.TheVariants as operands
use Rattle.vc_syntax_tree.specs.declared.Owner.{Owner}
use Rattle.vc_syntax_tree.specs.declared.Owner.TheVariants as owners
use Rattle.vc_syntax_tree.specs.Trees.{Dependency, Precondition, Selection, Procedure, Constrains, Counts}
use Rattle.vc_types.specs.Looking.{class_in, class_of, member_of, object_named}
use Rattle.vc_types.specs.Meanings.{Variable, alias_of, class_meant, if_constraint, known, meaning_of, member_meaning}
use Rattle.vc_types.specs.Meanings.{of_object, of_parent, owned_meaning, parent_meaning, plain_meaning, referent_of}
use Rattle.vc_types.specs.Meanings.{root_meaning, self_meaning, variable_named, variables_of, variables_of_object}
use Rattle.vc_types.specs.Settings.{classes_of_bill, component_class, component_classes, is_set, sort_meant}
use Rattle.vc_types.specs.Settings.{variables_in}
use Rattle.vc_types.specs.declared.meaning.Meaning.{Meaning}
use Rattle.vc_types.specs.declared.meaning.Meaning.TheVariants as meanings
use Rattle.vc_types.specs.declared.meaning.Referent.{Referent}
use Rattle.vc_types.specs.declared.meaning.Referent.TheVariants as referents
use Rattle.vc_types.specs.declared.place.At.{At}
use Rattle.vc_types.specs.declared.place.At.TheVariants as at
use Rattle.vc_types.specs.declared.place.Place.{Place}
use Rattle.vc_compile_same.specs.Twins.{Twins, other, set_in}
use Rattle.vc_compile_same.proofs.ListLaws.{filter_mapped, got, position_same}

-- the class of what is seen of an object
abbrev seen_class : Option SeenObject → Option ℕ
seen_class None = None
seen_class (Some object) = Some object.class

class_seen : (o : Option Object) → class_in o ≡ seen_class (option_map seen_object o)
class_seen None = refl
class_seen (Some object) = refl

-- the class of a component, and of a line's
abbrev class_in_component : Model → Component → Option ℕ
class_in_component model (components.Object o) = class_of model (Some o)
class_in_component model (components.Plain material) = None

component_is : (model : Model) (item : BillItem) → component_class model item ≡ class_in_component model item.component
component_is model item = by item.component refl
  where
    by : (c : Component) → item.component ≡ c → component_class model item ≡ class_in_component model item.component
    by (components.Object o) e = rw e refl
    by (components.Plain material) e = rw e refl

abbrev seen_classes : Model → Option SeenObject → List ℕ
seen_classes model None = []
seen_classes model (Some object) = filter_map (λ item. class_in_component model item.component) object.bill

classes_seen : (model : Model) (o : Option Object)
    → classes_of_bill model o ≡ seen_classes model (option_map seen_object o)
classes_seen model None = refl
classes_seen model (Some object) =
    (λ i. filter_map (λ item. component_is model item i) object.bill)
    ∙ filter_mapped seen_item (λ item. class_in_component model item.component) object.bill

module _ (t : Twins) where
  pub member_of_same : (name : List ℕ) (class : Option ℕ) → member_of t.one name class ≡ member_of (other t) name class
  member_of_same name None = refl
  member_of_same name (Some class) = refl

  pub class_of_same : (o : Option ℕ) → class_of t.one o ≡ class_of (other t) o
  class_of_same None = refl
  class_of_same (Some o) =
      got seen_object class_in class_in seen_class class_seen class_seen (t.one).objects t.objects t.same_objects o

  pub object_named_same : (material : List ℕ) → object_named t.one material ≡ object_named (other t) material
  object_named_same material =
      position_same seen_object (λ object. bytes_eq object.material material) (t.one).objects t.objects t.same_objects

  pub class_meant_same : (kind : ObjectKind) → class_meant t.one kind ≡ class_meant (other t) kind
  class_meant_same (objects.Class leaf) = refl
  class_meant_same (objects.Material leaf) = λ i. class_of_same (object_named_same leaf.text i) i

  -- variables
  alias_of_same : (class : Option ℕ) (alias : Alias) → alias_of t.one class alias ≡ alias_of (other t) class alias
  alias_of_same class alias = λ i.
      record {
        name = alias.variable.name;
        referent = referents.Value (member_of_same alias.characteristic.name class i);
      }

  variables_of_object_same : (object : syntax.Object)
      → variables_of_object t.one object ≡ variables_of_object (other t) object
  variables_of_object_same object = λ i.
      (record { name = object.variable.name; referent = referents.Object (class_meant_same object.kind i) })
      ∷ map (λ alias. alias_of_same (class_meant_same object.kind i) alias i) object.aliases

  pub variables_of_same : (declared : List syntax.Object)
      → variables_of t.one declared ≡ variables_of (other t) declared
  variables_of_same declared = λ i. flat_map (λ object. variables_of_object_same object i) declared

  pub variables_in_same : (d : Dependency) → variables_in t.one d ≡ variables_in (other t) d
  variables_in_same (Precondition condition) = refl
  variables_in_same (Selection condition) = refl
  variables_in_same (Procedure statements) = refl
  variables_in_same (Constrains constraint) = variables_of_same constraint.objects
  variables_in_same (Counts term) = refl

  -- operands
  of_object_same : (name : List ℕ) (o : Option ℕ) → of_object t.one name o ≡ of_object (other t) name o
  of_object_same name o = λ i. known (member_of_same name (class_of_same o i) i)

  of_parent_same : (name : List ℕ) (o : Option ℕ) → of_parent t.one name o ≡ of_parent (other t) name o
  of_parent_same name None = refl
  of_parent_same name (Some o) = of_object_same name (Some o)

  plain_same : (place : Place) (name : List ℕ) (where_at : At)
      → plain_meaning t.one place name where_at ≡ plain_meaning (other t) place name where_at
  plain_same place name at.Constraint = refl
  plain_same place name at.Characteristic = of_object_same name (Some place.object)
  plain_same place name at.Procedure = of_object_same name (Some place.object)
  plain_same place name (at.Line configurable) = of_object_same name (Some place.object)
  plain_same place name at.Operation = of_object_same name (Some place.object)

  self_same : (place : Place) (name : List ℕ) (where_at : At)
      → self_meaning t.one place name where_at ≡ self_meaning (other t) place name where_at
  self_same place name at.Constraint = refl
  self_same place name at.Characteristic = of_object_same name (Some place.object)
  self_same place name at.Procedure = of_object_same name (Some place.object)
  self_same place name (at.Line configurable) = refl
  self_same place name at.Operation = of_object_same name (Some place.object)

  parent_same : (place : Place) (name : List ℕ) (where_at : At)
      → parent_meaning t.one place name where_at ≡ parent_meaning (other t) place name where_at
  parent_same place name at.Constraint = refl
  parent_same place name at.Characteristic = of_parent_same name place.parent
  parent_same place name at.Procedure = of_parent_same name place.parent
  parent_same place name (at.Line configurable) = of_object_same name (Some place.object)
  parent_same place name at.Operation = of_parent_same name place.parent

  root_same : (name : List ℕ) (where_at : At) → root_meaning t.one name where_at ≡ root_meaning (other t) name where_at
  root_same name at.Constraint = refl
  root_same name at.Characteristic = of_object_same name (Some (t.one).root)
  root_same name at.Procedure = of_object_same name (Some (t.one).root)
  root_same name (at.Line configurable) = of_object_same name (Some (t.one).root)
  root_same name at.Operation = of_object_same name (Some (t.one).root)

  owned_same : (place : Place) (owner : Owner) (name : List ℕ)
      → owned_meaning t.one place owner name ≡ owned_meaning (other t) place owner name
  owned_same place owners.Itself name = self_same place name place.at
  owned_same place owners.Parent name = parent_same place name place.at
  owned_same place owners.Root name = root_same name place.at

  member_meaning_same : (name : List ℕ) (r : Option Referent)
      → member_meaning t.one name r ≡ member_meaning (other t) name r
  member_meaning_same name None = refl
  member_meaning_same name (Some (referents.Object class)) = λ i. known (member_of_same name class i)
  member_meaning_same name (Some (referents.Value c)) = refl

  pub meaning_same : (place : Place) (variables : List Variable) (operand : Operand)
      → meaning_of t.one place variables operand ≡ meaning_of (other t) place variables operand
  meaning_same place variables (operands.Plain leaf) = plain_same place leaf.name place.at
  meaning_same place variables (operands.Owned owner leaf) = owned_same place owner leaf.name
  meaning_same place variables (operands.Member variable leaf) = λ i.
      if_constraint place.at
      (member_meaning_same leaf.name (referent_of (variable_named variables variable.name)) i)
  meaning_same place variables (operands.Variable leaf) = refl

  -- what is meant
  pub sort_meant_same : (m : Meaning) → sort_meant t.one m ≡ sort_meant (other t) m
  sort_meant_same (meanings.Characteristic c) = refl
  sort_meant_same m = refl

  pub is_set_same : (m : Meaning) → is_set t.one m ≡ is_set (other t) m
  is_set_same (meanings.Characteristic c) = refl
  is_set_same m = refl

  -- the classes of an object's components
  component_same : (c : Component) → class_in_component t.one c ≡ class_in_component (other t) c
  component_same (components.Object o) = class_of_same (Some o)
  component_same (components.Plain material) = refl

  seen_classes_same : (o : Option SeenObject) → seen_classes t.one o ≡ seen_classes (other t) o
  seen_classes_same None = refl
  seen_classes_same (Some object) = λ i. filter_map (λ item. component_same item.component i) object.bill

  pub component_classes_same : (place : Place) (variables : List Variable)
      → component_classes (set_in t.one place variables) ≡ component_classes (set_in (other t) place variables)
  component_classes_same place variables =
      got seen_object (classes_of_bill t.one) (classes_of_bill (other t)) (seen_classes t.one) (classes_seen t.one)
      (λ o. classes_seen (other t) o ∙ sym (seen_classes_same (option_map seen_object o))) (t.one).objects t.objects
      t.same_objects
      place.object
