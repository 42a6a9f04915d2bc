-- Names looked up in a model.
use Rattle.std.specs.Prelude.{ℕ, ◌==◌, List, slice_get, Option, Some, None, find, position}
use Rattle.std.specs.Str.{bytes_eq}
use Rattle.vc_model_parts.specs.declared.parts.Class.{Class}
use Rattle.vc_model_parts.specs.declared.parts.Model.{Model}
use Rattle.vc_model_parts.specs.declared.parts.Object.{Object}
use Rattle.vc_model_parts.specs.declared.parts.Table.{Table}
use Rattle.vc_model_parts.specs.declared.parts.TableColumn.{TableColumn}

-- the characteristic of this name
abbrev pub characteristic_named : Model → List ℕ → Option ℕ
characteristic_named model name = position (λ c. bytes_eq c.name name) model.characteristics

-- a characteristic that a class has
abbrev pub if_member : Option Class → ℕ → Option ℕ
if_member None c = None
if_member (Some class) c = find (λ member. member == c) class.members

abbrev pub member_in : Option Class → Option ℕ → Option ℕ
member_in class None = None
member_in class (Some c) = if_member class c

-- the characteristic of this name that a class has
abbrev pub member_of : Model → List ℕ → Option ℕ → Option ℕ
member_of model name None = None
member_of model name (Some class) = member_in (slice_get model.classes class) (characteristic_named model name)

-- the class of an object
abbrev pub class_in : Option Object → Option ℕ
class_in None = None
class_in (Some object) = Some object.class

abbrev pub class_of : Model → Option ℕ → Option ℕ
class_of model None = None
class_of model (Some object) = class_in (slice_get model.objects object)

-- the class, and the object, of this name
abbrev pub class_named : Model → List ℕ → Option ℕ
class_named model name = position (λ class. bytes_eq class.name name) model.classes

abbrev pub object_named : Model → List ℕ → Option ℕ
object_named model material = position (λ object. bytes_eq object.material material) model.objects

-- the table of this name
abbrev pub table_named : Model → List ℕ → Option Table
table_named model name = find (λ table. bytes_eq table.name name) model.tables

-- the column of a table that is called so
abbrev pub column_of : Option Table → ℕ → Option TableColumn
column_of None c = None
column_of (Some table) c = find (λ column. column.characteristic == c) table.columns

abbrev pub column_if : Option Table → Option ℕ → Option TableColumn
column_if table None = None
column_if table (Some c) = column_of table c

abbrev pub column_in : Model → List ℕ → Option Table → Option TableColumn
column_in model name table = column_if table (characteristic_named model name)
