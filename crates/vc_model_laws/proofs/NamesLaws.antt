-- The words of a model that a text spells are spelled, and each name stands once.
use Rattle.std.proofs.Common.{◌≡◌, ℕ, ◌+◌, Bool, true, false, not, ◌&&◌, ◌||◌, ◌==◌, nat_lt, nat_le, List, [], ◌∷◌}
use Rattle.std.proofs.Common.{length, map, Option, Some, None, refl, ap, ◌∙◌, arith}
use Rattle.std.specs.Prelude.{is_none, unwrap_or}
use Rattle.std.specs.List.{list_all}
use Rattle.std.specs.Char.{is_ascii_alphanumeric}
use Rattle.std.proofs.lemmas.Bool.{and_parts, and_from, or_parts, not-false, leb-true, lt-ltb}
use Rattle.vc_value.specs.Names.{is_name}
use Rattle.vc_value.specs.Words.{same_bytes}
use Rattle.vc_syntax_tree.specs.Trees.{Term}
use Rattle.vc_model_lines.specs.declared.line.Line.{Line}
use Rattle.vc_model_lines.specs.declared.line.Line.TheVariants as lines
use Rattle.vc_model_lines.specs.declared.line.BillLine.{BillLine}
use Rattle.vc_model_lines.specs.declared.line.BlockLine.{BlockLine}
use Rattle.vc_model_lines.specs.declared.line.CharLine.{CharLine}
use Rattle.vc_model_lines.specs.declared.line.HeadLine.{HeadLine}
use Rattle.vc_model_lines.specs.declared.line.NumLine.{NumLine}
use Rattle.vc_model_lines.specs.declared.line.ObjectLine.{ObjectLine}
use Rattle.vc_model_lines.specs.declared.line.OperationLine.{OperationLine}
use Rattle.vc_model_lines.specs.declared.line.TableLine.{TableLine}
use Rattle.vc_model_lines.specs.Counts.{is_between}
use Rattle.vc_model_lines.specs.WordSpellings as words
use Rattle.vc_model_lines.specs.WordSpellings.{is_free_name, is_reserved}
use Rattle.vc_model_scope.specs.Contents.{text_of}
use Rattle.vc_model_scope.specs.Names.{place_of}
use Rattle.vc_model_scope.specs.Recursions.{declared, some_line}
use Rattle.vc_model_scope.specs.Scope.{scope_of}
use Rattle.vc_model_scope.specs.Stands.{opens, is_head, is_root}
use Rattle.vc_model_scope.specs.declared.scope.Scope.{Scope}
use Rattle.vc_model_faults.specs.First.{backwards}
use Rattle.vc_model_faults.specs.Misplaced.{is_misplaced}
use Rattle.vc_model_faults.specs.Misspelled.{is_misspelled}
use Rattle.vc_model_faults.specs.Values.{is_bad}
use Rattle.vc_model_drafts.specs.Models.{never, throughout, first_said, component_or, item_at, operation_at}
use Rattle.vc_model_drafts.specs.Models.{characteristic_at, class_at, table_at, dependency_at, net_at, object_at}
use Rattle.vc_model_drafts.specs.Models.{name_at, version_at, model_of}
use Rattle.vc_plan.specs.Orders.{are_apart}
use Rattle.vc_plan.specs.Spelling as plan
use Rattle.vc_plan.specs.Spelling.{is_upper, is_upper_name}
use Rattle.vc_model_laws.specs.Names.{is_characteristic_spelled, is_component_spelled, is_item_spelled}
use Rattle.vc_model_laws.specs.Names.{is_operation_spelled, KeepsNames}
use Rattle.vc_model_laws.proofs.DeclaringLaws.{characteristics_are, classes_are, tables_are, nets_are, objects_are}
use Rattle.vc_model_laws.proofs.DeclaringLaws.{dependencies_are}
use Rattle.vc_model_laws.proofs.LineCases.{char_made, num_made, item_made, operation_made, at_characteristic, at_class}
use Rattle.vc_model_laws.proofs.LineCases.{at_table, at_net, at_object, at_dependency, at_item, at_operation}
use Rattle.vc_model_laws.proofs.Holding.{each}
use Rattle.vc_model_laws.proofs.LineForms.{is_block_kind, is_formed}
use Rattle.vc_model_laws.proofs.NameLemmas.{declared_apart, apart_map}
use Rattle.vc_model_laws.proofs.Walks.{Passes, Sound, Stands, all_keep, each_said}

-- a material is one for the plan, too
byte_is : (a b c d e : Bool) → (a || (b || c || d || e)) ≡ true → (a || ((b || c) || (d || e))) ≡ true
byte_is true b c d e h = refl
byte_is false true c d e h = refl
byte_is false false true d e h = refl
byte_is false false false true e h = refl
byte_is false false false false e h = h

bytes_are : (word : List ℕ) → list_all words.is_material_byte word ≡ true → list_all plan.is_material_byte word ≡ true
bytes_are [] h = refl
bytes_are (b ∷ word) h =
    let parts = and_parts (words.is_material_byte b) (list_all words.is_material_byte word) h in
    and_from (plan.is_material_byte b) (list_all plan.is_material_byte word)
    (byte_is (is_ascii_alphanumeric b) (b == 45) (b == 95) (b == 46) (b == 47) parts.0) (bytes_are word parts.1)

material_is : (word : List ℕ) → words.is_material word ≡ true → is_upper word ≡ true → plan.is_material word ≡ true
material_is word h u =
    let parts = and_parts (words.is_material_length (length word)) (list_all words.is_material_byte word) h in
    and_from (nat_lt 0 (length word) && nat_le (length word) 18) (list_all plan.is_material_byte word && is_upper word)
    parts.0
    (and_from (list_all plan.is_material_byte word) (is_upper word) (bytes_are word parts.1) u)

unit_is : (unit : Option (List ℕ)) → words.is_unit unit ≡ true → each is_upper unit ≡ true → plan.is_unit unit ≡ true
unit_is None h u = refl
unit_is (Some unit) h u = material_is unit h u

-- a name in upper case
named : (name : List ℕ) → not (is_name name) ≡ false → is_upper name ≡ true → is_upper_name name ≡ true
named name h u = and_from (is_name name) (is_upper name) (not-false (is_name name) h) u

freely_named : (name : List ℕ) (unit : Option (List ℕ)) → not (is_free_name name) ≡ false → is_upper name ≡ true
    → plan.is_unit unit ≡ true
    → (is_upper_name name && (not (is_reserved name) && plan.is_unit unit)) ≡ true
freely_named name unit h u i =
    let parts = and_parts (is_name name) (not (is_reserved name)) (not-false (is_free_name name) h) in
    and_from (is_upper_name name) (not (is_reserved name) && plan.is_unit unit)
    (and_from (is_name name) (is_upper name) parts.0 u)
    (and_from (not (is_reserved name)) (plan.is_unit unit) parts.1 i)

-- the words of lines that pass
char_spelled : (a : Scope) (n : ℕ) (x : CharLine) (below : List Line) → is_misspelled (lines.Char x) ≡ false
    → is_formed (lines.Char x) ≡ true
    → is_characteristic_spelled (char_made a n x below) ≡ true
unfolding is_misspelled
char_spelled a n x below h f = freely_named x.name None h
    (and_parts (is_upper x.name) (each (is_between 1 30) x.length) f).0 refl

num_spelled : (a : Scope) (n : ℕ) (x : NumLine) (below : List Line) → is_misspelled (lines.Num x) ≡ false
    → is_formed (lines.Num x) ≡ true
    → is_characteristic_spelled (num_made a n x below) ≡ true
unfolding is_misspelled
num_spelled a n x below h f =
    let spelled = or_parts (not (is_free_name x.name)) (not (words.is_unit x.unit)) h in
    let uppers = and_parts (is_upper x.name) (each (is_between 0 6) x.decimals && each is_upper x.unit) f in
    let unit = and_parts (each (is_between 0 6) x.decimals) (each is_upper x.unit) uppers.1 in
    freely_named x.name x.unit spelled.0 uppers.0 (unit_is x.unit (not-false (words.is_unit x.unit) spelled.1) unit.1)

class_spelled : (x : List ℕ) → is_misspelled (lines.Class x) ≡ false → is_formed (lines.Class x) ≡ true
    → is_upper_name x ≡ true
unfolding is_misspelled
class_spelled x h f = named x h f

net_spelled : (x : List ℕ) → is_misspelled (lines.Net x) ≡ false → is_formed (lines.Net x) ≡ true
    → is_upper_name x ≡ true
unfolding is_misspelled
net_spelled x h f = named x h f

table_spelled : (x : TableLine) → is_misspelled (lines.Table x) ≡ false → is_formed (lines.Table x) ≡ true
    → is_upper_name x.name ≡ true
unfolding is_misspelled
table_spelled x h f = named x.name h f

block_spelled : (x : BlockLine) → is_misspelled (lines.Block x) ≡ false → is_formed (lines.Block x) ≡ true
    → is_upper_name x.name ≡ true
unfolding is_misspelled
block_spelled x h f = named x.name h (and_parts (is_upper x.name) (is_block_kind x.kind) f).0

object_spelled : (x : ObjectLine) → is_misspelled (lines.Object x) ≡ false → is_formed (lines.Object x) ≡ true
    → plan.is_material x.material ≡ true
unfolding is_misspelled
object_spelled x h f =
    let spelled = or_parts (not (words.is_material x.material)) (not (is_name x.class)) h in
    material_is x.material (not-false (words.is_material x.material) spelled.0)
    (and_parts (is_upper x.material) (is_upper x.class) f).0

component_spelled : (material : List ℕ) (object : Option ℕ) → plan.is_material material ≡ true
    → is_component_spelled (component_or material object) ≡ true
component_spelled material None h = h
component_spelled material (Some object) h = refl

item_spelled : (a : Scope) (n : ℕ) (x : BillLine) (below : List Line) (term : Term)
    → is_misspelled (lines.Bill x) ≡ false
    → is_formed (lines.Bill x) ≡ true → is_item_spelled (item_made a n x below term) ≡ true
unfolding is_misspelled
item_spelled a n x below term h f =
    let spelled = or_parts (not (words.is_material x.material)) (not (words.is_material x.unit)) h in
    let uppers = and_parts (is_upper x.material) (is_upper x.unit && each (is_between 0 9999) x.item) f in
    let unit = and_parts (is_upper x.unit) (each (is_between 0 9999) x.item) uppers.1 in
    let component = component_or x.material (place_of a.declared.objects x.material) in
    and_from (is_component_spelled component) (plan.is_material x.unit)
    (component_spelled x.material (place_of a.declared.objects x.material)
    (material_is x.material (not-false (words.is_material x.material) spelled.0) uppers.0))
    (material_is x.unit (not-false (words.is_material x.unit) spelled.1) unit.0)

operation_spelled : (a : Scope) (n : ℕ) (x : OperationLine) (below : List Line) (term : Term)
    → is_misspelled (lines.Operation x) ≡ false
    → is_formed (lines.Operation x) ≡ true → is_operation_spelled (operation_made a n x below term) ≡ true
unfolding is_misspelled
operation_spelled a n x below term h f =
    let spelled = or_parts (not (is_name x.centre)) (not (words.is_material x.unit)) h in
    let uppers = and_parts (is_upper x.centre) (is_upper x.unit && each (is_between 0 9999) x.number) f in
    let unit = and_parts (is_upper x.unit) (each (is_between 0 9999) x.number) uppers.1 in
    and_from (is_upper_name x.centre) (plan.is_material x.unit) (named x.centre spelled.0 uppers.0)
    (material_is x.unit (not-false (words.is_material x.unit) spelled.1) unit.0)

-- a ROOT stands below the head, so there is a head
abbrev Headed : List Line → Type 0
Headed earlier = some_line is_root earlier ≡ true → some_line is_head earlier ≡ true

root_headed : (earlier : List Line) (x : List ℕ) (below : List Line)
    → is_misplaced (scope_of earlier) (lines.Root x) below ≡ false → some_line is_head earlier ≡ true
unfolding is_misplaced scope_of
root_headed earlier x below placed = not-false (some_line is_head earlier) (or_parts _ _ placed).0

head_kept : (earlier : List Line) (line : Line) (below : List Line) → Passes (scope_of earlier) line below
    → Headed earlier → Headed (line ∷ earlier)
head_kept earlier lines.Skipped below p h = h
head_kept earlier (lines.Inner x) below p h = h
head_kept earlier lines.LongInner below p h = h
head_kept earlier lines.End below p h = h
head_kept earlier (lines.TooLong x) below p h = h
head_kept earlier (lines.NoForm x) below p h = h
head_kept earlier (lines.Head x) below p h = λ e. refl
head_kept earlier (lines.Char x) below p h = h
head_kept earlier (lines.Num x) below p h = h
head_kept earlier (lines.Text x) below p h = h
head_kept earlier (lines.Interval x) below p h = h
head_kept earlier (lines.Uses x) below p h = h
head_kept earlier (lines.Class x) below p h = h
head_kept earlier (lines.Has x) below p h = h
head_kept earlier (lines.Table x) below p h = h
head_kept earlier (lines.Column x) below p h = h
head_kept earlier (lines.Net x) below p h = h
head_kept earlier (lines.Object x) below p h = h
head_kept earlier (lines.Bill x) below p h = h
head_kept earlier (lines.Operation x) below p h = h
head_kept earlier (lines.Block x) below p h = h
head_kept earlier (lines.Root x) below p h = λ e. root_headed earlier x below p.placed
head_kept earlier lines.Action below p h = h

pub root_above : (earlier : List Line) → (scope_of earlier).root ≡ true → some_line is_root earlier ≡ true
unfolding scope_of
root_above earlier e = e

rooted : (earlier ls : List Line) → Sound earlier ls → some_line is_root (backwards earlier ls) ≡ true
rooted earlier [] s = root_above earlier s
rooted earlier (line ∷ below) s = rooted (line ∷ earlier) below s.1

headed : (ls : List Line) → Sound [] ls → some_line is_head (backwards [] ls) ≡ true
headed ls s = all_keep Headed head_kept [] ls s (λ e. e) (rooted [] ls s)

-- the head's words
abbrev IsHead : List ℕ → ℕ → Type 0
IsHead name version = (is_upper_name name ≡ true) × ((nat_lt 0 version && nat_lt version 1_000_000) ≡ true)

version_is : (version : Option ℕ) → each (is_between 1 999999) version ≡ true → is_none version ≡ false
    → (nat_lt 0 (unwrap_or version 0) && nat_lt (unwrap_or version 0) 1_000_000) ≡ true
version_is None f b = absurd (cc)
version_is (Some version) f b =
    let parts = and_parts (nat_le 1 version) (nat_le version 999999) f in
    and_from (nat_lt 0 version) (nat_lt version 1_000_000)
    (lt-ltb 0 version (omega (arith, leb-true 1 version parts.0)))
    (lt-ltb version 1_000_000 (omega (arith, leb-true version 999999 parts.1)))

head_spelled : (a : Scope) (x : HeadLine) → is_misspelled (lines.Head x) ≡ false → is_formed (lines.Head x) ≡ true
    → is_bad a (lines.Head x) ≡ false
    → IsHead x.name (unwrap_or x.version 0)
unfolding is_misspelled is_bad
head_spelled a x h f b =
    let parts = and_parts (is_upper x.name) (each (is_between 1 999999) x.version) f in
    (named x.name h parts.0, version_is x.version parts.1 b)

head_said : (earlier ls : List Line) → Sound earlier ls → some_line is_head earlier ≡ false
    → some_line is_head (backwards earlier ls) ≡ true
    → IsHead (first_said [] name_at ls) (first_said 0 version_at ls)
head_said earlier [] s none some = absurd (cc)
head_said earlier (lines.Skipped ∷ below) s none some = head_said (lines.Skipped ∷ earlier) below s.1 none some
head_said earlier ((lines.Inner x) ∷ below) s none some = head_said ((lines.Inner x) ∷ earlier) below s.1 none some
head_said earlier (lines.LongInner ∷ below) s none some = head_said (lines.LongInner ∷ earlier) below s.1 none some
head_said earlier (lines.End ∷ below) s none some = head_said (lines.End ∷ earlier) below s.1 none some
head_said earlier ((lines.TooLong x) ∷ below) s none some = head_said ((lines.TooLong x) ∷ earlier) below s.1 none some
head_said earlier ((lines.NoForm x) ∷ below) s none some = head_said ((lines.NoForm x) ∷ earlier) below s.1 none some
head_said earlier ((lines.Head x) ∷ below) s none some =
    head_spelled (scope_of earlier) x s.0.spelled s.0.formed s.0.fit
head_said earlier ((lines.Char x) ∷ below) s none some = head_said ((lines.Char x) ∷ earlier) below s.1 none some
head_said earlier ((lines.Num x) ∷ below) s none some = head_said ((lines.Num x) ∷ earlier) below s.1 none some
head_said earlier ((lines.Text x) ∷ below) s none some = head_said ((lines.Text x) ∷ earlier) below s.1 none some
head_said earlier ((lines.Interval x) ∷ below) s none some =
    head_said ((lines.Interval x) ∷ earlier) below s.1 none some
head_said earlier ((lines.Uses x) ∷ below) s none some = head_said ((lines.Uses x) ∷ earlier) below s.1 none some
head_said earlier ((lines.Class x) ∷ below) s none some = head_said ((lines.Class x) ∷ earlier) below s.1 none some
head_said earlier ((lines.Has x) ∷ below) s none some = head_said ((lines.Has x) ∷ earlier) below s.1 none some
head_said earlier ((lines.Table x) ∷ below) s none some = head_said ((lines.Table x) ∷ earlier) below s.1 none some
head_said earlier ((lines.Column x) ∷ below) s none some = head_said ((lines.Column x) ∷ earlier) below s.1 none some
head_said earlier ((lines.Net x) ∷ below) s none some = head_said ((lines.Net x) ∷ earlier) below s.1 none some
head_said earlier ((lines.Object x) ∷ below) s none some = head_said ((lines.Object x) ∷ earlier) below s.1 none some
head_said earlier ((lines.Bill x) ∷ below) s none some = head_said ((lines.Bill x) ∷ earlier) below s.1 none some
head_said earlier ((lines.Operation x) ∷ below) s none some =
    head_said ((lines.Operation x) ∷ earlier) below s.1 none some
head_said earlier ((lines.Block x) ∷ below) s none some = head_said ((lines.Block x) ∷ earlier) below s.1 none some
head_said earlier ((lines.Root x) ∷ below) s none some = head_said ((lines.Root x) ∷ earlier) below s.1 none some
head_said earlier (lines.Action ∷ below) s none some = head_said (lines.Action ∷ earlier) below s.1 none some

-- what is known by names is apart where these are the names that lines declare
once : {X : Type 0} (key : X → List ℕ) (xs : List X) (f : Line → Option (List ℕ)) (ls : List Line)
    → map key xs ≡ declared f ls
    → are_apart (λ a b. same_bytes (key a) (key b)) xs ≡ true
once key xs f ls e = apart_map key same_bytes xs ∙ ap (are_apart same_bytes) e ∙ declared_apart f ls

texts_apart : (ls : List Line) → are_apart same_bytes (model_of ls).texts ≡ true
unfolding scope_of
texts_apart ls = declared_apart text_of (backwards [] ls)

-- what a model's lines make passes a test where each does that a line makes
pub made : {X : Type 0} (say : ℕ → Line → List Line → Option X) (test : X → Bool) (ls : List Line) → Sound [] ls
    → ((earlier : List Line) (number : ℕ) (line : Line) (below : List Line)
    → Stands (backwards [] ls) earlier line below → each test (say number line below) ≡ true)
    → list_all test (throughout say 1 ls) ≡ true
made say test ls s holds = each_said never say test (backwards [] ls) holds [] 1 ls s refl

pub keeps_names : (ls : List Line) → Sound [] ls → KeepsNames (model_of ls)
keeps_names ls s =
    let all = backwards [] ls in
    let a = scope_of all in
    let head = head_said [] ls s refl (headed ls s) in
    record {
      name = head.0;
      version = head.1;
      characteristics = made (characteristic_at a) is_characteristic_spelled ls s
          (λ e n l b p. at_characteristic all e a n l b is_characteristic_spelled
          (λ x q. char_spelled a n x b q.passes.spelled q.passes.formed)
          (λ x q. num_spelled a n x b q.passes.spelled q.passes.formed) p);
      classes = made (class_at a) (λ c. is_upper_name c.name) ls s
          (λ e n l b p. at_class all e a n l b (λ c. is_upper_name c.name)
          (λ x q. class_spelled x q.passes.spelled q.passes.formed) p);
      tables = made (table_at a) (λ t. is_upper_name t.name) ls s
          (λ e n l b p. at_table all e a n l b (λ t. is_upper_name t.name)
          (λ x q. table_spelled x q.passes.spelled q.passes.formed) p);
      dependencies = made (dependency_at a) (λ d. is_upper_name d.name) ls s
          (λ e n l b p. at_dependency all e a n l b (λ d. is_upper_name d.name)
          (λ x q tree. block_spelled x q.passes.spelled q.passes.formed) p);
      nets = made (net_at a) (λ m. is_upper_name m.name) ls s
          (λ e n l b p. at_net all e a n l b (λ m. is_upper_name m.name)
          (λ x q. net_spelled x q.passes.spelled q.passes.formed) p);
      materials = made (object_at a) (λ o. plan.is_material o.material) ls s
          (λ e n l b p. at_object all e a n l b (λ o. plan.is_material o.material)
          (λ x q. object_spelled x q.passes.spelled q.passes.formed) p);
      items = made (object_at a) (λ o. list_all is_item_spelled o.bill) ls s
          (λ e n l b p. at_object all e a n l b (λ o. list_all is_item_spelled o.bill)
          (λ x q. each_said opens (item_at a) is_item_spelled all
          (λ e n l b p. at_item all e a n l b is_item_spelled
          (λ x q t. item_spelled a n x b t q.passes.spelled q.passes.formed) p)
          (lines.Object x ∷ e) (n + 1) b q.after q.all_are) p);
      operations = made (object_at a) (λ o. list_all is_operation_spelled o.operations) ls s
          (λ e n l b p. at_object all e a n l b (λ o. list_all is_operation_spelled o.operations)
          (λ x q. each_said opens (operation_at a) is_operation_spelled all
          (λ e n l b p. at_operation all e a n l b is_operation_spelled
          (λ x q t. operation_spelled a n x b t q.passes.spelled q.passes.formed) p)
          (lines.Object x ∷ e) (n + 1) b q.after q.all_are) p);
      characteristics_once = once (λ c. c.name) _ _ all (characteristics_are ls s);
      texts_once = texts_apart ls;
      classes_once = once (λ c. c.name) _ _ all (classes_are ls s);
      tables_once = once (λ t. t.name) _ _ all (tables_are ls s);
      dependencies_once = once (λ d. d.name) _ _ all (dependencies_are ls s);
      nets_once = once (λ m. m.name) _ _ all (nets_are ls s);
      materials_once = once (λ o. o.material) _ _ all (objects_are ls s);
    }
