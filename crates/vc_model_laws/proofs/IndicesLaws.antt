-- Each number in a model that a text spells is that of a thing that the model has.
use Rattle.std.proofs.Common.{◌≡◌, ℕ, ◌+◌, ◌<◌, Bool, true, false, ◌||◌, nat_lt, List, [], ◌∷◌, ◌++◌, length, map}
use Rattle.std.proofs.Common.{Option, Some, None, if◌then◌else◌, refl, sym, ap, subst, ◌∙◌}
use Rattle.std.specs.Prelude.{unwrap_or}
use Rattle.std.specs.List.{list_all}
use Rattle.std.proofs.lemmas.Bool.{or_left, or_right, not-false, lt-ltb}
use Rattle.std.proofs.lemmas.List.{length-map}
use Rattle.std.proofs.lemmas.List.Folds.{list_any-append}
use Rattle.std.specs.Cmp.Lexicographic.{bytes_decides}
use Rattle.vc_value.specs.Words.{same_bytes}
use Rattle.vc_model_lines.specs.declared.line.Line.{Line}
use Rattle.vc_model_lines.specs.declared.line.Line.TheVariants as lines
use Rattle.vc_model_lines.specs.declared.line.ColumnLine.{ColumnLine}
use Rattle.vc_model_lines.specs.declared.line.ObjectLine.{ObjectLine}
use Rattle.vc_model_scope.specs.Contents.{characteristic_of, class_of, object_of, net_of, dependency_of, text_of}
use Rattle.vc_model_scope.specs.Contents.{entry_within}
use Rattle.vc_model_scope.specs.Names.{is_among, place_of, with_name}
use Rattle.vc_model_scope.specs.Recursions.{declared, some_line, with_option}
use Rattle.vc_model_scope.specs.Scope.{scope_of}
use Rattle.vc_model_scope.specs.Stands.{opens, ends_uses, is_root}
use Rattle.vc_model_scope.specs.declared.scope.Scope.{Scope}
use Rattle.vc_model_faults.specs.First.{backwards}
use Rattle.vc_model_faults.specs.Unknown.{is_unknown}
use Rattle.vc_model_drafts.specs.Models.{first_said, number_of, component_or, uses_below, nets_below, use_at}
use Rattle.vc_model_drafts.specs.Models.{net_use_at, text_at, number_at, member_at, column_at, item_at, operation_at}
use Rattle.vc_model_drafts.specs.Models.{characteristic_at, class_at, table_at, net_at, object_at, root_at, model_of}
use Rattle.vc_model_laws.specs.Indices.{are_below, are_texts_there, have_uses_there, is_component_there, KeepsIndices}
use Rattle.vc_model_laws.proofs.DeclaringLaws.{characteristics_are, classes_are, nets_are, objects_are}
use Rattle.vc_model_laws.proofs.DeclaringLaws.{dependencies_are}
use Rattle.vc_model_laws.proofs.LineCases.{number_with, at_characteristic, at_class, at_table, at_net, at_object}
use Rattle.vc_model_laws.proofs.LineCases.{at_item, at_operation, at_text, at_number, at_member, at_column, at_use}
use Rattle.vc_model_laws.proofs.LineCases.{at_net_use}
use Rattle.vc_model_laws.proofs.Holding.{each, each_map}
use Rattle.vc_model_laws.proofs.NameLemmas.{among_front, number_inside, has_number}
use Rattle.vc_model_laws.proofs.NamesLaws.{made, root_above}
use Rattle.vc_model_laws.proofs.Walks.{Sound, Stands, each_said}

-- a name that is declared stays declared
pub own_name : (names : List (List ℕ)) (name : List ℕ) → is_among (with_name names name) name ≡ true
own_name names name = by (is_among names name) refl
  where
    by : (b : Bool) → is_among names name ≡ b → is_among (if b then names else names ++ name ∷ []) name ≡ true
    by true is = is
    by false is =
        list_any-append (same_bytes name) names (name ∷ [])
        ∙ or_right (is_among names name) (same_bytes name name || false)
        (or_left (same_bytes name name) false ((bytes_decides name name).1 refl))

pub among_with : (names : List (List ℕ)) (o : Option (List ℕ)) (name : List ℕ) → is_among names name ≡ true
    → is_among (with_option with_name names o) name ≡ true
among_with names None name h = h
among_with names (Some other) name h = by (is_among names other)
  where
    by : (b : Bool) → is_among (if b then names else names ++ other ∷ []) name ≡ true
    by true = h
    by false = among_front names (other ∷ []) name h

pub among_later : (f : Line → Option (List ℕ)) (earlier ls : List Line) (name : List ℕ)
    → is_among (declared f earlier) name ≡ true
    → is_among (declared f (backwards earlier ls)) name ≡ true
among_later f earlier [] name h = h
among_later f earlier (line ∷ below) name h =
    among_later f (line ∷ earlier) below name (among_with (declared f earlier) (f line) name h)

-- above a line it is declared among all
pub among_all : (f : Line → Option (List ℕ)) (all earlier : List Line) (line : Line) (below : List Line)
    (name : List ℕ) → Stands all earlier line below
    → is_among (declared f earlier) name ≡ true → is_among (declared f all) name ≡ true
among_all f all earlier line below name s h =
    subst (λ ls. is_among (declared f ls) name ≡ true) s.all_are (among_later f earlier (line ∷ below) name h)

-- a declared name's number is one of the things
inside : (names : List (List ℕ)) (count : ℕ) (name : List ℕ) → length names ≡ count → is_among names name ≡ true
    → nat_lt (number_of names name) count ≡ true
inside names count name e h =
    let has = has_number names name h in
    ap (λ o. nat_lt (unwrap_or o 0) count) has.is ∙ lt-ltb has.number count (subst (λ n. has.number < n) e has.inside)

place_inside : (names : List (List ℕ)) (count : ℕ) (name : List ℕ) → length names ≡ count
    → each (λ k. nat_lt k count) (place_of names name) ≡ true
place_inside names count name e = by (place_of names name) refl
  where
    by : (o : Option ℕ) → place_of names name ≡ o → each (λ k. nat_lt k count) o ≡ true
    by None is = refl
    by (Some number) is = lt-ltb number count (subst (λ n. number < n) e (number_inside names name number is))

-- the scope of all lines has the names that they declare
pub scope_characteristics : (all : List Line) → (scope_of all).declared.characteristics ≡ declared characteristic_of all
unfolding scope_of
scope_characteristics all = refl

pub scope_classes : (all : List Line) → (scope_of all).declared.classes ≡ declared class_of all
unfolding scope_of
scope_classes all = refl

pub scope_objects : (all : List Line) → (scope_of all).declared.objects ≡ declared object_of all
unfolding scope_of
scope_objects all = refl

pub scope_texts : (all : List Line) → (scope_of all).declared.texts ≡ declared text_of all
unfolding scope_of
scope_texts all = refl

pub scope_nets : (all : List Line) → (scope_of all).dependencies.nets ≡ declared net_of all
unfolding scope_of
scope_nets all = refl

pub scope_dependencies : (all : List Line) → (scope_of all).dependencies.all ≡ declared dependency_of all
unfolding scope_of
scope_dependencies all = refl

-- as many names as things
counted : {X : Type 0} (key : X → List ℕ) (xs : List X) (names declared : List (List ℕ)) → names ≡ declared
    → map key xs ≡ declared → length names ≡ length xs
counted key xs names declared e m = ap length e ∙ ap length (sym m) ∙ length-map xs key

-- a name that a line knows is declared above it
pub known_has : (earlier : List Line) (x : List ℕ) → is_unknown (scope_of earlier) (lines.Has x) ≡ false
    → is_among (declared characteristic_of earlier) x ≡ true
unfolding is_unknown scope_of
known_has earlier x known = not-false (is_among (declared characteristic_of earlier) x) known

pub known_column : (earlier : List Line) (x : ColumnLine) → is_unknown (scope_of earlier) (lines.Column x) ≡ false
    → is_among (declared characteristic_of earlier) x.characteristic ≡ true
unfolding is_unknown scope_of
known_column earlier x known = not-false (is_among (declared characteristic_of earlier) x.characteristic) known

pub known_object : (earlier : List Line) (x : ObjectLine) → is_unknown (scope_of earlier) (lines.Object x) ≡ false
    → is_among (declared class_of earlier) x.class ≡ true
unfolding is_unknown scope_of
known_object earlier x known = not-false (is_among (declared class_of earlier) x.class) known

pub known_root : (earlier : List Line) (x : List ℕ) → is_unknown (scope_of earlier) (lines.Root x) ≡ false
    → is_among (declared object_of earlier) x ≡ true
unfolding is_unknown scope_of
known_root earlier x known = not-false (is_among (declared object_of earlier) x) known

member_inside : (all earlier : List Line) (x : List ℕ) (below : List Line) (count : ℕ)
    → length (scope_of all).declared.characteristics ≡ count
    → Stands all earlier (lines.Has x) below → nat_lt (number_of (scope_of all).declared.characteristics x) count ≡ true
member_inside all earlier x below count e s =
    inside (scope_of all).declared.characteristics count x e
    (subst (λ names. is_among names x ≡ true) (sym (scope_characteristics all))
    (among_all characteristic_of all earlier (lines.Has x) below x s (known_has earlier x s.passes.known)))

column_inside : (all earlier : List Line) (x : ColumnLine) (below : List Line) (count : ℕ)
    → length (scope_of all).declared.characteristics ≡ count
    → Stands all earlier (lines.Column x) below
    → nat_lt (number_of (scope_of all).declared.characteristics x.characteristic) count ≡ true
column_inside all earlier x below count e s =
    inside (scope_of all).declared.characteristics count x.characteristic e
    (subst (λ names. is_among names x.characteristic ≡ true) (sym (scope_characteristics all))
    (among_all characteristic_of all earlier (lines.Column x) below x.characteristic s
    (known_column earlier x s.passes.known)))

class_inside : (all earlier : List Line) (x : ObjectLine) (below : List Line) (count : ℕ)
    → length (scope_of all).declared.classes ≡ count
    → Stands all earlier (lines.Object x) below
    → nat_lt (number_of (scope_of all).declared.classes x.class) count ≡ true
class_inside all earlier x below count e s =
    inside (scope_of all).declared.classes count x.class e
    (subst (λ names. is_among names x.class ≡ true) (sym (scope_classes all))
    (among_all class_of all earlier (lines.Object x) below x.class s (known_object earlier x s.passes.known)))

root_inside : (all earlier : List Line) (x : List ℕ) (below : List Line) (count : ℕ)
    → length (scope_of all).declared.objects ≡ count
    → Stands all earlier (lines.Root x) below → nat_lt (number_of (scope_of all).declared.objects x) count ≡ true
root_inside all earlier x below count e s =
    inside (scope_of all).declared.objects count x e
    (subst (λ names. is_among names x ≡ true) (sym (scope_objects all))
    (among_all object_of all earlier (lines.Root x) below x s (known_root earlier x s.passes.known)))

text_inside : (all earlier : List Line) (x : List ℕ) (below : List Line) → Stands all earlier (lines.Text x) below
    → nat_lt (number_of (scope_of all).declared.texts x) (length (scope_of all).declared.texts) ≡ true
text_inside all earlier x below s =
    let here : is_among (declared text_of all) x ≡ true =
    subst (λ ls. is_among (declared text_of ls) x ≡ true) s.all_are
    (among_later text_of (lines.Text x ∷ earlier) below x (own_name (declared text_of earlier) x)) in
    inside (scope_of all).declared.texts (length (scope_of all).declared.texts) x refl
    (subst (λ names. is_among names x ≡ true) (sym (scope_texts all)) here)

component_inside : (material : List ℕ) (count : ℕ) (o : Option ℕ) → each (λ k. nat_lt k count) o ≡ true
    → is_component_there count (component_or material o) ≡ true
component_inside material count None h = refl
component_inside material count (Some object) h = h

-- what is used is there
uses_inside : (all : List Line) (a : Scope) (count : ℕ) → length a.dependencies.all ≡ count
    → (earlier : List Line) (n : ℕ) (ls : List Line) → Sound earlier ls
    → backwards earlier ls ≡ all → are_below count (uses_below a n ls) ≡ true
uses_inside all a count c earlier n ls s e =
    each_said ends_uses (use_at a) (λ k. nat_lt k count) all
    (λ e n l b p. at_use all e a n l b (λ k. nat_lt k count) (λ x q. place_inside a.dependencies.all count x c) p)
    earlier n ls s e

nets_inside : (all : List Line) (a : Scope) (count : ℕ) → length a.dependencies.nets ≡ count
    → (earlier : List Line) (n : ℕ) (ls : List Line) → Sound earlier ls
    → backwards earlier ls ≡ all → are_below count (nets_below a n ls) ≡ true
nets_inside all a count c earlier n ls s e =
    each_said ends_uses (net_use_at a) (λ k. nat_lt k count) all
    (λ e n l b p. at_net_use all e a n l b (λ k. nat_lt k count) (λ x q. place_inside a.dependencies.nets count x c) p)
    earlier n ls s e

-- the root
root_said : (all : List Line) (count : ℕ) → length (scope_of all).declared.objects ≡ count → (earlier ls : List Line)
    → Sound earlier ls
    → backwards earlier ls ≡ all → some_line is_root earlier ≡ false
    → nat_lt (first_said 0 (root_at (scope_of all)) ls) count ≡ true
root_said all count c earlier [] s e none = absurd (let some = root_above earlier s in cc)
root_said all count c earlier (lines.Skipped ∷ below) s e none =
    root_said all count c (lines.Skipped ∷ earlier) below s.1 e none
root_said all count c earlier ((lines.Inner x) ∷ below) s e none =
    root_said all count c ((lines.Inner x) ∷ earlier) below s.1 e none
root_said all count c earlier (lines.LongInner ∷ below) s e none =
    root_said all count c (lines.LongInner ∷ earlier) below s.1 e none
root_said all count c earlier (lines.End ∷ below) s e none =
    root_said all count c (lines.End ∷ earlier) below s.1 e none
root_said all count c earlier ((lines.TooLong x) ∷ below) s e none =
    root_said all count c ((lines.TooLong x) ∷ earlier) below s.1 e none
root_said all count c earlier ((lines.NoForm x) ∷ below) s e none =
    root_said all count c ((lines.NoForm x) ∷ earlier) below s.1 e none
root_said all count c earlier ((lines.Head x) ∷ below) s e none =
    root_said all count c ((lines.Head x) ∷ earlier) below s.1 e none
root_said all count c earlier ((lines.Char x) ∷ below) s e none =
    root_said all count c ((lines.Char x) ∷ earlier) below s.1 e none
root_said all count c earlier ((lines.Num x) ∷ below) s e none =
    root_said all count c ((lines.Num x) ∷ earlier) below s.1 e none
root_said all count c earlier ((lines.Text x) ∷ below) s e none =
    root_said all count c ((lines.Text x) ∷ earlier) below s.1 e none
root_said all count c earlier ((lines.Interval x) ∷ below) s e none =
    root_said all count c ((lines.Interval x) ∷ earlier) below s.1 e none
root_said all count c earlier ((lines.Uses x) ∷ below) s e none =
    root_said all count c ((lines.Uses x) ∷ earlier) below s.1 e none
root_said all count c earlier ((lines.Class x) ∷ below) s e none =
    root_said all count c ((lines.Class x) ∷ earlier) below s.1 e none
root_said all count c earlier ((lines.Has x) ∷ below) s e none =
    root_said all count c ((lines.Has x) ∷ earlier) below s.1 e none
root_said all count c earlier ((lines.Table x) ∷ below) s e none =
    root_said all count c ((lines.Table x) ∷ earlier) below s.1 e none
root_said all count c earlier ((lines.Column x) ∷ below) s e none =
    root_said all count c ((lines.Column x) ∷ earlier) below s.1 e none
root_said all count c earlier ((lines.Net x) ∷ below) s e none =
    root_said all count c ((lines.Net x) ∷ earlier) below s.1 e none
root_said all count c earlier ((lines.Object x) ∷ below) s e none =
    root_said all count c ((lines.Object x) ∷ earlier) below s.1 e none
root_said all count c earlier ((lines.Bill x) ∷ below) s e none =
    root_said all count c ((lines.Bill x) ∷ earlier) below s.1 e none
root_said all count c earlier ((lines.Operation x) ∷ below) s e none =
    root_said all count c ((lines.Operation x) ∷ earlier) below s.1 e none
root_said all count c earlier ((lines.Block x) ∷ below) s e none =
    root_said all count c ((lines.Block x) ∷ earlier) below s.1 e none
root_said all count c earlier ((lines.Root x) ∷ below) s e none =
    root_inside all earlier x below count c (record { passes = s.0; after = s.1; all_are = e })
root_said all count c earlier (lines.Action ∷ below) s e none =
    root_said all count c (lines.Action ∷ earlier) below s.1 e none

pub keeps_indices : (ls : List Line) → Sound [] ls → KeepsIndices (model_of ls)
keeps_indices ls s =
    let all = backwards [] ls in
    let a = scope_of all in
    let m = model_of ls in
    let characteristics = length m.characteristics in
    let classes = length m.classes in
    let objects = length m.objects in
    let nets = length m.nets in
    let dependencies = length m.dependencies in
    let c1 : length a.declared.characteristics ≡ characteristics =
    counted (λ c. c.name) m.characteristics _ _ (scope_characteristics all) (characteristics_are ls s) in
    let c2 : length a.declared.classes ≡ classes =
    counted (λ c. c.name) m.classes _ _ (scope_classes all) (classes_are ls s) in
    let c3 : length a.declared.objects ≡ objects =
    counted (λ o. o.material) m.objects _ _ (scope_objects all) (objects_are ls s) in
    let c4 : length a.dependencies.nets ≡ nets = counted (λ m. m.name) m.nets _ _ (scope_nets all) (nets_are ls s) in
    let c5 : length a.dependencies.all ≡ dependencies =
    counted (λ d. d.name) m.dependencies _ _ (scope_dependencies all) (dependencies_are ls s) in
    record {
      texts = made (characteristic_at a) (λ c. are_texts_there (length m.texts) c.values) ls s
          (λ e n l b p. at_characteristic all e a n l b (λ c. are_texts_there (length m.texts) c.values)
          (λ x q. each_said opens (text_at a) (λ v. nat_lt v.text (length m.texts)) all
          (λ e n l b p. at_text all e a n l b (λ v. nat_lt v.text (length m.texts)) (λ x q. text_inside all e x b q) p)
          (lines.Char x ∷ e) (n + 1) b q.after q.all_are)
          (λ x q. refl) p);
      members = made (class_at a) (λ c. are_below characteristics c.members) ls s
          (λ e n l b p. at_class all e a n l b (λ c. are_below characteristics c.members)
          (λ x q. each_said opens (member_at a) (λ k. nat_lt k characteristics) all
          (λ e n l b p. at_member all e a n l b (λ k. nat_lt k characteristics)
          (λ x q. member_inside all e x b characteristics c1 q) p)
          (lines.Class x ∷ e) (n + 1) b q.after q.all_are) p);
      columns = made (table_at a) (λ t. list_all (λ c. nat_lt c.characteristic characteristics) t.columns) ls s
          (λ e n l b p. at_table all e a n l b (λ t. list_all (λ c. nat_lt c.characteristic characteristics) t.columns)
          (λ x q. each_said opens (column_at a) (λ c. nat_lt c.characteristic characteristics) all
          (λ e n l b p. at_column all e a n l b (λ c. nat_lt c.characteristic characteristics)
          (λ x q. column_inside all e x b characteristics c1 q) p)
          (lines.Table x ∷ e) (n + 1) b q.after q.all_are) p);
      classes = made (object_at a) (λ o. nat_lt o.class classes) ls s
          (λ e n l b p. at_object all e a n l b (λ o. nat_lt o.class classes)
          (λ x q. class_inside all e x b classes c2 q) p);
      components = made (object_at a) (λ o. list_all (λ i. is_component_there objects i.component) o.bill) ls s
          (λ e n l b p. at_object all e a n l b (λ o. list_all (λ i. is_component_there objects i.component) o.bill)
          (λ x q. each_said opens (item_at a) (λ i. is_component_there objects i.component) all
          (λ e n l b p. at_item all e a n l b (λ i. is_component_there objects i.component)
          (λ x q t. component_inside x.material objects (place_of a.declared.objects x.material)
          (place_inside a.declared.objects objects x.material c3)) p)
          (lines.Object x ∷ e) (n + 1) b q.after q.all_are) p);
      root = root_said all objects c3 [] ls s refl refl;
      uses = made (characteristic_at a) (λ c. are_below dependencies c.uses) ls s
          (λ e n l b p. at_characteristic all e a n l b (λ c. are_below dependencies c.uses)
          (λ x q. uses_inside all a dependencies c5 (lines.Char x ∷ e) (n + 1) b q.after q.all_are)
          (λ x q. uses_inside all a dependencies c5 (lines.Num x ∷ e) (n + 1) b q.after q.all_are) p);
      value_uses = made (characteristic_at a) (λ c. have_uses_there dependencies c.values) ls s
          (λ e n l b p. at_characteristic all e a n l b (λ c. have_uses_there dependencies c.values)
          (λ x q. each_said opens (text_at a) (λ v. are_below dependencies v.uses) all
          (λ e n l b p. at_text all e a n l b (λ v. are_below dependencies v.uses)
          (λ x q. uses_inside all a dependencies c5 (lines.Text x ∷ e) (n + 1) b q.after q.all_are) p)
          (lines.Char x ∷ e) (n + 1) b q.after q.all_are)
          (λ x q. each_said opens (number_at a) (λ v. are_below dependencies v.uses) all
          (λ e n l b p. at_number all e a n l b (λ v. are_below dependencies v.uses)
          (λ x q. each_map (λ v. are_below dependencies v.uses) (number_with (uses_below a (n + 1) b))
          (entry_within x.low x.high)
          (λ entry. uses_inside all a dependencies c5 (lines.Interval x ∷ e) (n + 1) b q.after q.all_are)) p)
          (lines.Num x ∷ e) (n + 1) b q.after q.all_are) p);
      constraints = made (net_at a) (λ m. are_below dependencies m.constraints) ls s
          (λ e n l b p. at_net all e a n l b (λ m. are_below dependencies m.constraints)
          (λ x q. uses_inside all a dependencies c5 (lines.Net x ∷ e) (n + 1) b q.after q.all_are) p);
      nets = made (object_at a) (λ o. are_below nets o.nets) ls s
          (λ e n l b p. at_object all e a n l b (λ o. are_below nets o.nets)
          (λ x q. nets_inside all a nets c4 (lines.Object x ∷ e) (n + 1) b q.after q.all_are) p);
      procedures = made (object_at a) (λ o. are_below dependencies o.procedures) ls s
          (λ e n l b p. at_object all e a n l b (λ o. are_below dependencies o.procedures)
          (λ x q. uses_inside all a dependencies c5 (lines.Object x ∷ e) (n + 1) b q.after q.all_are) p);
      item_uses = made (object_at a) (λ o. list_all (λ i. are_below dependencies i.uses) o.bill) ls s
          (λ e n l b p. at_object all e a n l b (λ o. list_all (λ i. are_below dependencies i.uses) o.bill)
          (λ x q. each_said opens (item_at a) (λ i. are_below dependencies i.uses) all
          (λ e n l b p. at_item all e a n l b (λ i. are_below dependencies i.uses)
          (λ x q t. uses_inside all a dependencies c5 (lines.Bill x ∷ e) (n + 1) b q.after q.all_are) p)
          (lines.Object x ∷ e) (n + 1) b q.after q.all_are) p);
      operation_uses = made (object_at a) (λ o. list_all (λ i. are_below dependencies i.uses) o.operations) ls s
          (λ e n l b p. at_object all e a n l b (λ o. list_all (λ i. are_below dependencies i.uses) o.operations)
          (λ x q. each_said opens (operation_at a) (λ i. are_below dependencies i.uses) all
          (λ e n l b p. at_operation all e a n l b (λ i. are_below dependencies i.uses)
          (λ x q t. uses_inside all a dependencies c5 (lines.Operation x ∷ e) (n + 1) b q.after q.all_are) p)
          (lines.Object x ∷ e) (n + 1) b q.after q.all_are) p);
    }
