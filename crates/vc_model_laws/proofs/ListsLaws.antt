-- In the lists of a model that a text spells nothing stands twice, and what has an order ascends.
use Rattle.std.proofs.Common.{◌≡◌, ◌+◌, true, false, not, ◌&&◌, nat_lt, List, []}
use Rattle.std.proofs.Common.{◌∷◌, length}
use Rattle.std.proofs.Common.{refl, sym, subst, ◌∙◌}
use Rattle.std.specs.Prelude.{◌==◌}
use Rattle.std.specs.List.{list_all}
use Rattle.std.proofs.lemmas.Bool.{not_from_false, not-false}
use Rattle.std.proofs.lemmas.Bool.{lt-ltb}
use Rattle.std.proofs.lemmas.List.{map-id}
use Rattle.vc_model_lines.specs.declared.line.Line.{Line}
use Rattle.vc_model_lines.specs.declared.line.Line.TheVariants as lines
use Rattle.vc_model_lines.specs.declared.line.CharLine.{CharLine}
use Rattle.vc_model_lines.specs.declared.line.NumLine.{NumLine}
use Rattle.vc_model_scope.specs.Contents.{text_of, entry_within, member_of, column_of}
use Rattle.vc_model_scope.specs.Contents.{item_of, operation_of}
use Rattle.vc_model_scope.specs.LookAhead.{has_value}
use Rattle.vc_model_scope.specs.Scope.{scope_of}
use Rattle.vc_model_scope.specs.Stands.{opens}
use Rattle.vc_model_faults.specs.First.{backwards}
use Rattle.vc_model_faults.specs.Kinds.{is_mixed, lacks_values}
use Rattle.vc_model_drafts.specs.Models.{until, number_of, uses_below, text_at}
use Rattle.vc_model_drafts.specs.Models.{number_at, member_at, column_at, item_at, operation_at, characteristic_at}
use Rattle.vc_model_drafts.specs.Models.{class_at, table_at, net_at, object_at, model_of}
use Rattle.vc_plan.specs.Orders.{are_apart, are_in_order}
use Rattle.vc_model_laws.specs.Limits.{count_of}
use Rattle.vc_model_laws.specs.Lists.{are_different, are_proper, are_uses_different, is_multiple, KeepsLists}
use Rattle.vc_model_laws.proofs.LineCases.{number_with, at_characteristic, at_class, at_table, at_net}
use Rattle.vc_model_laws.proofs.LineCases.{at_object, at_item, at_operation, at_text, at_number}
use Rattle.vc_model_laws.proofs.Holding.{each_map}
use Rattle.vc_model_laws.proofs.ListingLaws.{text_add, member_add, column_add}
use Rattle.vc_model_laws.proofs.MadeLaws.{texts_made, members_made, columns_made, items_made}
use Rattle.vc_model_laws.proofs.MadeLaws.{operations_made}
use Rattle.vc_model_laws.proofs.NameLemmas.{apart_map}
use Rattle.vc_model_laws.proofs.NamesLaws.{made}
use Rattle.vc_model_laws.proofs.Walks.{Sound, said, each_said, until_maps}
use Rattle.vc_model_laws.proofs.DifferentLaws.{numbers_different, member_there, column_there, text_there}
use Rattle.vc_model_laws.proofs.DifferentLaws.{uses_different, nets_different}
use Rattle.vc_model_laws.proofs.OrderLaws.{Ascends, order_map, items_ascend, operations_ascend, numbers_proper}
use Rattle.vc_model_laws.proofs.FirstValueLaws.{text_first, number_first}

char_valued : (x : CharLine) (below : List Line) → lacks_values (lines.Char x) below ≡ false → has_value below ≡ true
unfolding lacks_values
char_valued x below h = not-false (has_value below) h

num_valued : (x : NumLine) (below : List Line) → lacks_values (lines.Num x) below ≡ false → has_value below ≡ true
unfolding lacks_values
num_valued x below h = not-false (has_value below) h

char_unmixed : (x : CharLine) → is_mixed (lines.Char x) ≡ false → not (x.multiple && x.restrictable) ≡ true
unfolding is_mixed
char_unmixed x h = not_from_false (x.multiple && x.restrictable) h

pub keeps_lists : (ls : List Line) → Sound [] ls → KeepsLists (model_of ls)
keeps_lists ls s =
    let all = backwards [] ls in
    let a = scope_of all in
    record {
      values = made (characteristic_at a) (λ c. are_proper c.values) ls s
          (λ e n l b p. at_characteristic all e a n l b (λ c. are_proper c.values)
          (λ x q. subst (λ ks. are_different ks ≡ true)
          (sym (until_maps opens (text_at a) (λ v. v.text) text_of (number_of a.declared.texts)
          (λ e n l b p. texts_made a n l b) (lines.Char x ∷ e) (n + 1) b q.after))
          (numbers_different a.declared.texts text_of all text_add (text_there all) (lines.Char x ∷ e) b q.after
          q.all_are refl))
          (λ x q. numbers_proper a all e n x b q) p);
      some_values = made (characteristic_at a) (λ c. nat_lt 0 (count_of c.values)) ls s
          (λ e n l b p. at_characteristic all e a n l b (λ c. nat_lt 0 (count_of c.values))
          (λ x q. lt-ltb 0 (length (until opens (text_at a) (n + 1) b))
          (text_first a (lines.Char x ∷ e) (n + 1) b x.length q.after refl (char_valued x b q.passes.valued)))
          (λ x q. lt-ltb 0 (length (until opens (number_at a) (n + 1) b))
          (number_first a (lines.Num x ∷ e) (n + 1) b x.decimals q.after refl (num_valued x b q.passes.valued))) p);
      unmixed = made (characteristic_at a) (λ c. not (is_multiple c.values && c.restrictable)) ls s
          (λ e n l b p. at_characteristic all e a n l b (λ c. not (is_multiple c.values && c.restrictable))
          (λ x q. char_unmixed x q.passes.unmixed) (λ x q. refl) p);
      members = made (class_at a) (λ c. are_different c.members) ls s
          (λ e n l b p. at_class all e a n l b (λ c. are_different c.members)
          (λ x q. subst (λ ks. are_different ks ≡ true)
          (sym (until_maps opens (member_at a) (λ m. m) member_of (number_of a.declared.characteristics)
          (λ e n l b p. members_made a n l b) (lines.Class x ∷ e) (n + 1) b q.after)
          ∙ map-id (until opens (member_at a) (n + 1) b))
          (numbers_different a.declared.characteristics member_of all member_add (member_there all) (lines.Class x ∷ e)
          b q.after q.all_are refl)) p);
      columns = made (table_at a) (λ t. are_apart (λ a b. a.characteristic == b.characteristic) t.columns) ls s
          (λ e n l b p. at_table all e a n l b (λ t. are_apart (λ a b. a.characteristic == b.characteristic) t.columns)
          (λ x q. apart_map (λ c. c.characteristic) (λ j k. j == k) (until opens (column_at a) (n + 1) b)
          ∙ subst (λ ks. are_different ks ≡ true)
          (sym (until_maps opens (column_at a) (λ c. c.characteristic) column_of (number_of a.declared.characteristics)
          (λ e n l b p. columns_made a n l b) (lines.Table x ∷ e) (n + 1) b q.after))
          (numbers_different a.declared.characteristics column_of all column_add (column_there all) (lines.Table x ∷ e)
          b q.after q.all_are refl)) p);
      items = made (object_at a) (λ o. are_in_order (λ a b. nat_lt a.item b.item) o.bill) ls s
          (λ e n l b p. at_object all e a n l b (λ o. are_in_order (λ a b. nat_lt a.item b.item) o.bill)
          (λ x q. order_map (λ i. i.item) (until opens (item_at a) (n + 1) b)
          ∙ subst Ascends (sym (until_maps opens (item_at a) (λ i. i.item) item_of (λ k. k)
          (λ e n l b p. items_made a (scope_of e) n l b p) (lines.Object x ∷ e) (n + 1) b q.after
          ∙ map-id (said opens item_of b)))
          (items_ascend (lines.Object x ∷ e) b q.after refl)) p);
      operations = made (object_at a) (λ o. are_in_order (λ a b. nat_lt a.number b.number) o.operations) ls s
          (λ e n l b p. at_object all e a n l b (λ o. are_in_order (λ a b. nat_lt a.number b.number) o.operations)
          (λ x q. order_map (λ i. i.number) (until opens (operation_at a) (n + 1) b)
          ∙ subst Ascends (sym (until_maps opens (operation_at a) (λ i. i.number) operation_of (λ k. k)
          (λ e n l b p. operations_made a (scope_of e) n l b p) (lines.Object x ∷ e) (n + 1) b q.after
          ∙ map-id (said opens operation_of b)))
          (operations_ascend (lines.Object x ∷ e) b q.after refl)) p);
      uses = made (characteristic_at a) (λ c. are_different c.uses) ls s
          (λ e n l b p. at_characteristic all e a n l b (λ c. are_different c.uses)
          (λ x q. uses_different a (lines.Char x ∷ e) (n + 1) b q.after refl)
          (λ x q. uses_different a (lines.Num x ∷ e) (n + 1) b q.after refl) p);
      value_uses = made (characteristic_at a) (λ c. are_uses_different c.values) ls s
          (λ e n l b p. at_characteristic all e a n l b (λ c. are_uses_different c.values)
          (λ x q. each_said opens (text_at a) (λ v. are_different v.uses) all
          (λ e n l b p. at_text all e a n l b (λ v. are_different v.uses)
          (λ x q. uses_different a (lines.Text x ∷ e) (n + 1) b q.after refl) p)
          (lines.Char x ∷ e) (n + 1) b q.after q.all_are)
          (λ x q. each_said opens (number_at a) (λ v. are_different v.uses) all
          (λ e n l b p. at_number all e a n l b (λ v. are_different v.uses)
          (λ x q. each_map (λ v. are_different v.uses) (number_with (uses_below a (n + 1) b))
          (entry_within x.low x.high)
          (λ entry. uses_different a (lines.Interval x ∷ e) (n + 1) b q.after refl)) p)
          (lines.Num x ∷ e) (n + 1) b q.after q.all_are) p);
      constraints = made (net_at a) (λ m. are_different m.constraints) ls s
          (λ e n l b p. at_net all e a n l b (λ m. are_different m.constraints)
          (λ x q. uses_different a (lines.Net x ∷ e) (n + 1) b q.after refl) p);
      nets = made (object_at a) (λ o. are_different o.nets) ls s
          (λ e n l b p. at_object all e a n l b (λ o. are_different o.nets)
          (λ x q. nets_different a (lines.Object x ∷ e) (n + 1) b q.after refl) p);
      procedures = made (object_at a) (λ o. are_different o.procedures) ls s
          (λ e n l b p. at_object all e a n l b (λ o. are_different o.procedures)
          (λ x q. uses_different a (lines.Object x ∷ e) (n + 1) b q.after refl) p);
      item_uses = made (object_at a) (λ o. list_all (λ i. are_different i.uses) o.bill) ls s
          (λ e n l b p. at_object all e a n l b (λ o. list_all (λ i. are_different i.uses) o.bill)
          (λ x q. each_said opens (item_at a) (λ i. are_different i.uses) all
          (λ e n l b p. at_item all e a n l b (λ i. are_different i.uses)
          (λ x q t. uses_different a (lines.Bill x ∷ e) (n + 1) b q.after refl) p)
          (lines.Object x ∷ e) (n + 1) b q.after q.all_are) p);
      operation_uses = made (object_at a) (λ o. list_all (λ i. are_different i.uses) o.operations) ls s
          (λ e n l b p. at_object all e a n l b (λ o. list_all (λ i. are_different i.uses) o.operations)
          (λ x q. each_said opens (operation_at a) (λ i. are_different i.uses) all
          (λ e n l b p. at_operation all e a n l b (λ i. are_different i.uses)
          (λ x q t. uses_different a (lines.Operation x ∷ e) (n + 1) b q.after refl) p)
          (lines.Object x ∷ e) (n + 1) b q.after q.all_are) p);
    }
