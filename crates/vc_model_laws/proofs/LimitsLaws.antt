-- A model that a text spells keeps the limits.
use Rattle.std.proofs.Common.{◌≡◌, ℕ, ◌+◌, ◌≤◌, true, false, ◌&&◌, nat_lt, nat_le, List, [], ◌∷◌, length, map, Option}
use Rattle.std.proofs.Common.{Some, None, refl, sym, ap, subst, ◌∙◌, arith}
use Rattle.std.specs.Prelude.{is_none, option_map, unwrap_or}
use Rattle.std.specs.List.{list_all}
use Rattle.std.proofs.lemmas.Bool.{and_parts, and_from, leb-true, le-leb, lt-ltb}
use Rattle.std.proofs.lemmas.List.{length-map}
use Rattle.vc_syntax_tree.specs.Trees.{Term}
use Rattle.vc_model_lines.specs.declared.line.Line.{Line}
use Rattle.vc_model_lines.specs.declared.line.Line.TheVariants as lines
use Rattle.vc_model_lines.specs.declared.line.BillLine.{BillLine}
use Rattle.vc_model_lines.specs.declared.line.CharLine.{CharLine}
use Rattle.vc_model_lines.specs.declared.line.NumLine.{NumLine}
use Rattle.vc_model_lines.specs.declared.line.OperationLine.{OperationLine}
use Rattle.vc_model_lines.specs.Counts.{is_between}
use Rattle.vc_model_scope.specs.declared.entries.Interval.{Interval}
use Rattle.vc_model_scope.specs.Contents.{text_of, entry_of, entry_within, member_of, column_of, item_of, operation_of}
use Rattle.vc_model_scope.specs.Contents.{use_of}
use Rattle.vc_model_scope.specs.Names.{with_name}
use Rattle.vc_model_scope.specs.Recursions.{listed}
use Rattle.vc_model_scope.specs.Scope.{scope_of}
use Rattle.vc_model_scope.specs.Stands.{opens, ends_uses}
use Rattle.vc_model_scope.specs.declared.scope.Scope.{Scope}
use Rattle.vc_model_faults.specs.First.{backwards}
use Rattle.vc_model_faults.specs.Values.{is_bad}
use Rattle.vc_model_drafts.specs.Models.{number_of, uses_below, nets_below, use_at, net_use_at, text_at, number_at}
use Rattle.vc_model_drafts.specs.Models.{member_at, column_at, item_at, operation_at, characteristic_at, class_at}
use Rattle.vc_model_drafts.specs.Models.{table_at, net_at, object_at, model_of}
use Rattle.vc_plan.specs.Spelling.{is_upper}
use Rattle.vc_model_laws.specs.Limits.{count_of, is_in_range, have_few_uses, is_item_limited, is_operation_limited}
use Rattle.vc_model_laws.specs.Limits.{KeepsLimits}
use Rattle.vc_model_laws.proofs.DeclaringLaws.{characteristics_are, classes_are, tables_are, nets_are, objects_are}
use Rattle.vc_model_laws.proofs.DeclaringLaws.{dependencies_are}
use Rattle.vc_model_laws.proofs.LineCases.{number_with, char_made, num_made, item_made, operation_made}
use Rattle.vc_model_laws.proofs.LineCases.{at_characteristic, at_class, at_table, at_net, at_object, at_item}
use Rattle.vc_model_laws.proofs.LineCases.{at_operation, at_text, at_number}
use Rattle.vc_model_laws.proofs.Holding.{each, each_map}
use Rattle.vc_model_laws.proofs.LineForms.{is_formed}
use Rattle.vc_model_laws.proofs.ListingLaws.{texts_few, entrys_few, members_few, columns_few, items_few, operations_few}
use Rattle.vc_model_laws.proofs.ListingLaws.{uses_few, characteristics_few, classes_few, tables_few, objects_few}
use Rattle.vc_model_laws.proofs.ListingLaws.{nets_few, dependencies_few, same_length, until_fewer, use_fewer}
use Rattle.vc_model_laws.proofs.ListingLaws.{net_use_fewer}
use Rattle.vc_model_laws.proofs.MadeLaws.{ends_of, texts_made, members_made, columns_made, numbers_made, items_made}
use Rattle.vc_model_laws.proofs.MadeLaws.{operations_made}
use Rattle.vc_model_laws.proofs.NamesLaws.{made}
use Rattle.vc_model_laws.proofs.Walks.{Sound, Stands, each_said, until_maps}

-- as many things as names
few : {X K : Type 0} (key : X → K) (xs : List X) (names : List K) (limit : ℕ) → map key xs ≡ names
    → length names ≤ limit → nat_le (length xs) limit ≡ true
few key xs names limit e h = le-leb (length xs) limit (subst (λ n. n ≤ limit) (ap length (sym e) ∙ length-map xs key) h)

-- as many things as lines list
listed_few : {X K N : Type 0} (key : X → N) (g : K → N) (xs : List X) (ys : List K) (limit : ℕ) → map key xs ≡ map g ys
    → length ys ≤ limit → nat_le (length xs) limit ≡ true
listed_few key g xs ys limit e h = le-leb (length xs) limit (subst (λ n. n ≤ limit) (sym (same_length key g xs ys e)) h)

-- no more uses than are listed
uses_limited : (a : Scope) (earlier : List Line) (n : ℕ) (ls : List Line) → Sound earlier ls
    → listed with_name ends_uses use_of earlier ≡ []
    → nat_le (length (uses_below a n ls)) 100 ≡ true
uses_limited a earlier n ls s e =
    le-leb (length (uses_below a n ls)) 100 (omega
    (arith, until_fewer ends_uses (use_at a) use_of (use_fewer a) n ls, uses_few earlier ls s e))

nets_limited : (a : Scope) (earlier : List Line) (n : ℕ) (ls : List Line) → Sound earlier ls
    → listed with_name ends_uses use_of earlier ≡ []
    → nat_le (length (nets_below a n ls)) 100 ≡ true
nets_limited a earlier n ls s e =
    le-leb (length (nets_below a n ls)) 100 (omega
    (arith, until_fewer ends_uses (net_use_at a) use_of (net_use_fewer a) n ls, uses_few earlier ls s e))

-- the counts of a form
length_in : (length' : Option ℕ) → each (is_between 1 30) length' ≡ true → is_none length' ≡ false
    → is_between 1 30 (unwrap_or length' 0) ≡ true
length_in None f h = absurd (cc)
length_in (Some n) f h = f

length_ranged : (a scope : Scope) (n : ℕ) (x : CharLine) (below : List Line) → is_formed (lines.Char x) ≡ true
    → is_bad scope (lines.Char x) ≡ false
    → is_in_range (char_made a n x below).values ≡ true
unfolding is_bad
length_ranged a scope n x below f h = length_in x.length
    (and_parts (is_upper x.name) (each (is_between 1 30) x.length) f).1 h

decimals_in : (decimals : Option ℕ) → each (is_between 0 6) decimals ≡ true → nat_le (unwrap_or decimals 0) 6 ≡ true
decimals_in None f = refl
decimals_in (Some n) f = (and_parts (nat_le 0 n) (nat_le n 6) f).1

decimals_ranged : (a : Scope) (n : ℕ) (x : NumLine) (below : List Line) → is_formed (lines.Num x) ≡ true
    → is_in_range (num_made a n x below).values ≡ true
decimals_ranged a n x below f =
    let rest = and_parts (is_upper x.name) (each (is_between 0 6) x.decimals && each is_upper x.unit) f in
    decimals_in x.decimals (and_parts (each (is_between 0 6) x.decimals) (each is_upper x.unit) rest.1).0

four_digits : (number : Option ℕ) → each (is_between 0 9999) number ≡ true → nat_lt (unwrap_or number 0) 10_000 ≡ true
four_digits None f = refl
four_digits (Some n) f = lt-ltb n 10_000 (omega (arith, leb-true n 9999 (and_parts (nat_le 0 n) (nat_le n 9999) f).1))

item_limited : (a : Scope) (all earlier : List Line) (n : ℕ) (x : BillLine) (below : List Line) (term : Term)
    → Stands all earlier (lines.Bill x) below
    → is_item_limited (item_made a n x below term) ≡ true
item_limited a all earlier n x below term s =
    let rest = and_parts (is_upper x.material) (is_upper x.unit && each (is_between 0 9999) x.item) s.passes.formed in
    and_from (nat_lt (unwrap_or x.item 0) 10_000) (nat_le (length (uses_below a (n + 1) below)) 100)
    (four_digits x.item (and_parts (is_upper x.unit) (each (is_between 0 9999) x.item) rest.1).1)
    (uses_limited a (lines.Bill x ∷ earlier) (n + 1) below s.after refl)

operation_limited : (a : Scope) (all earlier : List Line) (n : ℕ) (x : OperationLine) (below : List Line) (term : Term)
    → Stands all earlier (lines.Operation x) below → is_operation_limited (operation_made a n x below term) ≡ true
operation_limited a all earlier n x below term s =
    let rest = and_parts (is_upper x.centre) (is_upper x.unit && each (is_between 0 9999) x.number) s.passes.formed in
    and_from (nat_lt (unwrap_or x.number 0) 10_000) (nat_le (length (uses_below a (n + 1) below)) 100)
    (four_digits x.number (and_parts (is_upper x.unit) (each (is_between 0 9999) x.number) rest.1).1)
    (uses_limited a (lines.Operation x ∷ earlier) (n + 1) below s.after refl)

-- the uses of values
number_limited : (uses : List ℕ) (o : Option Interval) → nat_le (length uses) 100 ≡ true
    → each (λ v. nat_le (length v.uses) 100) (option_map (number_with uses) o) ≡ true
number_limited uses o h = each_map (λ v. nat_le (length v.uses) 100) (number_with uses) o (λ e. h)

pub keeps_limits : (ls : List Line) → Sound [] ls → KeepsLimits (model_of ls)
keeps_limits ls s =
    let all = backwards [] ls in
    let a = scope_of all in
    record {
      characteristics = few (λ c. c.name) _ _ 2_000 (characteristics_are ls s) (characteristics_few ls s);
      classes = few (λ c. c.name) _ _ 500 (classes_are ls s) (classes_few ls s);
      tables = few (λ t. t.name) _ _ 200 (tables_are ls s) (tables_few ls s);
      dependencies = few (λ d. d.name) _ _ 2_000 (dependencies_are ls s) (dependencies_few ls s);
      nets = few (λ m. m.name) _ _ 200 (nets_are ls s) (nets_few ls s);
      objects = few (λ o. o.material) _ _ 500 (objects_are ls s) (objects_few ls s);
      values = made (characteristic_at a) (λ c. nat_le (count_of c.values) 1_000) ls s
          (λ e n l b p. at_characteristic all e a n l b (λ c. nat_le (count_of c.values) 1_000)
          (λ x q. listed_few (λ v. v.text) (number_of a.declared.texts) _ _ 1_000
          (until_maps opens (text_at a) (λ v. v.text) text_of (number_of a.declared.texts)
          (λ e n l b p. texts_made a n l b) (lines.Char x ∷ e) (n + 1) b q.after)
          (texts_few (lines.Char x ∷ e) b q.after refl))
          (λ x q. listed_few ends_of (λ k. k) _ _ 1_000
          (until_maps opens (number_at a) ends_of entry_of (λ k. k) (λ e n l b p. numbers_made a n l b)
          (lines.Num x ∷ e) (n + 1) b q.after)
          (entrys_few (lines.Num x ∷ e) b q.after refl)) p);
      ranges = made (characteristic_at a) (λ c. is_in_range c.values) ls s
          (λ e n l b p. at_characteristic all e a n l b (λ c. is_in_range c.values)
          (λ x q. length_ranged a (scope_of e) n x b q.passes.formed q.passes.fit)
          (λ x q. decimals_ranged a n x b q.passes.formed) p);
      members = made (class_at a) (λ c. nat_le (length c.members) 500) ls s
          (λ e n l b p. at_class all e a n l b (λ c. nat_le (length c.members) 500)
          (λ x q. listed_few (λ m. m) (number_of a.declared.characteristics) _ _ 500
          (until_maps opens (member_at a) (λ m. m) member_of (number_of a.declared.characteristics)
          (λ e n l b p. members_made a n l b) (lines.Class x ∷ e) (n + 1) b q.after)
          (members_few (lines.Class x ∷ e) b q.after refl)) p);
      columns = made (table_at a) (λ t. nat_le (length t.columns) 20) ls s
          (λ e n l b p. at_table all e a n l b (λ t. nat_le (length t.columns) 20)
          (λ x q. listed_few (λ c. c.characteristic) (number_of a.declared.characteristics) _ _ 20
          (until_maps opens (column_at a) (λ c. c.characteristic) column_of (number_of a.declared.characteristics)
          (λ e n l b p. columns_made a n l b) (lines.Table x ∷ e) (n + 1) b q.after)
          (columns_few (lines.Table x ∷ e) b q.after refl)) p);
      items = made (object_at a) (λ o. nat_le (length o.bill) 1_000) ls s
          (λ e n l b p. at_object all e a n l b (λ o. nat_le (length o.bill) 1_000)
          (λ x q. listed_few (λ i. i.item) (λ k. k) _ _ 1_000
          (until_maps opens (item_at a) (λ i. i.item) item_of (λ k. k) (λ e n l b p. items_made a (scope_of e) n l b p)
          (lines.Object x ∷ e) (n + 1) b q.after)
          (items_few (lines.Object x ∷ e) b q.after refl)) p);
      operations = made (object_at a) (λ o. nat_le (length o.operations) 1_000) ls s
          (λ e n l b p. at_object all e a n l b (λ o. nat_le (length o.operations) 1_000)
          (λ x q. listed_few (λ i. i.number) (λ k. k) _ _ 1_000
          (until_maps opens (operation_at a) (λ i. i.number) operation_of (λ k. k)
          (λ e n l b p. operations_made a (scope_of e) n l b p) (lines.Object x ∷ e) (n + 1) b q.after)
          (operations_few (lines.Object x ∷ e) b q.after refl)) p);
      item_limits = made (object_at a) (λ o. list_all is_item_limited o.bill) ls s
          (λ e n l b p. at_object all e a n l b (λ o. list_all is_item_limited o.bill)
          (λ x q. each_said opens (item_at a) is_item_limited all
          (λ e n l b p. at_item all e a n l b is_item_limited (λ x q t. item_limited a all e n x b t q) p)
          (lines.Object x ∷ e) (n + 1) b q.after q.all_are) p);
      operation_limits = made (object_at a) (λ o. list_all is_operation_limited o.operations) ls s
          (λ e n l b p. at_object all e a n l b (λ o. list_all is_operation_limited o.operations)
          (λ x q. each_said opens (operation_at a) is_operation_limited all
          (λ e n l b p. at_operation all e a n l b is_operation_limited (λ x q t. operation_limited a all e n x b t q)
          p)
          (lines.Object x ∷ e) (n + 1) b q.after q.all_are) p);
      uses = made (characteristic_at a) (λ c. nat_le (length c.uses) 100) ls s
          (λ e n l b p. at_characteristic all e a n l b (λ c. nat_le (length c.uses) 100)
          (λ x q. uses_limited a (lines.Char x ∷ e) (n + 1) b q.after refl)
          (λ x q. uses_limited a (lines.Num x ∷ e) (n + 1) b q.after refl) p);
      value_uses = made (characteristic_at a) (λ c. have_few_uses c.values) ls s
          (λ e n l b p. at_characteristic all e a n l b (λ c. have_few_uses c.values)
          (λ x q. each_said opens (text_at a) (λ v. nat_le (length v.uses) 100) all
          (λ e n l b p. at_text all e a n l b (λ v. nat_le (length v.uses) 100)
          (λ x q. uses_limited a (lines.Text x ∷ e) (n + 1) b q.after refl) p)
          (lines.Char x ∷ e) (n + 1) b q.after q.all_are)
          (λ x q. each_said opens (number_at a) (λ v. nat_le (length v.uses) 100) all
          (λ e n l b p. at_number all e a n l b (λ v. nat_le (length v.uses) 100)
          (λ x q. number_limited (uses_below a (n + 1) b) (entry_within x.low x.high)
          (uses_limited a (lines.Interval x ∷ e) (n + 1) b q.after refl)) p)
          (lines.Num x ∷ e) (n + 1) b q.after q.all_are) p);
      constraints = made (net_at a) (λ m. nat_le (length m.constraints) 100) ls s
          (λ e n l b p. at_net all e a n l b (λ m. nat_le (length m.constraints) 100)
          (λ x q. uses_limited a (lines.Net x ∷ e) (n + 1) b q.after refl) p);
      profiles = made (object_at a) (λ o. nat_le (length o.nets) 100 && nat_le (length o.procedures) 100) ls s
          (λ e n l b p. at_object all e a n l b (λ o. nat_le (length o.nets) 100 && nat_le (length o.procedures) 100)
          (λ x q. and_from (nat_le (length (nets_below a (n + 1) b)) 100) (nat_le (length (uses_below a (n + 1) b)) 100)
          (nets_limited a (lines.Object x ∷ e) (n + 1) b q.after refl)
          (uses_limited a (lines.Object x ∷ e) (n + 1) b q.after refl)) p);
    }
