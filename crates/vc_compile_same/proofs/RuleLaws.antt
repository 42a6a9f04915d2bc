-- Rules are the same in two models of which the same is seen.
use Rattle.std.proofs.Common.{◌≡◌, ℕ, suc, true, List, [], ◌∷◌, ◌++◌, map, flat_map, slice_get, refl, sym}
use Rattle.std.proofs.Common.{◌∙◌, Option, None, Some, option_map}
use Rattle.vc_value.specs.declared.value.Value.{Value}
use Rattle.vc_model_parts.specs.declared.parts.BillItem.{BillItem}
use Rattle.vc_model_drafts.specs.Seen.{SeenItem, seen_item}
use Rattle.vc_syntax_tree.specs.declared.Operand.{Operand as OperandLeaf}
use Rattle.vc_syntax_tree.specs.declared.Relator.{Relator}
use Rattle.vc_syntax_tree.specs.declared.Relator.TheVariants as relators
use Rattle.vc_syntax_tree.specs.Trees as syntax
use Rattle.vc_types.specs.Meanings.{Variable}
use Rattle.vc_types.specs.declared.place.At.TheVariants as at
use Rattle.vc_plan.specs.Pieces.{turned}
use Rattle.vc_plan.specs.declared.conditions.Relation.{Relation}
use Rattle.vc_plan.specs.declared.plans.Slot.{Slot}
use Rattle.vc_plan.specs.declared.rules.Operand.TheVariants as operands
use Rattle.vc_plan.specs.declared.rules.Restriction.TheVariants.{Against, OneOf}
use Rattle.vc_compile_plan.specs.Conditions.{piece_of, relation_of}
use Rattle.vc_compile_plan.specs.Layouts.{object_at}
use Rattle.vc_compile_plan.specs.Places.{Asked, selection_in, selections_among, site_at}
use Rattle.vc_compile_plan.specs.Rules.{Draft, against, among, binding_at, by_table, compare, constraint_drafts}
use Rattle.vc_compile_plan.specs.Rules.{constraints_drafts, demand_at, distinct, drafts_of_line, drafts_of_slot, equate}
use Rattle.vc_compile_plan.specs.Rules.{given_operand, in_net, last_drafts, line, line_draft, line_drafts}
use Rattle.vc_compile_plan.specs.Rules.{line_drafts_from, of_left_operand, of_right_operand, of_terms, own_draft}
use Rattle.vc_compile_plan.specs.Rules.{relation_demand, restriction_draft, restriction_drafts, rule_drafts}
use Rattle.vc_compile_plan.specs.Rules.{slot_drafts_from}
use Rattle.vc_compile_plan.specs.Slots.{bill_if}
use Rattle.vc_compile_plan.specs.Tables.{column_number, table_number}
use Rattle.vc_compile_plan.specs.Terms.{literal_of, lone_of}
use Rattle.vc_compile_plan.specs.Tuples.{asked_of, both}
use Rattle.vc_compile_plan.specs.declared.standings.Standing.{Standing}
use Rattle.vc_compile_same.specs.Twins.{Laid, Stand, Twins, laid_out, other, site_in}
use Rattle.vc_compile_same.proofs.ListLaws.{got}
use Rattle.vc_compile_same.proofs.NameLaws.{variables_of_same}
use Rattle.vc_compile_same.proofs.SiteLaws.{condition_same, place_same, stand_at, term_same, var_meant_same}
use Rattle.vc_compile_same.proofs.SlotLaws.{bill_if_same, tree_same}
use Rattle.vc_compile_same.proofs.UseLaws.{active_same, asked_same, tuples_same}

-- what a constraint says at a site
module _ (t : Twins) (l : Laid) (s : Stand) where
  of_terms_same : (relator : Relator) (left right : syntax.Term)
      → of_terms (laid_out t.one l) (site_in t.one s) relator left right
      ≡ of_terms (laid_out (other t) l) (site_in (other t) s) relator left right
  of_terms_same relators.Equal left right = λ i. equate (term_same t l s left i) (term_same t l s right i)
  of_terms_same relator left right = λ i.
      compare (relation_of relator) (term_same t l s left i) (term_same t l s right i)

  against_same : (relation : Relation) (operand : OperandLeaf) (a : Value)
      → against (laid_out t.one l) (site_in t.one s) relation operand a
      ≡ against (laid_out (other t) l) (site_in (other t) s) relation operand a
  against_same relation operand a = λ i. among (var_meant_same t l s operand i) (Against relation a)

  right_same : (operand : Option OperandLeaf) (a : Option Value) (relator : Relator) (left right : syntax.Term)
      → of_right_operand (laid_out t.one l) (site_in t.one s) operand a relator left right
      ≡ of_right_operand (laid_out (other t) l) (site_in (other t) s) operand a relator left right
  right_same None a relator left right = of_terms_same relator left right
  right_same (Some operand) None relator left right = of_terms_same relator left right
  right_same (Some operand) (Some a) relator left right = against_same (turned (relation_of relator)) operand a

  left_same : (operand : Option OperandLeaf) (a : Option Value) (relator : Relator) (left right : syntax.Term)
      → of_left_operand (laid_out t.one l) (site_in t.one s) operand a relator left right
      ≡ of_left_operand (laid_out (other t) l) (site_in (other t) s) operand a relator left right
  left_same (Some operand) (Some a) relator left right = against_same (relation_of relator) operand a
  left_same (Some operand) None relator left right = of_terms_same relator left right
  left_same None a relator left right = right_same (lone_of right) (literal_of l.texts left) relator left right

  relation_demand_same : (relation : syntax.Relation)
      → relation_demand (laid_out t.one l) (site_in t.one s) relation
      ≡ relation_demand (laid_out (other t) l) (site_in (other t) s) relation
  relation_demand_same (syntax.Compared left relator right) =
      left_same (lone_of left) (literal_of l.texts right) relator left right
  relation_demand_same (syntax.Within operand listed) = λ i.
      among (var_meant_same t l s operand i) (OneOf (map (piece_of l.texts) listed))

  given_same : (a : Option Value) (operand : Option OperandLeaf)
      → given_operand (laid_out t.one l) (site_in t.one s) a operand
      ≡ given_operand (laid_out (other t) l) (site_in (other t) s) a operand
  given_same (Some a) operand = refl
  given_same None (Some operand) = λ i. operands.Variable (var_meant_same t l s operand i)
  given_same None None = refl

  binding_same : (table : List ℕ) (binding : syntax.Binding)
      → binding_at (laid_out t.one l) (site_in t.one s) table binding
      ≡ binding_at (laid_out (other t) l) (site_in (other t) s) table binding
  binding_same table binding = λ i.
      record {
        column = column_number t.one table binding.column.name;
        operand = given_same (literal_of l.texts binding.value) (lone_of binding.value) i;
      }

  demand_same : (demand : syntax.Demand)
      → demand_at (laid_out t.one l) (site_in t.one s) demand
      ≡ demand_at (laid_out (other t) l) (site_in (other t) s) demand
  demand_same (syntax.Relates relation) = relation_demand_same relation
  demand_same (syntax.Holds call) = λ i.
      by_table (table_number t.one call.table.name)
      (map (λ binding. binding_same call.table.name binding i) call.bindings)
  demand_same syntax.Never = refl

  -- what a line asks there
  line_draft_same : (n number : ℕ) (asked : Asked)
      → line_draft (laid_out t.one l) (site_in t.one s) n number asked
      ≡ line_draft (laid_out (other t) l) (site_in (other t) s) n number asked
  line_draft_same n number asked = λ i.
      record (own_draft (line n)) {
        dependency = Some asked.dependency;
        number = number;
        condition = Some (condition_same t l s asked.condition i);
      }

  lines_from_same : (n number : ℕ) (all : List Asked)
      → line_drafts_from (laid_out t.one l) (site_in t.one s) n number all
      ≡ line_drafts_from (laid_out (other t) l) (site_in (other t) s) n number all
  lines_from_same n number [] = refl
  lines_from_same n number (asked ∷ more) = λ i.
      line_draft_same n number asked i ∷ lines_from_same n (suc number) more i

  lines_same : (n : ℕ) (all : List Asked)
      → line_drafts (laid_out t.one l) (site_in t.one s) n all
      ≡ line_drafts (laid_out (other t) l) (site_in (other t) s) n all
  lines_same n [] = refl
  lines_same n (asked ∷ more) = lines_from_same n 1 (asked ∷ more)

-- a constraint stands in a net, at the slots of a tuple
abbrev stand_of : syntax.Constraint → List Variable → List ℕ → Stand
stand_of constraint variables tuple = record {
  place = in_net;
  variables = variables;
  own = 0;
  parent = 0;
  objects = constraint.objects;
  slots = tuple;
}

module _ (t : Twins) (l : Laid) where
  draft_same : (d : ℕ) (constraint : syntax.Constraint) (tuple : List ℕ) (number : ℕ) (restriction : syntax.Restriction)
      → restriction_draft (laid_out t.one l) d constraint tuple number restriction
      ≡ restriction_draft (laid_out (other t) l) d constraint tuple number restriction
  draft_same d constraint tuple number restriction = λ i.
      record {
        dependency = Some d;
        number = number;
        slots = tuple;
        condition = option_map
            (λ c. condition_same t l (stand_of constraint (variables_of_same t constraint.objects i) tuple) c i)
            (both (asked_of constraint.condition) restriction.condition);
        inferred = distinct
            (map (λ o. var_meant_same t l (stand_of constraint (variables_of_same t constraint.objects i) tuple) o i)
            constraint.inferences);
        demand =
            demand_same t l (stand_of constraint (variables_of_same t constraint.objects i) tuple) restriction.demand i;
      }

  drafts_same : (d : ℕ) (constraint : syntax.Constraint) (tuple : List ℕ) (number : ℕ)
      (restrictions : List syntax.Restriction)
      → restriction_drafts (laid_out t.one l) d constraint tuple number restrictions
      ≡ restriction_drafts (laid_out (other t) l) d constraint tuple number restrictions
  drafts_same d constraint tuple number [] = refl
  drafts_same d constraint tuple number (restriction ∷ restrictions) = λ i.
      draft_same d constraint tuple number restriction i ∷ drafts_same d constraint tuple (suc number) restrictions i

  constraint_same : (d : ℕ) (tree : Option syntax.Dependency)
      → constraint_drafts (laid_out t.one l) d tree ≡ constraint_drafts (laid_out (other t) l) d tree
  constraint_same d (Some (syntax.Constrains constraint)) = λ i.
      flat_map (λ tuple. drafts_same d constraint tuple 1 constraint.restrictions i) (tuples_same t l constraint i)
  constraint_same d tree = refl

  constraints_same : constraints_drafts (laid_out t.one l) ≡ constraints_drafts (laid_out (other t) l)
  constraints_same = λ i. flat_map (λ d. constraint_same d (tree_same t d i) i) (active_same t l i)

  -- lines of slots
  abbrev seen_line : ℕ → ℕ → Option Slot → Option SeenItem → List Draft
  seen_line p n owner None = []
  seen_line p n None item = []
  seen_line p n (Some owner) (Some item) =
      line_drafts (laid_out t.one l) (site_at (laid_out t.one l) p owner (at.Line true)) n
      (selections_among t.one item.uses)

  line_seen : (p n : ℕ) (owner : Option Slot) (o : Option BillItem)
      → drafts_of_line (laid_out t.one l) p n owner o ≡ seen_line p n owner (option_map seen_item o)
  line_seen p n owner None = refl
  line_seen p n None (Some item) = refl
  line_seen p n (Some owner) (Some item) = refl

  line_same : (p n : ℕ) (owner : Option Slot) (o : Option BillItem)
      → drafts_of_line (laid_out t.one l) p n owner o ≡ drafts_of_line (laid_out (other t) l) p n owner o
  line_same p n owner None = refl
  line_same p n None (Some item) = refl
  line_same p n (Some owner) (Some item) = λ i.
      lines_same t l (stand_at p owner (place_same t l owner (at.Line true) i) (at.Line true)) n
      (asked_same t selection_in item.uses i)
      i

  slot_same : (n : ℕ) (standing : Standing) (parent : Option ℕ)
      → drafts_of_slot (laid_out t.one l) n standing parent ≡ drafts_of_slot (laid_out (other t) l) n standing parent
  slot_same n standing None = refl
  slot_same n standing (Some p) =
      let owner = slice_get l.slots p in
      got seen_item (drafts_of_line (laid_out t.one l) p n owner) (drafts_of_line (laid_out (other t) l) p n owner)
      (seen_line p n owner) (line_seen p n owner) (λ o. sym (line_same p n owner o) ∙ line_seen p n owner o)
      (bill_if t.one (object_at (laid_out t.one l) p)) (bill_if (other t) (object_at (laid_out t.one l) p))
      (bill_if_same t (object_at (laid_out t.one l) p)) standing.item

  slots_same : (n : ℕ) (standings : List Standing)
      → slot_drafts_from (laid_out t.one l) n standings ≡ slot_drafts_from (laid_out (other t) l) n standings
  slots_same n [] = refl
  slots_same n (standing ∷ standings) = λ i.
      slot_same n standing standing.parent i ++ slots_same (suc n) standings i

  pub rules_same : rule_drafts (laid_out t.one l) ≡ rule_drafts (laid_out (other t) l)
  rules_same = λ i. constraints_same i ++ (last_drafts (laid_out t.one l) ++ slots_same 0 l.standings i)
