-- Objects of the model with their nets, procedures, lines and operations, and the root.
use Rattle.std.proofs.Common.{◌≡◌, ap, arith, ℕ, pos, List, [], ◌∷◌, refl}
use Rattle.std.specs.Prelude.{◌≢◌, codes, map}
use Rattle.vc_syntax_tree.specs.declared.Operand.TheVariants.{Plain}
use Rattle.vc_syntax_tree.specs.declared.Operator.TheVariants.{Plus}
use Rattle.vc_syntax_tree.specs.Trees.{Term, Number, Operand, Combined}
use Rattle.vc_model_scope.specs.Scope.{scope_of}
use Rattle.vc_model_faults.specs.Readings.{reading, tree_in}
use Rattle.vc_model_parts.specs.declared.parts.Component.TheVariants as components
use Rattle.vc_model_drafts.specs.Seen.{SeenItem, SeenOperation, SeenObject}
use Rattle.vc_model_tests.proofs.ModelRows.Pumps.{model, differs}

-- a whole number that a term begins with
abbrev whole : ℕ → ℕ → Term
whole millionths end = Number (record { number = record { millionths = pos millionths }; start = 0; end = end })

-- FLOW, from its first byte in the term to the byte after its last
abbrev flow : ℕ → ℕ → Term
flow start end = Operand (Plain (record { name = codes "FLOW"; start = start; end = end }))

-- what stands before its first LINE is the profile's
abbrev drive : SeenObject
drive = record {
  material = codes "DRIVE";
  class = 0;
  nets = [];
  procedures = 2 ∷ [];
  bill = record {
    item = 10;
    component = components.Plain (codes "SEAL");
    unit = codes "PC";
    quantity = whole 1_000_000 1;
    uses = [];
    line = 68;
  } ∷ [];
  operations = [];
}

-- DRIVE is an object, the others are plain components
abbrev items : List SeenItem
items =
    record {
      item = 10;
      component = components.Plain (codes "HOUSING");
      unit = codes "PC";
      quantity = whole 1_000_000 1;
      uses = [];
      line = 74;
    }
    ∷ record {
      item = 20;
      component = components.Object 0;
      unit = codes "PC";
      quantity = Combined (whole 2_000_000 1) Plus (flow 4 8);
      uses = 5 ∷ 1 ∷ [];
      line = 75;
    }
    ∷ record {
      item = 100;
      component = components.Plain (codes "SEAL");
      unit = codes "KG";
      quantity = whole 3_000_000 1;
      uses = [];
      line = 81;
    }
    ∷ []

abbrev operations : List SeenOperation
operations =
    record { number = 5; centre = codes "ASSY"; unit = codes "MIN"; time = flow 0 4; uses = 1 ∷ []; line = 79 }
    ∷ record { number = 10; centre = codes "TEST"; unit = codes "H"; time = whole 15_000_000 2; uses = []; line = 82 }
    ∷ []

-- nets by their numbers among nets, procedures by theirs among all dependencies
abbrev pump : SeenObject
pump = record {
  material = codes "PUMP-1";
  class = 1;
  nets = 1 ∷ 0 ∷ [];
  procedures = 6 ∷ 2 ∷ [];
  bill = items;
  operations = operations;
}

abbrev spare : SeenObject
spare =
    record { material = codes "SPARE"; class = 0; nets = []; procedures = []; bill = []; operations = [] }

objects : model.objects ≡ drive ∷ pump ∷ spare ∷ []
unfolding scope_of reading tree_in
objects = refl

-- the root is neither the first nor the last of them
root : model.root ≡ 1
unfolding scope_of
root = refl

-- what lines and operations use
abbrev item_uses : List SeenObject → List (List (List ℕ))
item_uses listed = map (λ o. map (λ i. i.uses) o.bill) listed

abbrev operation_uses : List SeenObject → List (List (List ℕ))
operation_uses listed = map (λ o. map (λ i. i.uses) o.operations) listed

given_to_the_line_before : item_uses model.objects
    ≢ ([] ∷ []) ∷ ((5 ∷ 1 ∷ []) ∷ (1 ∷ []) ∷ [] ∷ []) ∷ [] ∷ []
given_to_the_line_before = differs (ap item_uses objects) (λ e. cc)

of_the_operation_too : item_uses model.objects
    ≢ ([] ∷ []) ∷ ([] ∷ (5 ∷ 1 ∷ 1 ∷ []) ∷ [] ∷ []) ∷ [] ∷ []
of_the_operation_too = differs (ap item_uses objects) (λ e. cc)

-- the object below uses procedures, which are none of the line's
of_the_object_below : item_uses model.objects
    ≢ ((6 ∷ 2 ∷ []) ∷ []) ∷ ([] ∷ (5 ∷ 1 ∷ []) ∷ [] ∷ []) ∷ [] ∷ []
of_the_object_below = differs (ap item_uses objects) (λ e. cc)

operation_without : operation_uses model.objects ≢ [] ∷ ([] ∷ [] ∷ []) ∷ [] ∷ []
operation_without = differs (ap operation_uses objects) (λ e. cc)

-- lines are numbered among all of the text, those that don't count too
abbrev item_lines : List SeenObject → List (List ℕ)
item_lines listed = map (λ o. map (λ i. i.line) o.bill) listed

-- the first line of all
abbrev first : List (List ℕ) → ℕ
first [] = 0
first ([] ∷ more) = 0
first ((line ∷ lines) ∷ more) = line

from_zero : item_lines model.objects ≢ (67 ∷ []) ∷ (73 ∷ 74 ∷ 80 ∷ []) ∷ [] ∷ []
from_zero = differs (ap item_lines objects) (λ e. let line : 68 ≡ 67 = ap first e in absurd (omega (arith, line)))

from_the_object : item_lines model.objects ≢ (2 ∷ []) ∷ (5 ∷ 6 ∷ 12 ∷ []) ∷ [] ∷ []
from_the_object = differs (ap item_lines objects) (λ e. cc)

-- what an object uses
abbrev object_nets : List SeenObject → List (List ℕ)
object_nets listed = map (λ o. o.nets) listed

abbrev object_procedures : List SeenObject → List (List ℕ)
object_procedures listed = map (λ o. o.procedures) listed

in_their_own_order : object_nets model.objects ≢ [] ∷ (0 ∷ 1 ∷ []) ∷ [] ∷ []
in_their_own_order = differs (ap object_nets objects) (λ e. cc)

selections_too : object_procedures model.objects ≢ (2 ∷ []) ∷ (6 ∷ 2 ∷ 5 ∷ 1 ∷ 1 ∷ []) ∷ [] ∷ []
selections_too = differs (ap object_procedures objects) (λ e. cc)

up_to_a_net : object_procedures model.objects ≢ (2 ∷ []) ∷ (6 ∷ []) ∷ [] ∷ []
up_to_a_net = differs (ap object_procedures objects) (λ e. cc)

-- the bill of an object ends at the next object
abbrev bill_items : List SeenObject → List (List ℕ)
bill_items listed = map (λ o. map (λ i. i.item) o.bill) listed

bill_of_the_object_below : bill_items model.objects ≢ (10 ∷ 10 ∷ 20 ∷ 100 ∷ []) ∷ (10 ∷ 20 ∷ 100 ∷ []) ∷ [] ∷ []
bill_of_the_object_below = differs (ap bill_items objects) (λ e. cc)

bill_up_to_the_operation : bill_items model.objects ≢ (10 ∷ []) ∷ (10 ∷ 20 ∷ []) ∷ [] ∷ []
bill_up_to_the_operation = differs (ap bill_items objects) (λ e. cc)

root_is_last : model.root ≢ 2
root_is_last = differs root (λ e. cc)

root_is_first : model.root ≢ 0
root_is_first = differs root (λ e. cc)
