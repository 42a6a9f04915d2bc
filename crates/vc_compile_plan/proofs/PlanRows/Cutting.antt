-- Where characteristics are cut.
use Rattle.std.proofs.Common.{◌≡◌, ℕ, ◌*◌, pos, true, List, [], ◌∷◌, refl}
use Rattle.std.specs.Prelude.{None, codes}
use Rattle.vc_value.specs.Grains.{interval}
use Rattle.vc_value.specs.declared.grains.Grain.{Grain}
use Rattle.vc_value.specs.declared.table_header.Domain.{Domain}
use Rattle.vc_value.specs.declared.table_header.Domain.TheVariants.{Nums}
use Rattle.vc_value.specs.declared.value.Value.TheVariants.{Num}
use Rattle.vc_model_parts.specs.declared.parts.Characteristic.{Characteristic}
use Rattle.vc_model_parts.specs.declared.parts.Component.TheVariants as components
use Rattle.vc_model_parts.specs.declared.parts.Model.{Model}
use Rattle.vc_model_parts.specs.declared.parts.NamedDependency.{NamedDependency}
use Rattle.vc_model_parts.specs.declared.parts.Object.{Object}
use Rattle.vc_syntax_tree.specs.declared.Action.TheVariants as actions
use Rattle.vc_syntax_tree.specs.declared.Demand.TheVariants as demands
use Rattle.vc_syntax_tree.specs.declared.Operand.TheVariants.{Variable}
use Rattle.vc_syntax_tree.specs.declared.Operator.TheVariants.{Times}
use Rattle.vc_syntax_tree.specs.declared.Relator.{Relator}
use Rattle.vc_syntax_tree.specs.declared.Relator.TheVariants as relators
use Rattle.vc_syntax_tree.specs.declared.Restriction.{Restriction}
use Rattle.vc_syntax_tree.specs.declared.Term.{Term}
use Rattle.vc_syntax_tree.specs.declared.Term.TheVariants as terms
use Rattle.vc_table.specs.declared.table.VariantTable.{VariantTable}
use Rattle.vc_plan.proofs.PlanRows.Models as plans
use Rattle.vc_compile_plan.specs.Cuts.{domains_of}
use Rattle.vc_compile_plan.specs.Layouts.{layout_of}
use Rattle.vc_compile_plan.proofs.PlanRows.Words.{Spots, millionths, number, whole, plain, member, relation, asks}
use Rattle.vc_compile_plan.proofs.PlanRows.Words.{of_class, binds, calls, always, where_true, constraint, called}
use Rattle.vc_compile_plan.proofs.PlanRows.Words.{precondition, from_to, numbers, characteristic, class, column, net}
use Rattle.vc_compile_plan.proofs.PlanRows.Words.{object, empty, rows, selection, procedure, does_if, leaf, term_box}
use Rattle.vc_compile_plan.proofs.PlanRows.Words.{line}

-- A is 0 .. 100 with one decimal, B the same with none; what is used stands at the object of the only slot
abbrev pub lists : Model
lists = record empty {
  characteristics =
      characteristic (codes "A") true (numbers 1 (from_to 0 100 ∷ []))
      ∷ characteristic (codes "B") true (numbers 0 (from_to 0 100 ∷ []))
      ∷ [];
  classes = class (codes "K") (0 ∷ 1 ∷ []) ∷ [];
  tables = record { name = codes "T"; file = []; columns = column 0 ∷ column 1 ∷ [] } ∷ [];
  nets = net (0 ∷ []) ∷ [];
  objects = record (object (codes "M") 0 []) { nets = 0 ∷ [] } ∷ [];
}

abbrev pub restricted : List Restriction → Model
restricted restrictions = record lists {
  dependencies = called (codes "C") (constraint (of_class (codes "X") (codes "K") ∷ []) None restrictions []) ∷ [];
}

abbrev pub a : Term
a = member (codes "X") (codes "A")

abbrev pub b : Term
b = member (codes "X") (codes "B")

abbrev pub relates : Spots → Term → Relator → Term → Restriction
relates p left relator right = always (demands.Relation (relation p left relator right))

abbrev cut_by : List Restriction → List Domain
cut_by restrictions = domains_of (layout_of (restricted restrictions)) []

-- A with these grains, and B uncut; from and to in tenths
abbrev tenths : ℕ → ℕ → Grain
tenths low high = interval (pos (low * 100_000)) (pos (high * 100_000))

abbrev a_in : List Grain → List Domain
a_in grains = Nums 1 grains ∷ Nums 0 (plans.from_to 0 100 ∷ []) ∷ []

-- `=` as a restriction cuts at its literal, and at that rounded: 5.05 is 5.1
equal_rounds : (p : Spots)
    → cut_by (relates p a relators.Equal (number 5_050_000) ∷ [])
    ≡ a_in (tenths 0 50 ∷ tenths 51 51 ∷ tenths 52 1000 ∷ [])
equal_rounds p = refl

-- the other relations cut at the literal alone, and so does `=` in a condition
less_stays : (p : Spots)
    → cut_by (relates p a relators.Less (number 5_050_000) ∷ []) ≡ a_in (tenths 0 50 ∷ tenths 51 1000 ∷ [])
less_stays p = refl

turned_round : (p : Spots)
    → cut_by (relates p (number 5_000_000) relators.GreaterEqual a ∷ [])
    ≡ a_in (tenths 0 49 ∷ tenths 50 50 ∷ tenths 51 1000 ∷ [])
turned_round p = refl

condition_stays : (p : Spots)
    → cut_by (where_true p (asks p a relators.Equal (number 5_050_000)) demands.False ∷ [])
    ≡ a_in (tenths 0 50 ∷ tenths 51 1000 ∷ [])
condition_stays p = refl

-- two cuts at one number are one
twice : (p : Spots)
    → cut_by (relates p a relators.Less (whole 5) ∷ relates p a relators.Greater (whole 5) ∷ [])
    ≡ a_in (tenths 0 49 ∷ tenths 50 50 ∷ tenths 51 1000 ∷ [])
twice p = refl

-- a number outside the list cuts nothing, nor does one that is no whole side, or beside another variable
outside : (p : Spots) → cut_by (relates p a relators.Less (whole 200) ∷ []) ≡ a_in (tenths 0 1000 ∷ [])
outside p = refl

computed : (p : Spots)
    → cut_by (relates p a relators.Less (terms.Combined' p.node (whole 2) Times p.node (whole 5)) ∷ [])
    ≡ a_in (tenths 0 1000 ∷ [])
computed p = refl

side_by_side : (p : Spots) → cut_by (relates p a relators.Less b ∷ []) ≡ a_in (tenths 0 1000 ∷ [])
side_by_side p = refl

-- the cells of a column cut what is given to it, also what the column isn't of
abbrev cells : List VariantTable
cells = rows ((Num (millionths 1_000_000) ∷ Num (millionths 7_000_000) ∷ [])
    ∷ (Num (millionths 2_500_000) ∷ Num (millionths 7_000_000) ∷ []) ∷ []) ∷ []

by_cells : (p : Spots)
    → domains_of (layout_of (restricted (always (demands.Table (calls (codes "T") (binds p (codes "A") a ∷ []))) ∷ [])))
    cells
    ≡ a_in (tenths 0 9 ∷ tenths 10 10 ∷ tenths 11 24 ∷ tenths 25 25 ∷ tenths 26 1000 ∷ [])
by_cells p = refl

by_other_cells : (p : Spots)
    → domains_of (layout_of (restricted (always (demands.Table (calls (codes "T") (binds p (codes "B") a ∷ []))) ∷ [])))
    cells
    ≡ a_in (tenths 0 69 ∷ tenths 70 70 ∷ tenths 71 1000 ∷ [])
by_other_cells p = refl

-- a precondition cuts where it stands at a characteristic of the slot's class; what stands nowhere cuts nothing
abbrev asked : Spots → NamedDependency
asked p = precondition p (codes "P") (asks p (plain (codes "A")) relators.Greater (whole 5))

at_characteristic : (p : Spots)
    → domains_of (layout_of (record lists {
      characteristics =
          characteristic (codes "A") true (numbers 1 (from_to 0 100 ∷ []))
          ∷ record (characteristic (codes "B") true (numbers 0 (from_to 0 100 ∷ []))) { uses = 0 ∷ [] }
          ∷ [];
      dependencies = asked p ∷ [];
      nets = [];
    })) []
    ≡ a_in (tenths 0 49 ∷ tenths 50 50 ∷ tenths 51 1000 ∷ [])
at_characteristic p = refl

at_nothing : (p : Spots)
    → domains_of (layout_of (record lists { dependencies = asked p ∷ []; nets = [] })) [] ≡ a_in (tenths 0 1000 ∷ [])
at_nothing p = refl

-- a constraint without a tuple cuts all the same
without_tuple : (p : Spots)
    → domains_of (layout_of (record lists {
      dependencies = called (codes "C")
          (constraint (of_class (codes "X") (codes "K") ∷ of_class (codes "Y") (codes "K") ∷ []) None
          (relates p a relators.Less (whole 5) ∷ []) []) ∷ [];
    })) []
    ≡ a_in (tenths 0 49 ∷ tenths 50 50 ∷ tenths 51 1000 ∷ [])
without_tuple p = refl

-- what stands at a value, in the profile, at a line and at an operation cuts too
abbrev uncut : List Characteristic
uncut = characteristic (codes "A") true (numbers 1 (from_to 0 100 ∷ []))
    ∷ characteristic (codes "B") true (numbers 0 (from_to 0 100 ∷ [])) ∷ []

abbrev at_five : List Domain
at_five = a_in (tenths 0 49 ∷ tenths 50 50 ∷ tenths 51 1000 ∷ [])

abbrev chosen : Spots → NamedDependency
chosen p = selection p (codes "S") (asks p (plain (codes "A")) relators.Greater (whole 5))

abbrev cut_where : Spots → NamedDependency → List Characteristic → Object → List Domain
cut_where p dependency listed o =
    domains_of (layout_of
    (record lists { characteristics = listed; dependencies = dependency ∷ []; nets = []; objects = o ∷ [] })) []

at_value : (p : Spots)
    → cut_where p (asked p)
    (characteristic (codes "A") true (numbers 1 (from_to 0 100 ∷ []))
    ∷ characteristic (codes "B") true (numbers 0 (record (from_to 0 100) { uses = 0 ∷ [] } ∷ []))
    ∷ [])
    (object (codes "M") 0 [])
    ≡ at_five
at_value p = refl

in_profile : (p : Spots)
    → cut_where p
    (procedure (codes "P")
    (does_if p (asks p (plain (codes "A")) relators.Greater (whole 5))
    (actions.Assign (leaf (codes "B")) (term_box p (whole 7))) ∷ []))
    uncut
    (record (object (codes "M") 0 []) { procedures = 0 ∷ [] })
    ≡ at_five
in_profile p = refl

in_line : (p : Spots)
    → cut_where p (chosen p) uncut (object (codes "M") 0 (line p 10 (components.Plain (codes "SEAL")) 1 (0 ∷ []) ∷ []))
    ≡ at_five
in_line p = refl

in_operation : (p : Spots)
    → cut_where p (chosen p) uncut
    (record (object (codes "M") 0 []) {
      operations = record {
        number = 10;
        centre = codes "ASSY";
        unit = codes "MIN";
        time = term_box p (whole 1);
        uses =
            0 ∷ [];
        line = 0;
      } ∷ [];
    })
    ≡ at_five
in_operation p = refl

-- a WHERE variable is what it stands for
by_alias : (p : Spots)
    → domains_of (layout_of (record lists {
      dependencies = called (codes "C") (constraint
          (record (of_class (codes "X") (codes "K"))
          { aliases = record { variable = leaf (codes "V"); characteristic = leaf (codes "A") } ∷ [] } ∷ [])
          None (relates p (terms.Operand (Variable (leaf (codes "V")))) relators.Less (whole 5) ∷ []) []) ∷ [];
    })) []
    ≡ at_five
by_alias p = refl
