-- The models of the rows are valid; and the tests of plans by themselves.
use Rattle.std.proofs.Common.{◌≡◌, ℕ, List, [], ◌∷◌, map, Bool, true, false, refl}
use Rattle.std.specs.Prelude.{Some, ◌≢◌, Box}
use Rattle.std.specs.declared.alloc.Global.{Global}
use Rattle.vc_value.specs.declared.value.Value.TheVariants.{Text}
use Rattle.vc_plan.specs.declared.conditions.Condition.TheVariants.{Always, Compared, Specified, Not', And'}
use Rattle.vc_plan.specs.declared.conditions.Relation.TheVariants.{Equal, AtMost}
use Rattle.vc_plan.specs.declared.plans.Plan.{Plan}
use Rattle.vc_plan.specs.declared.procedures.Action.{Action}
use Rattle.vc_plan.specs.declared.procedures.Action.TheVariants.{LookUp}
use Rattle.vc_plan.specs.declared.terms.Operator.TheVariants.{Times}
use Rattle.vc_plan.specs.declared.terms.Term.{Term}
use Rattle.vc_plan.specs.declared.terms.Term.TheVariants.{Literal, Read, Joined'}
use Rattle.vc_plan.specs.Cuts.{is_cut}
use Rattle.vc_plan.specs.Monotone.{is_for_nets}
use Rattle.vc_plan.specs.RuleShapes.{has_one_last}
use Rattle.vc_plan.specs.Sizes.{term_size, is_small}
use Rattle.vc_plan.specs.Slots.{follows_in_preorder}
use Rattle.vc_plan.specs.Typing.{condition_typed, action_typed}
use Rattle.vc_plan.specs.Valid.{IsValid}
use Rattle.vc_plan.proofs.PlanRows.Facts.{valid_from}
use Rattle.vc_plan.proofs.PlanRows.Models.{empty, root, pump, last, whole}
use Rattle.vc_plan.proofs.PlanRows.WholeModels.{whole_pump, whole_step, whole_ring, whole_paint, whole_machine}
use Rattle.vc_plan.proofs.PlanRows.WholeModels.{whole_gear}

-- the models of the rows
pump_valid : (p : Box (Unit {0}) Global) → IsValid (whole_pump p)
pump_valid p = valid_from (whole_pump p) refl refl

step_valid : (p : Box (Unit {0}) Global) → IsValid (whole_step p)
step_valid p = valid_from (whole_step p) refl refl

ring_valid : IsValid whole_ring
ring_valid = valid_from whole_ring refl refl

paint_valid : IsValid whole_paint
paint_valid = valid_from whole_paint refl refl

machine_valid : IsValid whole_machine
machine_valid = valid_from whole_machine refl refl

gear_valid : IsValid whole_gear
gear_valid = valid_from whole_gear refl refl

-- a piece of machinery with its drive, whose slot stands for a line with the drive's material
abbrev slots : ℕ → ℕ → ℕ → Plan
slots first second third = record empty {
  slots =
      root
      ∷ record { parent = Some first; depth = 1; object = 1; line = 0 }
      ∷ record { parent = Some second; depth = 1; object = 1; line = 1 }
      ∷ record { parent = Some third; depth = 1; object = 1; line = 2 }
      ∷ [];
}

abbrev in_preorder : Plan → List Bool
in_preorder plan = map (follows_in_preorder plan) (0 ∷ 1 ∷ 2 ∷ 3 ∷ [])

-- 0, 1 below it, 2 below that, 3 below 0 again
preorder : in_preorder (slots 0 1 0) ≡ true ∷ true ∷ true ∷ true ∷ []
preorder = refl

-- 3 may not go back below 1, once 2 stands below 0
not_back : in_preorder (slots 0 0 1) ≡ true ∷ true ∷ true ∷ false ∷ []
not_back = refl

not_back_either : in_preorder (slots 0 0 1) ≢ true ∷ true ∷ true ∷ true ∷ []
not_back_either e = cc

-- two Lasts of a variable, and none
two_lasts : has_one_last (record pump { rules = last 0 ∷ last 0 ∷ [] }) 0 ≡ false
two_lasts = refl

no_last : has_one_last (record pump { rules = last 1 ∷ [] }) 0 ≡ false
no_last = refl

-- a flow that is compared with 5 and not cut there
uncut : is_cut (record pump { conditions = Compared AtMost (Read 2) (Literal (whole 5)) ∷ [] }) 2 ≡ false
uncut = refl

-- and with twice 5, which is no literal as a whole side
no_literal : (p : Box (Unit {0}) Global)
    → is_cut (record pump
    { conditions = Compared AtMost (Read 2) (Joined' Times p (Literal (whole 2)) p (Literal (whole 5))) ∷ [] }) 2 ≢
    false
no_literal p e = cc

-- a size against a number, and sizes in an order
mixed : condition_typed pump (Compared Equal (Read 0) (Literal (whole 5))) ≡ false
mixed = refl

text_order : condition_typed pump (Compared AtMost (Read 0) (Literal (Text 1))) ≢ true
text_order e = cc

-- SPECIFIED under NOT in a net, and beside one
under_not : (p : Box (Unit {0}) Global) → is_for_nets (Not' p (And' p (Specified 0) p Always)) ≡ false
under_not p = refl

beside_not : (p : Box (Unit {0}) Global)
    → is_for_nets (And' p (Not' p (Compared Equal (Read 0) (Literal (Text 1)))) p (Specified 0)) ≢ false
beside_not p e = cc

-- (FLOW times FLOW) times so many: 10 ^ 8 at most, 10 ^ 10, and on
abbrev squared : Box (Unit {0}) Global → Term
squared p = Joined' Times p (Read 2) p (Read 2)

abbrev fourth : Box (Unit {0}) Global → Term
fourth p = Joined' Times p (squared p) p (squared p)

abbrev eighth : Box (Unit {0}) Global → Term
eighth p = Joined' Times p (fourth p) p (fourth p)

abbrev sixteenth : Box (Unit {0}) Global → Term
sixteenth p = Joined' Times p (eighth p) p (eighth p)

size : (p : Box (Unit {0}) Global) → term_size pump (squared p) ≡ 10_000_000_001
size p = refl

-- 100 to the 8th is 10 ^ 16, or 10 ^ 22 millionths; its square is computed from 10 ^ 44
eighth_small : (p : Box (Unit {0}) Global) → is_small pump (eighth p) ≡ true
eighth_small p = refl

sixteenth_large : (p : Box (Unit {0}) Global) → is_small pump (sixteenth p) ≢ true
sixteenth_large p e = cc

-- a look-up in the table of sizes and motors, by a text and by a number
abbrev looking : Box (Unit {0}) Global → Plan
looking p = record (whole_pump p) { terms = Literal (Text 0) ∷ Literal (whole 5) ∷ [] }

abbrev look_up : ℕ → ℕ → Action
look_up term v = LookUp 0 (record { column = 0; term = term } ∷ []) (record { column = 1; var = v } ∷ [])

by_text : (p : Box (Unit {0}) Global) → action_typed (looking p) (look_up 0 1) ≡ true
by_text p = refl

by_number : (p : Box (Unit {0}) Global) → action_typed (looking p) (look_up 1 1) ≢ true
by_number p e = cc

-- and a motor for the flow
into_number : (p : Box (Unit {0}) Global) → action_typed (looking p) (look_up 0 2) ≢ true
into_number p e = cc
