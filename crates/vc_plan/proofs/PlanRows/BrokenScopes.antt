-- Plans that break one fact alone: what reads variables and sets that can't be named where it stands.
use Rattle.std.proofs.Common.{◌≡◌, ℕ, [], ◌∷◌, refl}
use Rattle.std.specs.Prelude.{None, codes}
use Rattle.vc_value.specs.declared.value.Value.TheVariants.{Text}
use Rattle.vc_plan.specs.declared.conditions.Condition.TheVariants.{Always, Compared, Filled}
use Rattle.vc_plan.specs.declared.conditions.Relation.TheVariants.{Equal}
use Rattle.vc_plan.specs.declared.plans.Named.TheVariants.{Var}
use Rattle.vc_plan.specs.declared.plans.Plan.{Plan}
use Rattle.vc_plan.specs.declared.plans.Selection.{Selection}
use Rattle.vc_plan.specs.declared.procedures.Action.{Action}
use Rattle.vc_plan.specs.declared.procedures.Action.TheVariants.{Assign}
use Rattle.vc_plan.specs.declared.rules.Kind.TheVariants.{Line}
use Rattle.vc_plan.specs.declared.terms.Term.TheVariants.{Literal, Read, PartSum, PartCount}
use Rattle.vc_plan.proofs.PlanRows.Facts.{Breaks, broken}
use Rattle.vc_plan.proofs.PlanRows.Models.{last, of, own_rule, whole}
use Rattle.vc_plan.proofs.PlanRows.SmallModels.{box, cutting, deep_gear, screw}
use Rattle.vc_plan.proofs.PlanRows.WholeModels.{piece_line, profile, whole_machine}
use Rattle.vc_plan.proofs.StageRows.StageModels.{says}

-- MACH with a condition on its drive's power, and the power as a term
abbrev machine : Plan
machine = record whole_machine {
  conditions = Always ∷ Compared Equal (Read 0) (Literal (Text 0)) ∷ Compared Equal (Read 1) (Literal (Text 2)) ∷ [];
  terms = Literal (whole 1) ∷ Literal (Text 2) ∷ Literal (Text 0) ∷ Read 1 ∷ Read 0 ∷ [];
}

-- a procedure of the machine that asks for the power, and one that takes it; the drive's may, and may ask for its
-- parent's
abbrev done : ℕ → Action → ℕ → Plan
done slot action condition =
    record machine { procedures = record (profile 0 (says action condition ∷ [])) { slot = slot } ∷ [] }

asks_power : Breaks (codes "procedure_reads") (done 0 (Assign 0 2) 2)
asks_power = refl

takes_power : Breaks (codes "procedure_reads") (done 0 (Assign 0 3) 0)
takes_power = refl

asks_own : broken (done 1 (Assign 1 1) 2) ≡ []
asks_own = refl

asks_parent : broken (done 1 (Assign 1 4) 1) ≡ []
asks_parent = refl

-- GEAR's total of what its first part has
total_below : Breaks (codes "procedure_reads")
    (record deep_gear { terms = Literal (whole 1) ∷ Literal (whole 2) ∷ PartSum 1 0 ∷ PartCount 0 ∷ [] })
total_below = refl

-- preconditions and selection conditions of the machine that ask for the power
abbrev on_power : Selection
on_power = record { dependency = 0; condition = 2 }

guarded : Breaks (codes "guard_reads")
    (record machine { guards = record { at = Var 0; value = None; dependency = 0; condition = 2 } ∷ [] })
guarded = refl

own_guard : broken (record machine { guards = record { at = Var 1; value = None; dependency = 0; condition = 2 } ∷ [] })
    ≡ []
own_guard = refl

required : Breaks (codes "requirement_reads")
    (record machine { requirements = record { at = Var 0; selection = on_power } ∷ [] })
required = refl

operation : Breaks (codes "operation_reads")
    (record machine { operations = record (cutting 0 10) { selections = on_power ∷ [] } ∷ [] })
operation = refl

timed : Breaks (codes "operation_reads") (record box {
  terms = Literal (whole 1) ∷ Read 0 ∷ [];
  operations = record (cutting 0 10) { time = 1 } ∷ cutting 1 10 ∷ cutting 2 10 ∷ [];
})
timed = refl

line : Breaks (codes "line_reads")
    (record machine {
      lines = piece_line 10 (codes "DRIVE") 0 [] ∷ piece_line 20 (codes "SEAL") 0 (on_power ∷ [])
          ∷ [];
    })
line = refl

-- a lid's screws by its own length may be; a box's lids by the first lid's may not
own_length : broken (record box {
  terms = Literal (whole 1) ∷ Read 0 ∷ Read 1 ∷ [];
  lines =
      piece_line 10 (codes "LID") 0 [] ∷ piece_line 20 (codes "LID") 0 [] ∷ record (screw 1) { quantity = 1 }
      ∷ record (screw 2) { quantity = 2 } ∷ [];
}) ≡ []
own_length = refl

lid's_length : Breaks (codes "line_reads") (record box {
  terms = Literal (whole 1) ∷ Read 0 ∷ [];
  lines = piece_line 10 (codes "LID") 0 [] ∷ piece_line 20 (codes "LID") 1 [] ∷ screw 1 ∷ screw 2 ∷ [];
})
lid's_length = refl

-- a lid's condition on its sibling's options
sibling's_options : Breaks (codes "line_reads") (record box {
  conditions = Always ∷ Filled 0 ∷ [];
  lines =
      piece_line 10 (codes "LID") 0 [] ∷ piece_line 20 (codes "LID") 0 [] ∷ screw 1
      ∷ record (screw 2) { selections = record { dependency = 0; condition = 1 } ∷ [] } ∷ [];
})
sibling's_options = refl

-- a drive that is there by its own power
by_itself : Breaks (codes "component_reads")
    (record machine { rules = last 0 ∷ last 1 ∷ of 0 1 (own_rule 2 (Line 1)) ∷ [] })
by_itself = refl
