-- MACH: a drive that is there where DRIVEN is Y, and late instances.
use Rattle.std.proofs.Common.{◌≡◌, pos, true, false, [], ◌∷◌, refl}
use Rattle.std.specs.Prelude.{Some, ◌≢◌}
use Rattle.vc_value.specs.declared.table_header.Domain.TheVariants.{Texts}
use Rattle.vc_value.specs.declared.value.Value.TheVariants.{Text}
use Rattle.vc_plan.specs.declared.atoms.Atom.TheVariants.{Here, Is}
use Rattle.vc_plan.specs.declared.conditions.Condition.TheVariants.{Always, Compared}
use Rattle.vc_plan.specs.declared.conditions.Relation.TheVariants.{Equal}
use Rattle.vc_plan.specs.declared.plans.Plan.{Plan}
use Rattle.vc_plan.specs.declared.procedures.Action.TheVariants.{Assign}
use Rattle.vc_plan.specs.declared.rules.Kind.TheVariants.{Line}
use Rattle.vc_plan.specs.declared.terms.Term.TheVariants.{Literal, Read}
use Rattle.vc_plan.specs.Shown.{bill}
use Rattle.vc_plan.proofs.PlanRows.Models.{empty, root, fixed_var, of, own_rule, last, whole}
use Rattle.vc_plan.proofs.StageRows.StageModels.{always, chosen, ends_at, ends_late, line, says}

-- the texts are Y 0, N 1, P1 2, P2 3; variable 0 is DRIVEN, of the root; variable 1 is POWER, of the drive
abbrev pub machine : Plan
machine = record empty {
  domains = Texts (0 ∷ 1 ∷ []) ∷ Texts (2 ∷ 3 ∷ []) ∷ [];
  slots = root ∷ record { parent = Some 0; depth = 1; object = 1; line = 0 } ∷ [];
  vars = fixed_var 0 ∷ record { slot = 1; characteristic = 1; domain = 1; restrictable = false } ∷ [];
  conditions = Always ∷ Compared Equal (Read 0) (Literal (Text 0)) ∷ [];
  terms = Literal (whole 1) ∷ Literal (Text 2) ∷ Literal (Text 0) ∷ [];
  rules = last 0 ∷ last 1 ∷ of 0 1 (own_rule 1 (Line 1)) ∷ [];
  lines = line 0 0 [] ∷ [];
}

-- the drive is a line of the bill exactly where it is here
driven : bill machine (chosen (Some (Text 0) ∷ []))
    ≡ record { level = 1; slot = 0; line = 0; quantity = Some (record { millionths = pos 1_000_000 }) } ∷ []
driven = refl

nobody_asked : bill machine (chosen []) ≡ []
nobody_asked = refl

-- a configurable line has its condition in its slot's rule, and none beside it
taken_anyway : bill machine (chosen (Some (Text 1) ∷ [])) ≢
    record { level = 1; slot = 0; line = 0; quantity = Some (record { millionths = pos 1_000_000 }) } ∷ []
taken_anyway e = cc

-- a value at a slot that isn't here sleeps
sleeping : ends_at machine (chosen (Some (Text 1) ∷ Some (Text 2) ∷ [])) (Here 0 ∷ Is 0 (Text 1) ∷ []) ≡ true
sleeping = refl

awake : ends_at machine (chosen (Some (Text 0) ∷ Some (Text 2) ∷ []))
    (Here 0 ∷ Is 0 (Text 0) ∷ Here 1 ∷ Is 1 (Text 2) ∷ []) ≡ true
awake = refl

-- the drive's procedure sets its power, one stage after the root's
abbrev powered : Plan
powered = record machine { procedures = always 1 (says (Assign 1 1) 0 ∷ []) ∷ [] }

with_power : ends_at powered (chosen (Some (Text 0) ∷ [])) (Here 0 ∷ Is 0 (Text 0) ∷ Here 1 ∷ Is 1 (Text 2) ∷ []) ≡ true
with_power = refl

-- where a procedure of the root brings the drive, the drive is there in time for its own
abbrev brought : Plan
brought = record machine { procedures = always 0 (says (Assign 0 2) 0 ∷ []) ∷ always 1 (says (Assign 1 1) 0 ∷ []) ∷ [] }

in_time : ends_late brought (chosen []) 1 ≡ false
in_time = refl

in_time_runs : ends_at brought (chosen []) (Here 0 ∷ Is 0 (Text 0) ∷ Here 1 ∷ Is 1 (Text 2) ∷ []) ≡ true
in_time_runs = refl

-- a drive that another drive's procedure brings comes too late for its own, and isn't given its power
abbrev pub two_drives : Plan
two_drives = record empty {
  domains = Texts (0 ∷ 1 ∷ []) ∷ Texts (2 ∷ 3 ∷ []) ∷ [];
  slots = root ∷ record { parent = Some 0; depth = 1; object = 1; line = 0 }
      ∷ record { parent = Some 0; depth = 1; object = 1; line = 1 } ∷ [];
  vars = fixed_var 0 ∷ record { slot = 1; characteristic = 1; domain = 1; restrictable = false }
      ∷ record { slot = 2; characteristic = 1; domain = 1; restrictable = false } ∷ [];
  conditions = Always ∷ Compared Equal (Read 1) (Literal (Text 2)) ∷ [];
  terms = Literal (whole 1) ∷ Literal (Text 2) ∷ [];
  rules = last 0 ∷ last 1 ∷ last 2 ∷ own_rule 0 (Line 1) ∷ own_rule 1 (Line 2) ∷ [];
  procedures = always 1 (says (Assign 1 1) 0 ∷ []) ∷ always 2 (says (Assign 2 1) 0 ∷ []) ∷ [];
  lines = line 0 0 [] ∷ line 0 0 [] ∷ [];
}

second_late : ends_late two_drives (chosen []) 2 ≡ true
second_late = refl

first_in_time : ends_late two_drives (chosen []) 1 ≡ false
first_in_time = refl

late_stays : ends_at two_drives (chosen []) (Here 0 ∷ Here 1 ∷ Is 1 (Text 2) ∷ Here 2 ∷ []) ≡ true
late_stays = refl

late_runs : ends_at two_drives (chosen []) (Here 0 ∷ Here 1 ∷ Is 1 (Text 2) ∷ Here 2 ∷ Is 2 (Text 2) ∷ []) ≢ true
late_runs e = cc
