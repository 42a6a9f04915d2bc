-- What users may choose, which variables statements write, and how many stages there are.
use Rattle.std.proofs.Common.{◌≡◌, ℕ, ◌≤◌, ◌^◌, pos, Bool, true, false, List, [], ◌∷◌, map, refl, sym, ap, ◌∙◌, arith}
use Rattle.std.proofs.lemmas.Bool.{and_parts, ltb-true}
use Rattle.std.specs.Prelude.{Option, None, Some, length, nat_lt, ◌≢◌}
use Rattle.std.specs.List.{list_all}
use Rattle.vc_value.specs.declared.value.Value.{Value}
use Rattle.vc_value.specs.declared.value.Value.TheVariants.{Text}
use Rattle.vc_plan.specs.declared.plans.Plan.{Plan}
use Rattle.vc_plan.specs.declared.procedures.Action.TheVariants.{Assign, SetDefault, DeleteDefault, LookUp}
use Rattle.vc_plan.specs.declared.procedures.Procedure.{Procedure}
use Rattle.vc_plan.specs.Fitting.{users_fit}
use Rattle.vc_plan.specs.LookUps.{action_writes, named_by, writes_own}
use Rattle.vc_plan.specs.Valid.{IsValid}
use Rattle.vc_plan.specs.Writes.{stages}
use Rattle.vc_plan.proofs.PlanRows.Models.{number, open_pair, last, whole}
use Rattle.vc_plan.proofs.StageRows.Gears.{gear}
use Rattle.vc_plan.proofs.StageRows.Machines.{machine}
use Rattle.vc_plan.proofs.StageRows.Paints.{paint}
use Rattle.vc_plan.proofs.StageRows.StageModels.{always, chosen, says}

-- values of variables with the grains 1, 2 .. 3 and 4, without decimals
abbrev fits : List (Option Value) → Bool
fits values = users_fit (open_pair [] (last 0)) (chosen values)

chosen_values : map fits ([] ∷ (Some (whole 3) ∷ []) ∷ (None ∷ Some (whole 4) ∷ []) ∷ []) ≡ true ∷ true ∷ true ∷ []
chosen_values = refl

-- 5, 2.5, a text, and a value of a variable that isn't there
other_values : map fits
    ((Some (whole 5) ∷ []) ∷ (None ∷ Some (number (pos 2_500_000)) ∷ []) ∷ (Some (Text 1) ∷ [])
    ∷ (None ∷ None ∷ Some (whole 1) ∷ []) ∷ [])
    ≡ false ∷ false ∷ false ∷ false ∷ []
other_values = refl

any_decimals : fits (Some (number (pos 2_500_000)) ∷ []) ≢ true
any_decimals e = cc

-- texts of PAINT's options: A and C, another's, and of a set that isn't there
abbrev holds : List (List ℕ) → Bool
holds texts = users_fit paint (record { values = []; texts = texts })

texts : map holds ([] ∷ ((7 ∷ 9 ∷ []) ∷ []) ∷ ((7 ∷ 5 ∷ []) ∷ []) ∷ ([] ∷ (7 ∷ []) ∷ []) ∷ [])
    ≡ true ∷ true ∷ false ∷ false ∷ []
texts = refl

any_text : holds ((7 ∷ 5 ∷ []) ∷ []) ≢ true
any_text e = cc

-- to take a default away names a variable, and writes none
written : map action_writes
    (Assign 4 0 ∷ SetDefault 4 0 ∷ DeleteDefault 4 0
    ∷ LookUp 0 [] (record { column = 1; var = 4 } ∷ record { column = 2; var = 3 } ∷ []) ∷ [])
    ≡ (4 ∷ []) ∷ (4 ∷ []) ∷ [] ∷ (4 ∷ 3 ∷ []) ∷ []
written = refl

named : map named_by
    (Assign 4 0 ∷ SetDefault 4 0 ∷ DeleteDefault 4 0
    ∷ LookUp 0 [] (record { column = 1; var = 4 } ∷ record { column = 2; var = 3 } ∷ []) ∷ [])
    ≡ (4 ∷ []) ∷ (4 ∷ []) ∷ (4 ∷ []) ∷ (4 ∷ 3 ∷ []) ∷ []
named = refl

deletion_writes : action_writes (DeleteDefault 4 0) ≢ 4 ∷ []
deletion_writes e = cc

-- MACH's root may not take away the default of its drive
own_default : map (writes_own machine)
    (always 1 (says (DeleteDefault 1 1) 0 ∷ []) ∷ always 0 (says (DeleteDefault 1 1) 0 ∷ []) ∷ [])
    ≡ true ∷ false ∷ []
own_default = refl

-- stages: of a root alone 3, with parts 4
stage_counts : (stages paint ≡ 3) × (stages gear ≡ 4)
stage_counts = (refl, refl)

last_as_count : stages paint ≢ 2
last_as_count e = cc

-- a plan of 2^32 procedures isn't valid, nor one with so many statements in one
procedures : (plan : Plan) → 2 ^ 32 ≤ length plan.procedures → IsValid plan → ⊥
procedures plan many valid = let few = ltb-true (length plan.procedures) (2 ^ 32) valid.procedure_limit in omega arith

abbrev few_statements : Procedure → Bool
few_statements procedure = nat_lt (length procedure.statements) (2 ^ 32)

statements : (plan : Plan) (procedure : Procedure) → plan.procedures ≡ procedure ∷ []
    → 2 ^ 32 ≤ length procedure.statements → IsValid plan → ⊥
statements plan procedure is many valid =
    let all : list_all few_statements (procedure ∷ []) ≡ true
    = ap (list_all few_statements) (sym is) ∙ valid.statement_limit in
    let few
    = ltb-true (length procedure.statements) (2 ^ 32)
    (and_parts (few_statements procedure) (list_all few_statements []) all).0 in
    omega arith
