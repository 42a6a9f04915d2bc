-- What table calls say with what it follows from, computed. The rows are 1,1 and 1,4 and 4,4 and 2,1.5; each variable
-- has the
-- grains 1, 2 and 4.
use Rattle.std.proofs.Common.{◌≡◌, ℕ, pos, List, [], ◌∷◌, refl}
use Rattle.std.specs.Prelude.{◌≢◌}
use Rattle.vc_plan.specs.declared.atoms.Atom.{Atom}
use Rattle.vc_plan.specs.declared.atoms.Atom.TheVariants.{Here, Out, Is}
use Rattle.vc_plan.specs.declared.plans.Plan.{Plan}
use Rattle.vc_plan.specs.declared.plans.Var.{Var}
use Rattle.vc_plan.specs.declared.rules.Binding.{Binding}
use Rattle.vc_plan.specs.declared.rules.Kind.TheVariants.{ByTable}
use Rattle.vc_plan.specs.declared.rules.Operand.TheVariants.{Constant}
use Rattle.vc_plan.specs.Seen.{seen_of}
use Rattle.vc_plan.proofs.PlanRows.Models.{empty, root, open_var, fixed_var, rule, column, table_of, whole, number}
use Rattle.vc_plan.proofs.PlanRows.Models.{three_grains}
use Rattle.vc_rule_premises.specs.Saying.{Said, clashing, concluding}
use Rattle.vc_rule_table.specs.Reasons.{row_reasons}
use Rattle.vc_rule_table.specs.TableSaid.{table_said}

abbrev plan_of : List Var → Plan
plan_of vars = record empty {
  domains = three_grains ∷ three_grains ∷ [];
  tables = table_of (
      (whole 1 ∷ whole 1 ∷ []) ∷ (whole 1 ∷ whole 4 ∷ []) ∷ (whole 4 ∷ whole 4 ∷ [])
      ∷ (whole 2 ∷ number (pos 1_500_000) ∷ []) ∷ []
      ) ∷ [];
  slots = root ∷ [];
  vars = vars;
}

abbrev both : List Binding
both = column 0 0 ∷ column 1 1 ∷ []

abbrev said : List Var → List ℕ → List Atom → Said
said vars inferred set = table_said (plan_of vars) (seen_of set) (rule 0 inferred (ByTable 0 both)) 0 both

abbrev narrowing : List Atom → Said
narrowing set = said (open_var 0 ∷ open_var 1 ∷ []) (0 ∷ 1 ∷ []) set

abbrev inferring : List Atom → Said
inferring set = said (fixed_var 0 ∷ fixed_var 1 ∷ []) (0 ∷ []) set

-- a row with a cell that lies in no grain is never possible, which needs no reason
of_the_table_alone : narrowing (Here 0 ∷ [])
    ≡ concluding ((record { atom = Out 0 1; premises = [] }) ∷ ((record { atom = Out 1 1; premises = [] }) ∷ []))
of_the_table_alone = refl

-- what stands isn't said again
what_is_new : narrowing (Out 0 1 ∷ Here 0 ∷ []) ≡ concluding ((record { atom = Out 1 1; premises = [] }) ∷ [])
what_is_new = refl

-- by a value: of the rows that have 4 for the first variable alone
by_a_value : narrowing (Out 0 1 ∷ Out 1 1 ∷ Is 1 (whole 1) ∷ Here 0 ∷ [])
    ≡ concluding ((record { atom = Out 0 2; premises = Is 1 (whole 1) ∷ [] }) ∷ [])
by_a_value = refl

-- by a grain that is out, where there is no value
by_a_grain : narrowing (Out 0 1 ∷ Out 1 1 ∷ Out 1 2 ∷ Here 0 ∷ [])
    ≡ concluding ((record { atom = Out 0 2; premises = Out 1 2 ∷ [] }) ∷ [])
by_a_grain = refl

-- a value follows from why all other rows aren't possible
value_from_all_rows : inferring (Is 1 (whole 1) ∷ Here 0 ∷ [])
    ≡ concluding ((record
    { atom = Is 0 (whole 1); premises = Is 1 (whole 1) ∷ (Is 1 (whole 1) ∷ (Is 1 (whole 1) ∷ [])) }) ∷ [])
value_from_all_rows = refl

-- a clash, each row by its first column that doesn't fit
no_row : inferring (Is 0 (whole 4) ∷ Is 1 (whole 1) ∷ Here 0 ∷ [])
    ≡ clashing (Is 0 (whole 4) ∷ (Is 0 (whole 4) ∷ (Is 1 (whole 1) ∷ (Is 0 (whole 4) ∷ []))))
no_row = refl

no_row_by_the_second_column : inferring (Is 0 (whole 4) ∷ Is 1 (whole 1) ∷ Here 0 ∷ [])
    ≢ clashing (Is 1 (whole 1) ∷ (Is 1 (whole 1) ∷ (Is 1 (whole 1) ∷ (Is 1 (whole 1) ∷ []))))
no_row_by_the_second_column e = cc

no_row_by_grains : narrowing (Out 1 0 ∷ Out 1 2 ∷ Here 0 ∷ []) ≡ clashing (Out 1 0 ∷ (Out 1 2 ∷ (Out 1 2 ∷ [])))
no_row_by_grains = refl

-- a literal that differs needs no reason
by_a_literal : row_reasons (plan_of []) (seen_of []) (record { column = 0; operand = Constant (whole 4) } ∷ [])
    (whole 1 ∷ []) ≡ []
by_a_literal = refl
