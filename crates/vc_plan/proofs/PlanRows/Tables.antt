-- What table calls give.
use Rattle.std.proofs.Common.{◌≡◌, ℕ, pos, List, [], ◌∷◌, refl}
use Rattle.std.specs.Prelude.{◌≢◌}
use Rattle.vc_base.specs.Rounds.{Given, clash, atoms}
use Rattle.vc_plan.specs.declared.atoms.Atom.{Atom}
use Rattle.vc_plan.specs.declared.atoms.Atom.TheVariants.{Here, Out, Is}
use Rattle.vc_plan.specs.declared.plans.Plan.{Plan}
use Rattle.vc_plan.specs.declared.plans.Var.{Var}
use Rattle.vc_plan.specs.declared.rules.Binding.{Binding}
use Rattle.vc_plan.specs.declared.rules.Kind.TheVariants.{ByTable}
use Rattle.vc_plan.specs.declared.rules.Operand.TheVariants.{Constant}
use Rattle.vc_plan.specs.Gives.{by_rule, gives}
use Rattle.vc_plan.specs.Seen.{seen_of}
use Rattle.vc_plan.proofs.PlanRows.Models.{empty, root, open_var, fixed_var, rule, column, table_of, users, whole}
use Rattle.vc_plan.proofs.PlanRows.Models.{number, three_grains}

abbrev given : Plan → List Atom → Given Atom
given plan set = gives plan (users []) (by_rule 0) (seen_of set)

-- the rows 1,1 and 1,4 and 4,4 and 2,1.5, of which the last has a cell that no grain holds
abbrev call : List Var → List Binding → List ℕ → Plan
call vars columns inferred = record empty {
  domains = three_grains ∷ three_grains ∷ [];
  tables = table_of (
      (whole 1 ∷ whole 1 ∷ []) ∷ (whole 1 ∷ whole 4 ∷ []) ∷ (whole 4 ∷ whole 4 ∷ [])
      ∷ (whole 2 ∷ number (pos 1_500_000) ∷ []) ∷ []
      ) ∷ [];
  slots = root ∷ [];
  vars = vars;
  rules = rule 0 inferred (ByTable 0 columns) ∷ [];
}

abbrev narrows : Plan
narrows = call (open_var 0 ∷ open_var 1 ∷ []) (column 0 0 ∷ column 1 1 ∷ []) (0 ∷ 1 ∷ [])

abbrev infers : Plan
infers = call (fixed_var 0 ∷ fixed_var 1 ∷ []) (column 0 0 ∷ column 1 1 ∷ []) (0 ∷ [])

-- a grain that only a row with an impossible cell has is out, and so is one that no row has
impossible_cell : given narrows (Here 0 ∷ []) ≡ atoms (Out 0 1 ∷ Out 1 1 ∷ [])
impossible_cell = refl

-- the variable's own column doesn't count
by_the_others : given narrows (Out 0 1 ∷ Out 1 1 ∷ Is 1 (whole 1) ∷ Here 0 ∷ []) ≡ atoms (Out 0 2 ∷ [])
by_the_others = refl

-- not restrictable: the cell that all rows have that are possible in the other columns
value : given infers (Is 1 (whole 1) ∷ Here 0 ∷ []) ≡ atoms (Is 0 (whole 1) ∷ [])
value = refl

two_cells : given infers (Is 1 (whole 4) ∷ Here 0 ∷ []) ≡ atoms []
two_cells = refl

first_row : given infers (Is 1 (whole 4) ∷ Here 0 ∷ []) ≢ atoms (Is 0 (whole 1) ∷ [])
first_row e = cc

-- a clash where no row is possible in all columns
no_row : given infers (Is 0 (whole 4) ∷ Is 1 (whole 1) ∷ Here 0 ∷ []) ≡ clash
no_row = refl

-- a literal stands for its column
literal : given (call (fixed_var 0 ∷ []) (column 0 0 ∷ record { column = 1; operand = Constant (whole 1) } ∷ [])
    (0 ∷ [])) (Here 0 ∷ [])
    ≡ atoms (Is 0 (whole 1) ∷ [])
literal = refl

-- a variable that is given to two columns has a grain for which both cells lie in it: 1 or 4
twice : given (call (open_var 0 ∷ []) (column 0 0 ∷ column 1 0 ∷ []) (0 ∷ [])) (Here 0 ∷ []) ≡ atoms (Out 0 1 ∷ [])
twice = refl
