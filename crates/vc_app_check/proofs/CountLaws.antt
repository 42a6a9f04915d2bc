-- A plan within all sizes has few atoms and cells.
use Rattle.std.proofs.Common.{◌≡◌, ℕ, ◌≤◌, nat_lt, Bool, true, false, refl, sym, arith, if◌then◌else◌, Option, None}
use Rattle.std.proofs.Common.{Some}
use Rattle.std.proofs.lemmas.Bool.Decides.{nat_tests}
use Rattle.std.proofs.lemmas.Option.{none-some}
use Rattle.vc_plan.specs.declared.plans.Plan.{Plan}
use Rattle.vc_plan.specs.Bounds.{cell_bound}
use Rattle.vc_plan.specs.Domains.{atom_count}
use Rattle.vc_compile_plan.specs.Refusals.{has_too_many_atoms, has_too_many_cells, has_too_many_rules, most_atoms}
use Rattle.vc_compile_plan.specs.Refusals.{most_cells, size_fault}
use Rattle.vc_compile_plan.specs.declared.fault.CompileFault.{CompileFault}
use Rattle.vc_compile_plan.specs.declared.fault.CompileFault.TheVariants as faults

abbrev fault_by : Bool → Bool → Bool → Option CompileFault
fault_by rules atoms cells =
    let few = if cells then Some faults.TooManyCells else None in
    let fewer = if atoms then Some faults.TooManyAtoms else few in
    if rules then Some faults.TooManyRules else fewer

passes : (rules atoms cells : Bool) → fault_by rules atoms cells ≡ None → (atoms ≡ false) × (cells ≡ false)
passes true atoms cells none = absurd (none-some faults.TooManyRules (sym none))
passes false true cells none = absurd (none-some faults.TooManyAtoms (sym none))
passes false false true none = absurd (none-some faults.TooManyCells (sym none))
passes false false false none = (refl, refl)

not_above : (most n : ℕ) → nat_lt most n ≡ false → n ≤ most
not_above most n below = grind (arith, nat_tests)

pub few_atoms : (plan : Plan) → size_fault plan ≡ None → atom_count plan ≤ most_atoms
few_atoms plan none =
    not_above most_atoms (atom_count plan)
    (passes (has_too_many_rules plan) (has_too_many_atoms plan) (has_too_many_cells plan) none).0

pub few_cells : (plan : Plan) → size_fault plan ≡ None → cell_bound plan ≤ most_cells
few_cells plan none =
    not_above most_cells (cell_bound plan)
    (passes (has_too_many_rules plan) (has_too_many_atoms plan) (has_too_many_cells plan) none).1
