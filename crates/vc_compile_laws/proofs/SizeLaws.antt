-- A plan for which no fault of its sizes is told is within the limits.
use Rattle.std.proofs.Common.{◌≡◌, ℕ, Bool, true, false, length, Option, Some, None, if◌then◌else◌, refl, ap, ◌∙◌}
use Rattle.std.specs.Prelude.{nat_le, nat_lt}
use Rattle.std.proofs.lemmas.Bool.{ltb-false, le-leb}
use Rattle.vc_plan.specs.Bounds.{cell_bound}
use Rattle.vc_plan.specs.Domains.{atom_count}
use Rattle.vc_compile_plan.specs.Refusals.{has_too_many_atoms, has_too_many_cells, has_too_many_rules}
use Rattle.vc_compile_plan.specs.declared.fault.CompileFault.{CompileFault}
use Rattle.vc_compile_plan.specs.declared.fault.CompileFault.TheVariants as faults
use Rattle.vc_compile_laws.specs.Compiles.{CompiledKeeps}
use Rattle.vc_compile_laws.specs.Sizes.{IsWithin}

-- nothing is told, so the test fails
none_told : (b : Bool) (fault : CompileFault) (later : Option CompileFault) → (if b then Some fault else later) ≡ None
    → (b ≡ false) × (later ≡ None)
none_told true fault later e = absurd (cc)
none_told false fault later e = (refl, e)

within : (most n : ℕ) → nat_lt most n ≡ false → nat_le n most ≡ true
within most n h = le-leb n most (ltb-false most n h)

pub is_within : CompiledKeeps IsWithin
is_within text model tables plan spells read compiles =
    let cells : Option CompileFault = if has_too_many_cells plan then Some faults.TooManyCells else None in
    let atoms : Option CompileFault = if has_too_many_atoms plan then Some faults.TooManyAtoms else cells in
    let first = none_told (has_too_many_rules plan) faults.TooManyRules atoms compiles.within in
    let second = none_told (has_too_many_atoms plan) faults.TooManyAtoms cells first.1 in
    let third = none_told (has_too_many_cells plan) faults.TooManyCells None second.1 in
    record {
      slot_limit = ap (λ xs. nat_le (length xs) 40) compiles.is_its.slots ∙ within 40 _ compiles.slots;
      rule_limit = within 20_000 (length plan.rules) first.0;
      atom_limit = within 40_000 (atom_count plan) second.0;
      cell_limit = within 500_000 (cell_bound plan) third.0;
    }
