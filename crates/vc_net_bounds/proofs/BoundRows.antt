-- Worked rows by computing. Beside what is so stands what would be so by a likely slip, and isn't.
use Rattle.std.proofs.Common.{◌≡◌, ◌+◌, [], ◌∷◌, length, map, refl, arith}
use Rattle.std.specs.Prelude.{◌≢◌}
use Rattle.vc_plan.specs.declared.plans.Plan.{Plan}
use Rattle.vc_plan.specs.declared.rules.Kind.TheVariants.{Line}
use Rattle.vc_plan.specs.Bounds.{cell_bound, distinct, here_at, source_bound}
use Rattle.vc_plan.proofs.PlanRows.Models.{empty, own_rule, pump, root}
use Rattle.vc_net_places.specs.Cells.{all_places, bounds_of, total}
use Rattle.vc_net_bounds.specs.Capping.{capped}
use Rattle.vc_net_bounds.specs.Counting.{clash_cells, sources_before}
use Rattle.vc_net_bounds.specs.Keeping.{column_counts}
use Rattle.vc_net_bounds.specs.Meeting.{met_after}
use Rattle.vc_net_bounds.specs.Raising.{at_line, raised_by, raised_by_rules}

-- what sources need at PUMP's places: at each variable's value one premise
sources : sources_before pump (length pump.vars) ≡ 0 ∷ 1 ∷ 0 ∷ 0 ∷ 0 ∷ 1 ∷ 0 ∷ 0 ∷ 0 ∷ 1 ∷ 0 ∷ []
sources = refl

-- and after all of its rules
raised : raised_by_rules pump pump.rules (map source_bound (all_places pump))
    ≡ 0 ∷ 3 ∷ 2 ∷ 3 ∷ 2 ∷ 3 ∷ 3 ∷ 2 ∷ 2 ∷ 1 ∷ 0 ∷ []
raised = refl

as_stated : raised_by_rules pump pump.rules (map source_bound (all_places pump)) ≡ bounds_of pump
as_stated = refl

-- of its table one row has the first size, two the second and one the third; counted for a column alone, and for a
-- variable
counted : column_counts pump (record { table = 0; column = 0; domain = 0 }) ≡ 1 ∷ 2 ∷ 1 ∷ []
counted = refl

not_alike : column_counts pump (record { table = 0; column = 0; domain = 0 }) ≢ 2 ∷ 2 ∷ 2 ∷ []
not_alike e = cc

-- a clash needs the slot and the rows of the table
clash : clash_cells pump ≡ 5
clash = refl

all_cells : total (bounds_of pump) + clash_cells pump ≡ cell_bound pump
all_cells = refl

-- the root isn't raised, also where a rule would bring it
abbrev brought : Plan
brought = record empty { slots = root ∷ []; rules = own_rule 0 (Line 0) ∷ [] }

root_cells : raised_by_rules brought brought.rules (0 ∷ []) ≡ 0 ∷ []
root_cells = refl

-- a place keeps the greatest, whichever came first, and not the last
greatest_kept : raised_by (at_line 1 2) (here_at 0 ∷ here_at 1 ∷ []) (0 ∷ 5 ∷ []) ≡ 0 ∷ 5 ∷ []
greatest_kept = refl

not_the_last : raised_by (at_line 1 2) (here_at 0 ∷ here_at 1 ∷ []) (0 ∷ 5 ∷ []) ≢ 0 ∷ 2 ∷ []
not_the_last e = cc

greatest_taken : raised_by (at_line 1 7) (here_at 0 ∷ here_at 1 ∷ []) (0 ∷ 5 ∷ []) ≡ 0 ∷ 7 ∷ []
greatest_taken = refl

-- variables that are read twice count once
met : met_after (3 ∷ 1 ∷ 3 ∷ 2 ∷ 1 ∷ []) [] ≡ 1 ∷ 2 ∷ 3 ∷ []
met = refl

different : distinct (3 ∷ 1 ∷ 3 ∷ 2 ∷ 1 ∷ []) ≡ 3 ∷ 2 ∷ 1 ∷ []
different = refl

-- what is told ends at one more than the most cells
told : map capped (0 ∷ 500_000 ∷ 500_001 ∷ 4_000_000_000 ∷ []) ≡ 0 ∷ 500_000 ∷ 500_001 ∷ 500_001 ∷ []
told = refl

not_beyond : capped 500_001 ≢ 500_000
not_beyond e = absurd (omega (arith, e))
