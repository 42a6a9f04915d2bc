-- Whether a variable is among those that columns fill.
use Rattle.std.proofs.Common.{◌≡◌, ℕ, ◌||◌, List, [], ◌∷◌, refl, ap}
use Rattle.std.specs.Prelude.{◌==◌}
use Rattle.std.specs.List.{list_any}
use Rattle.vc_plan.specs.declared.procedures.FilledColumn.{FilledColumn}
use Rattle.vc_wire_chains_meanings.specs.Meant.{filled_vars}

pub filled_any : (filled : List FilledColumn) (v : ℕ)
    → list_any (λ column. column.var == v) filled ≡ list_any (λ w. w == v) (filled_vars filled)
filled_any [] v = refl
filled_any (column ∷ filled) v = ap (λ b. (column.var == v) || b) (filled_any filled v)
