-- How adding slots to a list ends.
use Rattle.std.specs.Prelude.{◌≡◌, ◌≤◌, ◌<◌, Bool, true, false, List, ◌++◌, length}
use Rattle.vc_compile_plan.specs.declared.standings.Standing.{Standing}

-- all fit and stand behind those before, or there are too many
abbrev pub Adds : Bool → List Standing → List Standing → List Standing → Type 0
Adds true before after more = (after ≡ before ++ more) × (length after ≤ 40)
Adds false before after more = 40 < length (before ++ more)
