-- The texts of a set.
use Rattle.std.specs.Prelude.{ℕ, Bool, List}
use Rattle.std.specs.List.{filter}
use Rattle.vc_plan.specs.declared.plans.Plan.{Plan}
use Rattle.vc_plan.specs.Domains.{texts_of}

-- those of its list that the user put into it
abbrev pub set_texts : Plan → (ℕ → ℕ → Bool) → ℕ → List ℕ
set_texts plan holds set = filter (holds set) (texts_of plan set)
