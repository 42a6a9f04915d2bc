-- Slots at which the same is typed: those of the same object below the same object.
use Rattle.std.specs.Prelude.{ℕ, Bool, true, false, ◌&&◌, ◌==◌, Option, None, Some}
use Rattle.vc_plan.specs.declared.plans.Slot.{Slot}
use Rattle.vc_compile_plan.specs.Layouts.{Layout, object_if}

abbrev pub is_same : Option ℕ → Option ℕ → Bool
is_same None None = true
is_same None (Some b) = false
is_same (Some a) None = false
is_same (Some a) (Some b) = a == b

abbrev pub is_alike : Layout → Slot → Slot → Bool
is_alike layout a b = (a.object == b.object) && is_same (object_if layout a.parent) (object_if layout b.parent)
