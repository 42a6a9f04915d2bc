-- A tree that stands has no fault as its site means it.
use Rattle.std.proofs.Common.{ℕ, List, subst}
use Rattle.vc_model_parts.specs.declared.parts.Model.{Model}
use Rattle.vc_plan.specs.declared.plans.Slot.{Slot}
use Rattle.vc_syntax_tree.specs.Trees as syntax
use Rattle.vc_types.specs.declared.place.At.{At}
use Rattle.vc_compile_plan.specs.Layouts.{layout_of}
use Rattle.vc_compile_plan.specs.Places.{place_at, site_at}
use Rattle.vc_compile_plan.specs.Rules.{constraint_site, in_net}
use Rattle.vc_compile_meant.proofs.FaultLaws.{IsSound, is_sound}
use Rattle.vc_compile_origins.proofs.Origins.{StandsAt, StandsIn}

pub slot_sound : (model : Model) (i : ℕ) (slot : Slot) (place : At) (tree : syntax.Dependency)
    → StandsAt model i slot place tree
    → IsSound (site_at (layout_of model) i slot place).setting tree
slot_sound model i slot place tree stands =
    subst (λ setting. IsSound setting tree) stands.setting
    (is_sound model (place_at (layout_of model) slot place) tree stands.sound)

pub tuple_sound : (model : Model) (constraint : syntax.Constraint) (tuple : List ℕ) → StandsIn model constraint tuple
    → IsSound (constraint_site (layout_of model) constraint tuple).setting (syntax.Constrains constraint)
tuple_sound model constraint tuple stands = is_sound model in_net (syntax.Constrains constraint) stands.sound
