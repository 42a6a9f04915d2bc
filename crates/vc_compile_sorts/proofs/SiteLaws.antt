-- The sites of a plan's trees: operands mean characteristics of the slots that they name.
use Rattle.std.proofs.Common.{ℕ, ◌&&◌, List, refl}
use Rattle.std.proofs.lemmas.Bool.{and_parts}
use Rattle.vc_model_parts.specs.declared.parts.Model.{Model}
use Rattle.vc_plan.specs.declared.plans.Slot.{Slot}
use Rattle.vc_syntax_tree.specs.Trees as syntax
use Rattle.vc_types.specs.declared.place.At.{At}
use Rattle.vc_compile_plan.specs.Layouts.{layout_of}
use Rattle.vc_compile_plan.specs.Places.{site_at}
use Rattle.vc_compile_plan.specs.Rules.{constraint_site}
use Rattle.vc_compile_plan.specs.Tuples.{are_different, are_of_kinds, are_parts_met}
use Rattle.vc_compile_meant.proofs.MeaningLaws.{meant_at}
use Rattle.vc_compile_meant.proofs.NetLaws.{meant_in}
use Rattle.vc_compile_origins.proofs.Origins.{StandsAt, StandsIn}
use Rattle.vc_compile_sorts.proofs.TermSorts.{IsSiteOf}

pub slot_site : (model : Model) (i : ℕ) (slot : Slot) (place : At) (tree : syntax.Dependency)
    → StandsAt model i slot place tree
    → IsSiteOf model (site_at (layout_of model) i slot place)
slot_site model i slot place tree stands = record {
  own = refl;
  meant = λ operand c e. (meant_at model i slot stands.there place stands.apart operand c e).meant;
}

pub tuple_site : (model : Model) (constraint : syntax.Constraint) (tuple : List ℕ) → StandsIn model constraint tuple
    → IsSiteOf model (constraint_site (layout_of model) constraint tuple)
tuple_site model constraint tuple stands =
    let layout = layout_of model in
    let parts = and_parts (are_of_kinds layout constraint.objects tuple && are_different tuple)
    (are_parts_met layout constraint.objects constraint.condition tuple) stands.matching in
    let kinds = and_parts (are_of_kinds layout constraint.objects tuple) (are_different tuple) parts.0 in
    record {
      own = refl;
      meant = λ operand c e. (meant_in model constraint tuple kinds.0 operand c e).meant;
    }
