-- With what steps begin, on single steps.
use Rattle.std.proofs.Common.{[], ◌≡◌, ◌∷◌, ap, refl}
use Rattle.vc_value.specs.declared.value.Value.TheVariants.{Text}
use Rattle.vc_plan.specs.declared.atoms.Atom.TheVariants.{Is, Out}
use Rattle.vc_plan.specs.declared.atoms.Origin.TheVariants.{Rule, User}
use Rattle.vc_plan.specs.declared.atoms.Step.{Step}
use Rattle.vc_net_going.specs.Going.{BeginsWith}

abbrev first : Step
first = record { conclusion = Is 0 (Text 1); origin = User; premises = [] }

abbrev second : Step
second = record { conclusion = Out 1 0; origin = Rule 0; premises = 1 ∷ [] }

begins : BeginsWith (first ∷ []) (first ∷ second ∷ [])
begins = (second ∷ [], refl)

begins_with_nothing : BeginsWith [] (first ∷ [])
begins_with_nothing = (first ∷ [], refl)

ends_before : BeginsWith (first ∷ []) [] → ⊥
ends_before h = let none = h.1 in absurd (cc)

ends_with_it : BeginsWith (first ∷ []) (second ∷ first ∷ []) → ⊥
ends_with_it h =
    let is : second ≡ first = cc in
    let conclusions = ap (λ (step : Step). step.conclusion) is in
    absurd (cc)
