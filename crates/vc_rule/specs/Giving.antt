-- Rules that give a variable one text, told at a glance.
use Rattle.std.specs.Prelude.{◌≡◌, ℕ, Bool, false, not, ◌&&◌, [], ◌∷◌, Option, None, Some, is_none}
use Rattle.vc_value.specs.declared.value.Value.TheVariants.{Text}
use Rattle.vc_plan.specs.declared.atoms.Atom.TheVariants.{Is}
use Rattle.vc_plan.specs.declared.plans.Plan.{Plan}
use Rattle.vc_plan.specs.declared.rules.Restriction.{Restriction}
use Rattle.vc_plan.specs.declared.rules.Rule.{Rule}
use Rattle.vc_plan.specs.Domains.{is_restrictable}
use Rattle.vc_plan.specs.Restrictions.{is_inferred}
use Rattle.vc_plan.specs.Seen.{Seen}
use Rattle.vc_rule_premises.specs.Saying.{concluding, conclusion_from}
use Rattle.vc_rule_grains.specs.Kinds.{among_said}

-- whether the variable has no value yet, may be narrowed by the rule, and isn't restrictable
abbrev pub is_free_for : Plan → Seen → Rule → ℕ → Bool
is_free_for plan seen rule v = is_none (seen.value v) && (is_inferred rule v && not (is_restrictable plan v))

-- whether the grain, if there is one, isn't out
abbrev pub is_there : (ℕ → Bool) → Option ℕ → Bool
is_there out None = false
is_there out (Some g) = not (out g)

-- what the rule says is that the variable has this text, and it needs nothing but that the rule acts
abbrev pub GivesText : Plan → Seen → Rule → ℕ → Restriction → ℕ → Type 0
GivesText plan seen rule v restriction t =
    among_said plan seen rule v restriction ≡ concluding (conclusion_from [] (Is v (Text t)) ∷ [])
