-- The line of a family: what comes of its model.
use Rattle.std.specs.Prelude.{◌≡◌, ℕ, List, [], ◌++◌, codes, decimal}
use Rattle.vc_model.specs.Spelled.{Spells}
use Rattle.vc_model_drafts.specs.Seen.{seen_model}
use Rattle.vc_model_parts.specs.declared.parts.Model.{Model}
use Rattle.vc_plan.specs.declared.plans.Plan.{Plan}
use Rattle.vc_compile_plan.specs.PlanOf.{IsPlanOf}
use Rattle.vc_app_family.specs.Families.{family_text, value_count}
use Rattle.vc_app_gen.specs.Tallies.{tally_of}
use Rattle.vc_app_gen.specs.declared.tally.Tally.{Tally}

-- the plan of the model that the family's text spells
pub record IsFamilyPlan (k : ℕ) (plan : Plan) : Type 0 where
  pub model : Model
  pub spelled : Spells (family_text k) (seen_model model)
  pub its : IsPlanOf model [] plan

-- `family k values COUNT sum SUM`
abbrev pub tally_line : ℕ → Tally → List ℕ
tally_line k tally =
    codes "family "
    ++ (decimal k
    ++ (codes " values " ++ (decimal tally.count ++ (codes " sum " ++ (decimal tally.sum ++ codes "\n")))))

-- the tally of the family's plan, by each of its values
pub record IsLine (k : ℕ) (line : List ℕ) : Type 0 where
  pub plan : Plan
  pub its : IsFamilyPlan k plan
  pub told : line ≡ tally_line k (tally_of plan (value_count k))
