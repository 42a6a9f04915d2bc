-- The plan is valid: a text spells its model, and no table was read.
use Rattle.vc_app_family.specs.Families.{family_text}
use Rattle.vc_app_gen.proofs.GenLaws.{none_read}
use Rattle.vc_app_gen.proofs.families.family_plan.Goals as goal

pub returns-in-Ok-clause-valid : goal.returns-in-Ok-clause-valid
returns-in-Ok-clause-valid c =
    c.in-Ok.ensures.valid (family_text c.args.family) c.in_ok-model.ensures (none_read c.in_ok-model.model)
