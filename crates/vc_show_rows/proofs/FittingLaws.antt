-- A valid plan is what the calls take for granted.
use Rattle.std.proofs.Common.{arith}
use Rattle.std.proofs.lemmas.Bool.{leb-true}
use Rattle.vc_plan.specs.Domains.{atom_count}
use Rattle.vc_show.proofs.FittingLaws.{valid_plans_show}
use Rattle.vc_show_rows.specs.Fitting.{ValidPlansHaveRows}

pub valid_plans_have_rows : ValidPlansHaveRows
valid_plans_have_rows plan valid =
    let few = leb-true (atom_count plan) 40_000 valid.atom_limit in record {
      shown = valid_plans_show plan valid;
      atoms = omega (arith, few);
    }
