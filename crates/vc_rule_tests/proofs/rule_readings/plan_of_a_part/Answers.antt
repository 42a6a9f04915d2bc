use Rattle.std.proofs.Common.{pos, refl, rules}
use Rattle.vc_rule_tests.proofs.SmallPlans.{plain_fits}
use Rattle.vc_rule_tests.proofs.rule_readings.plan_of_a_part.Goals as goal

pub returns : goal.returns
returns c = plain_fits _ (record { millionths = pos 2_500_000 }) c.new-5.ensures (search rules) c.in_ok-terms.ensures
    refl c.in_ok-slots.ensures c.new-7.ensures
