-- What stands in a rule is what it reads and writes.
use Rattle.std.proofs.Common.{◌∙◌, ap, sym}
use Rattle.std.specs.Prelude.{nat_eq, slice_get}
use Rattle.std.specs.List.{list_any}
use Rattle.vc_net_readers.specs.Touched.{vars_in_rule}
use Rattle.vc_net_readers.proofs.TouchedLemmas.{var_in_rule}
use Rattle.vc_net_readers.proofs.touching.touches.Goals as goal

pub returns-in-Some : goal.returns-in-Some
returns-in-Some c =
    let plan = c.args.plan.now in
    c.is_touched.ensures
    ∙ (ap (λ o. list_any (nat_eq c.args.var) (vars_in_rule plan o)) (sym c.in-Some.ensures.some)
    ∙ (ap (λ rules. list_any (nat_eq c.args.var) (vars_in_rule plan (slice_get rules c.args.rule))) c.as_slice.ensures
    ∙ var_in_rule plan (slice_get plan.rules c.args.rule) c.args.var))
