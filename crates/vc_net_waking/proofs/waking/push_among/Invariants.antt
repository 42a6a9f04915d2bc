-- What waits so far, with those of the rules from here on, is what is to wait.
use Rattle.std.proofs.Common.{◌≡◌, length}
use Rattle.std.specs.Prelude.{nat_eq}
use Rattle.std.specs.List.{filter}
use Rattle.vc_base.specs.Sets.{has}
use Rattle.vc_net_waking.specs.Waking.{stirred_rules, with_givers}
use Rattle.vc_net_waking.proofs.waking.push_among.Given as goal

abbrev pub invariant-loop-rest : goal.invariant-loop-rest
invariant-loop-rest g l =
    with_givers l.agenda (stirred_rules l.plan (g.V.View.seen l.view) (filter (has nat_eq l.rules) l.rest))
    ≡ with_givers l.fn.agenda
    (stirred_rules l.plan (g.V.View.seen l.view) (filter (has nat_eq l.rules) l.of_var))

abbrev pub decreases-loop-rest : goal.decreases-loop-rest
decreases-loop-rest g l = length l.rest
