-- Those from here on are read if all are: those before are.
use Rattle.std.proofs.Common.{◌≡◌, length}
use Rattle.vc_plan_reasons.specs.Checking.{are_of}
use Rattle.vc_plan_reasons.specs.Things.{giver_reads}
use Rattle.vc_check_givers.specs.Givers.{giver_meant}
use Rattle.vc_check.proofs.following.reads_all.Given as goal

abbrev pub invariant-loop-rest : goal.invariant-loop-rest
invariant-loop-rest l =
    are_of (giver_reads l.plan (giver_meant l.giver)) l.rest
    ≡ are_of (giver_reads l.plan (giver_meant l.giver)) l.premises

abbrev pub decreases-loop-rest : goal.decreases-loop-rest
decreases-loop-rest l = length l.rest
