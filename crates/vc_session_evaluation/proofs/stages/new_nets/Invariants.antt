-- The nets so far.
use Rattle.std.proofs.Common.{◌≡◌, length}
use Rattle.std.specs.List.{AllByRecursion}
use Rattle.vc_net.specs.Nets.{IsNetOf}
use Rattle.vc_session_evaluation.specs.Costing.{HasAllBehind}
use Rattle.vc_session_evaluation.proofs.stages.new_nets.Given as goal

abbrev pub invariant-loop-stage : goal.invariant-loop-stage
invariant-loop-stage l = record {
  nets : AllByRecursion (IsNetOf l.plan) l.nets.items;
  behind : AllByRecursion (HasAllBehind l.plan) l.nets.items;
  many : length l.nets.items ≡ l.stage;
}
