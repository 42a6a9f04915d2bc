-- What is told so far, with the values to come, is all of it; each adds little, and leaves nothing chosen.
use Rattle.std.proofs.Common.{◌≡◌, ◌+◌, ◌-◌, ◌*◌, ◌^◌, ◌≤◌, map}
use Rattle.std.specs.List.{range_with_len}
use Rattle.vc_net_places.specs.Cells.{total}
use Rattle.vc_plan_users.specs.Choosing.{none_chosen}
use Rattle.vc_session.specs.Sessions.{IsSessionOf}
use Rattle.vc_app_gen.specs.Tallies.{tally_at, tally_over}
use Rattle.vc_app_gen.proofs.asking.tally_over.Given as goal

abbrev pub invariant-loop-number : goal.invariant-loop-number
invariant-loop-number g l = record {
  count : l.tally.count
      + total (map (λ t. (tally_at l.plan l.var t).count) (range_with_len l.number (l.values - l.number)))
      ≡ (tally_over l.plan l.var l.values).count;
  sum : l.tally.sum
      + total (map (λ t. (tally_at l.plan l.var t).sum) (range_with_len l.number (l.values - l.number)))
      ≡ (tally_over l.plan l.var l.values).sum;
  few : l.tally.count ≤ l.number * 2 ^ 40;
  small : l.tally.sum ≤ l.number * 2 ^ 40;
  within : l.number ≤ l.values;
  of : IsSessionOf l.plan l.session;
  none : l.session.users ≡ none_chosen l.plan;
}
