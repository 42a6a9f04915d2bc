-- What is put, with the slots to come, is all of it.
use Rattle.std.proofs.Common.{◌≡◌, ◌≤◌, ◌-◌, ◌++◌, length}
use Rattle.std.specs.List.{flat_map, range_with_len}
use Rattle.vc_plan_users.specs.Choosing.{users_of}
use Rattle.vc_session.specs.Sessions.{last_seen}
use Rattle.vc_desk_shown.specs.Shown.{instance_if_here, instances_text}
use Rattle.vc_desk_shown.proofs.instances.instances.Given as goal

abbrev pub invariant-loop-slot : goal.invariant-loop-slot
invariant-loop-slot l =
    let users = users_of l.session.users in
    let seen = last_seen l.session.stages in
    let entries = l.session.stages.overlay in
    (l.out ++ flat_map (instance_if_here l.plan users seen entries l.session.stages.late)
    (range_with_len l.slot (length l.plan.slots - l.slot))
    ≡ instances_text l.plan users seen entries l.session.stages.late) × (l.slot ≤ length l.plan.slots)
