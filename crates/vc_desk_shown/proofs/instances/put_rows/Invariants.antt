-- What is put, with the rows to come, is all of it.
use Rattle.std.proofs.Common.{◌≡◌, ◌++◌, drop}
use Rattle.vc_plan_users.specs.Choosing.{users_of}
use Rattle.vc_desk_shown.specs.Shown.{rows_text}
use Rattle.vc_desk_shown.proofs.instances.put_rows.Given as goal

abbrev pub invariant-loop-row : goal.invariant-loop-row
invariant-loop-row l =
    l.out ++ rows_text l.plan (users_of l.session.users) l.session.stages.overlay (drop l.row-index l.rows)
    ≡ l.initial.out ++ rows_text l.plan (users_of l.session.users) l.session.stages.overlay l.rows
