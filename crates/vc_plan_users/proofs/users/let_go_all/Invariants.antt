-- The texts so far are changed, and those from the place on are as before.
use Rattle.std.proofs.Common.{◌≡◌, ◌++◌, length, map, take, drop}
use Rattle.vc_plan_users.specs.Choosing.{let_go}
use Rattle.vc_plan_users.proofs.users.let_go_all.Given as goal

abbrev pub invariant-loop-place : goal.invariant-loop-place
invariant-loop-place l =
    (l.listed ≡ take l.place (map (let_go) l.fn.listed) ++ drop l.place l.fn.listed)
    × (length l.listed ≡ length l.fn.listed)
