-- The lamp's plan is valid, so the log is short.
use Rattle.std.proofs.Common.{◌≡◌, zero, suc, List, [], ◌∷◌, length, sym, ap, ◌∙◌, subst, arith}
use Rattle.std.specs.Prelude.{Option}
use Rattle.vc_plan.specs.declared.plans.Plan.{Plan}
use Rattle.vc_plan.specs.Sources.{Sources}
use Rattle.vc_plan_lamp.specs.Lamp.{lamp}
use Rattle.vc_plan_lamp.proofs.LampLaws.{lamp_is_valid}
use Rattle.vc_net.specs.Differing.{AreAllWritten, SameBeside}
use Rattle.vc_net_going.proofs.ChangeLaws.{nothing_past}
use Rattle.vc_net.proofs.NumberLaws.{logs_are_short}
use Rattle.vc_net_settling_tests.proofs.net.settled_with.Goals as goal

pub new-requires : goal.new-requires
new-requires g c = lamp_is_valid c.args.plan.now c.requires.plan

pub sync-requires-clause-valid : goal.sync-requires-clause-valid
sync-requires-clause-valid g c = lamp_is_valid c.args.plan.now c.requires.plan

pub sync_at-requires-clause-valid : goal.sync_at-requires-clause-valid
sync_at-requires-clause-valid g c = lamp_is_valid c.args.plan.now c.requires.plan

-- the lamp has one variable, and no procedure
one_touched : {A : Type 0} (xs ys : List (Option A)) → length xs ≡ 1 → length ys ≡ 1 → SameBeside (0 ∷ []) xs ys
one_touched xs ys one other zero none = absurd (cc none)
one_touched xs ys one other (suc v) none =
    nothing_past xs (suc v) (omega (arith, one)) ∙ sym (nothing_past ys (suc v) (omega (arith, other)))

nothing_written : (plan : Plan) → plan ≡ lamp → AreAllWritten plan []
nothing_written plan is = subst (λ p. AreAllWritten p []) (sym is) (λ v p n h. absurd (cc h))

pub sync_at-requires-clause-touched : goal.sync_at-requires-clause-touched
sync_at-requires-clause-touched g c =
    one_touched c.sync.new.self.sources.user c.args.sources.now.user
    (ap (λ (s : Sources). length s.user) c.sync.ensures.sources ∙ c.requires.former_users) c.requires.users

pub sync_at-requires-clause-written : goal.sync_at-requires-clause-written
sync_at-requires-clause-written g c = nothing_written c.args.plan.now c.requires.plan

pub clash-requires : goal.clash-requires
clash-requires g c =
    logs_are_short c.args.plan.now c.args.sources.now c.sync_at.new.self.work
    (lamp_is_valid c.args.plan.now c.requires.plan) c.sync_at.ensures.settled.going

pub chain_of-requires : goal.chain_of-requires
chain_of-requires g c =
    logs_are_short c.args.plan.now c.args.sources.now c.sync_at.new.self.work
    (lamp_is_valid c.args.plan.now c.requires.plan) c.sync_at.ensures.settled.going
