-- The yield has room for one conclusion of one premise.
use Rattle.std.proofs.Common.{◌≡◌, false, List, [], ◌∷◌, sym, subst, arith}
use Rattle.std.specs.Prelude.{None, Some, nat_lt}
use Rattle.vc_value.specs.declared.value.Value.TheVariants.{Text}
use Rattle.vc_plan.specs.declared.plans.Plan.{Plan}
use Rattle.vc_plan.specs.declared.plans.Var.{Var}
use Rattle.vc_plan.specs.Gives.{by_user}
use Rattle.vc_plan.specs.Seen.{Seen}
use Rattle.vc_plan.specs.Sources.{Sources}
use Rattle.vc_plan_sources.specs.Changes.{no_sources, with_user}
use Rattle.vc_rule_yield.specs.Yielding.{Rooms}
use Rattle.vc_rule_premises.specs.Saying.{HasRoomFor}
use Rattle.vc_net_sources.specs.Asking.{found_from}
use Rattle.vc_net_settling_tests.proofs.net_sources.ask_user.Goals as goal

abbrev seen : Seen
seen = record { here = λ i. nat_lt i 2; out = λ v g. false; value = λ v. None }

abbrev vars : List Var
vars = record { slot = 1; characteristic = 0; domain = 0; restrictable = false } ∷ []

abbrev sources : Sources
sources = with_user (no_sources 1) 0 (Some (Text 4))

abbrev rooms : Rooms
rooms = record { cites = 1; atoms = 1; premises = 1 }

small_room : (plan : Plan) → HasRoomFor rooms (found_from (record plan { vars = vars }) sources seen (by_user 0))
small_room plan = ((omega arith, tt), omega arith, omega arith)

there : (plan : Plan) (s : Sources) (r : Rooms) → plan.vars ≡ vars → s ≡ sources → r ≡ rooms
    → HasRoomFor r (found_from plan s seen (by_user 0))
there plan s r p q h =
    let same : plan ≡ record plan { vars = vars } = λ i. record plan { vars = p i } in
    subst (λ x. HasRoomFor x (found_from plan s seen (by_user 0))) (sym h)
    (subst (λ x. HasRoomFor rooms (found_from plan x seen (by_user 0))) (sym q)
    (subst (λ x. HasRoomFor rooms (found_from x sources seen (by_user 0))) (sym same) (small_room plan)))

pub ask-requires-clause-room : goal.ask-requires-clause-room
ask-requires-clause-room g c =
    there c.args.plan.now c.args.sources.now c.args.out.now.rooms c.requires.vars c.requires.sources c.requires.rooms
