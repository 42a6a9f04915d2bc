-- The plan's rule can be evaluated, and the yield has room for what it says.
use Rattle.std.proofs.Common.{◌≡◌, eqb, false, List, [], ◌∷◌, refl, sym, subst, arith}
use Rattle.std.specs.Prelude.{None, Some}
use Rattle.vc_plan.specs.declared.conditions.Condition.TheVariants.{Always}
use Rattle.vc_plan.specs.declared.plans.Plan.{Plan}
use Rattle.vc_plan.specs.declared.plans.Slot.{Slot}
use Rattle.vc_plan.specs.declared.rules.Kind.TheVariants.{Line}
use Rattle.vc_plan.specs.declared.rules.Rule.{Rule}
use Rattle.vc_plan.specs.Seen.{Seen}
use Rattle.vc_rule_premises.specs.Saying.{HasRoomFor}
use Rattle.vc_rule.specs.Evaluating.{found_at, RulesFit}
use Rattle.vc_rule.specs.Rooms.{rooms_of}
use Rattle.vc_rule_tests.proofs.rule.evaluate_first.Goals as goal

abbrev root : Seen
root = record { here = λ i. eqb i 0; out = λ v g. false; value = λ v. None }

abbrev slots : List Slot
slots =
    record { parent = None; depth = 0; object = 0; line = 0 }
    ∷ (record { parent = Some 0; depth = 1; object = 1; line = 1 } ∷ [])

abbrev rules : List Rule
rules = record { dependency = None; number = 0; slots = []; condition = 0; inferred = []; kind = Line 1 } ∷ []

abbrev small : Plan → Plan
small plan = record plan { slots = slots; rules = rules; conditions = Always ∷ []; terms = []; vars = []; domains = [] }

is_small : (plan : Plan) → plan.slots ≡ slots → plan.rules ≡ rules → plan.conditions ≡ Always ∷ [] → plan.terms ≡ []
    → plan.vars ≡ []
    → plan.domains ≡ [] → plan ≡ small plan
is_small plan p q s t v d =
    λ i. record plan { slots = p i; rules = q i; conditions = s i; terms = t i; vars = v i; domains = d i }

small_room : (plan : Plan) → HasRoomFor (rooms_of (small plan)) (found_at (small plan) root 0)
small_room plan = ((omega arith, tt), omega arith, omega arith)

small_fits : (plan : Plan) → RulesFit (small plan)
small_fits plan = record {
  terms = record {
    domains_there = refl;
    conditions_there = refl;
    terms_there = refl;
    conditions_small =
        refl;
    terms_small = refl;
  };
  grains = record { few = omega arith; proper = refl };
}

pub evaluate-requires-clause-room : goal.evaluate-requires-clause-room
evaluate-requires-clause-room g c =
    let r = c.requires in
    let same = is_small c.args.plan.now r.slots r.rules r.conditions r.terms r.vars r.domains in
    subst (λ x. HasRoomFor x (found_at c.args.plan.now root 0)) (sym r.rooms)
    (subst (λ x. HasRoomFor (rooms_of x) (found_at x root 0)) (sym same) (small_room c.args.plan.now))

pub evaluate-requires-clause-fit : goal.evaluate-requires-clause-fit
evaluate-requires-clause-fit g c =
    let r = c.requires in
    let same = is_small c.args.plan.now r.slots r.rules r.conditions r.terms r.vars r.domains in
    subst RulesFit (sym same) (small_fits c.args.plan.now)
