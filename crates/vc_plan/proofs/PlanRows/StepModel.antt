-- STEP: FLOW is at most twice STEPS, and two more restrictions cut FLOW at 5 and at 10.
use Rattle.std.proofs.Common.{◌≡◌, pos, List, [], ◌∷◌, true, refl}
use Rattle.std.specs.Prelude.{Some, ◌≢◌, Box}
use Rattle.std.specs.declared.alloc.Global.{Global}
use Rattle.vc_base.specs.Rounds.{broken}
use Rattle.vc_value.specs.Grains.{interval, cut_at}
use Rattle.vc_value.specs.declared.grains.Grain.{Grain}
use Rattle.vc_value.specs.declared.table_header.Domain.TheVariants.{Nums}
use Rattle.vc_plan.specs.declared.atoms.Atom.TheVariants.{Here, Out, Is}
use Rattle.vc_plan.specs.declared.conditions.Condition.TheVariants.{Always, Compared}
use Rattle.vc_plan.specs.declared.conditions.Relation.TheVariants.{AtMost, AtLeast, Greater}
use Rattle.vc_plan.specs.declared.plans.Plan.{Plan}
use Rattle.vc_plan.specs.declared.rules.Kind.TheVariants.{Among, Compare}
use Rattle.vc_plan.specs.declared.rules.Restriction.TheVariants.{Against}
use Rattle.vc_plan.specs.declared.terms.Operator.TheVariants.{Times}
use Rattle.vc_plan.specs.declared.terms.Term.TheVariants.{Literal, Read, Joined'}
use Rattle.vc_plan.specs.Settle.{settlement_of}
use Rattle.vc_plan.proofs.PlanRows.Models.{empty, root, open_var, fixed_var, rule, of, last, users, settles_at, whole}
use Rattle.vc_plan.proofs.PlanRows.Models.{from_to}

-- 0 .. 4.9, 5, 5.1 .. 9.9, 10 and 10.1 .. 100
abbrev pub flow_grains : List Grain
flow_grains =
    interval (pos 0) (pos 4_900_000)
    ∷ interval (pos 5_000_000) (pos 5_000_000)
    ∷ interval (pos 5_100_000) (pos 9_900_000)
    ∷ interval (pos 10_000_000) (pos 10_000_000)
    ∷ interval (pos 10_100_000) (pos 100_000_000)
    ∷ []

cuts : cut_at 1 (record { millionths = pos 10_000_000 })
    (cut_at 1 (record { millionths = pos 5_000_000 }) (from_to 0 100 ∷ [])) ≡ flow_grains
cuts = refl

abbrev pub steps : Box (Unit {0}) Global → Plan
steps p = record empty {
  domains = Nums 0 (from_to 0 0 ∷ from_to 1 1 ∷ from_to 2 2 ∷ from_to 3 50 ∷ []) ∷ Nums 1 flow_grains ∷ [];
  slots = root ∷ [];
  vars = fixed_var 0 ∷ open_var 1 ∷ [];
  conditions = Always ∷ Compared Greater (Read 1) (Literal (whole 5)) ∷ Compared Greater (Read 1) (Literal (whole 10))
      ∷ [];
  terms = Read 1 ∷ Joined' Times p (Literal (whole 2)) p (Read 0) ∷ [];
  rules =
      rule 0 (1 ∷ []) (Compare AtMost 0 1)
      ∷ of 0 2 (rule 1 (1 ∷ []) (Among 0 (Against AtLeast (whole 1))))
      ∷ of 0 3 (rule 2 (1 ∷ []) (Among 0 (Against AtLeast (whole 2))))
      ∷ last 0
      ∷ last 1
      ∷ [];
}

-- with 3 steps the grains that lie wholly above 6 are out
three : (p : Box (Unit {0}) Global)
    → settles_at (steps p) (users (Some (whole 3) ∷ [])) (Here 0 ∷ Is 0 (whole 3) ∷ Out 1 3 ∷ Out 1 4 ∷ []) ≡ true
three p = refl

-- 5.1 .. 9.9 doesn't: it has numbers up to 6
partly : (p : Box (Unit {0}) Global)
    → settles_at (steps p) (users (Some (whole 3) ∷ [])) (Here 0 ∷ Is 0 (whole 3) ∷ Out 1 2 ∷ Out 1 3 ∷ Out 1 4 ∷ []) ≢
    true
partly p e = cc

-- 6 is allowed, and 9 isn't, though it lies in a grain that isn't out
six : (p : Box (Unit {0}) Global) → settlement_of (steps p) (users (Some (whole 3) ∷ Some (whole 6) ∷ [])) ≢ broken
six p e = cc

nine : (p : Box (Unit {0}) Global) → settlement_of (steps p) (users (Some (whole 3) ∷ Some (whole 9) ∷ [])) ≡ broken
nine p = refl

-- no steps leave the grain 0 .. 4.9, which has more than one value
none : (p : Box (Unit {0}) Global)
    → settles_at (steps p) (users (Some (whole 0) ∷ []))
    (Here 0 ∷ Is 0 (whole 0) ∷ Out 1 1 ∷ Out 1 2 ∷ Out 1 3 ∷ Out 1 4 ∷ []) ≡ true
none p = refl
