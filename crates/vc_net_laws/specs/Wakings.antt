-- How often givers may be asked before settling ends.
use Rattle.std.specs.Prelude.{◌≡◌, ℕ, ◌+◌, ◌-◌, ◌≤◌, true, List, [], ◌∷◌, ◌++◌, length, map}
use Rattle.std.specs.List.{IsDistinct, filter, list_any, sum_by}
use Rattle.vc_base.specs.Sets.{has}
use Rattle.vc_plan.specs.declared.atoms.Atom.{Atom}
use Rattle.vc_plan.specs.declared.plans.Plan.{Plan}
use Rattle.vc_plan.specs.Clear.{is_clear}
use Rattle.vc_plan.specs.Domains.{numbers_below}
use Rattle.vc_plan.specs.Gives.{Giver, givers_of}
use Rattle.vc_plan.specs.Seen.{same_atom}
use Rattle.vc_plan_reasons.specs.Things.{Thing, has_thing, size_of, slot_at, thing_of, touches, var_at}
use Rattle.vc_plan_reasons.specs.Work.{work_on}
use Rattle.vc_net_laws.specs.Waking.{giver_touches}
use Rattle.vc_net_laws.specs.Working.{woken}

-- how many givers, and how many rules, touch the thing of an atom
abbrev pub givers_at : Plan → Atom → ℕ
givers_at plan atom = length (filter (λ giver. giver_touches plan giver (thing_of atom)) (givers_of plan))

abbrev pub rules_at : Plan → Atom → ℕ
rules_at plan atom = length (filter (λ rule. touches plan rule (thing_of atom)) plan.rules)

-- the slots and variables of a plan
abbrev pub things_of : Plan → List Thing
things_of plan = map slot_at (numbers_below (length plan.slots)) ++ map var_at (numbers_below (length plan.vars))

-- how often atoms may wake a giver: those that stand, and all that may stand together
abbrev pub wakings : Plan → List Atom → ℕ
wakings plan atoms = sum_by (givers_at plan) atoms

abbrev pub most_wakings : Plan → ℕ
most_wakings plan =
    sum_by (λ giver. sum_by (size_of plan) (filter (giver_touches plan giver) (things_of plan))) (givers_of plan)

-- how many givers may still be asked: those on the agenda, and as often as atoms to come may wake one
abbrev pub turns_left : Plan → List Atom → List Giver → ℕ
turns_left plan set agenda = (most_wakings plan - wakings plan set) + length agenda

-- an atom wakes no more givers than touch its thing
abbrev pub WokenAreFew : Type 0
WokenAreFew = (plan : Plan) (set : List Atom) (atom : Atom) → length (woken plan set atom) ≤ givers_at plan atom

-- where an atom comes, and no more givers on the agenda than touch its thing, no more turns are left than were
abbrev pub AtomsPayForTurns : Type 0
AtomsPayForTurns = (plan : Plan) (set : List Atom) (atom : Atom) (agenda later : List Giver)
    → is_clear plan (set ++ atom ∷ []) ≡ true → IsDistinct same_atom (set ++ atom ∷ [])
    → length later ≤ length agenda + givers_at plan atom
    → turns_left plan (set ++ atom ∷ []) later ≤ turns_left plan set agenda

-- the rules that touch one of the things, and as often as distinct atoms of these things, which are clear, wake one,
-- are
-- within the work on the things
abbrev pub WorkIsEnough : Type 0
WorkIsEnough = (plan : Plan) (atoms : List Atom) (things : List Thing) → is_clear plan atoms ≡ true
    → IsDistinct same_atom atoms
    → ((atom : Atom) → has same_atom atoms atom ≡ true → has_thing things (thing_of atom) ≡ true)
    → length (filter (λ rule. list_any (touches plan rule) things) plan.rules) + sum_by (rules_at plan) atoms
    ≤ work_on plan things
