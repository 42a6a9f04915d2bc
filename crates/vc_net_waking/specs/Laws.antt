-- Laws of who is asked: none too few, and no more than an atom pays for.
use Rattle.std.specs.Prelude.{◌≡◌, ◌+◌, ◌≤◌, true, List, [], ◌∷◌, ◌++◌, length}
use Rattle.vc_base.specs.Sets.{Within}
use Rattle.vc_plan.specs.declared.atoms.Atom.{Atom}
use Rattle.vc_plan.specs.declared.plans.Plan.{Plan}
use Rattle.vc_plan.specs.Clear.{is_clear, is_named}
use Rattle.vc_plan.specs.Gives.{Giver}
use Rattle.vc_plan.specs.Seen.{Seen, seen_of}
use Rattle.vc_plan.specs.Settle.{base}
use Rattle.vc_plan.specs.Sources.{Sources}
use Rattle.vc_plan_reasons.specs.Things.{thing_of}
use Rattle.vc_net_laws.specs.Wakings.{givers_at}
use Rattle.vc_net_laws.specs.Working.{AreAskedOrQuiet, IsWorking, same_giver, woken}
use Rattle.vc_net_agenda.specs.Agendas.{Awaited}
use Rattle.vc_net_waking.specs.Beginning.{begun}
use Rattle.vc_net_waking.specs.Waking.{waking, with_givers}

-- the agenda is of as many rules and variables as the plan has
abbrev pub IsAgendaOf : Plan → Awaited → Type 0
IsAgendaOf plan agenda = (agenda.rules ≡ length plan.rules) × (agenda.vars ≡ length plan.vars)

-- who waited waits on, and the agenda is of as many rules and variables
abbrev pub OthersWaitOn : Type 0
OthersWaitOn = (agenda : Awaited) (givers : List Giver) → Within same_giver agenda.givers
    (with_givers agenda givers).givers

abbrev pub SizesStay : Type 0
SizesStay = (agenda : Awaited) (givers : List Giver)
    → ((with_givers agenda givers).rules ≡ agenda.rules) × ((with_givers agenda givers).vars ≡ agenda.vars)

-- all who are woken wait then but such as are quiet, where the set is clear with the atom
abbrev pub WokenWait : Type 0
WokenWait = (plan : Plan) (sources : Sources) (set : List Atom) (atom : Atom) (agenda : Awaited)
    → IsAgendaOf plan agenda → is_clear plan (set ++ atom ∷ []) ≡ true
    → AreAskedOrQuiet plan sources
    (with_givers agenda (waking plan sources (seen_of (set ++ atom ∷ [])) (thing_of atom))).givers
    (set ++ atom ∷ []) (woken plan set atom)

-- and no more come on the agenda than touch the atom's thing
abbrev pub WakingIsFew : Type 0
WakingIsFew = (plan : Plan) (sources : Sources) (seen : Seen) (atom : Atom) (agenda : Awaited)
    → is_named plan atom ≡ true
    → length (with_givers agenda (waking plan sources seen (thing_of atom))).givers
    ≤ length agenda.givers + givers_at plan atom

-- the work may begin with those who may have anything to say at the start
abbrev pub BeginnersSuffice : Type 0
BeginnersSuffice = (plan : Plan) (sources : Sources) (agenda : Awaited) → IsAgendaOf plan agenda
    → is_clear plan base ≡ true → IsWorking plan sources (begun plan agenda).givers base
