-- The work on the way to where settling ends: the atoms that stand, and an agenda of the givers that may have more to
-- say.
use Rattle.std.specs.Prelude.{◌≡◌, Bool, true, false, ◌&&◌, ◌||◌, ◌==◌, List, [], ◌∷◌, ◌++◌}
use Rattle.std.specs.List.{IsDistinct, filter}
use Rattle.vc_base.specs.Rounds.{settled}
use Rattle.vc_base.specs.Sets.{has, Within}
use Rattle.vc_plan.specs.declared.atoms.Atom.{Atom}
use Rattle.vc_plan.specs.declared.atoms.Step.{Step}
use Rattle.vc_plan.specs.declared.plans.Plan.{Plan}
use Rattle.vc_plan.specs.Clear.{is_clear}
use Rattle.vc_plan.specs.Gives.{Giver, by_rule, by_user, by_entry, givers_of}
use Rattle.vc_plan.specs.Seen.{same_atom}
use Rattle.vc_plan.specs.Settle.{base, settlement_of}
use Rattle.vc_plan.specs.Sources.{Sources}
use Rattle.vc_plan_reasons.specs.Checking.{concluded, is_accepted, set_with}
use Rattle.vc_net_laws.specs.Forced.{IsForced, IsSound, is_quiet}
use Rattle.vc_net_laws.specs.Triggers.{stands_in, trigger_by}
use Rattle.vc_net_laws.specs.Waking.{IsSplit, giver_differs, is_woken, touches_some}

-- whether two givers are one
abbrev pub same_giver : Giver → Giver → Bool
same_giver (by_rule r) (by_rule s) = r == s
same_giver (by_rule r) (by_user w) = false
same_giver (by_rule r) (by_entry w) = false
same_giver (by_user v) (by_rule s) = false
same_giver (by_user v) (by_user w) = v == w
same_giver (by_user v) (by_entry w) = false
same_giver (by_entry v) (by_rule s) = false
same_giver (by_entry v) (by_user w) = false
same_giver (by_entry v) (by_entry w) = v == w

-- the atoms are a sound set, each once, and whoever isn't on the agenda is quiet there
pub record IsWorking (plan : Plan) (sources : Sources) (agenda : List Giver) (set : List Atom) : Type 0 where
  pub sound : IsSound plan sources set
  pub distinct : IsDistinct same_atom set
  pub quiet : (giver : Giver) → has same_giver agenda giver ≡ false → is_quiet plan sources set giver ≡ true

-- the givers that are woken when the atom has come to the set
abbrev pub woken : Plan → List Atom → Atom → List Giver
woken plan set atom = filter (is_woken plan set atom) (givers_of plan)

-- those that are disturbed when sources change and atoms are dropped: they differ or touch something dropped, and their
-- trigger, where they have one, is kept
abbrev pub is_disturbed : Plan → Sources → Sources → List Atom → List Atom → Giver → Bool
is_disturbed plan old new kept dropped giver =
    (giver_differs old new giver || touches_some plan dropped giver) && stands_in kept (trigger_by plan giver)

abbrev pub disturbed : Plan → Sources → Sources → List Atom → List Atom → List Giver
disturbed plan old new kept dropped = filter (is_disturbed plan old new kept dropped) (givers_of plan)

-- each of the givers is on the agenda, or is quiet at the set
abbrev pub AreAskedOrQuiet : Plan → Sources → List Giver → List Atom → List Giver → Type 0
AreAskedOrQuiet plan sources agenda set givers = (giver : Giver) → has same_giver givers giver ≡ true
    → (has same_giver agenda giver || is_quiet plan sources set giver) ≡ true

-- the work may begin with any log, also with none, where all givers are on the agenda
abbrev pub WorkBegins : Type 0
WorkBegins = (plan : Plan) (sources : Sources) (log : List Step) (agenda : List Giver)
    → is_accepted plan sources log ≡ true
    → is_clear plan (set_with (concluded log)) ≡ true → IsDistinct same_atom (set_with (concluded log))
    → Within same_giver (givers_of plan) agenda → IsWorking plan sources agenda (set_with (concluded log))

-- it goes on with one atom more, which is forced and with which the atoms are clear, where those woken come on the
-- agenda but such as are quiet then
abbrev pub AtomsCome : Type 0
AtomsCome = (plan : Plan) (sources : Sources) (agenda later : List Giver) (set : List Atom) (atom : Atom)
    → IsWorking plan sources agenda set → IsForced plan sources (atom ∷ []) → has same_atom set atom ≡ false
    → is_clear plan (set ++ atom ∷ []) ≡ true → Within same_giver agenda later
    → AreAskedOrQuiet plan sources later (set ++ atom ∷ []) (woken plan set atom)
    → IsWorking plan sources later (set ++ atom ∷ [])

-- who is quiet may leave the agenda, and anybody may come on it
abbrev pub QuietMayLeave : Type 0
QuietMayLeave = (plan : Plan) (sources : Sources) (agenda : List Giver) (set : List Atom) (giver : Giver)
    → IsWorking plan sources (agenda ++ giver ∷ []) set → is_quiet plan sources set giver ≡ true
    → IsWorking plan sources agenda set

abbrev pub AgendasMayGrow : Type 0
AgendasMayGrow = (plan : Plan) (sources : Sources) (agenda later : List Giver) (set : List Atom)
    → IsWorking plan sources agenda set → Within same_giver agenda later → IsWorking plan sources later set

-- when sources change, it goes on with what is kept, where those disturbed come on the agenda but such as are quiet
-- then
abbrev pub WorkIsKept : Type 0
WorkIsKept = (plan : Plan) (old new : Sources) (agenda later : List Giver) (set kept dropped : List Atom)
    → IsWorking plan old agenda set → IsSplit set kept dropped → IsForced plan new kept → Within same_atom base kept
    → IsDistinct same_atom kept → Within same_giver agenda later
    → AreAskedOrQuiet plan new later kept (disturbed plan old new kept dropped) → IsWorking plan new later kept

-- where nobody is on the agenda settling ends with just these atoms
abbrev pub WorkEnds : Type 0
WorkEnds = (plan : Plan) (sources : Sources) (set : List Atom) → IsWorking plan sources [] set
    → (end : List Atom) × (settlement_of plan sources ≡ settled end)
    × ((atom : Atom) → has same_atom end atom ≡ has same_atom set atom)
