-- Sets of atoms on the way to where settling ends, and how their ends tell it.
use Rattle.std.specs.Prelude.{◌≡◌, Bool, true, false, List, [], ◌∷◌, ◌++◌}
use Rattle.std.specs.List.{list_all}
use Rattle.vc_base.specs.Rounds.{broken, settled, atoms_of, is_clash}
use Rattle.vc_base.specs.Sets.{has, Within}
use Rattle.vc_plan.specs.declared.atoms.Atom.{Atom}
use Rattle.vc_plan.specs.declared.atoms.Step.{Step}
use Rattle.vc_plan.specs.declared.plans.Plan.{Plan}
use Rattle.vc_plan.specs.Clear.{is_clear}
use Rattle.vc_plan.specs.Gives.{Giver, gives, givers_of}
use Rattle.vc_plan.specs.Laws.{IsClosed}
use Rattle.vc_plan.specs.Seen.{same_atom, seen_of}
use Rattle.vc_plan.specs.Settle.{base, settlement_of}
use Rattle.vc_plan.specs.Sources.{Sources}
use Rattle.vc_plan_reasons.specs.Checking.{concluded, is_accepted, is_silent, set_with}

-- the set stands in every closed set in which the root is here
abbrev pub IsForced : Plan → Sources → List Atom → Type 0
IsForced plan sources set =
    (closed : List Atom) → IsClosed plan sources closed → Within same_atom base closed → Within same_atom set closed

-- the set may stand on the way: it is clear, the root is here, and nothing is in it that needn't be
pub record IsSound (plan : Plan) (sources : Sources) (set : List Atom) : Type 0 where
  pub clear : is_clear plan set ≡ true
  pub rooted : Within same_atom base set
  pub forced : IsForced plan sources set

-- whether the giver doesn't clash at the set, and all that it says stands there
abbrev pub is_quiet : Plan → Sources → List Atom → Giver → Bool
is_quiet plan sources set giver = is_silent (gives plan sources giver (seen_of set))

-- the root is forced
abbrev pub BaseIsForced : Type 0
BaseIsForced = (plan : Plan) (sources : Sources) → IsForced plan sources base

-- so is what an accepted log concludes, with the root
abbrev pub LogsAreForced : Type 0
LogsAreForced = (plan : Plan) (sources : Sources) (log : List Step) → is_accepted plan sources log ≡ true
    → IsForced plan sources (set_with (concluded log))

-- and each atom that a giver gives at a forced set
abbrev pub GivenIsForced : Type 0
GivenIsForced = (plan : Plan) (sources : Sources) (set : List Atom) (giver : Giver) (atom : Atom)
    → IsForced plan sources set
    → has same_atom (atoms_of (gives plan sources giver (seen_of set))) atom ≡ true → IsForced plan sources (atom ∷ [])

-- a sound set with one forced atom more is sound, where it is clear
abbrev pub SoundSetsGrow : Type 0
SoundSetsGrow = (plan : Plan) (sources : Sources) (set : List Atom) (atom : Atom) → IsSound plan sources set
    → IsForced plan sources (atom ∷ []) → is_clear plan (set ++ atom ∷ []) ≡ true
    → IsSound plan sources (set ++ atom ∷ [])

-- where it isn't clear, settling is broken
abbrev pub UnclearBreaks : Type 0
UnclearBreaks = (plan : Plan) (sources : Sources) (set : List Atom) (atom : Atom) → IsSound plan sources set
    → IsForced plan sources (atom ∷ []) → is_clear plan (set ++ atom ∷ []) ≡ false → settlement_of plan sources ≡ broken

-- and so it is where a giver clashes at a sound set
abbrev pub ClashBreaks : Type 0
ClashBreaks = (plan : Plan) (sources : Sources) (set : List Atom) (giver : Giver) → IsSound plan sources set
    → is_clash (gives plan sources giver (seen_of set)) ≡ true → settlement_of plan sources ≡ broken

-- where all givers are quiet at a sound set, settling ends with just its atoms
abbrev pub QuietSettles : Type 0
QuietSettles = (plan : Plan) (sources : Sources) (set : List Atom) → IsSound plan sources set
    → list_all (is_quiet plan sources set) (givers_of plan) ≡ true
    → (end : List Atom) × (settlement_of plan sources ≡ settled end)
    × ((atom : Atom) → has same_atom end atom ≡ has same_atom set atom)
