-- Laws over the definitions of settling.
use Rattle.std.specs.Prelude.{◌≡◌, ◌<◌, ◌≤◌, ◌⊎◌, true, false, List, length}
use Rattle.std.specs.List.{IsDistinct}
use Rattle.vc_base.specs.Rounds.{settled, atoms_of, is_clash, some_clash, all_given}
use Rattle.vc_base.specs.Sets.{has, Within}
use Rattle.vc_plan.specs.declared.atoms.Atom.{Atom}
use Rattle.vc_plan.specs.declared.plans.Plan.{Plan}
use Rattle.vc_plan.specs.Clear.{is_clear}
use Rattle.vc_plan.specs.Domains.{atom_count}
use Rattle.vc_plan.specs.Gives.{Giver, gives}
use Rattle.vc_plan.specs.Seen.{same_atom, seen_of}
use Rattle.vc_plan.specs.Settle.{system_of, base, settlement_of}
use Rattle.vc_plan.specs.Sources.{Sources}

-- a part of a clear set is clear
abbrev pub PartsAreClear : Type 0
PartsAreClear = (plan : Plan) (part set : List Atom) → is_clear plan set ≡ true → Within same_atom part set
    → is_clear plan part ≡ true

-- a clear set in which no atom stands twice has at most `atom_count` atoms
abbrev pub ClearSetsAreSmall : Type 0
ClearSetsAreSmall = (plan : Plan) (set : List Atom) → is_clear plan set ≡ true → IsDistinct same_atom set
    → length set ≤ atom_count plan

-- a giver that clashes at a set clashes at each clear larger one
abbrev pub ClashesStay : Type 0
ClashesStay = (plan : Plan) (sources : Sources) (giver : Giver) (smaller larger : List Atom)
    → is_clear plan larger ≡ true → Within same_atom smaller larger
    → is_clash (gives plan sources giver (seen_of smaller)) ≡ true
    → is_clash (gives plan sources giver (seen_of larger)) ≡ true

-- an atom that a giver gives at a set stands in each clear larger one, or is given there, or the giver clashes there
abbrev pub GivesMonotonely : Type 0
GivesMonotonely = (plan : Plan) (sources : Sources) (giver : Giver) (smaller larger : List Atom) (atom : Atom)
    → is_clear plan larger ≡ true → Within same_atom smaller larger
    → has same_atom (atoms_of (gives plan sources giver (seen_of smaller))) atom ≡ true
    → (has same_atom larger atom ≡ true)
    ⊎ ((has same_atom (atoms_of (gives plan sources giver (seen_of larger))) atom ≡ true)
    ⊎ (is_clash (gives plan sources giver (seen_of larger)) ≡ true))

-- the set is clear, no giver clashes at it, and all that is given at it stands
pub record IsClosed (plan : Plan) (sources : Sources) (set : List Atom) : Type 0 where
  pub clear : is_clear plan set ≡ true
  pub calm : some_clash (system_of plan sources) set ≡ false
  pub given : Within same_atom (all_given (system_of plan sources) set) set

-- the rounds suffice: where the plan has a root, nothing is to be added to the set at which they end
abbrev pub RoundsSuffice : Type 0
RoundsSuffice = (plan : Plan) (sources : Sources) (set : List Atom) → 0 < length plan.slots
    → settlement_of plan sources ≡ settled set
    → IsClosed plan sources set

-- what they end at stands in every closed set in which the root is here
abbrev pub SettlesLeast : Type 0
SettlesLeast = (plan : Plan) (sources : Sources) (set closed : List Atom)
    → settlement_of plan sources ≡ settled set → IsClosed plan sources closed → Within same_atom base closed
    → Within same_atom set closed

-- where there is a closed set in which the root is here, they aren't broken
abbrev pub SettlesBelowClosed : Type 0
SettlesBelowClosed = (plan : Plan) (sources : Sources) (closed : List Atom) → IsClosed plan sources closed
    → Within same_atom base closed
    → (set : List Atom) × (settlement_of plan sources ≡ settled set)
