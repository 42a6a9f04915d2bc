-- Who is to be asked again when an atom comes, when atoms go, and when sources change.
use Rattle.std.specs.Prelude.{◌≡◌, Bool, true, false, ◌&&◌, ◌||◌, List, [], ◌∷◌, ◌++◌}
use Rattle.std.specs.List.{list_any}
use Rattle.vc_base.specs.Rounds.{atoms_of}
use Rattle.vc_base.specs.Sets.{has, Within}
use Rattle.vc_plan.specs.declared.atoms.Atom.{Atom}
use Rattle.vc_plan.specs.declared.plans.Plan.{Plan}
use Rattle.vc_plan.specs.Clear.{is_clear}
use Rattle.vc_plan.specs.Gives.{Giver, by_rule, by_user, by_entry, gives}
use Rattle.vc_plan.specs.Seen.{same_atom, seen_of}
use Rattle.vc_plan.specs.Sources.{Sources}
use Rattle.vc_plan_reasons.specs.Keeping.{user_differs, entry_differs}
use Rattle.vc_plan_reasons.specs.Things.{Thing, has_thing, thing_of, giver_reads, giver_writes}
use Rattle.vc_net_laws.specs.Forced.{is_quiet}
use Rattle.vc_net_laws.specs.Triggers.{trigger_by, stands_in}

-- whether the giver reads or writes the thing
abbrev pub giver_touches : Plan → Giver → Thing → Bool
giver_touches plan giver thing = has_thing (giver_reads plan giver) thing || has_thing (giver_writes plan giver) thing

-- whether it touches a thing of one of the atoms
abbrev pub touches_some : Plan → List Atom → Giver → Bool
touches_some plan atoms giver = list_any (λ atom. giver_touches plan giver (thing_of atom)) atoms

-- whether the giver is a source that differs; rules are none
abbrev pub giver_differs : Sources → Sources → Giver → Bool
giver_differs old new (by_rule r) = false
giver_differs old new (by_user v) = user_differs old new v
giver_differs old new (by_entry v) = entry_differs old new v

-- whether the giver is to be asked when the atom has come to the set: it touches the atom's thing, and its trigger,
-- where
-- it has one, stands then
abbrev pub is_woken : Plan → List Atom → Atom → Giver → Bool
is_woken plan set atom giver =
    giver_touches plan giver (thing_of atom) && stands_in (set ++ atom ∷ []) (trigger_by plan giver)

-- the first set has just the atoms of the other two
abbrev pub IsSplit : List Atom → List Atom → List Atom → Type 0
IsSplit set kept dropped = (atom : Atom)
    → has same_atom set atom ≡ (has same_atom kept atom || has same_atom dropped atom)

-- a giver that doesn't touch the thing of an atom that comes to a clear set gives what it gave
abbrev pub UntouchedGivesTheSame : Type 0
UntouchedGivesTheSame = (plan : Plan) (sources : Sources) (set : List Atom) (atom : Atom) (giver : Giver)
    → is_clear plan set ≡ true → giver_touches plan giver (thing_of atom) ≡ false
    → gives plan sources giver (seen_of (set ++ atom ∷ [])) ≡ gives plan sources giver (seen_of set)

-- and so does, at what is kept of a clear set when sources change, a giver that touches nothing dropped and doesn't
-- differ
abbrev pub UnchangedGivesTheSame : Type 0
UnchangedGivesTheSame = (plan : Plan) (old new : Sources) (set kept dropped : List Atom) (giver : Giver)
    → is_clear plan set ≡ true → IsSplit set kept dropped → touches_some plan dropped giver ≡ false
    → giver_differs old new giver ≡ false → gives plan new giver (seen_of kept) ≡ gives plan old giver (seen_of set)

-- of the givers that were quiet at a clear set, only those that are woken may not be when an atom has come
abbrev pub WokenIsEnough : Type 0
WokenIsEnough = (plan : Plan) (sources : Sources) (set : List Atom) (atom : Atom) (giver : Giver)
    → is_clear plan set ≡ true → is_quiet plan sources set giver ≡ true → is_woken plan set atom giver ≡ false
    → is_quiet plan sources (set ++ atom ∷ []) giver ≡ true

-- who gives an atom at a part of a set is woken by it
abbrev pub GiversWakeThemselves : Type 0
GiversWakeThemselves = (plan : Plan) (sources : Sources) (part set : List Atom) (atom : Atom) (giver : Giver)
    → Within same_atom part set → has same_atom (atoms_of (gives plan sources giver (seen_of part))) atom ≡ true
    → is_woken plan set atom giver ≡ true
