-- The stages of an evaluation by what the set of each says, so that who keeps no sets can tell how they go on and end.
use Rattle.std.specs.Prelude.{◌≡◌, ◌≤◌, ℕ, zero, suc, ◌+◌, ◌-◌, Bool, true, not, ◌&&◌, List, [], ◌∷◌, ◌++◌, length, map}
use Rattle.vc_base.specs.Rounds.{broken, settled}
use Rattle.vc_base.specs.Sets.{has}
use Rattle.vc_plan.specs.declared.atoms.Atom.{Atom}
use Rattle.vc_plan.specs.declared.plans.Plan.{Plan}
use Rattle.vc_plan.specs.Clear.{is_clear}
use Rattle.vc_plan.specs.Entries.{Entries, no_entries}
use Rattle.vc_plan.specs.Evaluate.{Users, between, broken_at, evaluation_of, is_late, last_set, reached, sources_of}
use Rattle.vc_plan.specs.Evaluate.{stages_from}
use Rattle.vc_plan.specs.Seen.{Seen, same_atom, seen_of}
use Rattle.vc_plan.specs.Settle.{settlement_of}
use Rattle.vc_plan.specs.Writes.{depth_of, last_stage, was_here}

-- what the set of a stage says, by its number
abbrev pub seen_at : List Seen → ℕ → Seen
seen_at [] k = seen_of []
seen_at (seen ∷ stages) zero = seen
seen_at (seen ∷ stages) (suc k) = seen_at stages k

-- whether the slot was here in the stage that its own procedures read: the one whose number is its depth
abbrev pub was_seen : Plan → List Seen → ℕ → Bool
was_seen plan stages i = (seen_at stages (depth_of plan i)).here i

-- which is what the definition of stages asks
abbrev pub WasHereIsSeen : Type 0
WasHereIsSeen = (plan : Plan) (sets : List (List Atom)) (i : ℕ)
    → was_here plan sets i ≡ was_seen plan (map seen_of sets) i

-- the evaluation comes to the stage of this number, where those before it settled at these sets, with these entries
abbrev pub ComesTo : Plan → Users → ℕ → List (List Atom) → Entries → Type 0
ComesTo plan users zero sets entries = (sets ≡ []) × (entries ≡ no_entries plan)
ComesTo plan users (suc k) sets entries = (before : List (List Atom)) × (was : Entries) × (set : List Atom)
    × ComesTo plan users k before was × (settlement_of plan (sources_of users was) ≡ settled set)
    × (sets ≡ before ++ set ∷ [])
    × (entries ≡ between plan users (last_stage plan - suc k) before set was)

-- the stages so far have settled at sets that say this, and with what is written after them the evaluation goes on
pub record HaveSettled (plan : Plan) (users : Users) (stages : List Seen) (entries : Entries) : Type 0 where
  pub sets : List (List Atom)
  pub seen : map seen_of sets ≡ stages
  pub comes : ComesTo plan users (length stages) sets entries
  pub onwards : (later : ℕ) → later + length stages ≡ last_stage plan
      → stages_from plan users later sets entries ≡ evaluation_of plan users

-- all of them have
pub record HaveAllSettled (plan : Plan) (users : Users) (stages : List Seen) (entries : Entries) : Type 0 where
  pub sets : List (List Atom)
  pub seen : map seen_of sets ≡ stages
  pub whole : evaluation_of plan users ≡ reached sets entries

abbrev pub StagesBegin : Type 0
StagesBegin = (plan : Plan) (users : Users) → HaveSettled plan users [] (no_entries plan)

abbrev pub StagesGoOn : Type 0
StagesGoOn = (plan : Plan) (users : Users) (stages : List Seen) (entries : Entries) (set : List Atom) (later : ℕ)
    → (so_far : HaveSettled plan users stages entries) → suc later + length stages ≡ last_stage plan
    → settlement_of plan (sources_of users entries) ≡ settled set
    → HaveSettled plan users (stages ++ seen_of set ∷ []) (between plan users later so_far.sets set entries)

abbrev pub StagesBreak : Type 0
StagesBreak = (plan : Plan) (users : Users) (stages : List Seen) (entries : Entries)
    → HaveSettled plan users stages entries → length stages ≤ last_stage plan
    → settlement_of plan (sources_of users entries) ≡ broken
    → evaluation_of plan users ≡ broken_at (length stages) entries

abbrev pub StagesSettle : Type 0
StagesSettle = (plan : Plan) (users : Users) (stages : List Seen) (entries : Entries) (set : List Atom)
    → HaveSettled plan users stages entries → length stages ≡ last_stage plan
    → settlement_of plan (sources_of users entries) ≡ settled set
    → HaveAllSettled plan users (stages ++ seen_of set ∷ []) entries

-- whether an instance is late: it is here in the last stage, and wasn't in the one that its own procedures read
abbrev pub is_late_seen : Plan → List Seen → ℕ → Bool
is_late_seen plan stages i = (seen_at stages (last_stage plan)).here i && not (was_seen plan stages i)

abbrev pub LateIsSeen : Type 0
LateIsSeen = (plan : Plan) (sets : List (List Atom)) (i : ℕ)
    → is_late plan sets i ≡ is_late_seen plan (map seen_of sets) i

-- two sets of the same atoms, of which one is clear, say the same
abbrev pub SetsSayTheSame : Type 0
SetsSayTheSame = (plan : Plan) (set other : List Atom) → is_clear plan set ≡ true
    → ((atom : Atom) → has same_atom set atom ≡ has same_atom other atom) → seen_of set ≡ seen_of other

-- where all have settled, the last set is where settling ends with all that was written
abbrev pub LastSetSettles : Type 0
LastSetSettles = (plan : Plan) (users : Users) (sets : List (List Atom)) (entries : Entries)
    → evaluation_of plan users ≡ reached sets entries
    → settlement_of plan (sources_of users entries) ≡ settled (last_set plan sets)
