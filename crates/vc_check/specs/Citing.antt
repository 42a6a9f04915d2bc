-- What the checker needs of a plan, and what it asks on the way.
use Rattle.std.specs.Prelude.{◌^◌, ◌<◌, Bool, true, false, ◌&&◌, List, [], ◌∷◌, ◌++◌, length, Option, None, Some}
use Rattle.vc_base.specs.Rounds.{atoms_of}
use Rattle.vc_base.specs.Sets.{has}
use Rattle.vc_plan.specs.declared.atoms.Atom.{Atom}
use Rattle.vc_plan.specs.declared.plans.Plan.{Plan}
use Rattle.vc_plan.specs.Clear.{is_clear}
use Rattle.vc_plan.specs.Domains.{atom_count}
use Rattle.vc_plan.specs.Gives.{Giver, gives}
use Rattle.vc_plan.specs.Seen.{same_atom, seen_of}
use Rattle.vc_plan.specs.Sources.{Sources}
use Rattle.vc_plan_reasons.specs.Checking.{are_of}
use Rattle.vc_plan_reasons.specs.Things.{giver_reads}
use Rattle.vc_check_board.specs.Fitting.{HaveGrains}
use Rattle.vc_plan_values.specs.Computing.{TermsFit}

-- a valid plan's terms fit, its atoms, rules and variables are few, and its variables have grains
pub record CanCheck (plan : Plan) : Type 0 where
  pub fit : TermsFit plan
  pub few : atom_count plan < 2 ^ 32
  pub rules : length plan.rules < 2 ^ 32
  pub vars : length plan.vars < 2 ^ 32
  pub grains : HaveGrains plan

-- the set, if all is there
abbrev pub if_there : Bool → List Atom → Option (List Atom)
if_there true set = Some set
if_there false set = None

-- the set with what is cited, if it is there
abbrev pub with_cited : List Atom → Option (List Atom) → Option (List Atom)
with_cited set None = None
with_cited set (Some atoms) = Some (set ++ atoms)

abbrev pub one_cited : Option Atom → Option (List Atom)
one_cited None = None
one_cited (Some atom) = Some (atom ∷ [])

-- whether the atom follows by the giver: the set is clear, the giver reads what the premises are of, and gives it
abbrev pub follows_by : Plan → Sources → Giver → List Atom → List Atom → Atom → Bool
follows_by plan sources giver set premises atom =
    (is_clear plan set && are_of (giver_reads plan giver) premises)
    && has same_atom (atoms_of (gives plan sources giver (seen_of set))) atom
