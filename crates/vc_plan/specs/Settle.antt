-- Where the rounds of a plan end.
use Rattle.std.specs.Prelude.{List, [], ◌∷◌}
use Rattle.vc_base.specs.Rounds.{System, Settlement, settle}
use Rattle.vc_plan.specs.declared.atoms.Atom.{Atom}
use Rattle.vc_plan.specs.declared.atoms.Atom.TheVariants.{Here}
use Rattle.vc_plan.specs.declared.plans.Plan.{Plan}
use Rattle.vc_plan.specs.Clear.{is_clear}
use Rattle.vc_plan.specs.Domains.{atom_count}
use Rattle.vc_plan.specs.Gives.{Giver, gives, givers_of}
use Rattle.vc_plan.specs.Seen.{same_atom, seen_of}
use Rattle.vc_plan.specs.Sources.{Sources}

-- the system of a plan and its sources
abbrev pub system_of : Plan → Sources → System Atom Giver
system_of plan sources = record {
  same = same_atom;
  is_clear = is_clear plan;
  gives = λ giver set. gives plan sources giver (seen_of set);
  givers = givers_of plan;
}

-- the set from which settling begins: the root is here
abbrev pub base : List Atom
base = Here 0 ∷ []

-- where the rounds end: broken, or settled at a set
abbrev pub settlement_of : Plan → Sources → Settlement Atom
settlement_of plan sources = settle (system_of plan sources) (atom_count plan) base
