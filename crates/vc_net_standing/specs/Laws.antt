-- Laws of what stands.
use Rattle.std.specs.Prelude.{◌≡◌, ◌==◌, ℕ, true, false, List, [], ◌∷◌, ◌++◌}
use Rattle.std.specs.List.{IsDistinct}
use Rattle.vc_plan.specs.declared.atoms.Atom.{Atom}
use Rattle.vc_plan.specs.declared.plans.Plan.{Plan}
use Rattle.vc_plan.specs.Clear.{are_all_out, is_clear}
use Rattle.vc_plan.specs.Domains.{count_of}
use Rattle.vc_plan.specs.Seen.{same_atom, says, seen_of}
use Rattle.vc_plan_reasons.specs.Checking.{set_with}
use Rattle.vc_net_places.specs.Places.{index_of}
use Rattle.vc_net_standing.specs.Coming.{may_come, outs_of}
use Rattle.vc_net_standing.specs.Standing.{Stood, atoms_of, is_free, seen_by}

-- an atom that doesn't stand yet and leaves the set clear may come: its place is free
abbrev pub NewAtomsAreFree : Type 0
NewAtomsAreFree = (plan : Plan) (stood : Stood) (atom : Atom) → stood.index ≡ index_of plan
    → is_clear plan (set_with (atoms_of stood.facts ++ atom ∷ [])) ≡ true → says (seen_by stood) atom ≡ false
    → is_free stood atom ≡ true

-- a clear set stays clear with an atom just where the atom may come
abbrev pub WhoMayComeStaysClear : Type 0
WhoMayComeStaysClear = (plan : Plan) (stand : List Atom) (atom : Atom) → is_clear plan (set_with stand) ≡ true
    → is_clear plan (set_with (stand ++ atom ∷ [])) ≡ may_come plan (seen_of (set_with stand)) atom

-- all grains of a variable are out just where as many atoms say so as it has grains
abbrev pub OutsAreCounted : Type 0
OutsAreCounted = (plan : Plan) (stand : List Atom) (v : ℕ) → IsDistinct same_atom stand
    → is_clear plan (set_with stand) ≡ true
    → are_all_out plan (seen_of (set_with stand)) v ≡ (outs_of v stand == count_of plan v)
