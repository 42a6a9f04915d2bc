-- Sets that grow from a base by one given atom at a time.
use Rattle.std.specs.Prelude.{◌≡◌, true, List, [], ◌∷◌, ◌++◌}
use Rattle.vc_base.specs.Rounds.{System, all_given}
use Rattle.vc_base.specs.Sets.{has}

-- the atoms, last first, came one by one to the base: each was given at the set before it, and left the set clear
abbrev pub Grows : {A O : Type 0} → System A O → List A → List A → Type 0
Grows system base [] = Unit {0}
Grows system base (atom ∷ earlier) =
    Grows system base earlier
    × (has system.same (all_given system (earlier ++ base)) atom ≡ true)
    × (system.is_clear ((atom ∷ earlier) ++ base) ≡ true)
