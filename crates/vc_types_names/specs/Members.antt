-- Which characteristics the classes have, as flags.
use Rattle.std.specs.Prelude.{ℕ, ◌+◌, ◌-◌, Bool, true, false, List, [], ◌∷◌, ◌++◌, length, map, replicate}
use Rattle.std.specs.Prelude.{slice_index_or, slice_set, Option, Some, None}
use Rattle.vc_model_parts.specs.declared.parts.Class.{Class}

-- flags, with that of a member set
abbrev pub marked : List Bool → ℕ → List Bool
marked flags member = slice_set (flags ++ replicate (member + 1 - length flags) false) member true

abbrev pub all_marked : List Bool → List ℕ → List Bool
all_marked flags [] = flags
all_marked flags (member ∷ members) = all_marked (marked flags member) members

-- for each characteristic, up to the last of the members, whether it is one of them
abbrev pub flags_of : List ℕ → List Bool
flags_of members = all_marked [] members

-- the flags of each class
abbrev pub rows_of : List Class → List (List Bool)
rows_of classes = map (λ class. flags_of class.members) classes

abbrev pub is_flagged : Option (List Bool) → ℕ → Bool
is_flagged None c = false
is_flagged (Some flags) c = slice_index_or flags c false
