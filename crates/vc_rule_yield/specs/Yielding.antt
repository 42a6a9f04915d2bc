-- What an evaluation yields, as it is filled: conclusions with their premises, or the premises of a clash.
use Rattle.std.specs.Prelude.{ℕ, ◌+◌, ◌-◌, Bool, true, false, ◌&&◌, ◌||◌, nat_le, if◌then◌else◌, List, [], ◌∷◌, ◌++◌}
use Rattle.std.specs.Prelude.{length, take, drop, map, Option, None, Some}
use Rattle.vc_base.specs.Sets.{has}
use Rattle.vc_plan.specs.declared.atoms.Atom.{Atom}
use Rattle.vc_plan.specs.declared.atoms.Atom.TheVariants.{Here}
use Rattle.vc_plan.specs.Seen.{same_atom}
use Rattle.vc_rule_yield.specs.Filling.{Filled}
use Rattle.vc_rule_yield.specs.declared.yields.Found.{Found}

-- an atom with the atoms that it follows from
pub record Conclusion : Type 0 where
  pub atom : Atom
  pub premises : List Atom

-- How many premises are cited, how many atoms are concluded and how many premises they have is limited.
pub record Rooms : Type 0 where
  pub cites : ℕ
  pub atoms : ℕ
  pub premises : ℕ

-- the conclusions, the premises of a clash where there is one, how many premises these have, and the premises that are
-- cited:
-- those of what is concluded next
pub record Yielded : Type 0 where
  pub found : List Conclusion
  pub clash : Option (List Atom)
  pub used : ℕ
  pub cites : List Atom
  pub rooms : Rooms

-- nothing
abbrev pub nothing_in : Rooms → Yielded
nothing_in rooms = record { found = []; clash = None; used = 0; cites = []; rooms = rooms }

abbrev pub with_cites : Yielded → List Atom → Yielded
with_cites y cites = record { found = y.found; clash = y.clash; used = y.used; cites = cites; rooms = y.rooms }

-- with one more cites premise, where it isn't cited yet, isn't that the root is here, and there is room
abbrev pub cited : Yielded → Atom → Yielded
cited y a =
    if same_atom (Here 0) a || has same_atom y.cites a then y
    else (if nat_le (length y.cites + 1) y.rooms.cites then with_cites y (y.cites ++ a ∷ []) else y)

-- with this conclusion from the cited premises, where nothing clashed and there is room
abbrev pub concluded_if : Bool → Yielded → Atom → Yielded
concluded_if true y a = record {
  found = y.found ++ (record { atom = a; premises = y.cites }) ∷ [];
  clash = y.clash;
  used = y.used + length y.cites;
  cites = y.cites;
  rooms = y.rooms;
}
concluded_if false y a = y

abbrev pub may_conclude : Yielded → Option (List Atom) → Bool
may_conclude y None = nat_le (y.used + length y.cites) y.rooms.premises && nat_le (length y.found + 1) y.rooms.atoms
may_conclude y (Some premises) = false

abbrev pub concluded : Yielded → Atom → Yielded
concluded y a = concluded_if (may_conclude y y.clash) y a

-- a clash from the cited premises in place of all conclusions, where nothing clashed and there is room
abbrev pub clashed_if : Bool → Yielded → Yielded
clashed_if true y = record { found = []; clash = Some y.cites; used = length y.cites; cites = y.cites; rooms = y.rooms }
clashed_if false y = y

abbrev pub may_clash : Yielded → Option (List Atom) → Bool
may_clash y None = nat_le (length y.cites) y.rooms.premises
may_clash y (Some premises) = false

abbrev pub clashed : Yielded → Yielded
clashed y = clashed_if (may_clash y y.clash) y

-- how conclusions stand in cells: each has its premises from one cell on to another
abbrev pub part_of : List Atom → ℕ → ℕ → List Atom
part_of cells from to = take (to - from) (drop from cells)

abbrev pub conclusion_in : List Atom → Found → Conclusion
conclusion_in cells f = record { atom = f.atom; premises = part_of cells f.from f.to }

abbrev pub is_within : ℕ → Found → Bool
is_within count f = nat_le f.from f.to && nat_le f.to count

-- what the cells say
abbrev pub clash_in : Bool → List Atom → Option (List Atom)
clash_in true cells = Some cells
clash_in false cells = None

abbrev pub yielded_in : Filled Found → Filled Atom → Filled Atom → Bool → Yielded
yielded_in found cells cites clashes = record {
  found = map (conclusion_in cells.items) found.items;
  clash = clash_in clashes cells.items;
  used = length cells.items;
  cites = cites.items;
  rooms = record { cites = cites.room; atoms = found.room; premises = cells.room };
}
