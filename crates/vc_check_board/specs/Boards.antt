-- What is on a board.
use Rattle.std.specs.Prelude.{ℕ, Bool, ◌&&◌, ◌||◌, ◌==◌, nat_eq, if◌then◌else◌, List, Option, Some}
use Rattle.std.specs.List.{list_any}
use Rattle.std.specs.Map.{lookup}
use Rattle.vc_value.specs.declared.value.Value.{Value}
use Rattle.vc_plan.specs.declared.atoms.Atom.{Atom}
use Rattle.vc_plan.specs.declared.atoms.Atom.TheVariants.{Here, Out, Is}
use Rattle.vc_plan.specs.Seen.{Seen, same_atom}
use Rattle.vc_check_board.specs.declared.board.Excluded.{Excluded}

abbrev pub same_excluded : Excluded → Excluded → Bool
same_excluded a b = (a.var == b.var) && (a.grain == b.grain)

-- what is kept of a set: slots that are here, grains that are out, and values of variables
pub record Said : Type 0 where
  pub here : List ℕ
  pub out : List Excluded
  pub values : List (ℕ × Value)

-- what slots that are here, grains that are out, and values of variables say
abbrev pub seen_in : List ℕ → List Excluded → List (ℕ × Value) → Seen
seen_in here out values = record {
  here = λ i. list_any (nat_eq i) here;
  out = λ v g. list_any (same_excluded (record { var = v; grain = g })) out;
  value = λ v. lookup (nat_eq v) values;
}

abbrev pub seen_by : Said → Seen
seen_by said = seen_in said.here said.out said.values

-- the value of a variable where an atom comes before the others
abbrev pub value_beside : Atom → ℕ → Option Value → Option Value
value_beside (Here i) v later = later
value_beside (Out w g) v later = later
value_beside (Is w a) v later = if w == v then Some a else later

-- what is said where an atom comes before the others
abbrev pub seen_beside : Atom → Seen → Seen
seen_beside atom seen = record {
  here = λ i. same_atom (Here i) atom || seen.here i;
  out = λ v g. same_atom (Out v g) atom || seen.out v g;
  value = λ v. value_beside atom v (seen.value v);
}
