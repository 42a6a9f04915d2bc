-- Which atoms may come beside what stands in a clear set.
use Rattle.std.specs.Prelude.{ℕ, Bool, true, false, not, ◌&&◌, ◌||◌, ◌==◌, List, length, Option, None, Some}
use Rattle.std.specs.List.{filter, list_any, list_all}
use Rattle.vc_value.specs.declared.value.Value.{Value}
use Rattle.vc_plan.specs.declared.atoms.Atom.{Atom}
use Rattle.vc_plan.specs.declared.atoms.Atom.TheVariants.{Here, Out, Is}
use Rattle.vc_plan.specs.declared.plans.Plan.{Plan}
use Rattle.vc_plan.specs.Clear.{are_all_out, is_named}
use Rattle.vc_plan.specs.Domains.{numbers_below, count_of, is_grain_with}
use Rattle.vc_plan.specs.Pieces.{same_value, lies_in}
use Rattle.vc_plan.specs.Seen.{Seen, is_here}
use Rattle.vc_plan_blame.specs.Blame.{uses_up}

-- whether the value, if there is one, lies in the grain of the variable
abbrev pub is_held_by : Plan → ℕ → ℕ → Option Value → Bool
is_held_by plan v g None = false
is_held_by plan v g (Some a) = is_grain_with plan v (lies_in a) g

-- whether there is no value, or this one
abbrev pub may_be : Value → Option Value → Bool
may_be a None = true
may_be a (Some b) = same_value a b

-- whether nothing stands that collides with the atom: another value, or that the grain which holds its value is out
abbrev pub agrees : Plan → Seen → Atom → Bool
agrees plan seen (Here i) = true
agrees plan seen (Out v g) = not (is_held_by plan v g (seen.value v))
agrees plan seen (Is v a) =
    may_be a (seen.value v)
    && not (list_any (λ g. is_grain_with plan v (lies_in a) g && seen.out v g) (numbers_below (count_of plan v)))

-- whether each variable that then is here has a grain left: a slot brings none whose grains are all out, and a grain
-- isn't the last that its variable has left
abbrev pub leaves_grains : Plan → Seen → Atom → Bool
leaves_grains plan seen (Here i) =
    not (list_any (λ v. uses_up plan v (Here i) && are_all_out plan seen v) (numbers_below (length plan.vars)))
leaves_grains plan seen (Out v g) =
    not (is_here plan seen v && list_all (λ h. (h == g) || seen.out v h) (numbers_below (count_of plan v)))
leaves_grains plan seen (Is v a) = true

-- whether the atom may come
abbrev pub may_come : Plan → Seen → Atom → Bool
may_come plan seen atom = is_named plan atom && (agrees plan seen atom && leaves_grains plan seen atom)

-- how many atoms say that a grain of the variable is out
abbrev pub is_out_of : ℕ → Atom → Bool
is_out_of v (Here i) = false
is_out_of v (Out w g) = w == v
is_out_of v (Is w a) = false

abbrev pub outs_of : ℕ → List Atom → ℕ
outs_of v atoms = length (filter (is_out_of v) atoms)
