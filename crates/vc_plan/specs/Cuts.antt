-- The numbers at which a plan cuts its variables into grains.
use Rattle.std.specs.Prelude.{ℕ, Bool, true, ◌==◌, if◌then◌else◌, List, [], ◌∷◌, ◌++◌, flat_map, slice_get, Option}
use Rattle.std.specs.Prelude.{None, Some}
use Rattle.std.specs.List.{list_all}
use Rattle.vc_value.specs.Grains.{is_apart}
use Rattle.vc_value.specs.declared.decimal.Dec.{Dec}
use Rattle.vc_value.specs.declared.value.Value.{Value}
use Rattle.vc_value.specs.declared.value.Value.TheVariants.{Text, Num}
use Rattle.vc_plan.specs.declared.conditions.Condition.{Condition}
use Rattle.vc_plan.specs.declared.conditions.Condition.TheVariants.{Always, Compared, IsIn, Specified, Holds, Filled}
use Rattle.vc_plan.specs.declared.conditions.Condition.TheVariants.{Not', And', Or'}
use Rattle.vc_plan.specs.declared.conditions.Piece.{Piece}
use Rattle.vc_plan.specs.declared.conditions.Piece.TheVariants.{OneText, Stretch}
use Rattle.vc_plan.specs.declared.plans.Plan.{Plan}
use Rattle.vc_plan.specs.declared.rules.Binding.{Binding}
use Rattle.vc_plan.specs.declared.rules.Kind.{Kind}
use Rattle.vc_plan.specs.declared.rules.Kind.TheVariants.{Among, Compare, Equate, ByTable, Never, Last, Line}
use Rattle.vc_plan.specs.declared.rules.Restriction.{Restriction}
use Rattle.vc_plan.specs.declared.rules.Restriction.TheVariants.{Against, OneOf}
use Rattle.vc_plan.specs.declared.terms.Term.{Term}
use Rattle.vc_plan.specs.declared.terms.Term.TheVariants.{Literal, Read, PartSum, PartCount, Applied', Joined'}
use Rattle.vc_plan.specs.Domains.{grains_of, decimals_of}
use Rattle.vc_plan.specs.Restrictions.{lone_in, literal_for}
use Rattle.vc_plan.specs.TableRows.{rows_of, is_column_of}

-- the number of a value, and of a cell
abbrev pub number_at : Value → List Dec
number_at (Text t) = []
number_at (Num a) = a ∷ []

abbrev pub cell_number : Option Value → List Dec
cell_number None = []
cell_number (Some a) = number_at a

-- the ends of a piece
abbrev pub ends_of : Piece → List Dec
ends_of (OneText t) = []
ends_of (Stretch grain) = grain.low ∷ grain.high ∷ []

-- the number of a literal that is a whole side
abbrev pub literal_in : Term → List Dec
literal_in (Literal a) = number_at a
literal_in (Read v) = []
literal_in (PartSum slot characteristic) = []
literal_in (PartCount slot) = []
literal_in (Applied' function p a) = []
literal_in (Joined' operator p a q b) = []

-- the numbers, if the variable stands alone on the other side
abbrev pub beside_lone : ℕ → Option ℕ → List Dec → List Dec
beside_lone v None numbers = []
beside_lone v (Some w) numbers = if v == w then numbers else []

-- the numbers that a condition puts beside the variable
abbrev pub condition_cuts : ℕ → Condition → List Dec
condition_cuts v Always = []
condition_cuts v (Compared r a b) = beside_lone v (lone_in (Some a)) (literal_in b)
    ++ beside_lone v (lone_in (Some b)) (literal_in a)
condition_cuts v (IsIn w pieces) = beside_lone v (Some w) (flat_map ends_of pieces)
condition_cuts v (Specified w) = []
condition_cuts v (Holds set text) = []
condition_cuts v (Filled set) = []
condition_cuts v (Not' p c) = condition_cuts v c
condition_cuts v (And' p c q d) = condition_cuts v c ++ condition_cuts v d
condition_cuts v (Or' p c q d) = condition_cuts v c ++ condition_cuts v d

-- the numbers that a restriction names, a literal behind `=` rounded too
abbrev pub restriction_cuts : Plan → ℕ → Restriction → List Dec
restriction_cuts plan v (Against r a) = number_at a ++ number_at (literal_for r (decimals_of plan v) a)
restriction_cuts plan v (OneOf pieces) = flat_map ends_of pieces

-- the cells of the columns that the variable is given to
abbrev pub binding_cuts : Plan → ℕ → ℕ → Binding → List Dec
binding_cuts plan table v binding =
    if is_column_of v binding
    then flat_map (λ row. cell_number (slice_get row binding.column)) (rows_of plan table) else []

abbrev pub kind_cuts : Plan → ℕ → Kind → List Dec
kind_cuts plan v (Among w restriction) = beside_lone v (Some w) (restriction_cuts plan w restriction)
kind_cuts plan v (Compare r a b) = []
kind_cuts plan v (Equate a b) = []
kind_cuts plan v (ByTable table columns) = flat_map (binding_cuts plan table v) columns
kind_cuts plan v Never = []
kind_cuts plan v (Last w) = []
kind_cuts plan v (Line i) = []

-- all numbers at which the variable is cut
abbrev pub cuts_of : Plan → ℕ → List Dec
cuts_of plan v = flat_map (condition_cuts v) plan.conditions ++ flat_map (λ rule. kind_cuts plan v rule.kind) plan.rules

-- whether a grain lies on one side of a number, or is the number
abbrev pub is_cut_at : Dec → Piece → Bool
is_cut_at n (OneText t) = true
is_cut_at n (Stretch grain) = is_apart n grain

-- whether each grain of the variable is cut at each of its numbers
abbrev pub is_cut : Plan → ℕ → Bool
is_cut plan v = list_all (λ n. list_all (is_cut_at n) (grains_of plan v)) (cuts_of plan v)
