-- What the cells of a column have to pass, told apart by what the column is given; and which texts have grains left.
use Rattle.std.specs.Prelude.{◌≡◌, ℕ, ◌<◌, Bool, true, false, not, ◌&&◌, ◌==◌, List, length, slice_get, Option, None}
use Rattle.std.specs.Prelude.{Some}
use Rattle.std.specs.Prelude.{if◌then◌else◌, slice_set}
use Rattle.std.specs.List.{list_any}
use Rattle.vc_value.specs.declared.value.Value.{Value}
use Rattle.vc_plan.specs.declared.conditions.Piece.{Piece}
use Rattle.vc_plan.specs.declared.plans.Plan.{Plan}
use Rattle.vc_plan.specs.declared.rules.Operand.{Operand}
use Rattle.vc_plan.specs.Domains.{numbers_below, domain_of, grains_of, texts_in}
use Rattle.vc_plan.specs.Pieces.{same_value, lies_in}
use Rattle.vc_plan.specs.Seen.{Seen}
use Rattle.vc_plan.specs.TableRows.{fits}
use Rattle.vc_rule_table.specs.Cells.{grain_holds, has_left_among}
use Rattle.vc_rule_table.specs.declared.fitting.Test.{Test}
use Rattle.vc_rule_table.specs.declared.fitting.Test.TheVariants.{Same, Within, Left}

-- whether the value lies in the piece, if there is one
abbrev pub piece_has : Option Piece → Value → Bool
piece_has None a = false
piece_has (Some piece) a = lies_in a piece

abbrev pub test_passes : Plan → Seen → Test → Value → Bool
test_passes plan seen (Same b) a = same_value b a
test_passes plan seen (Within piece) a = piece_has piece a
test_passes plan seen (Left v) a = has_left_among (grains_of plan v) seen v None a

-- the test passes just what fits what the column is given
abbrev pub IsTest : Plan → Seen → Operand → Test → Type 0
IsTest plan seen operand test = (a : Value) → test_passes plan seen test a ≡ fits plan seen operand a

-- whether a grain holds both values
abbrev pub holds_both : List Piece → Value → Value → Bool
holds_both grains b a =
    list_any (λ g. grain_holds grains a g && grain_holds grains b g) (numbers_below (length grains))

abbrev pub is_text : ℕ → Option ℕ → Bool
is_text t None = false
is_text t (Some s) = s == t

-- whether the grain that is told for a text has it and isn't out
abbrev pub is_left_at : (ℕ → Bool) → List ℕ → ℕ → Option ℕ → Bool
is_left_at out texts t None = false
is_left_at out texts t (Some g) = is_text t (slice_get texts g) && not (out g)

-- such a grain is told for each text that has one among the first
abbrev pub TellsFirst : (ℕ → Bool) → List ℕ → ℕ → List ℕ → Type 0
TellsFirst out texts n left = (g t : ℕ) → g < n → slice_get texts g ≡ Some t → out g ≡ false → t < length left
    → is_left_at out texts t (slice_get left t) ≡ true

abbrev pub TellsLeft : (ℕ → Bool) → List ℕ → List ℕ → Type 0
TellsLeft out texts left = TellsFirst out texts (length texts) left

-- of what a test asks which grains are left
abbrev pub LeftOf : Plan → Seen → List ℕ → Test → Type 0
LeftOf plan seen left (Same b) = Unit {0}
LeftOf plan seen left (Within piece) = Unit {0}
LeftOf plan seen left (Left v) = TellsLeft (seen.out v) (texts_in (domain_of plan (slice_get plan.vars v))) left

-- with the grain told for the text, unless it is out
abbrev pub with_left : Bool → ℕ → ℕ → List ℕ → List ℕ
with_left out text grain left = if out then left else slice_set left text grain
