-- The first fault of a text, by its lines.
use Rattle.std.specs.Prelude.{◌≡◌, ℕ, ◌+◌, ◌<◌, ◌≤◌, List, [], ◌∷◌, ◌++◌, length, take, drop, option_to_list, Option}
use Rattle.std.specs.Prelude.{Some, None, if◌then◌else◌}
use Rattle.vc_model_lines.specs.declared.line.Line.{Line}
use Rattle.vc_model_scope.specs.Scope.{scope_of}
use Rattle.vc_model_faults.specs.declared.fault.ModelFaultKind.{ModelFaultKind}
use Rattle.vc_model_faults.specs.declared.fault.ModelFaultKind.TheVariants.{NoRoot}
use Rattle.vc_model_faults.specs.Kinds.{kind_at}
use Rattle.vc_model_faults.specs.Readings.{Reading, reading}

-- lines from the last to the first, before others
abbrev pub backwards : List Line → List Line → List Line
backwards earlier [] = earlier
backwards earlier (line ∷ lines) = backwards (line ∷ earlier) lines

-- what the lines before a place are read as, which are given from the nearest to the first, in the order of the text
abbrev pub readings_of : List Line → List Line → List Reading
readings_of [] after = []
readings_of (line ∷ earlier) after = readings_of earlier (line ∷ after) ++ option_to_list (reading line after)

-- the least kind at the first of the lines; at the text's end it is NoRoot, unless a ROOT stands above
abbrev pub kind_by : List Line → List Line → Option ModelFaultKind
kind_by earlier [] = if (scope_of earlier).root then None else Some NoRoot
kind_by earlier (line ∷ after) = kind_at (scope_of earlier) line after

-- the least kind at a place, counted from 0; the text's end is a place too
abbrev pub kind_of : List Line → ℕ → Option ModelFaultKind
kind_of lines place = kind_by (backwards [] (take place lines)) (drop place lines)

-- the kind stands at the line of this number, counted from 1, and is the least there; no kind stands before it
unfoldable pub IsFirstFault : List Line → ModelFaultKind → ℕ → Type 0
IsFirstFault lines kind number =
    (place : ℕ) × (place ≤ length lines) × (number ≡ place + 1) × (kind_of lines place ≡ Some kind)
    × ((before : ℕ) → before < place → kind_of lines before ≡ None)

-- no kind stands at any place
unfoldable pub HasNoFault : List Line → Type 0
HasNoFault lines = (place : ℕ) → place ≤ length lines → kind_of lines place ≡ None
