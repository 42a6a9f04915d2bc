-- What a pass over lines finds, and what is kept of them.
use Rattle.std.specs.Prelude.{◌≡◌, ℕ, Bool, List, [], ◌++◌, option_to_list, Option, Some, None}
use Rattle.vc_model_lines.specs.Classified.{line_of, lines_below, is_in_block}
use Rattle.vc_model_lines.specs.declared.line.Line.{Line}
use Rattle.vc_model_scope.specs.Scope.{scope_of, with_line}
use Rattle.vc_model_scope.specs.declared.scope.Scope.{Scope}
use Rattle.vc_model_faults.specs.First.{backwards, readings_of, IsFirstFault, HasNoFault}
use Rattle.vc_model_faults.specs.Kinds.{kind_at}
use Rattle.vc_model_faults.specs.Places.{Numbered, Follows, Kept}
use Rattle.vc_model_faults.specs.Readings.{Reading, reading}
use Rattle.vc_model_faults.specs.declared.all_lines.FaultyLine.{FaultyLine}
use Rattle.vc_model_faults.specs.declared.all_lines.Step.{Step}
use Rattle.vc_model_faults.specs.declared.all_lines.Step.TheVariants.{Fault, Goes}

-- the first faulty line; or no line is faulty, and the scope, the readings and the places are those of all lines
abbrev pub Finds : List Line → Option FaultyLine → Scope → List Reading → List Numbered → Type 0
Finds lines None scope readings places =
    HasNoFault lines × (scope ≡ scope_of (backwards [] lines)) × (readings ≡ readings_of (backwards [] lines) [])
    × Kept (backwards [] lines) places
Finds lines (Some faulty) scope readings places = IsFirstFault lines faulty.kind faulty.line

-- a line without a fault, below which these stand, is added to the scope, the readings and the places before it
pub record Adds (line : Line) (number : ℕ) (below : List Line) (scope : Scope) (readings : List Reading)
    (places : List Numbered)
    (scope' : Scope) (readings' : List Reading) (places' : List Numbered) (next : Bool) : Type 0 where
  pub next_is : next ≡ is_in_block line
  pub sound : kind_at scope line below ≡ None
  pub scope_is : scope' ≡ with_line scope line
  pub readings_are : readings' ≡ readings ++ option_to_list (reading line below)
  pub places_are : Follows line number places places'

-- what comes of a raw line, behind which these bytes stand
abbrev pub Steps : Bool → ℕ → List ℕ → List ℕ → Scope → List Reading → List Numbered → Scope → List Reading
    → List Numbered → Step → Type 0
Steps inside number raw after scope readings places scope' readings' places' (Fault kind) =
    kind_at scope (line_of inside raw) (lines_below (line_of inside raw) after) ≡ Some kind
Steps inside number raw after scope readings places scope' readings' places' (Goes next) =
    Adds (line_of inside raw) number (lines_below (line_of inside raw) after) scope readings places scope' readings'
    places' next
