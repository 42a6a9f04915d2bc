-- Which kinds of fault stand at a line.
use Rattle.std.specs.Prelude.{Bool, true, false, not, ◌&&◌, List, [], ◌∷◌, Option, find}
use Rattle.vc_model_lines.specs.declared.line.Line.{Line}
use Rattle.vc_model_lines.specs.declared.line.Line.TheVariants as lines
use Rattle.vc_model_scope.specs.declared.scope.Scope.{Scope}
use Rattle.vc_model_faults.specs.declared.fault.ModelFaultKind.{ModelFaultKind}
use Rattle.vc_model_faults.specs.declared.fault.ModelFaultKind.TheVariants as kind
use Rattle.vc_model_faults.specs.Limits.{is_too_many}
use Rattle.vc_model_scope.specs.LookAhead.{has_long_line, has_value}
use Rattle.vc_model_faults.specs.Misplaced.{is_misplaced}
use Rattle.vc_model_faults.specs.Misspelled.{is_misspelled}
use Rattle.vc_model_faults.specs.Readings.{is_unread}
use Rattle.vc_model_faults.specs.Twice.{is_twice}
use Rattle.vc_model_faults.specs.Unknown.{is_unknown, is_wrong}
use Rattle.vc_model_faults.specs.Values.{is_bad}

-- over 1,000 bytes; for a line in a block at the line that opens it
unfoldable pub is_too_long : Line → List Line → Bool
is_too_long (lines.TooLong keyword) after = true
is_too_long (lines.Block block) after = has_long_line after
is_too_long line after = false

-- the shape of no form
unfoldable pub is_no_form : Line → Bool
is_no_form (lines.NoForm keyword) = true
is_no_form line = false

unfoldable pub is_action : Line → Bool
is_action lines.Action = true
is_action line = false

-- a characteristic without VALUE
unfoldable pub lacks_values : Line → List Line → Bool
lacks_values (lines.Char char) after = not (has_value after)
lacks_values (lines.Num num) after = not (has_value after)
lacks_values line after = false

-- MULTIPLE with RESTRICTABLE
unfoldable pub is_mixed : Line → Bool
is_mixed (lines.Char char) = char.multiple && char.restrictable
is_mixed line = false

-- the kind stands at the line; NotText and NoRoot stand at no line
abbrev pub stands : Scope → Line → List Line → ModelFaultKind → Bool
stands scope line after kind.NotText = false
stands scope line after kind.LineTooLong = is_too_long line after
stands scope line after kind.NotALine = is_no_form line
stands scope line after kind.Misplaced = is_misplaced scope line after
stands scope line after kind.BadName = is_misspelled line
stands scope line after kind.Twice = is_twice scope line
stands scope line after kind.Unknown = is_unknown scope line
stands scope line after kind.BadValue = is_bad scope line
stands scope line after kind.Syntax = is_unread line after
stands scope line after kind.WrongDependency = is_wrong scope line
stands scope line after kind.Action = is_action line
stands scope line after kind.NoValues = lacks_values line after
stands scope line after kind.TooMany = is_too_many scope line
stands scope line after kind.NoRoot = false
stands scope line after kind.MultipleRestrictable = is_mixed line

-- all kinds, the least first
abbrev pub kinds : List ModelFaultKind
kinds =
    kind.NotText ∷ kind.LineTooLong ∷ kind.NotALine ∷ kind.Misplaced ∷ kind.BadName ∷ kind.Twice ∷ kind.Unknown
    ∷ kind.BadValue
    ∷ kind.Syntax ∷ kind.WrongDependency ∷ kind.Action ∷ kind.NoValues ∷ kind.TooMany ∷ kind.NoRoot
    ∷ kind.MultipleRestrictable ∷ []

-- those that are found without reading a block or a term, and the others
abbrev pub early_kinds : List ModelFaultKind
early_kinds =
    kind.NotText ∷ kind.LineTooLong ∷ kind.NotALine ∷ kind.Misplaced ∷ kind.BadName ∷ kind.Twice ∷ kind.Unknown
    ∷ kind.BadValue ∷ []

abbrev pub late_kinds : List ModelFaultKind
late_kinds =
    kind.Syntax ∷ kind.WrongDependency ∷ kind.Action ∷ kind.NoValues ∷ kind.TooMany ∷ kind.NoRoot
    ∷ kind.MultipleRestrictable ∷ []

unfoldable pub early_kind : Scope → Line → List Line → Option ModelFaultKind
early_kind scope line after = find (stands scope line after) early_kinds

unfoldable pub late_kind : Scope → Line → List Line → Option ModelFaultKind
late_kind scope line after = find (stands scope line after) late_kinds

-- the least kind that stands at the line
unfoldable pub kind_at : Scope → Line → List Line → Option ModelFaultKind
kind_at scope line after = find (stands scope line after) kinds
