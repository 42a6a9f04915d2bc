-- The least kind at a line is one of the first kinds, or else one of the others; and none stands at a line that doesn't
-- count.
use Rattle.std.proofs.Common.{◌≡◌, false, List, None, refl}
use Rattle.std.specs.Option.{option_or}
use Rattle.std.proofs.lemmas.List.Folds.{find-append}
use Rattle.vc_model_lines.specs.declared.line.Line.{Line}
use Rattle.vc_model_lines.specs.declared.line.Line.TheVariants as lines
use Rattle.vc_model_scope.specs.Scope.{with_line}
use Rattle.vc_model_scope.specs.Stands.{counts}
use Rattle.vc_model_scope.specs.declared.scope.Scope.{Scope}
use Rattle.vc_model_faults.specs.Kinds.{stands, early_kinds, late_kinds, early_kind, late_kind, kind_at, is_too_long}
use Rattle.vc_model_faults.specs.Kinds.{is_no_form, is_action, lacks_values, is_mixed}
use Rattle.vc_model_faults.specs.Limits.{is_too_many}
use Rattle.vc_model_faults.specs.Misplaced.{is_misplaced}
use Rattle.vc_model_faults.specs.Misspelled.{is_misspelled}
use Rattle.vc_model_faults.specs.Readings.{is_unread, reading}
use Rattle.vc_model_faults.specs.Twice.{is_twice}
use Rattle.vc_model_faults.specs.Unknown.{is_unknown, is_wrong}
use Rattle.vc_model_faults.specs.Values.{is_bad}

pub kind_in_parts : (scope : Scope) (line : Line) (after : List Line)
    → kind_at scope line after ≡ option_or (early_kind scope line after) (late_kind scope line after)
unfolding kind_at early_kind late_kind
kind_in_parts scope line after = find-append (stands scope line after) early_kinds late_kinds

-- a line that doesn't count has no fault, says nothing and reads nothing
pub quiet : (scope : Scope) (line : Line) (after : List Line) → counts line ≡ false
    → (kind_at scope line after ≡ None) × (with_line scope line ≡ scope) × (reading line after ≡ None)
unfolding kind_at with_line reading is_too_long is_no_form is_action lacks_values is_mixed is_too_many is_misplaced
    is_misspelled is_unread is_twice is_unknown is_wrong is_bad
quiet scope lines.Skipped after e = (refl, refl, refl)
quiet scope (lines.Inner text) after e = (refl, refl, refl)
quiet scope lines.LongInner after e = (refl, refl, refl)
quiet scope lines.End after e = (refl, refl, refl)
quiet scope (lines.TooLong x) after e = absurd (cc)
quiet scope (lines.NoForm x) after e = absurd (cc)
quiet scope (lines.Head x) after e = absurd (cc)
quiet scope (lines.Char x) after e = absurd (cc)
quiet scope (lines.Num x) after e = absurd (cc)
quiet scope (lines.Text x) after e = absurd (cc)
quiet scope (lines.Interval x) after e = absurd (cc)
quiet scope (lines.Uses x) after e = absurd (cc)
quiet scope (lines.Class x) after e = absurd (cc)
quiet scope (lines.Has x) after e = absurd (cc)
quiet scope (lines.Table x) after e = absurd (cc)
quiet scope (lines.Column x) after e = absurd (cc)
quiet scope (lines.Net x) after e = absurd (cc)
quiet scope (lines.Object x) after e = absurd (cc)
quiet scope (lines.Bill x) after e = absurd (cc)
quiet scope (lines.Operation x) after e = absurd (cc)
quiet scope (lines.Block x) after e = absurd (cc)
quiet scope (lines.Root x) after e = absurd (cc)
quiet scope lines.Action after e = absurd (cc)
