-- Below a characteristic stands a value.
use Rattle.std.proofs.Common.{◌≡◌, ℕ, ◌+◌, ◌<◌, true, false, not, List, []}
use Rattle.std.proofs.Common.{◌∷◌, length, Option, Some, None}
use Rattle.std.proofs.Common.{refl, sym, ap, ◌∙◌, arith}
use Rattle.std.specs.Prelude.{is_none, option_map}
use Rattle.std.specs.List.{cons_option}
use Rattle.std.proofs.lemmas.Bool.{not-false}
use Rattle.vc_model_lines.specs.declared.line.Keyword.{Keyword}
use Rattle.vc_model_lines.specs.declared.line.Line.{Line}
use Rattle.vc_model_lines.specs.declared.line.Line.TheVariants as lines
use Rattle.vc_model_lines.specs.declared.line.IntervalLine.{IntervalLine}
use Rattle.vc_model_scope.specs.Contents.{entry_of, entry_within}
use Rattle.vc_model_scope.specs.LookAhead.{has_value}
use Rattle.vc_model_scope.specs.Scope.{scope_of}
use Rattle.vc_model_scope.specs.Stands.{opens}
use Rattle.vc_model_scope.specs.declared.entries.Interval.{Interval}
use Rattle.vc_model_scope.specs.declared.scope.Scope.{Scope}
use Rattle.vc_model_scope.specs.declared.stands.Under.TheVariants as unders
use Rattle.vc_model_faults.specs.Kinds.{is_too_long, is_no_form}
use Rattle.vc_model_faults.specs.Misplaced.{is_misplaced, takes_texts, takes_intervals}
use Rattle.vc_model_faults.specs.Values.{interval_fits}
use Rattle.vc_model_faults.specs.Values.{is_bad}
use Rattle.vc_model_parts.specs.declared.parts.NumberValue.{NumberValue}
use Rattle.vc_model_drafts.specs.Models.{until, uses_below, text_at}
use Rattle.vc_model_drafts.specs.Models.{number_at}
use Rattle.vc_model_laws.proofs.LineCases.{number_with}
use Rattle.vc_model_laws.proofs.Walks.{Sound}
use Rattle.vc_model_laws.proofs.OrderLaws.{Stood}

-- the first VALUE
too_long : (keyword : Option Keyword) (below : List Line) → is_too_long (lines.TooLong keyword) below ≡ false → ⊥
unfolding is_too_long
too_long keyword below h = cc

no_form : (keyword : Option Keyword) → is_no_form (lines.NoForm keyword) ≡ false → ⊥
unfolding is_no_form
no_form keyword h = cc

text_misplaced : (earlier : List Line) (x : IntervalLine) (below : List Line) (o : Option ℕ)
    → is_misplaced (scope_of earlier) (lines.Interval x) below ≡ false
    → Stood earlier ≡ unders.Char o → ⊥
unfolding is_misplaced scope_of
text_misplaced earlier x below o placed u = let no : not (takes_intervals (unders.Char o)) ≡ false =
    ap (λ u. not (takes_intervals u)) (sym u) ∙ placed in cc

number_misplaced : (earlier : List Line) (x : List ℕ) (below : List Line) (o : Option ℕ)
    → is_misplaced (scope_of earlier) (lines.Text x) below ≡ false
    → Stood earlier ≡ unders.Num o → ⊥
unfolding is_misplaced scope_of
number_misplaced earlier x below o placed u = let no : not (takes_texts (unders.Num o)) ≡ false =
    ap (λ u. not (takes_texts u)) (sym u) ∙ placed in cc

interval_there : (scope : Scope) (x : IntervalLine) → is_bad scope (lines.Interval x) ≡ false
    → is_none (entry_within x.low x.high) ≡ false
unfolding is_bad
interval_there scope x fit = by (entry_within x.low x.high)
    (not-false (interval_fits scope.standing (entry_of (lines.Interval x))) fit)
  where
    by : (o : Option Interval) → interval_fits scope.standing o ≡ true → is_none o ≡ false
    by None h = absurd (cc)
    by (Some entry) h = refl

one_there : (uses : List ℕ) (o : Option Interval) (rest : List NumberValue) → is_none o ≡ false
    → 0 < length (cons_option (option_map (number_with uses) o) rest)
one_there uses None rest h = absurd (cc)
one_there uses (Some entry) rest h = omega arith

pub text_first : (a : Scope) (earlier : List Line) (n : ℕ) (ls : List Line) (o : Option ℕ) → Sound earlier ls
    → Stood earlier ≡ unders.Char o
    → has_value ls ≡ true → 0 < length (until opens (text_at a) n ls)
text_first a earlier n [] o s u h = absurd (cc)
text_first a earlier n (lines.Skipped ∷ below) o s u h = text_first a (lines.Skipped ∷ earlier) (n + 1) below o s.1 u h
text_first a earlier n ((lines.Inner x) ∷ below) o s u h = absurd (cc)
text_first a earlier n (lines.LongInner ∷ below) o s u h = absurd (cc)
text_first a earlier n (lines.End ∷ below) o s u h = absurd (cc)
text_first a earlier n ((lines.TooLong x) ∷ below) o s u h = absurd (too_long x below s.0.short)
text_first a earlier n ((lines.NoForm x) ∷ below) o s u h = absurd (no_form x s.0.shaped)
text_first a earlier n ((lines.Head x) ∷ below) o s u h = absurd (cc)
text_first a earlier n ((lines.Char x) ∷ below) o s u h = absurd (cc)
text_first a earlier n ((lines.Num x) ∷ below) o s u h = absurd (cc)
text_first a earlier n ((lines.Text x) ∷ below) o s u h = omega arith
text_first a earlier n ((lines.Interval x) ∷ below) o s u h = absurd (text_misplaced earlier x below o s.0.placed u)
text_first a earlier n ((lines.Uses x) ∷ below) o s u h =
    text_first a ((lines.Uses x) ∷ earlier) (n + 1) below o s.1 u h
text_first a earlier n ((lines.Class x) ∷ below) o s u h = absurd (cc)
text_first a earlier n ((lines.Has x) ∷ below) o s u h = text_first a ((lines.Has x) ∷ earlier) (n + 1) below o s.1 u h
text_first a earlier n ((lines.Table x) ∷ below) o s u h = absurd (cc)
text_first a earlier n ((lines.Column x) ∷ below) o s u h =
    text_first a ((lines.Column x) ∷ earlier) (n + 1) below o s.1 u h
text_first a earlier n ((lines.Net x) ∷ below) o s u h = absurd (cc)
text_first a earlier n ((lines.Object x) ∷ below) o s u h = absurd (cc)
text_first a earlier n ((lines.Bill x) ∷ below) o s u h =
    text_first a ((lines.Bill x) ∷ earlier) (n + 1) below o s.1 u h
text_first a earlier n ((lines.Operation x) ∷ below) o s u h =
    text_first a ((lines.Operation x) ∷ earlier) (n + 1) below o s.1 u h
text_first a earlier n ((lines.Block x) ∷ below) o s u h = absurd (cc)
text_first a earlier n ((lines.Root x) ∷ below) o s u h = absurd (cc)
text_first a earlier n (lines.Action ∷ below) o s u h = absurd (cc)

pub number_first : (a : Scope) (earlier : List Line) (n : ℕ) (ls : List Line) (o : Option ℕ) → Sound earlier ls
    → Stood earlier ≡ unders.Num o
    → has_value ls ≡ true → 0 < length (until opens (number_at a) n ls)
number_first a earlier n [] o s u h = absurd (cc)
number_first a earlier n (lines.Skipped ∷ below) o s u h =
    number_first a (lines.Skipped ∷ earlier) (n + 1) below o s.1 u h
number_first a earlier n ((lines.Inner x) ∷ below) o s u h = absurd (cc)
number_first a earlier n (lines.LongInner ∷ below) o s u h = absurd (cc)
number_first a earlier n (lines.End ∷ below) o s u h = absurd (cc)
number_first a earlier n ((lines.TooLong x) ∷ below) o s u h = absurd (too_long x below s.0.short)
number_first a earlier n ((lines.NoForm x) ∷ below) o s u h = absurd (no_form x s.0.shaped)
number_first a earlier n ((lines.Head x) ∷ below) o s u h = absurd (cc)
number_first a earlier n ((lines.Char x) ∷ below) o s u h = absurd (cc)
number_first a earlier n ((lines.Num x) ∷ below) o s u h = absurd (cc)
number_first a earlier n ((lines.Text x) ∷ below) o s u h = absurd (number_misplaced earlier x below o s.0.placed u)
number_first a earlier n ((lines.Interval x) ∷ below) o s u h =
    one_there (uses_below a (n + 1) below) (entry_within x.low x.high) (until opens (number_at a) (n + 1) below)
    (interval_there (scope_of earlier) x s.0.fit)
number_first a earlier n ((lines.Uses x) ∷ below) o s u h =
    number_first a ((lines.Uses x) ∷ earlier) (n + 1) below o s.1 u h
number_first a earlier n ((lines.Class x) ∷ below) o s u h = absurd (cc)
number_first a earlier n ((lines.Has x) ∷ below) o s u h =
    number_first a ((lines.Has x) ∷ earlier) (n + 1) below o s.1 u h
number_first a earlier n ((lines.Table x) ∷ below) o s u h = absurd (cc)
number_first a earlier n ((lines.Column x) ∷ below) o s u h =
    number_first a ((lines.Column x) ∷ earlier) (n + 1) below o s.1 u h
number_first a earlier n ((lines.Net x) ∷ below) o s u h = absurd (cc)
number_first a earlier n ((lines.Object x) ∷ below) o s u h = absurd (cc)
number_first a earlier n ((lines.Bill x) ∷ below) o s u h =
    number_first a ((lines.Bill x) ∷ earlier) (n + 1) below o s.1 u h
number_first a earlier n ((lines.Operation x) ∷ below) o s u h =
    number_first a ((lines.Operation x) ∷ earlier) (n + 1) below o s.1 u h
number_first a earlier n ((lines.Block x) ∷ below) o s u h = absurd (cc)
number_first a earlier n ((lines.Root x) ∷ below) o s u h = absurd (cc)
number_first a earlier n (lines.Action ∷ below) o s u h = absurd (cc)
