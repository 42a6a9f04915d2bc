-- Sources that fit a plan: what may be taken for granted of them.
use Rattle.std.specs.Prelude.{◌≡◌, ℕ, Bool, true, false, ◌&&◌, ◌==◌, List, [], ◌∷◌, length, slice_get, Option, None}
use Rattle.std.specs.Prelude.{Some}
use Rattle.std.specs.List.{list_all, list_any}
use Rattle.vc_value.specs.declared.value.Value.{Value}
use Rattle.vc_plan.specs.declared.atoms.Atom.{Atom}
use Rattle.vc_plan.specs.declared.atoms.Mark.{Mark}
use Rattle.vc_plan.specs.declared.atoms.Mark.TheVariants.{Held, Outside}
use Rattle.vc_plan.specs.declared.plans.Plan.{Plan}
use Rattle.vc_plan.specs.declared.procedures.Procedure.{Procedure}
use Rattle.vc_plan.specs.declared.procedures.Statement.{Statement}
use Rattle.vc_plan.specs.Domains.{numbers_below, grains_of}
use Rattle.vc_plan.specs.Entries.{Entries, no_entries}
use Rattle.vc_plan.specs.Evaluate.{Evaluated, between, broken_at, reached, Users, evaluation_of, sources_of}
use Rattle.vc_plan.specs.Fitting.{users_fit}
use Rattle.vc_plan.specs.LookUps.{action_writes, writes_own}
use Rattle.vc_plan.specs.Pieces.{lies_in_some}
use Rattle.vc_plan.specs.RuleShapes.{is_at}
use Rattle.vc_plan.specs.Sources.{Sources, Entry, user_of, entry_of}

-- whether a value, if there is one, lies in a grain of the variable; and whether a mark does, if it holds a value
abbrev pub value_fits : Plan → ℕ → Option Value → Bool
value_fits plan v None = true
value_fits plan v (Some a) = lies_in_some (grains_of plan v) a

abbrev pub mark_fits : Plan → ℕ → Mark → Bool
mark_fits plan v (Held a) = lies_in_some (grains_of plan v) a
mark_fits plan v Outside = true

-- whether the statement is there and writes the variable, of its procedure's slot
abbrev pub statement_writes : ℕ → Option Statement → Bool
statement_writes v None = false
statement_writes v (Some statement) = list_any (λ w. w == v) (action_writes statement.action)

abbrev pub procedure_writes : Plan → ℕ → ℕ → Option Procedure → Bool
procedure_writes plan v n None = false
procedure_writes plan v n (Some procedure) =
    is_at plan (procedure.slot ∷ []) v && statement_writes v (slice_get procedure.statements n)

-- whether an entry, if there is one, fits: it names such a statement, and what it holds lies in a grain
abbrev pub entry_fits : Plan → ℕ → Option Entry → Bool
entry_fits plan v None = true
entry_fits plan v (Some entry) =
    mark_fits plan v entry.mark && procedure_writes plan v entry.statement (slice_get plan.procedures entry.procedure)

-- whether all sources fit the plan. Without that nobody may be to blame: a user's value in no grain contradicts alone,
-- and an entry by a statement that isn't there is nobody's
abbrev pub sources_fit : Plan → Sources → Bool
sources_fit plan sources =
    list_all (λ v. value_fits plan v (user_of sources v)) (numbers_below (length sources.user))
    && list_all (λ v. entry_fits plan v (entry_of sources v)) (numbers_below (length sources.written))

-- what was written when an evaluation ended
abbrev pub sources_at_end : Users → Evaluated → Sources
sources_at_end users (broken_at k entries) = sources_of users entries
sources_at_end users (reached sets entries) = sources_of users entries

-- what a valid plan's statements write fits it, and so do the sources at the end of an evaluation, where the user's
-- values do: those of the stage that is broken, or of the last
abbrev pub EvaluationsFit : Type 0
EvaluationsFit = (plan : Plan) (users : Users)
    → list_all (writes_own plan) plan.procedures ≡ true → users_fit plan users ≡ true
    → sources_fit plan (sources_at_end users (evaluation_of plan users)) ≡ true

-- the sources of the first stage fit, where nothing is written yet; and where those of a stage do, so do those of the
-- next
pub record AllStagesFit (plan : Plan) (users : Users) : Type 0 where
  pub first : sources_fit plan (sources_of users (no_entries plan)) ≡ true
  pub next : (later : ℕ) (sets : List (List Atom)) (set : List Atom) (entries : Entries)
      → sources_fit plan (sources_of users entries) ≡ true
      → sources_fit plan (sources_of users (between plan users later sets set entries)) ≡ true

-- so do the sources of each stage of an evaluation, where the user's values do
abbrev pub StagesFit : Type 0
StagesFit = (plan : Plan) (users : Users)
    → list_all (writes_own plan) plan.procedures ≡ true → users_fit plan users ≡ true → AllStagesFit plan users
