-- What is kept of logs of PUMP and PAINT.
use Rattle.std.proofs.Common.{◌≡◌, ℕ, List, [], ◌∷◌, ◌++◌, map, true, refl}
use Rattle.std.specs.Prelude.{Option, None, Some, ◌≢◌}
use Rattle.vc_value.specs.declared.value.Value.{Value}
use Rattle.vc_value.specs.declared.value.Value.TheVariants.{Text}
use Rattle.vc_plan.specs.declared.atoms.Atom.TheVariants.{Is}
use Rattle.vc_plan.specs.declared.atoms.Mark.TheVariants.{Held, Outside}
use Rattle.vc_plan.specs.declared.atoms.Origin.TheVariants.{Rule, Written}
use Rattle.vc_plan.specs.declared.atoms.Step.{Step}
use Rattle.vc_plan.specs.Sources.{Sources}
use Rattle.vc_plan.proofs.PlanRows.Models.{pump, users, whole}
use Rattle.vc_plan_reasons.specs.Checking.{is_accepted}
use Rattle.vc_plan_reasons.specs.Keeping.{changed, kept_of}
use Rattle.vc_plan_reasons.proofs.ReasonRows.Steps.{step, by_user, large_size, no_e1, why_motor}

-- the size, what follows of it, and the flow
abbrev chosen : Option Value → Option Value → Sources
chosen size flow = users (size ∷ None ∷ flow ∷ [])

abbrev both : Sources
both = chosen (Some (Text 2)) (Some (whole 5))

abbrev flow : Step
flow = by_user 2 (whole 5)

abbrev log : List Step
log = why_motor ++ flow ∷ []

accepted : is_accepted pump both log ≡ true
accepted = refl

-- the size taken back: the flow's step alone
without_size : kept_of both (chosen None (Some (whole 5))) log ≡ flow ∷ []
without_size = refl

-- what only cites a step that cites the size goes too
indirect : kept_of both (chosen None (Some (whole 5))) log ≢ step (Is 1 (Text 5)) (Rule 2) (0 ∷ 0 ∷ []) ∷ flow ∷ []
indirect e = cc

-- the flow taken back, or set otherwise: the other steps, with new numbers where it came first
without_flow : kept_of both (chosen (Some (Text 2)) None) log ≡ why_motor
without_flow = refl

renumbered : kept_of both (chosen (Some (Text 2)) (Some (whole 6)))
    (flow ∷ large_size ∷ no_e1 (0 ∷ 2 ∷ []) ∷ []) ≡ large_size ∷ no_e1 (0 ∷ 1 ∷ []) ∷ []
renumbered = refl

as_before : map (λ s. s.premises) (kept_of both (chosen (Some (Text 2)) None) (flow ∷ large_size ∷ no_e1 (2 ∷ []) ∷ []))
    ≢ [] ∷ (2 ∷ []) ∷ []
as_before e = cc

-- nothing changed, nothing goes
all_kept : kept_of both both log ≡ log
all_kept = refl

-- the variables whose sources differ
size_changed : changed pump both (chosen None (Some (whole 5))) ≡ 0 ∷ []
size_changed = refl

none_changed : changed pump both both ≢ 0 ∷ 1 ∷ 2 ∷ []
none_changed e = cc

-- a value that a statement wrote, by another statement now: its step goes, and the user's of the same variable stays
abbrev written : Value → ℕ → Sources
written a statement =
    record {
      user = Some (Text 2) ∷ [];
      written = Some (record { mark = Held a; procedure = 1; statement = statement })
          ∷ [];
    }

abbrev green : Step
green = step (Is 0 (Text 2)) (Written 1 0) []

by_other : kept_of (written (Text 2) 0) (written (Text 2) 1) (green ∷ by_user 0 (Text 2) ∷ []) ≡ by_user 0 (Text 2) ∷ []
by_other = refl

value_alone : kept_of (written (Text 2) 0) (written (Text 2) 1) (green ∷ []) ≢ green ∷ []
value_alone e = cc

-- whoever gives the same value: a step by the user goes when the user's value goes
user_gone : kept_of (written (Text 2) 0) (record (written (Text 2) 0) { user = [] })
    (green ∷ by_user 0 (Text 2) ∷ []) ≡ green ∷ []
user_gone = refl

-- an entry that differs changes its variable, though the user's value is the same; one outside is the same as another
-- outside
entry_changed : changed pump (written (Text 2) 0) (written (Text 2) 1) ≡ 0 ∷ []
entry_changed = refl

user_alone : changed pump (written (Text 2) 0) (written (Text 2) 1) ≢ []
user_alone e = cc

value_changed : changed pump (written (Text 2) 0) (written (Text 1) 0) ≡ 0 ∷ []
value_changed = refl

abbrev outside : ℕ → Sources
outside procedure = record {
  user = [];
  written = Some (record { mark = Outside; procedure = procedure; statement = 0 })
      ∷ [];
}

still_outside : changed pump (outside 1) (outside 1) ≡ []
still_outside = refl

outside_anew : changed pump (outside 1) (outside 1) ≢ 0 ∷ []
outside_anew e = cc

outside_now : changed pump (record (written (Text 2) 0) { user = [] }) (record (outside 1) { user = [] }) ≡ 0 ∷ []
outside_now = refl

by_another : changed pump (outside 1) (outside 2) ≡ 0 ∷ []
by_another = refl

entry_gone : changed pump (outside 1) (record { user = []; written = [] }) ≡ 0 ∷ []
entry_gone = refl
