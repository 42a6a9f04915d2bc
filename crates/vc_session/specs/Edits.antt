-- Edits of what a user chose, and which values may be given.
use Rattle.std.specs.Prelude.{◌<◌, ℕ, Bool, true, false, ◌==◌, List, [], ◌∷◌, length, slice_index_or, None, Some}
use Rattle.std.specs.Prelude.{is_some}
use Rattle.std.specs.List.{list_any}
use Rattle.vc_value.specs.declared.value.Value.{Value}
use Rattle.vc_value.specs.declared.value.Value.TheVariants.{Text, Num}
use Rattle.vc_plan.specs.declared.plans.Named.{Named}
use Rattle.vc_plan.specs.declared.plans.Named.TheVariants.{Set, Var}
use Rattle.vc_plan.specs.declared.plans.Plan.{Plan}
use Rattle.vc_plan.specs.Domains.{texts_of}
use Rattle.vc_plan.specs.Evaluate.{holds}
use Rattle.vc_plan.specs.Fitting.{may_have}
use Rattle.vc_plan.specs.Seen.{is_value}
use Rattle.vc_plan_users.specs.Choosing.{Chosen, set_at, users_of, with_text, with_value, without_texts}

-- a variable may be given a value that it may have, a set a text of its list
abbrev pub may_be_given : Plan → Named → Value → Bool
may_be_given plan (Var v) a = may_have plan v a
may_be_given plan (Set set) (Text t) = list_any (λ listed. listed == t) (texts_of plan set)
may_be_given plan (Set set) (Num a) = false

-- there is such a variable; a set that isn't there holds nothing
abbrev pub is_there : Chosen → Named → Type 0
is_there chosen (Var v) = v < length chosen.values
is_there chosen (Set set) = Unit {0}

-- whether the user has a value there, and whether it is this one
abbrev pub has_choice : Chosen → Named → Bool
has_choice chosen (Var v) = is_some (slice_index_or chosen.values v None)
has_choice chosen (Set set) = list_any (λ t. t.held) (set_at chosen set)

abbrev pub has_chosen : Chosen → Named → Value → Bool
has_chosen chosen (Var v) a = is_value a (slice_index_or chosen.values v None)
has_chosen chosen (Set set) (Text t) = holds (users_of chosen) set t
has_chosen chosen (Set set) (Num a) = false

-- the variables of which an edit of what is named may change the value: a set's texts are no values
abbrev pub touched_by : Named → List ℕ
touched_by (Var v) = v ∷ []
touched_by (Set set) = []

-- a value is given: to a set beside those that it holds, or alone
abbrev pub given : Chosen → Named → Value → Chosen
given chosen (Var v) a = with_value chosen v (Some a)
given chosen (Set set) (Text t) = with_text chosen set t true
given chosen (Set set) (Num a) = chosen

abbrev pub taken : Chosen → Named → Chosen
taken chosen (Var v) = with_value chosen v None
taken chosen (Set set) = without_texts chosen set

abbrev pub given_alone : Chosen → Named → Value → Chosen
given_alone chosen named a = given (taken chosen named) named a

-- this value is taken back
abbrev pub taken_value : Chosen → Named → Value → Chosen
taken_value chosen (Var v) a = with_value chosen v None
taken_value chosen (Set set) (Text t) = with_text chosen set t false
taken_value chosen (Set set) (Num a) = chosen
