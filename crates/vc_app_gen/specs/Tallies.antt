-- How many values are known where the first characteristic has one value after another, and the numbers in them: by
-- the evaluation of the user's one choice from nothing.
use Rattle.std.specs.Prelude.{ℕ, ◌-◌, List, ◌++◌, codes, decimal, length, map, slice_get, slice_index_or, Option}
use Rattle.std.specs.Prelude.{None, Some}
use Rattle.vc_net_places.specs.Cells.{total}
use Rattle.vc_value.specs.declared.value.Value.{Value}
use Rattle.vc_value.specs.declared.value.Value.TheVariants.{Text, Num}
use Rattle.vc_plan.specs.declared.plans.Named.{Named}
use Rattle.vc_plan.specs.declared.plans.Named.TheVariants.{Var, Set}
use Rattle.vc_plan.specs.declared.plans.Plan.{Plan}
use Rattle.vc_plan.specs.Domains.{numbers_below}
use Rattle.vc_plan.specs.Evaluate.{Evaluated, broken_at, evaluation_of, last_set, reached}
use Rattle.vc_plan.specs.Seen.{Seen, seen_of}
use Rattle.vc_plan_users.specs.Choosing.{Chosen, none_chosen, users_of}
use Rattle.vc_session.specs.Edits.{given_alone}
use Rattle.vc_desk_names.specs.Meant.{find_named, value_named}
use Rattle.vc_app_gen.specs.declared.tally.Tally.{Tally}

-- the number behind the V of a value, which is one digit; a value that is no such text has none
abbrev pub digit_behind : List ℕ → ℕ
digit_behind text = slice_index_or text 1 48 - 48

abbrev pub digit_if : Option (List ℕ) → ℕ
digit_if None = 0
digit_if (Some text) = digit_behind text

abbrev pub number_behind : Plan → Option Value → ℕ
number_behind plan None = 0
number_behind plan (Some (Text t)) = digit_if (slice_get plan.texts t)
number_behind plan (Some (Num number)) = 0

-- a value that is known counts
abbrev pub counted : Option Value → ℕ
counted None = 0
counted (Some a) = 1

-- the tally of what is seen of all variables
abbrev pub tally_seen : Plan → Seen → Tally
tally_seen plan seen = record {
  count = total (map (λ v. counted (seen.value v)) (numbers_below (length plan.vars)));
  sum = total (map (λ v. number_behind plan (seen.value v)) (numbers_below (length plan.vars)));
}

abbrev pub no_tally : Tally
no_tally = record { count = 0; sum = 0 }

-- of an evaluation: nothing is known where a stage is broken
abbrev pub tally_after : Plan → Evaluated → Tally
tally_after plan (broken_at k entries) = no_tally
tally_after plan (reached sets entries) = tally_seen plan (seen_of (last_set plan sets))

-- where the variable has the value, and nothing else is chosen
abbrev pub chosen_alone : Plan → ℕ → Value → Chosen
chosen_alone plan v a = given_alone (none_chosen plan) (Var v) a

abbrev pub tally_with : Plan → ℕ → Option Value → Tally
tally_with plan v None = no_tally
tally_with plan v (Some a) = tally_after plan (evaluation_of plan (users_of (chosen_alone plan v a)))

-- the value `Vt`
abbrev pub value_text : ℕ → List ℕ
value_text t = codes "V" ++ decimal t

abbrev pub tally_at : Plan → ℕ → ℕ → Tally
tally_at plan v t = tally_with plan v (value_named plan (Var v) (value_text t))

-- one value after another, of the variable of the root object that is called A1
abbrev pub tally_over : Plan → ℕ → ℕ → Tally
tally_over plan v values = record {
  count = total (map (λ t. (tally_at plan v t).count) (numbers_below values));
  sum = total (map (λ t. (tally_at plan v t).sum) (numbers_below values));
}

abbrev pub variable_if : Option Named → Option ℕ
variable_if None = None
variable_if (Some (Set s)) = None
variable_if (Some (Var v)) = Some v

abbrev pub first_variable : Plan → Option ℕ
first_variable plan = variable_if (find_named plan 0 (codes "A1"))

abbrev pub tally_if : Plan → Option ℕ → ℕ → Tally
tally_if plan None values = no_tally
tally_if plan (Some v) values = tally_over plan v values

abbrev pub tally_of : Plan → ℕ → Tally
tally_of plan values = tally_if plan (first_variable plan) values
