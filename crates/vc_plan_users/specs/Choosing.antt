-- What the user chose, as it begins and as it is after a change: of each variable a value, and of each set which of its
-- texts are held.
use Rattle.std.specs.Prelude.{ℕ, Bool, false, ◌==◌, if◌then◌else◌, List, map, slice_index_or, slice_set, Option, None}
use Rattle.std.specs.Prelude.{Some}
use Rattle.std.specs.List.{filter}
use Rattle.vc_value.specs.declared.value.Value.{Value}
use Rattle.vc_plan.specs.declared.plans.Plan.{Plan}
use Rattle.vc_plan.specs.declared.plans.TextSet.{TextSet}
use Rattle.vc_plan.specs.Domains.{domain_of_set, texts_in}
use Rattle.vc_plan.specs.Evaluate.{Users}
use Rattle.vc_plan_users.specs.declared.users.SetText.{SetText}

pub record Chosen : Type 0 where
  pub values : List (Option Value)
  pub sets : List (List SetText)

-- the texts that a set holds, in the order of its list
abbrev pub held_texts : List SetText → List ℕ
held_texts texts = map (λ t. t.text) (filter (λ t. t.held) texts)

-- the user's values, as evaluations take them
abbrev pub users_of : Chosen → Users
users_of chosen = record { values = chosen.values; texts = map held_texts chosen.sets }

-- each text of the plan's set, none of them held
abbrev pub not_held : ℕ → SetText
not_held text = record { text = text; held = false }

abbrev pub listed_at : Plan → TextSet → List SetText
listed_at plan set = map not_held (texts_in (domain_of_set plan (Some set)))

-- nothing is chosen
abbrev pub none_chosen : Plan → Chosen
none_chosen plan = record { values = map (λ x. None) plan.vars; sets = map (listed_at plan) plan.sets }

-- the variable has this value, or none; all else as before
abbrev pub with_value : Chosen → ℕ → Option Value → Chosen
with_value chosen v a = record { values = slice_set chosen.values v a; sets = chosen.sets }

-- the texts of a set, by its number
abbrev pub set_at : Chosen → ℕ → List SetText
set_at chosen set = slice_index_or chosen.sets set List.[]

-- the text is held or not; others are as before
abbrev pub marked : ℕ → Bool → SetText → SetText
marked text there listed = if listed.text == text then record { text = listed.text; held = there } else listed

abbrev pub with_text : Chosen → ℕ → ℕ → Bool → Chosen
with_text chosen set text there = record {
  values = chosen.values;
  sets = slice_set chosen.sets set (map (marked text there) (set_at chosen set));
}

-- no text of the set is held
abbrev pub let_go : SetText → SetText
let_go listed = record { text = listed.text; held = false }

abbrev pub without_texts : Chosen → ℕ → Chosen
without_texts chosen set =
    record { values = chosen.values; sets = slice_set chosen.sets set (map let_go (set_at chosen set)) }
