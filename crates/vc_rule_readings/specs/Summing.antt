-- What the parts of an instance add to a sum over them: their quantities, or these times their values.
use Rattle.std.specs.Prelude.{◌≡◌, ℕ, ℤ, ◌≤◌, ◌<◌, ◌^◌, Bool, true, ◌&&◌, length, map, Option, None, Some, is_some}
use Rattle.std.specs.Prelude.{option_map}
use Rattle.std.specs.List.{filter}
use Rattle.vc_value.specs.declared.decimal.Dec.{Dec}
use Rattle.vc_plan.specs.declared.plans.Plan.{Plan}
use Rattle.vc_plan.specs.Domains.{numbers_below}
use Rattle.vc_plan.specs.Parts.{is_part, part_quantity, part_weight, total, var_of}
use Rattle.vc_plan.specs.Readings.{Reading}
use Rattle.vc_plan.specs.Seen.{Seen}
use Rattle.vc_plan_values.specs.Computing.{TermsFit}
use Rattle.vc_rule_readings.specs.Finding.{stands_by}

-- no step of a term is too wide, no sum over the slots is, numbers of 32 bits tell the variables, and these come by
-- their slots
pub record SumsFit (plan : Plan) : Type 0 where
  pub terms : TermsFit plan
  pub few_slots : length plan.slots ≤ 40
  pub few_vars : length plan.vars < 2 ^ 32
  pub vars_by_slot : stands_by (λ x. x.slot) plan.vars ≡ true

-- the count of millionths of a stored number, where there is one
abbrev pub stored_count : Option Dec → Option ℤ
stored_count number = option_map (λ a. a.millionths) number

-- what a part adds: its quantity, or where a characteristic is named that times its value
abbrev pub addend : Plan → Reading → Option ℕ → ℕ → Option ℤ
addend plan reading None j = part_quantity plan reading j
addend plan reading (Some characteristic) j = part_weight plan reading characteristic j

-- whether a slot's class has the characteristic, if one is named
abbrev pub has_it : Plan → Option ℕ → ℕ → Bool
has_it plan None j = true
has_it plan (Some characteristic) j = is_some (var_of plan j characteristic)

-- whether a slot is a part that adds something
abbrev pub adds : Plan → Seen → ℕ → Option ℕ → ℕ → Bool
adds plan seen i named j = (is_part plan i j && seen.here j) && has_it plan named j

-- the sum over all of them
abbrev pub part_total : Plan → Seen → Reading → ℕ → Option ℕ → Option ℤ
part_total plan seen reading i named =
    total (map (addend plan reading named) (filter (adds plan seen i named) (numbers_below (length plan.slots))))
