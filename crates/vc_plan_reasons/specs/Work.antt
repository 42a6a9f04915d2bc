-- How far a change reaches, and how many evaluations of rules it may cost.
use Rattle.std.specs.Prelude.{ℕ, ◌+◌, ◌*◌, List}
use Rattle.std.specs.List.{filter, list_any, sum_by}
use Rattle.vc_base.specs.Spreading.{Links, reach}
use Rattle.vc_plan.specs.declared.plans.Plan.{Plan}
use Rattle.vc_plan.specs.declared.rules.Rule.{Rule}
use Rattle.vc_plan_reasons.specs.Things.{Thing, same_thing, size_of, rule_reads, rule_writes, touches}

-- how the rules of a plan link things
abbrev pub links_of : Plan → Links Thing Rule
links_of plan = record { same = same_thing; rules = plan.rules; reads = rule_reads plan; writes = rule_writes plan }

-- the things, and all that is written by a rule that reads one that they reach
abbrev pub reach_of : Plan → List Thing → List Thing
reach_of plan things = reach (links_of plan) things

-- a rule's share in the work on things: 1, and twice the sizes of those that it reads or writes
abbrev pub share_of : Plan → List Thing → Rule → ℕ
share_of plan things rule = 1 + 2 * sum_by (size_of plan) (filter (touches plan rule) things)

-- the shares of the rules that read or write one of the things
abbrev pub work_on : Plan → List Thing → ℕ
work_on plan things = sum_by (share_of plan things) (filter (λ rule. list_any (touches plan rule) things) plan.rules)

-- the evaluations of rules that a change of the things may cost at most
abbrev pub work_of : Plan → List Thing → ℕ
work_of plan things = work_on plan (reach_of plan things)
