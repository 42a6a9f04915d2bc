-- Laws of what a table call says.
use Rattle.std.specs.Prelude.{◌≡◌, ℕ, ◌≤◌, true, List, length, map, flat_map}
use Rattle.std.specs.List.{AllByRecursion}
use Rattle.vc_plan.specs.declared.atoms.Atom.{Atom}
use Rattle.vc_plan.specs.declared.atoms.Atom.TheVariants.{Here, Out, Is}
use Rattle.vc_plan.specs.declared.plans.Plan.{Plan}
use Rattle.vc_plan.specs.declared.rules.Binding.{Binding}
use Rattle.vc_plan.specs.declared.rules.Rule.{Rule}
use Rattle.vc_plan.specs.Answers.{fresh}
use Rattle.vc_plan.specs.Bounds.{rows_with}
use Rattle.vc_plan.specs.Seen.{Seen, says}
use Rattle.vc_plan.specs.TableRows.{rows_of, by_table}
use Rattle.vc_plan.specs.Valid.{IsValid}
use Rattle.vc_plan_values.specs.Computing.{ValuesAreLeft}
use Rattle.vc_plan_reasons.specs.Things.{var_at, has_thing, thing_of, vars_of_column}
use Rattle.vc_rule_premises.specs.Saying.{Said, clashing, concluding, given_of}
use Rattle.vc_rule_premises.specs.Sufficing.{each_premise, EachFollows}
use Rattle.vc_rule_table.specs.TableSaid.{table_said}

-- without what it follows from it is what the table call gives, but for what stands already
abbrev pub TableIsSaid : Type 0
TableIsSaid = (plan : Plan) (seen : Seen) (rule : Rule) (table : ℕ) (columns : List Binding)
    → given_of (table_said plan seen rule table columns) ≡ fresh seen (by_table plan seen rule table columns)

-- each premise stands
abbrev pub TableStands : Type 0
TableStands = (plan : Plan) (seen : Seen) (rule : Rule) (table : ℕ) (columns : List Binding)
    → each_premise (says seen) (table_said plan seen rule table columns) ≡ true

-- all that is said follows from its premises alone
abbrev pub TableFollows : Type 0
TableFollows = (plan : Plan) (seen : Seen) (rule : Rule) (table : ℕ) (columns : List Binding) → ValuesAreLeft plan seen
    → EachFollows (λ part. by_table plan part rule table columns) seen (table_said plan seen rule table columns)

-- each premise is of a variable that a column is given
abbrev pub TableIsRead : Type 0
TableIsRead = (plan : Plan) (seen : Seen) (rule : Rule) (table : ℕ) (columns : List Binding)
    → each_premise (λ a. has_thing (map var_at (flat_map vars_of_column columns)) (thing_of a))
    (table_said plan seen rule table columns) ≡ true

-- of a clash there is at most one premise a row of the table, of a grain one a row that has it, of a value one a row
abbrev pub premises_at_most : Plan → ℕ → List Binding → Atom → ℕ
premises_at_most plan table columns (Here i) = 0
premises_at_most plan table columns (Out v g) = rows_with plan table columns v g
premises_at_most plan table columns (Is v a) = length (rows_of plan table)

abbrev pub IsFew : Plan → ℕ → List Binding → Said → Type 0
IsFew plan table columns (clashing premises) = length premises ≤ length (rows_of plan table)
IsFew plan table columns (concluding conclusions) =
    AllByRecursion (λ conclusion. length conclusion.premises ≤ premises_at_most plan table columns conclusion.atom)
    conclusions

abbrev pub TableIsFew : Type 0
TableIsFew = (plan : Plan) (seen : Seen) (rule : Rule) (table : ℕ) (columns : List Binding) → IsValid plan
    → IsFew plan table columns (table_said plan seen rule table columns)
