-- Slots and variables: what rules and sources read and write.
use Rattle.std.specs.Prelude.{ℕ, ◌+◌, Bool, false, ◌||◌, ◌==◌, List, [], ◌∷◌, ◌++◌, map, slice_get, Option, None, Some}
use Rattle.std.specs.List.{filter, flat_map}
use Rattle.std.specs.Option.{option_to_list}
use Rattle.vc_base.specs.Sets.{has}
use Rattle.vc_plan.specs.declared.atoms.Atom.{Atom}
use Rattle.vc_plan.specs.declared.atoms.Atom.TheVariants.{Here, Out, Is}
use Rattle.vc_plan.specs.declared.plans.Plan.{Plan}
use Rattle.vc_plan.specs.declared.rules.Binding.{Binding}
use Rattle.vc_plan.specs.declared.rules.Kind.{Kind}
use Rattle.vc_plan.specs.declared.rules.Kind.TheVariants.{Among, Compare, Equate, ByTable, Never, Last, Line}
use Rattle.vc_plan.specs.declared.rules.Operand.{Operand}
use Rattle.vc_plan.specs.declared.rules.Operand.TheVariants.{Constant, Variable}
use Rattle.vc_plan.specs.declared.rules.Rule.{Rule}
use Rattle.vc_plan.specs.Domains.{count_of}
use Rattle.vc_plan.specs.Gives.{Giver, by_rule, by_user, by_entry}
use Rattle.vc_plan.specs.Reads.{vars_of_term, vars_of_condition}
use Rattle.vc_plan.specs.Restrictions.{is_inferred}
use Rattle.vc_plan.specs.Seen.{slot_in, parent_in}

-- a slot or a variable
pub data Thing : Type 0 where
  slot_at : ℕ → Thing
  var_at : ℕ → Thing

abbrev pub same_thing : Thing → Thing → Bool
same_thing (slot_at i) (slot_at j) = i == j
same_thing (slot_at i) (var_at w) = false
same_thing (var_at v) (slot_at j) = false
same_thing (var_at v) (var_at w) = v == w

-- whether the list has the thing
abbrev pub has_thing : List Thing → Thing → Bool
has_thing things thing = has same_thing things thing

-- what an atom is of
abbrev pub thing_of : Atom → Thing
thing_of (Here i) = slot_at i
thing_of (Out v g) = var_at v
thing_of (Is v a) = var_at v

-- how many atoms there may be of a thing: one of a slot, one for each grain of a variable and one for its value
abbrev pub size_of : Plan → Thing → ℕ
size_of plan (slot_at i) = 1
size_of plan (var_at v) = count_of plan v + 1

-- the slot of a variable, and the parent of a slot
abbrev pub slots_of_var : Plan → ℕ → List ℕ
slots_of_var plan v = option_to_list (slot_in (slice_get plan.vars v))

abbrev pub parents_of : Plan → ℕ → List ℕ
parents_of plan i = option_to_list (parent_in (slice_get plan.slots i))

-- the variables that two terms read
abbrev pub vars_of_sides : Plan → ℕ → ℕ → List ℕ
vars_of_sides plan a b = vars_of_term (slice_get plan.terms a) ++ vars_of_term (slice_get plan.terms b)

-- the variable that is given to a column
abbrev pub vars_of_operand : Operand → List ℕ
vars_of_operand (Constant a) = []
vars_of_operand (Variable v) = v ∷ []

abbrev pub vars_of_column : Binding → List ℕ
vars_of_column column = vars_of_operand column.operand

-- the variables of what a rule says: those of a constraint's restriction, or the one whose last grain is meant
abbrev pub vars_of_kind : Plan → Kind → List ℕ
vars_of_kind plan (Among v restriction) = v ∷ []
vars_of_kind plan (Compare r a b) = vars_of_sides plan a b
vars_of_kind plan (Equate a b) = vars_of_sides plan a b
vars_of_kind plan (ByTable table columns) = flat_map vars_of_column columns
vars_of_kind plan Never = []
vars_of_kind plan (Last v) = v ∷ []
vars_of_kind plan (Line i) = []

-- the slots that it looks at besides those of the rule
abbrev pub slots_of_kind : Plan → Kind → List ℕ
slots_of_kind plan (Among v restriction) = []
slots_of_kind plan (Compare r a b) = []
slots_of_kind plan (Equate a b) = []
slots_of_kind plan (ByTable table columns) = []
slots_of_kind plan Never = []
slots_of_kind plan (Last v) = slots_of_var plan v
slots_of_kind plan (Line i) = parents_of plan i

-- what a rule reads: its slots, and the variables of its condition and of what it says
abbrev pub rule_reads : Plan → Rule → List Thing
rule_reads plan rule =
    map slot_at (rule.slots ++ slots_of_kind plan rule.kind)
    ++ map var_at (vars_of_condition (slice_get plan.conditions rule.condition) ++ vars_of_kind plan rule.kind)

-- the inferred variables of a restriction
abbrev pub inferred_of : Plan → Rule → Kind → List Thing
inferred_of plan rule kind = map var_at (filter (is_inferred rule) (vars_of_kind plan kind))

-- what it writes
abbrev pub kind_writes : Plan → Rule → Kind → List Thing
kind_writes plan rule (Among v restriction) = inferred_of plan rule (Among v restriction)
kind_writes plan rule (Compare r a b) = inferred_of plan rule (Compare r a b)
kind_writes plan rule (Equate a b) = inferred_of plan rule (Equate a b)
kind_writes plan rule (ByTable table columns) = inferred_of plan rule (ByTable table columns)
kind_writes plan rule Never = []
kind_writes plan rule (Last v) = var_at v ∷ []
kind_writes plan rule (Line i) = slot_at i ∷ []

abbrev pub rule_writes : Plan → Rule → List Thing
rule_writes plan rule = kind_writes plan rule rule.kind

-- whether the rule reads or writes the thing
abbrev pub touches : Plan → Rule → Thing → Bool
touches plan rule thing = has_thing (rule_reads plan rule) thing || has_thing (rule_writes plan rule) thing

-- the same of givers: a source reads its variable's slot alone, and writes the variable
abbrev pub reads_in : Plan → Option Rule → List Thing
reads_in plan None = []
reads_in plan (Some rule) = rule_reads plan rule

abbrev pub writes_in : Plan → Option Rule → List Thing
writes_in plan None = []
writes_in plan (Some rule) = rule_writes plan rule

abbrev pub giver_reads : Plan → Giver → List Thing
giver_reads plan (by_rule r) = reads_in plan (slice_get plan.rules r)
giver_reads plan (by_user v) = map slot_at (slots_of_var plan v)
giver_reads plan (by_entry v) = map slot_at (slots_of_var plan v)

abbrev pub giver_writes : Plan → Giver → List Thing
giver_writes plan (by_rule r) = writes_in plan (slice_get plan.rules r)
giver_writes plan (by_user v) = var_at v ∷ []
giver_writes plan (by_entry v) = var_at v ∷ []
