-- What rules and sources give.
use Rattle.std.specs.Prelude.{ℕ, Bool, not, ◌&&◌, if◌then◌else◌, List, [], ◌∷◌, ◌++◌, length, map, slice_get, Option}
use Rattle.std.specs.Prelude.{None, Some}
use Rattle.std.specs.List.{filter, list_all}
use Rattle.vc_base.specs.Rounds.{Given, clash, atoms}
use Rattle.vc_value.specs.declared.value.Value.{Value}
use Rattle.vc_plan.specs.declared.atoms.Atom.{Atom}
use Rattle.vc_plan.specs.declared.atoms.Atom.TheVariants.{Here, Is}
use Rattle.vc_plan.specs.declared.atoms.Mark.{Mark}
use Rattle.vc_plan.specs.declared.atoms.Mark.TheVariants.{Held, Outside}
use Rattle.vc_plan.specs.declared.plans.Plan.{Plan}
use Rattle.vc_plan.specs.declared.rules.Kind.{Kind}
use Rattle.vc_plan.specs.declared.rules.Kind.TheVariants.{Among, Compare, Equate, ByTable, Never, Last, Line}
use Rattle.vc_plan.specs.declared.rules.Rule.{Rule}
use Rattle.vc_plan.specs.Answers.{nothing, fresh, last_atoms}
use Rattle.vc_plan.specs.Domains.{numbers_below, count_of}
use Rattle.vc_plan.specs.Kleene.{is_true}
use Rattle.vc_plan.specs.Readings.{net_reading}
use Rattle.vc_plan.specs.Restrictions.{among, compare, equate}
use Rattle.vc_plan.specs.Seen.{Seen, is_here, is_parent_here}
use Rattle.vc_plan.specs.Sources.{Sources, Entry, user_of, entry_of}
use Rattle.vc_plan.specs.TableRows.{by_table}
use Rattle.vc_plan.specs.Truth.{truth_at}

-- whether the rule acts: all its slots are here and its condition is true
abbrev pub acts : Plan → Seen → Rule → Bool
acts plan seen rule = list_all seen.here rule.slots && is_true (truth_at plan (net_reading seen) rule.condition)

-- the variable's grains that aren't out
abbrev pub not_out : Plan → Seen → ℕ → List ℕ
not_out plan seen v = filter (λ g. not (seen.out v g)) (numbers_below (count_of plan v))

-- what a rule that acts says, whether it stands or not
abbrev pub kind_gives : Plan → Seen → Rule → Kind → Given Atom
kind_gives plan seen rule (Among v restriction) = among plan seen rule v restriction
kind_gives plan seen rule (Compare r a b) = compare plan seen rule r a b
kind_gives plan seen rule (Equate a b) = equate plan seen rule a b
kind_gives plan seen rule (ByTable table columns) = by_table plan seen rule table columns
kind_gives plan seen rule Never = clash
kind_gives plan seen rule (Last v) = atoms (if is_here plan seen v then last_atoms plan v (not_out plan seen v) else [])
kind_gives plan seen rule (Line i) = atoms (if is_parent_here plan seen i then Here i ∷ [] else [])

-- what a rule says, if it is there and acts
abbrev pub rule_says : Plan → Seen → Option Rule → Given Atom
rule_says plan seen None = nothing
rule_says plan seen (Some rule) = let said = kind_gives plan seen rule rule.kind in if acts plan seen rule
    then said else nothing

-- what a value of the variable says
abbrev pub value_says : ℕ → Option Value → Given Atom
value_says v None = nothing
value_says v (Some a) = atoms (Is v a ∷ [])

-- what a mark says: its value, or a clash
abbrev pub mark_says : ℕ → Mark → Given Atom
mark_says v (Held a) = atoms (Is v a ∷ [])
mark_says v Outside = clash

abbrev pub entry_says : ℕ → Option Entry → Given Atom
entry_says v None = nothing
entry_says v (Some entry) = mark_says v entry.mark

-- what a source says where its variable's slot is here
abbrev pub if_here : Plan → Seen → ℕ → Given Atom → Given Atom
if_here plan seen v said = if is_here plan seen v then said else nothing

-- what gives atoms: a rule by its number, the user's value of a variable, the entry of a variable
pub data Giver : Type 0 where
  by_rule : ℕ → Giver
  by_user : ℕ → Giver
  by_entry : ℕ → Giver

-- what a giver says, whether it stands or not
abbrev pub giver_says : Plan → Sources → Giver → Seen → Given Atom
giver_says plan sources (by_rule r) seen = rule_says plan seen (slice_get plan.rules r)
giver_says plan sources (by_user v) seen = if_here plan seen v (value_says v (user_of sources v))
giver_says plan sources (by_entry v) seen = if_here plan seen v (entry_says v (entry_of sources v))

-- what a giver gives: a clash, or what it says and doesn't stand yet
abbrev pub gives : Plan → Sources → Giver → Seen → Given Atom
gives plan sources giver seen = fresh seen (giver_says plan sources giver seen)

-- all rules, and of each variable the user's value and the entry
abbrev pub givers_of : Plan → List Giver
givers_of plan =
    map by_rule (numbers_below (length plan.rules))
    ++ (map by_user (numbers_below (length plan.vars)) ++ map by_entry (numbers_below (length plan.vars)))
