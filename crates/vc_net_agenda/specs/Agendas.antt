-- Agendas: givers that are to be asked, and their numbers.
use Rattle.std.specs.Prelude.{◌≡◌, ℕ, ◌+◌, ◌-◌, ◌≤◌, Bool, true, not, ◌&&◌, nat_lt, if◌then◌else◌, List, [], ◌∷◌, ◌++◌}
use Rattle.std.specs.Prelude.{length, map, Option, None, Some}
use Rattle.std.specs.List.{list_all}
use Rattle.vc_base.specs.Sets.{has, Within}
use Rattle.vc_plan.specs.declared.plans.Plan.{Plan}
use Rattle.vc_plan.specs.Gives.{Giver, by_entry, by_rule, by_user, givers_of}
use Rattle.vc_rule_yield.specs.Filling.{Filled}
use Rattle.vc_net_laws.specs.Working.{same_giver}
use Rattle.vc_net_agenda.specs.declared.givers.Giver.{Giver as Named}
use Rattle.vc_net_agenda.specs.declared.givers.Giver.TheVariants.{Entry, Rule, User}

-- the giver that is meant
abbrev pub meant : Named → Giver
meant (Rule r) = by_rule r
meant (User v) = by_user v
meant (Entry v) = by_entry v

-- how many rules and variables there are, and the givers that are to be asked; the last is the next
pub record Awaited : Type 0 where
  pub rules : ℕ
  pub vars : ℕ
  pub givers : List Giver

abbrev pub nobody_on : ℕ → ℕ → Awaited
nobody_on rules vars = record { rules = rules; vars = vars; givers = [] }

-- with the giver as the next
abbrev pub with_next : Awaited → Giver → Awaited
with_next agenda giver = record { rules = agenda.rules; vars = agenda.vars; givers = agenda.givers ++ giver ∷ [] }

-- whether it is a rule or a source of a variable that is there
abbrev pub is_of : Awaited → Giver → Bool
is_of agenda (by_rule r) = nat_lt r agenda.rules
is_of agenda (by_user v) = nat_lt v agenda.vars
is_of agenda (by_entry v) = nat_lt v agenda.vars

-- the same, where it is there and isn't to be asked already
abbrev pub added : Awaited → Giver → Awaited
added agenda giver = if is_of agenda giver
    && not (has same_giver agenda.givers giver) then with_next agenda giver else agenda

-- numbers of givers: first the rules, then the users' values, then the entries
abbrev pub giver_at : ℕ → ℕ → ℕ → Giver
giver_at rules vars n =
    if nat_lt n rules then by_rule n
    else (if nat_lt n (rules + vars) then by_user (n - rules) else by_entry (n - (rules + vars)))

abbrev pub number_of : ℕ → ℕ → Giver → Option ℕ
number_of rules vars (by_rule r) = if nat_lt r rules then Some r else None
number_of rules vars (by_user v) = if nat_lt v vars then Some (rules + v) else None
number_of rules vars (by_entry v) = if nat_lt v vars then Some (rules + (vars + v)) else None

-- the agenda of numbers that wait
abbrev pub awaited_in : ℕ → ℕ → List ℕ → Awaited
awaited_in rules vars numbers = record { rules = rules; vars = vars; givers = map (giver_at rules vars) numbers }

-- all numbers that wait or may wait are those of givers
pub record IsNumbered (rules vars : ℕ) (pending : Filled ℕ) : Type 0 where
  pub room : pending.room ≡ rules + (vars + vars)
  pub below : list_all (λ n. nat_lt n (rules + (vars + vars))) pending.items ≡ true

-- who waits still waits when a giver comes; the giver waits then, if it is there; and no more than one more waits
abbrev pub OthersStillWait : Type 0
OthersStillWait = (agenda : Awaited) (giver : Giver) → Within same_giver agenda.givers (added agenda giver).givers

abbrev pub WhoComesWaits : Type 0
WhoComesWaits = (agenda : Awaited) (giver : Giver) → is_of agenda giver ≡ true
    → has same_giver (added agenda giver).givers giver ≡ true

abbrev pub OneMoreWaits : Type 0
OneMoreWaits = (agenda : Awaited) (giver : Giver) → length (added agenda giver).givers ≤ length agenda.givers + 1

-- the givers of a plan are there on an agenda of so many rules and variables
abbrev pub GiversAreThere : Type 0
GiversAreThere = (plan : Plan) (waiting : List Giver) (giver : Giver) → has same_giver (givers_of plan) giver ≡ true
    → is_of (record { rules = length plan.rules; vars = length plan.vars; givers = waiting }) giver ≡ true
