-- Worked rows of agendas, by computing. Beside what is so stands what would be so by a likely slip, and isn't.
use Rattle.std.proofs.Common.{◌≡◌, ℕ, [], ◌∷◌, refl}
use Rattle.std.specs.Prelude.{None, Some, ◌≢◌}
use Rattle.vc_plan.specs.Gives.{by_entry, by_rule, by_user}
use Rattle.vc_rule_yield.specs.Filling.{Filled}
use Rattle.vc_net_agenda.specs.Agendas.{Awaited, added, giver_at, number_of}
use Rattle.vc_net_agenda.specs.Pending.{pushed}

-- two rules and three variables: numbers 0 and 1, 2 to 4, and 5 to 7
first_rule : giver_at 2 3 0 ≡ by_rule 0
first_rule = refl

last_rule : giver_at 2 3 1 ≡ by_rule 1
last_rule = refl

first_user : giver_at 2 3 2 ≡ by_user 0
first_user = refl

last_user : giver_at 2 3 4 ≡ by_user 2
last_user = refl

first_entry : giver_at 2 3 5 ≡ by_entry 0
first_entry = refl

still_a_user : giver_at 2 3 5 ≢ by_user 3
still_a_user e = cc

entry_number : number_of 2 3 (by_entry 2) ≡ Some 7
entry_number = refl

past_rules : number_of 2 3 (by_rule 2) ≡ None
past_rules = refl

past_vars : number_of 2 3 (by_user 3) ≡ None
past_vars = refl

-- one comes as the last, not twice, and only if it is there
abbrev one_waits : Awaited
one_waits = record { rules = 2; vars = 3; givers = by_rule 1 ∷ [] }

another : added one_waits (by_user 1) ≡ record { rules = 2; vars = 3; givers = by_rule 1 ∷ by_user 1 ∷ [] }
another = refl

again : added one_waits (by_rule 1) ≡ one_waits
again = refl

not_there : added one_waits (by_entry 3) ≡ one_waits
not_there = refl

-- so do numbers
abbrev two_wait : Filled ℕ
two_wait = record { items = 2 ∷ 0 ∷ []; room = 3 }

number_comes : pushed two_wait 1 ≡ record { items = 2 ∷ 0 ∷ 1 ∷ []; room = 3 }
number_comes = refl

number_again : pushed two_wait 2 ≡ two_wait
number_again = refl

past_the_limit : pushed two_wait 3 ≡ two_wait
past_the_limit = refl
