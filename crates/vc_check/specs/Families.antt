-- Givers of one sort, and whether none of them gives more.
use Rattle.std.specs.Prelude.{ℕ, Bool, ◌&&◌, List}
use Rattle.std.specs.List.{list_all}
use Rattle.vc_plan.specs.declared.atoms.Atom.{Atom}
use Rattle.vc_plan.specs.declared.plans.Plan.{Plan}
use Rattle.vc_plan.specs.Clear.{is_clear}
use Rattle.vc_plan.specs.Gives.{Giver, by_rule, by_user, by_entry, gives, givers_of}
use Rattle.vc_plan.specs.Seen.{seen_of}
use Rattle.vc_plan.specs.Sources.{Sources}
use Rattle.vc_plan_reasons.specs.Checking.{is_silent}
use Rattle.vc_check.specs.declared.settling.Family.{Family}
use Rattle.vc_check.specs.declared.settling.Family.TheVariants.{Rules, Users, Entries}

abbrev pub member_of : Family → ℕ → Giver
member_of Rules n = by_rule n
member_of Users n = by_user n
member_of Entries n = by_entry n

abbrev pub is_silent_in : Plan → Sources → Family → List Atom → ℕ → Bool
is_silent_in plan sources family set n = is_silent (gives plan sources (member_of family n) (seen_of set))

abbrev pub all_are_silent : Plan → Sources → List Atom → Bool
all_are_silent plan sources set =
    list_all (λ giver. is_silent (gives plan sources giver (seen_of set))) (givers_of plan)

abbrev pub is_closed : Plan → Sources → List Atom → Bool
is_closed plan sources set = is_clear plan set && all_are_silent plan sources set
