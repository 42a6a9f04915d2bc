-- Givers as they are told, and what they say.
use Rattle.std.specs.Prelude.{ℕ, if◌then◌else◌, Option, None, Some}
use Rattle.vc_base.specs.Rounds.{Given}
use Rattle.vc_plan.specs.declared.atoms.Atom.{Atom}
use Rattle.vc_plan.specs.declared.plans.Plan.{Plan}
use Rattle.vc_plan.specs.Gives as gives
use Rattle.vc_plan.specs.Seen.{Seen}
use Rattle.vc_plan.specs.Sources.{Sources, entry_of}
use Rattle.vc_plan.specs.TableRows.{by_table}
use Rattle.vc_plan_reasons.specs.Checking.{is_by}
use Rattle.vc_check_gives.specs.Parts.{given_by}
use Rattle.vc_check_givers.specs.declared.givers.Giver.{Giver}
use Rattle.vc_check_givers.specs.declared.givers.Giver.TheVariants.{Rule, User, Entry}
use Rattle.vc_check_givers.specs.declared.said.Said.{Said}
use Rattle.vc_check_givers.specs.declared.said.Said.TheVariants.{Of, ByTable}

abbrev pub giver_meant : Giver → gives.Giver
giver_meant (Rule r) = gives.by_rule r
giver_meant (User v) = gives.by_user v
giver_meant (Entry v) = gives.by_entry v

-- the entry of the variable, if it is by this statement
abbrev pub written_by : Sources → ℕ → ℕ → ℕ → Option gives.Giver
written_by sources procedure statement v =
    if is_by procedure statement (entry_of sources v) then Some (gives.by_entry v) else None

-- what is said
abbrev pub said_given : Plan → Seen → Said → Given Atom
said_given plan seen (Of parts) = given_by plan parts
said_given plan seen (ByTable rule table columns) = by_table plan seen rule.now table columns.now
