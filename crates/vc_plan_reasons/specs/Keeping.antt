-- What is kept of a log when its sources change.
use Rattle.std.specs.Prelude.{ℕ, Bool, true, false, not, ◌&&◌, ◌||◌, ◌==◌, List, [], length, Option, None, Some}
use Rattle.std.specs.List.{filter}
use Rattle.vc_base.specs.Kept.{kept}
use Rattle.vc_value.specs.declared.value.Value.{Value}
use Rattle.vc_plan.specs.declared.atoms.Mark.{Mark}
use Rattle.vc_plan.specs.declared.atoms.Mark.TheVariants.{Held, Outside}
use Rattle.vc_plan.specs.declared.atoms.Origin.{Origin}
use Rattle.vc_plan.specs.declared.atoms.Origin.TheVariants.{Rule, User, Written}
use Rattle.vc_plan.specs.declared.atoms.Step.{Step}
use Rattle.vc_plan.specs.declared.plans.Plan.{Plan}
use Rattle.vc_plan.specs.Domains.{numbers_below}
use Rattle.vc_plan.specs.Pieces.{same_value}
use Rattle.vc_plan.specs.Sources.{Sources, Entry, user_of, entry_of}
use Rattle.vc_plan_reasons.specs.Checking.{step_form, var_of}

-- whether two values, marks or entries are the same
abbrev pub same_user : Option Value → Option Value → Bool
same_user None None = true
same_user None (Some b) = false
same_user (Some a) None = false
same_user (Some a) (Some b) = same_value a b

abbrev pub same_mark : Mark → Mark → Bool
same_mark (Held a) (Held b) = same_value a b
same_mark (Held a) Outside = false
same_mark Outside (Held b) = false
same_mark Outside Outside = true

abbrev pub same_entry : Option Entry → Option Entry → Bool
same_entry None None = true
same_entry None (Some f) = false
same_entry (Some e) None = false
same_entry (Some e) (Some f) = same_mark e.mark f.mark && ((e.procedure == f.procedure) && (e.statement == f.statement))

-- whether the variable's value by the user, or its entry, differs between two sources
abbrev pub user_differs : Sources → Sources → ℕ → Bool
user_differs old new v = not (same_user (user_of old v) (user_of new v))

abbrev pub entry_differs : Sources → Sources → ℕ → Bool
entry_differs old new v = not (same_entry (entry_of old v) (entry_of new v))

-- the variables for which either differs
abbrev pub changed : Plan → Sources → Sources → List ℕ
changed plan old new =
    filter (λ v. user_differs old new v || entry_differs old new v) (numbers_below (length plan.vars))

-- whether the source that is an atom's origin differs; a rule is none
abbrev pub origin_differs : Sources → Sources → Origin → Option ℕ → Bool
origin_differs old new (Rule r) v = false
origin_differs old new User None = false
origin_differs old new User (Some v) = user_differs old new v
origin_differs old new (Written procedure statement) None = false
origin_differs old new (Written procedure statement) (Some v) = entry_differs old new v

abbrev pub is_gone : Sources → Sources → Step → Bool
is_gone old new step = origin_differs old new step.origin (var_of step.conclusion)

-- the log without the steps whose source differs, and without those that cite a step that was dropped, in order and
-- renumbered
abbrev pub kept_of : Sources → Sources → List Step → List Step
kept_of old new log = kept step_form (is_gone old new) [] 0 log
