-- Sources that tell nothing, and rules that rest.
use Rattle.std.proofs.Common.{◌≡◌, ℕ, Bool, true, false, List, refl, ap, sym, ◌∙◌, inl, inr}
use Rattle.std.specs.Prelude.{if◌then◌else◌, is_none, slice_get, Option, None, Some}
use Rattle.std.proofs.lemmas.Bool.{or_cases}
use Rattle.vc_base.specs.Rounds.{Given}
use Rattle.vc_plan.specs.declared.atoms.Atom.{Atom}
use Rattle.vc_plan.specs.declared.plans.Plan.{Plan}
use Rattle.vc_plan.specs.declared.rules.Rule.{Rule}
use Rattle.vc_plan.specs.Answers.{fresh, nothing}
use Rattle.vc_plan.specs.Clear.{is_clear}
use Rattle.vc_plan.specs.Gives.{Giver, by_rule, by_user, by_entry, entry_says, gives, if_here, rule_says, value_says}
use Rattle.vc_plan.specs.Seen.{Seen, is_here, seen_of}
use Rattle.vc_plan.specs.Sources.{Sources, entry_of, user_of}
use Rattle.vc_plan_reasons.specs.Checking.{is_silent}
use Rattle.vc_rule_premises.specs.Saying.{given_of, said_from}
use Rattle.vc_rule.specs.Resting.{rests}
use Rattle.vc_rule.proofs.RestingLaws.{resting_find_nothing}
use Rattle.vc_rule.proofs.BoundLaws.{clear_lies_in_grains}
use Rattle.vc_net_sources.specs.Asking.{is_last_of_known, rests_at, rests_if, tells_nothing, why_there}
use Rattle.vc_net_sources.specs.Laws.{RestingAreQuiet, SilentSourcesCostNothing, SilentSourcesFindNothing}
use Rattle.vc_net_sources.proofs.GiverLaws.{found_is_given}
use Rattle.vc_net_sources.proofs.LastLaws.{known_is_silent}

none_from : {A : Type 0} (o : Option A) → is_none o ≡ true → o ≡ None
none_from None e = refl
none_from (Some x) e = absurd (cc e)

nothing_here : (plan : Plan) (seen : Seen) (v : ℕ) → if_here plan seen v nothing ≡ nothing
nothing_here plan seen v = by (is_here plan seen v)
  where
    told : Given Atom
    told = nothing

    by : (b : Bool) → (if b then told else told) ≡ told
    by true = refl
    by false = refl

pub silent_sources_find_nothing : SilentSourcesFindNothing
silent_sources_find_nothing plan sources seen (by_rule r) e = absurd (cc e)
silent_sources_find_nothing plan sources seen (by_user v) e =
    ap (λ value. said_from seen (why_there plan v) (if_here plan seen v (value_says v value)))
    (none_from (user_of sources v) e)
    ∙ ap (said_from seen (why_there plan v)) (nothing_here plan seen v)
silent_sources_find_nothing plan sources seen (by_entry v) e =
    ap (λ entry. said_from seen (why_there plan v) (if_here plan seen v (entry_says v entry)))
    (none_from (entry_of sources v) e)
    ∙ ap (said_from seen (why_there plan v)) (nothing_here plan seen v)

pub silent_sources_cost_nothing : SilentSourcesCostNothing
silent_sources_cost_nothing sources (by_rule r) e = absurd (cc e)
silent_sources_cost_nothing sources (by_user v) e = refl
silent_sources_cost_nothing sources (by_entry v) e = refl

-- a rule that rests finds nothing where values lie in grains; or it is that of the last grain of a known variable
rule_quiet : (plan : Plan) (sources : Sources) (set : List Atom) (r : ℕ) → is_clear plan set ≡ true
    → rests_at plan (seen_of set) r ≡ true
    → is_silent (gives plan sources (by_rule r) (seen_of set)) ≡ true
rule_quiet plan sources set r clear e = by (slice_get plan.rules r) refl e
  where
    by : (o : Option Rule) → slice_get plan.rules r ≡ o → rests_if plan (seen_of set) o ≡ true
        → is_silent (gives plan sources (by_rule r) (seen_of set)) ≡ true
    by None there e = absurd (cc)
    by (Some rule) there e =
        elim (or_cases (is_last_of_known (seen_of set) rule.kind) (rests plan (seen_of set) rule.kind) e) [
          | inl known ↦
              ap (λ o. is_silent (fresh (seen_of set) (rule_says plan (seen_of set) o))) there
              ∙ known_is_silent plan set rule clear known
          | inr rest ↦
              ap is_silent (sym (found_is_given plan sources (seen_of set) (by_rule r))
              ∙ ap given_of
              (resting_find_nothing plan (seen_of set) r rule (clear_lies_in_grains plan set clear) there rest))
        ]

-- a source that tells nothing is quiet
source_quiet : (plan : Plan) (sources : Sources) (set : List Atom) (giver : Giver)
    → tells_nothing sources giver ≡ true → is_silent (gives plan sources giver (seen_of set)) ≡ true
source_quiet plan sources set giver e =
    ap is_silent (sym (found_is_given plan sources (seen_of set) giver)
    ∙ ap given_of (silent_sources_find_nothing plan sources (seen_of set) giver e))

pub resting_are_quiet : RestingAreQuiet
resting_are_quiet plan sources set (by_rule r) clear e = rule_quiet plan sources set r clear e
resting_are_quiet plan sources set (by_user v) clear e = source_quiet plan sources set (by_user v) e
resting_are_quiet plan sources set (by_entry v) clear e = source_quiet plan sources set (by_entry v) e
