-- The first fact wakes whom it wakes, if it was dropped.
use Rattle.std.proofs.Common.{[], ◌∙◌, ap, get_or, sym}
use Rattle.std.specs.Prelude.{if◌then◌else◌}
use Rattle.vc_plan.specs.declared.atoms.Atom.TheVariants.{Here}
use Rattle.vc_plan.specs.declared.atoms.Origin.TheVariants.{Rule}
use Rattle.vc_plan.specs.Seen.{seen_of}
use Rattle.vc_plan_reasons.specs.Checking.{concluded, set_with}
use Rattle.vc_plan_reasons.specs.Things.{thing_of}
use Rattle.vc_net_standing.specs.declared.standing.Fact.{Fact}
use Rattle.vc_net_waking.specs.Waking.{waking, with_givers}
use Rattle.vc_net_going.proofs.RenewLaws.{dropped_rest}
use Rattle.vc_net_going.proofs.asking.wake_dropped.Goals as goal

-- what is read past the end
abbrev nobody : Fact
nobody = record { atom = Here 0; origin = Rule 0 }

pub loop-rest-preserved-then-not-has : goal.loop-rest-preserved-then-not-has
loop-rest-preserved-then-not-has c =
    let plan = c.args.plan.now in
    let stand = concluded c.args.log.now.steps in
    let fact : Fact = get_or c.loop-rest.rest.now 0 nobody in
    dropped_rest plan c.args.sources.now stand c.loop-rest.rest.now nobody c.loop-rest.agenda c.wake.new.agenda
    c.in-len1-up.len_at_least
    (c.wake.ensures
    ∙ sym (ap (λ b. with_givers c.loop-rest.agenda
    (if b then [] else waking plan c.args.sources.now (seen_of (set_with stand)) (thing_of fact.atom)))
    (sym c.has.ensures ∙ c.if-not-has.true)))
    ∙ c.loop-rest.invariant
