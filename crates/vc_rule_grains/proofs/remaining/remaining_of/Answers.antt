-- What is left holds the value that the variable has, or that the test passes alone.
use Rattle.std.proofs.Common.{ℕ, ◌&&◌, ◌∙◌, ap, sym}
use Rattle.std.proofs.lemmas.Bool.{and_parts}
use Rattle.std.specs.Prelude.{None, Some, slice_get}
use Rattle.vc_plan.specs.Domains.{count_of, grains_of, is_grain_with}
use Rattle.vc_plan.specs.Seen.{is_left_by}
use Rattle.vc_rule_grains.specs.Remaining.{left_by, remaining_of}
use Rattle.vc_rule_grains.proofs.FindingLemmas.{only_there, passes_only}
use Rattle.vc_rule_grains.proofs.remaining.remaining_of.Goals as goal

pub returns-in-Some : goal.returns-in-Some
returns-in-Some g c =
    let plan = c.args.plan.now in
    let seen = g.V.View.seen c.args.view.now in
    let v = c.args.var in
    let test = g.T.Test.passes c.args.test.now in
    let own = c.in-Some.own in
    let p = λ (n : ℕ). is_left_by plan seen v n (Some own) && is_grain_with plan v test n in
    c.remaining_at.ensures
    ∙ (ap remaining_of (only_there plan v own p (count_of plan v) c.grain_of.result c.requires.proper
    (λ n h. (and_parts (is_left_by plan seen v n (Some own)) (is_grain_with plan v test n) h).0) c.grain_of.ensures)
    ∙ ap (λ o. remaining_of (left_by plan seen v o test)) (sym c.in-Some.is))

pub returns-in-Some-only : goal.returns-in-Some-only
returns-in-Some-only g c =
    let plan = c.args.plan.now in
    let seen = g.V.View.seen c.args.view.now in
    let v = c.args.var in
    let test = g.T.Test.passes c.args.test.now in
    let only = c.in-Some-only.only in
    let p = λ (n : ℕ). is_left_by plan seen v n None && is_grain_with plan v test n in
    c.remaining_at-in-Some-only.ensures
    ∙ (ap remaining_of (only_there plan v only p (count_of plan v) c.grain_of-in-Some-only.result c.requires.proper
    (λ n h. passes_only test only c.in-Some-only.ensures (slice_get (grains_of plan v) n)
    (and_parts (is_left_by plan seen v n None) (is_grain_with plan v test n) h).1) c.grain_of-in-Some-only.ensures)
    ∙ ap (λ o. remaining_of (left_by plan seen v o test)) (sym c.in-None.is))
