-- The last step is asked by the ending, and asks for what it cites.
use Rattle.std.proofs.Common.{◌≡◌, ◌∙◌, ◌++◌, List, ℕ, Bool, ap, map, take}
use Rattle.std.specs.Prelude.{Some}
use Rattle.vc_plan_reasons.specs.Trimming.{needed}
use Rattle.vc_net_chains.specs.Leaving.{all_left, counted, number_in, one_left}
use Rattle.vc_net_chains.proofs.LastLaws.{trimmed_with_last}
use Rattle.vc_net_chains.proofs.chains.trim_with.Goals as goal

pub returns : goal.returns
returns c =
    let all = c.args.log.now.steps in
    let last = c.args.last.now in
    let cited : Bool = c.is_among-cited.result in
    let count : ℕ = c.count-count.result in
    let flags : List Bool = c.push.new.self in
    let numbers : c.in_ok-numbers.numbers ≡ counted 0 flags
    = c.in_ok-numbers.ensures ∙ ap (counted 0) c.as_slice-2.ensures in
    trimmed_with_last c.args.ending.now c.in_ok-asked.asked all c.in_ok-steps.steps last cited count
    c.in_ok-flags.flags flags _ c.count-count.ensures c.is_among-cited.ensures c.in_ok-asked.ensures
    (c.in_ok-flags.ensures.found ∙ ap (λ (a : List ℕ). needed a 1 (take count all)) c.as_slice.ensures)
    c.in_ok-push.ensures.ok
    (c.in_ok-steps.ensures
    ∙ (ap (λ (ns : List ℕ). all_left ns all 0 c.as_slice-4.result.now) (c.as_slice-3.ensures ∙ numbers)
    ∙ ap (λ (fs : List Bool). all_left (counted 0 flags) all 0 fs) c.as_slice-4.ensures))
    (c.in_ok-push_last.ensures
    ∙ ap (λ (ns : List ℕ). c.in_ok-steps.steps ++ one_left ns cited (Some last)) (c.as_slice-5.ensures ∙ numbers))
    (c.in_ok-ending.ensures
    ∙ ap (λ (ns : List ℕ). map (number_in ns) c.args.ending.now) (c.as_slice-6.ensures ∙ numbers))
