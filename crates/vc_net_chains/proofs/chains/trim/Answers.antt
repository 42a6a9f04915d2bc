-- The steps that the flags leave are those that the ending needs.
use Rattle.std.proofs.Common.{◌≡◌, ◌∙◌, List, ℕ, Bool, ap, map}
use Rattle.vc_net_chains.specs.Leaving.{all_left, counted, number_in}
use Rattle.vc_net_chains.proofs.LeftLaws.{trimmed_told}
use Rattle.vc_net_chains.proofs.chains.trim.Goals as goal

pub returns : goal.returns
returns c =
    let all = c.args.log.now.steps in
    let flags : List Bool = c.in_ok-flags.flags in
    let numbers : c.in_ok-numbers.numbers ≡ counted 0 flags
    = c.in_ok-numbers.ensures ∙ ap (counted 0) c.as_slice.ensures in
    trimmed_told c.args.ending.now all c.args.count flags _ c.requires.there c.in_ok-flags.ensures.found
    (c.in_ok-steps.ensures
    ∙ (ap (λ (ns : List ℕ). all_left ns all 0 c.as_slice-3.result.now) (c.as_slice-2.ensures ∙ numbers)
    ∙ ap (λ (fs : List Bool). all_left (counted 0 flags) all 0 fs) c.as_slice-3.ensures))
    (c.in_ok-ending.ensures
    ∙ ap (λ (ns : List ℕ). map (number_in ns) c.args.ending.now) (c.as_slice-4.ensures ∙ numbers))
