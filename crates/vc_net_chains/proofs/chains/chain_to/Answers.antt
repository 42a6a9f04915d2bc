-- The chain is what the step of this number needs of the steps up to it.
use Rattle.std.proofs.Common.{refl}
use Rattle.vc_net_chains.proofs.LeftLaws.{chain_told}
use Rattle.vc_net_chains.proofs.chains.chain_to.Goals as goal

pub returns : goal.returns
returns c =
    chain_told c.args.log.now.steps c.args.place _ _ c.in_ok-steps.field-0 c.requires.there refl refl
    c.in_ok-steps.ensures
