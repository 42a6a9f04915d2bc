use Rattle.vc_plan_reasons.proofs.ReasonLaws.Trimming.{trimmed_clashes_refute, trimmed_is_a_chain}
use Rattle.vc_plan_reasons.proofs.ReasonLaws.Trimming.{trimming_keeps_acceptance}
use Rattle.vc_plan_reasons.proofs.laws.trimmed_lists_are_accepted.Goals as goal

pub returns-clause-accepted : goal.returns-clause-accepted
returns-clause-accepted c = trimming_keeps_acceptance

pub returns-clause-chains : goal.returns-clause-chains
returns-clause-chains c = trimmed_is_a_chain

pub returns-clause-clashes : goal.returns-clause-clashes
returns-clause-clashes c = trimmed_clashes_refute
