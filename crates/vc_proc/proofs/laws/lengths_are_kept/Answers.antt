use Rattle.vc_proc.proofs.StageLaws.{none_are_replicas, stages_keep_lengths}
use Rattle.vc_proc.proofs.laws.lengths_are_kept.Goals as goal

pub returns-clause-none : goal.returns-clause-none
returns-clause-none c = none_are_replicas

pub returns-clause-stages : goal.returns-clause-stages
returns-clause-stages c = stages_keep_lengths
