-- Whatever a statement writes is among them.
use Rattle.std.proofs.Common.{◌∙◌, ◌++◌, ap, subst, sym}
use Rattle.std.specs.List.{flat_map}
use Rattle.vc_net.specs.Differing.{AreAllWritten}
use Rattle.vc_session_evaluation.specs.Writing.{procedure_written}
use Rattle.vc_session_evaluation.proofs.WritingLaws.{all_are_written}
use Rattle.vc_session_evaluation.proofs.writing.all_written.Goals as goal

pub returns-clause-all : goal.returns-clause-all
returns-clause-all c =
    subst (AreAllWritten c.args.plan.now)
    (sym (c.in_ok-put_procedures.ensures
    ∙ ap (λ front. front ++ flat_map procedure_written c.as_slice.result.now) c.new-vars.ensures
    ∙ ap (flat_map procedure_written) c.as_slice.ensures))
    (all_are_written c.args.plan.now)
