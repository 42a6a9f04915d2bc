-- The net tells how it ended by whom it blames.
use Rattle.std.proofs.Common.{◌∙◌, sym}
use Rattle.vc_session_evaluation.proofs.GoingLaws.{refutes_so, settles}
use Rattle.vc_session_evaluation.proofs.settling.settle.Goals as goal

pub returns-in-Settled-clause-settled : goal.returns-in-Settled-clause-settled
returns-in-Settled-clause-settled g c =
    settles c.args.plan.now c.args.sources.now c.sync.new.net c.requires.valid c.sync.ensures.settled
    (sym c.outcome.ensures ∙ c.in-Settled.is)

pub returns-in-Broken-clause-settled : goal.returns-in-Broken-clause-settled
returns-in-Broken-clause-settled g c =
    refutes_so c.args.plan.now c.args.sources.now c.sync.new.net c.in-Broken.field-0 c.sync.ensures.settled
    (sym c.outcome.ensures ∙ c.in-Broken.is)
