use Rattle.vc_proc.specs.Writing.{place_from}
use Rattle.vc_proc.proofs.LyingLemmas.{stated_lies}
use Rattle.vc_proc.proofs.statements.run_statement.Goals as goal

pub returns-clause-lie : goal.returns-clause-lie
returns-clause-lie g c =
    stated_lies c.args.plan.now (g.R.View.seen c.args.stage.now) (g.R.Reading.holdings c.args.stage.now)
    (place_from c.args.place)
    c.args.statement.now c.args.overlay.now c.state.new.overlay c.requires.lie c.state.ensures
