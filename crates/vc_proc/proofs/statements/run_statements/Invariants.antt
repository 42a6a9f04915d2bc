-- What was written, with the statements from here on, is all.
use Rattle.std.proofs.Common.{◌≡◌, drop}
use Rattle.vc_plan.specs.Statements.{all_stated}
use Rattle.vc_proc.specs.Overlays.{EntriesLie}
use Rattle.vc_proc.proofs.statements.run_statements.Given as goal

abbrev pub invariant-loop-statement : goal.invariant-loop-statement
invariant-loop-statement g l =
    let seen = g.R.View.seen l.stage in
    let holds = g.R.Reading.holdings l.stage in
    (all_stated l.plan seen holds l.proc l.statement (drop l.statement l.statements) l.overlay
    ≡ all_stated l.plan seen holds l.proc 0 l.statements l.fn.overlay)
    × EntriesLie l.plan l.overlay
