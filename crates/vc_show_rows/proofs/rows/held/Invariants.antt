-- What is put so far, with the texts to come, is all of it.
use Rattle.std.proofs.Common.{◌≡◌, ◌++◌, drop}
use Rattle.std.specs.List.{filter}
use Rattle.vc_show_rows.proofs.rows.held.Given as goal

abbrev pub invariant-loop-text : goal.invariant-loop-text
invariant-loop-text g l =
    let holds = g.R.Reading.holdings l.reading l.set in
    l.out ++ filter holds (drop l.text-index l.texts) ≡ filter holds l.texts
