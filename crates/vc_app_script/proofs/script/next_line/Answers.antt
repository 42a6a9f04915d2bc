-- The line before the first line feed is the first line, and a text without one is its only line.
use Rattle.std.proofs.Common.{◌≡◌, sym, ◌∙◌, ◌<◌, length, arith}
use Rattle.std.proofs.lemmas.Bool.{eqb-false}
use Rattle.std.proofs.lemmas.List.{take_rest}
use Rattle.vc_app_script.proofs.ScriptLines.{first_line, only_line}
use Rattle.vc_app_script.proofs.script.next_line.Goals as goal

pub returns-in-Some-clause-line : goal.returns-in-Some-clause-line
returns-in-Some-clause-line c =
    rw (take_rest, c.without_carriage_return.ensures)
    (first_line c.args.text.now c.in-Some.at (sym c.line_feed.ensures.place ∙ c.in-Some.is))

pub returns-in-None-2-clause-line : goal.returns-in-None-2-clause-line
returns-in-None-2-clause-line c =
    let full : length c.args.text.now ≡ 0 → ⊥ = eqb-false _ 0 (sym c.is_empty.ensures ∙ c.if-is_empty.false) in
    let some : 0 < length c.args.text.now = omega arith in
    only_line c.args.text.now (sym c.line_feed.ensures.place ∙ c.in-None.is) some
