-- With one line more in front the lines behind those left are drafted still.
use Rattle.std.proofs.Common.{◌∷◌, ◌++◌, option_to_list, sym, ap, ◌∙◌}
use Rattle.vc_model_lines.specs.Classified.{lines_of}
use Rattle.vc_model_faults.specs.First.{readings_of}
use Rattle.vc_model_faults.specs.Places.{seen_place, seen_places}
use Rattle.vc_model_faults.specs.Readings.{reading, seen_readings}
use Rattle.vc_model_drafts.specs.Drafts.{seen_draft, with_front}
use Rattle.vc_model_drafts.proofs.DraftLaws.{IsAtLine, comes_to_line, draft_begins, draft_ends, draft_goes_on}
use Rattle.vc_model_drafts.proofs.DraftLaws.{seen_last, seen_none}
use Rattle.vc_model_drafts.proofs.drafts.gather.Goals as goal

pub lines-init : goal.lines-init
lines-init c =
    draft_begins (lines_of c.args.text.now) c.args.scope.now (seen_draft c.args.draft.now)
    (seen_readings c.args.readings.now) (seen_places c.args.text.now c.args.places.now)
    c.requires.draft c.requires.readings c.requires.places

pub lines-preserved : goal.lines-preserved
lines-preserved c =
    let all = lines_of c.args.text.now in
    let scope = c.args.scope.now in
    let place = seen_place c.args.text.now c.in-Some.place in
    let old = seen_draft c.lines.draft in
    let new = seen_draft c.put_line.new.draft in
    let readings = seen_readings c.lines.readings in
    let fewer = seen_places c.args.text.now c.pop.new.self in
    let at : IsAtLine all scope old readings fewer place =
    comes_to_line all scope old readings (seen_places c.args.text.now c.lines.places) fewer place c.lines.invariant
    (seen_last c.args.text.now c.lines.places c.pop.new.self c.in-Some.place c.in-Some.ensures.some) in
    let is = c.in_ok-line.ensures in
    let put = c.in_ok-put_line.ensures (readings_of at.earlier (place.line ∷ at.below)) at.below
    (at.readings_are ∙ ap
    (λ line. readings_of at.earlier (place.line ∷ at.below) ++ option_to_list (reading line at.below)) (sym is)) in
    draft_goes_on all scope old new readings (seen_readings c.put_line.new.readings) fewer place at put.0
    (put.1 ∙ ap (λ line. with_front scope place.number (reading line at.below) line old) is)

pub returns : goal.returns
returns c =
    draft_ends (lines_of c.args.text.now) c.args.scope.now (seen_draft c.lines.draft) (seen_readings c.lines.readings)
    (seen_places c.args.text.now c.lines.places)
    c.lines.invariant (seen_none c.args.text.now c.lines.places c.in_default.ensures.none.0)
