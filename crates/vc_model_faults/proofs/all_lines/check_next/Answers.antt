-- A line that doesn't count adds nothing; any other stands outside blocks.
use Rattle.std.proofs.Common.{Bool, IfOk, sym, subst}
use Rattle.vc_model_lines.specs.Classified.{line_of, lines_below}
use Rattle.vc_model_faults.specs.Found.{Steps}
use Rattle.vc_model_faults.specs.Places.{seen_places}
use Rattle.vc_model_faults.specs.Readings.{seen_readings}
use Rattle.vc_model_faults.proofs.LinesLaws.{adds_quiet}
use Rattle.vc_model_faults.proofs.all_lines.check_next.Goals as goal

pub returns-in-Some : goal.returns-in-Some
returns-in-Some c =
    let line = line_of c.args.inside c.args.raw.now in
    adds_quiet line c.args.place.number (lines_below line c.args.after.now) c.args.scope.now
    (seen_readings c.args.readings.now) (seen_places c.args.text.now c.args.places.now)
    c.in-Some.next c.in-Some.ensures.quiet c.in-Some.ensures.next

pub returns-in-None : goal.returns-in-None
returns-in-None c =
    let P : Bool → Type 0
    = λ inside. IfOk c.check_outside.result
    (λ step. Steps inside c.args.place.number c.args.raw.now c.args.after.now c.args.scope.now
    (seen_readings c.args.readings.now) (seen_places c.args.text.now c.args.places.now) c.check_outside.new.scope
    (seen_readings c.check_outside.new.readings)
    (seen_places c.args.text.now c.check_outside.new.places) step) in
    subst P (sym c.in-None.ensures.outside) c.check_outside.ensures
