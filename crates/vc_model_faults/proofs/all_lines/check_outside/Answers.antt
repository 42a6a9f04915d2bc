-- A line without a fault is kept behind those before it.
use Rattle.std.proofs.Common.{Ok, false, sym, ap, subst, ◌∙◌}
use Rattle.vc_model_lines.specs.Classified.{line_of, lines_below}
use Rattle.vc_model_lines.specs.declared.line.Line.{Line}
use Rattle.vc_model_faults.specs.Found.{Adds}
use Rattle.vc_model_faults.specs.Places.{Follows, seen_places}
use Rattle.vc_model_faults.specs.Readings.{seen_readings}
use Rattle.vc_model_faults.proofs.LinesLaws.{keeps}
use Rattle.vc_model_faults.proofs.all_lines.check_outside.Goals as goal

pub returns : goal.returns
returns c =
    let P : Line → Type 0
    = λ line. Adds line c.args.place.number (lines_below line c.args.after.now) c.args.scope.now
    (seen_readings c.args.readings.now)
    (seen_places c.args.text.now c.args.places.now) c.check_line.new.scope (seen_readings c.check_line.new.readings)
    (seen_places c.args.text.now c.push.new.self) c.is_in_block.result in
    let Q : Line → Type 0
    = λ line. Follows line c.args.place.number (seen_places c.args.text.now c.args.places.now)
    (seen_places c.args.text.now c.push.new.self) in
    subst P c.in_ok-line.ensures (record {
      next_is = c.is_in_block.ensures;
      sound = sym c.in_ok-kind.ensures.kind ∙ c.in-None.is;
      scope_is = c.in_ok-kind.ensures.scope (ap Ok c.in-None.is);
      readings_are = c.in_ok-kind.ensures.readings (ap Ok c.in-None.is);
      places_are = subst Q (sym (c.in_ok-line.ensures ∙ ap (line_of false) c.requires))
          (keeps c.args.text.now c.args.places.now c.push.new.self c.args.place c.in_ok-push-in-None.ensures.ok);
    })
