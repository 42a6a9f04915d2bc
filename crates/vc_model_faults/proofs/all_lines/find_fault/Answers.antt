use Rattle.std.proofs.Common.{Bool, refl, sym, ap, subst, length, drop, ◌+◌, ◌-◌, ◌∙◌, arith}
use Rattle.std.proofs.lemmas.List.{drop-drop}
use Rattle.std.specs.Str.Lines.{lines}
use Rattle.vc_model_lines.specs.Classified.{line_of, lines_below, lines_from, lines_of}
use Rattle.vc_model_scope.specs.declared.scope.Scope.{Scope}
use Rattle.vc_model_faults.specs.Found.{Adds, Steps}
use Rattle.vc_model_faults.specs.Places.{seen_places}
use Rattle.vc_model_faults.specs.Readings.{seen_readings}
use Rattle.vc_model_faults.specs.declared.all_lines.Step.{Step}
use Rattle.vc_model_faults.proofs.LinesLaws.{IsChecked, check_begins, check_goes_on, check_meets, check_ends}
use Rattle.vc_model_faults.proofs.LinesLaws.{check_ends_rootless, rest_is}
use Rattle.vc_model_faults.proofs.all_lines.find_fault.Goals as goal

pub lines-init : goal.lines-init
lines-init c = record {
  counted = omega arith;
  from = refl;
  passed = omega arith;
  checked = check_begins c.args.text.now (lines_of c.args.text.now) c.args.scope.now c.args.readings.now
      c.args.places.now c.requires.scope c.requires.readings c.requires.places;
}

pub returns-in-Fault : goal.returns-in-Fault
returns-in-Fault c =
    let P : Step → Type 0
    = λ step. Steps c.lines.inside c.lines.line c.in-Some.raw.now c.in-Some.more.now c.lines.scope
    (seen_readings c.lines.readings)
    (seen_places c.args.text.now c.lines.places) c.check_next.new.scope (seen_readings c.check_next.new.readings)
    (seen_places c.args.text.now c.check_next.new.places) step in
    let line = line_of c.lines.inside c.in-Some.raw.now in
    let below = lines_below line c.in-Some.more.now in
    check_meets (lines_of c.args.text.now) (lines_from c.lines.inside (lines c.lines.rest.now)) below line c.lines.line
    c.lines.scope
    (seen_readings c.lines.readings) (seen_places c.args.text.now c.lines.places) c.in-Fault.kind
    c.lines.invariant.checked
    (rest_is c.lines.inside c.lines.rest.now c.in-Some.raw.now c.in-Some.more.now c.in-Some.ensures.lines)
    (subst P c.in-Fault.is c.in_ok-kind.ensures)

pub lines-preserved : goal.lines-preserved
lines-preserved c =
    let P : Step → Type 0
    = λ step. Steps c.lines.inside c.lines.line c.in-Some.raw.now c.in-Some.more.now c.lines.scope
    (seen_readings c.lines.readings)
    (seen_places c.args.text.now c.lines.places) c.check_next.new.scope (seen_readings c.check_next.new.readings)
    (seen_places c.args.text.now c.check_next.new.places) step in
    let line = line_of c.lines.inside c.in-Some.raw.now in
    let below = lines_below line c.in-Some.more.now in
    let adds : Adds line c.lines.line below c.lines.scope (seen_readings c.lines.readings)
    (seen_places c.args.text.now c.lines.places) c.check_next.new.scope
    (seen_readings c.check_next.new.readings) (seen_places c.args.text.now c.check_next.new.places) c.in-Goes.next =
    subst P c.in-Goes.is c.in_ok-kind.ensures in
    let Q : Bool → Type 0
    = λ inside. IsChecked (lines_of c.args.text.now) (lines_from inside (lines c.in-Some.more.now))
    (c.lines.line + 1)
    c.check_next.new.scope (seen_readings c.check_next.new.readings)
    (seen_places c.args.text.now c.check_next.new.places) in
    record {
      counted = omega (arith, c.in-Some.ensures.shorter);
      from =
          c.in-Some.ensures.rest
          ∙ ap (drop (length c.lines.rest.now - length c.in-Some.more.now)) c.lines.invariant.from
          ∙ drop-drop (length c.lines.rest.now - length c.in-Some.more.now) c.lines.start c.args.text.now;
      passed = omega (arith, c.in-Some.ensures.shorter, c.lines.invariant.passed);
      checked = subst Q (sym adds.next_is)
          (check_goes_on (lines_of c.args.text.now) (lines_from c.lines.inside (lines c.lines.rest.now)) below line
          c.lines.line
          c.lines.scope c.check_next.new.scope (seen_readings c.lines.readings)
          (seen_readings c.check_next.new.readings) (seen_places c.args.text.now c.lines.places)
          (seen_places c.args.text.now c.check_next.new.places) c.in-Goes.next c.lines.invariant.checked
          (rest_is c.lines.inside c.lines.rest.now c.in-Some.raw.now c.in-Some.more.now c.in-Some.ensures.lines) adds);
    }

pub returns-then-scope : goal.returns-then-scope
returns-then-scope c =
    check_ends (lines_of c.args.text.now) (lines_from c.lines.inside (lines c.lines.rest.now)) c.lines.line
    c.lines.scope (seen_readings c.lines.readings)
    (seen_places c.args.text.now c.lines.places) c.lines.invariant.checked
    (ap (lines_from c.lines.inside) c.in_default.ensures.lines)
    (sym (ap (λ (s : Scope). s.root) c.scope.ensures) ∙ c.if-scope.true)

pub returns-else-scope : goal.returns-else-scope
returns-else-scope c =
    check_ends_rootless (lines_of c.args.text.now) (lines_from c.lines.inside (lines c.lines.rest.now)) c.lines.line
    c.lines.scope (seen_readings c.lines.readings)
    (seen_places c.args.text.now c.lines.places) c.lines.invariant.checked
    (ap (lines_from c.lines.inside) c.in_default.ensures.lines)
    (sym (ap (λ (s : Scope). s.root) c.scope.ensures) ∙ c.if-scope.false)
