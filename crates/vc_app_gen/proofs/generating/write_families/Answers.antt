-- One line more is written; or, behind those that are, nothing or a front of one.
use Rattle.std.proofs.Common.{sym, subst, arith}
use Rattle.std.proofs.lemmas.Result.{err_from_is_err_and}
use Rattle.vc_app_gen.specs.Generating.{WritesLines}
use Rattle.vc_app_gen.proofs.GenLaws.{line_pushed, none_written, raised_later}
use Rattle.vc_app_gen.proofs.generating.write_families.Goals as goal

pub loop-place-init : goal.loop-place-init
loop-place-init g c = record {
  lines = none_written (g.S.Sink.written c.args.out.now);
  later = omega arith;
  within = omega arith;
}

pub loop-place-preserved : goal.loop-place-preserved
loop-place-preserved g c =
    let written = g.S.Sink.written in
    record {
      lines = line_pushed c.loop-place.place (written c.args.out.now) (written c.loop-place.out)
          (written c.write_family.new.out) c.loop-place.invariant.lines c.in_ok-write_family.ensures.done;
      later = omega (arith, c.loop-place.invariant.later, c.in_ok-write_family.ensures.later);
      within = omega (arith, c.loop-place-test.true);
    }

pub returns-in_err-write_family-clause-memory : goal.returns-in_err-write_family-clause-memory
returns-in_err-write_family-clause-memory g c =
    let p = err_from_is_err_and c.from_residual.result c.from_residual.ensures.1 in
    let old = g.S.Sink.written c.args.out.now in
    rw (p.1, p.2) (λ h. record {
      n = c.loop-place.place;
      fewer = c.loop-place-test.true;
      lines = subst (λ now. WritesLines c.loop-place.place old now) (sym (c.in_err-write_family.ensures.memory h))
          c.loop-place.invariant.lines;
    })

pub returns-in_err-write_family-clause-cut : goal.returns-in_err-write_family-clause-cut
returns-in_err-write_family-clause-cut g c =
    let p = err_from_is_err_and c.from_residual.result c.from_residual.ensures.1 in
    rw (p.1, p.2) (λ h. record {
      n = c.loop-place.place;
      fewer = c.loop-place-test.true;
      between = g.S.Sink.written c.loop-place.out;
      lines = c.loop-place.invariant.lines;
      cut = c.in_err-write_family.ensures.cut h;
    })

pub returns-in_err-write_family-clause-cause : goal.returns-in_err-write_family-clause-cause
returns-in_err-write_family-clause-cause g c =
    let p = err_from_is_err_and c.from_residual.result c.from_residual.ensures.1 in
    let faults = g.S.Sink.faults in
    rw (p.1, p.2) (λ h. raised_later (faults c.args.out.now) (faults c.loop-place.out) (faults c.write_family.new.out)
    c.loop-place.invariant.later (c.in_err-write_family.ensures.cause h))
