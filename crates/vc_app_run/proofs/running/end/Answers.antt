-- The job that was loaded ends as it ended, once the keeper has begun; or it is said that it couldn't be begun.
use Rattle.std.proofs.Common.{◌≡◌, ◌∙◌, Some, ap, refl, subst}
use Rattle.vc_app_run.specs.Endings.{EndsJob, keep_file, keeping, outside, without_keeper}
use Rattle.vc_app_run.specs.declared.ending.Stop.TheVariants as stops
use Rattle.vc_app_run.proofs.EndingLaws.{job_begun, job_ends, stop_ends}
use Rattle.vc_app_run.proofs.running.end.Goals as goal

pub returns-in-Err-begin-clause-ends : goal.returns-in-Err-begin-clause-ends
returns-in-Err-begin-clause-ends g c =
    let files = g.F.Shelf.files in
    let shelf_faults = g.F.Shelf.faults in
    let written = g.S.Sink.written in
    let sink_faults = g.S.Sink.faults in
    let before = c.args.keeper.now in
    let after = c.begin.new.self in
    stop_ends c.args.words.now
    (outside (files c.args.shelf.now) (shelf_faults c.args.shelf.now) (shelf_faults c.load_job.new.shelf)
    (written c.args.out.now) (written c.say_stop.new.out) (sink_faults c.args.out.now) (sink_faults c.say_stop.new.out))
    (keeping (g.K.Keeper.texts before) (g.K.Keeper.opens before (keep_file c.args.words.now))
    (g.K.Keeper.texts after) (g.K.Keeper.faults before) (g.K.Keeper.faults after) (g.K.Keeper.begun after))
    (after ≡ before) (stops.Keeper c.in-Err-begin.fault) c.say_stop.result
    (without_keeper c.in-Ok.job c.in-Err-begin.fault c.in-Ok.ensures.job c.in-Err-begin.ensures.cause.raises refl)
    c.in-Err-begin.ensures.texts c.say_stop.ensures.ends

pub returns-in-Ok-begin-clause-ends : goal.returns-in-Ok-begin-clause-ends
returns-in-Ok-begin-clause-ends g c =
    let files = g.F.Shelf.files in
    let shelf_faults = g.F.Shelf.faults in
    let written = g.S.Sink.written in
    let sink_faults = g.S.Sink.faults in
    let before = c.args.keeper.now in
    let after = c.run_job.new.keeper in
    let texts = g.K.Keeper.texts in
    let faults = g.K.Keeper.faults in
    let old = written c.args.out.now in
    let new = written c.run_job.new.out in
    let begun = g.K.Keeper.begun after in
    let opened = g.K.Keeper.opens before (keep_file c.args.words.now) in
    job_ends c.args.words.now
    (outside (files c.args.shelf.now) (shelf_faults c.args.shelf.now) (shelf_faults c.load_job.new.shelf) old new
    (sink_faults c.args.out.now) (sink_faults c.run_job.new.out))
    (keeping (texts before) opened (texts after) (faults before) (faults after) begun)
    (after ≡ before) c.in-Ok.job c.run_job.result c.in-Ok.ensures.job
    (c.run_job.ensures.begun ∙ c.in-Ok-begin.ensures.begun ∙ ap Some c.keep_file.ensures)
    (job_begun c.in-Ok.job (texts c.begin.new.self) (texts before) opened (texts after) (faults before) (faults after)
    begun old new c.run_job.result
    (subst (λ saved. EndsJob c.in-Ok.job (keeping (texts c.begin.new.self) saved (texts after) (faults before)
    (faults after) begun) old new c.run_job.result)
    (c.in-Ok-begin.ensures.texts ∙ ap (g.K.Keeper.opens before) c.keep_file.ensures)
    (subst (λ count. EndsJob c.in-Ok.job (keeping (texts c.begin.new.self) (texts c.begin.new.self) (texts after) count
    (faults after) begun) old new c.run_job.result) c.in-Ok-begin.ensures.cause.raises c.run_job.ensures.ends)))
