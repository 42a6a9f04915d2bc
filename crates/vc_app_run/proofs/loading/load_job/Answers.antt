-- The words are `run` and two names or three.
use Rattle.std.proofs.Common.{◌<◌, arith, length}
use Rattle.vc_app_run.specs.Endings.{IsRun}
use Rattle.vc_app_run.proofs.EndingLaws.{run_words, run_loads, run_causes}
use Rattle.vc_app_run.proofs.loading.load_job.Goals as goal

pub returns-in-len3-up-clause-job : goal.returns-in-len3-up-clause-job
returns-in-len3-up-clause-job g c =
    let few : length c.args.words.now < 5 =
    omega (arith, c.if-more-lt2.true, c.in-len3-up.len_at_least) in
    let command : IsRun c.args.words.now c.as_str-in-len3-up.result.now c.as_str-in-len3-up-2.result.now =
    run_words c.args.words.now c.command-item.result c.model-item.result c.script-item.result c.as_str.result.now _ _
    c.eq.result
    c.in-len3-up.len_at_least few c.command-item.is c.model-item.is c.script-item.is
    c.as_str.ensures.value c.as_str-in-len3-up.ensures.value c.as_str-in-len3-up-2.ensures.value c.eq.ensures
    c.if-eq.true in
    run_loads c.load_named.result c.args.words.now (g.F.Shelf.files c.args.shelf.now) c.as_str-in-len3-up.result.now
    c.as_str-in-len3-up-2.result.now
    command c.load_named.ensures.job

pub returns-in-len3-up-clause-causes : goal.returns-in-len3-up-clause-causes
returns-in-len3-up-clause-causes g c =
    let faults = g.F.Shelf.faults in
    let few : length c.args.words.now < 5 =
    omega (arith, c.if-more-lt2.true, c.in-len3-up.len_at_least) in
    let command : IsRun c.args.words.now c.as_str-in-len3-up.result.now c.as_str-in-len3-up-2.result.now =
    run_words c.args.words.now c.command-item.result c.model-item.result c.script-item.result c.as_str.result.now _ _
    c.eq.result
    c.in-len3-up.len_at_least few c.command-item.is c.model-item.is c.script-item.is
    c.as_str.ensures.value c.as_str-in-len3-up.ensures.value c.as_str-in-len3-up-2.ensures.value c.eq.ensures
    c.if-eq.true in
    run_causes c.load_named.result c.args.words.now (g.F.Shelf.files c.args.shelf.now) (faults c.args.shelf.now)
    (faults c.load_named.new.shelf)
    c.as_str-in-len3-up.result.now c.as_str-in-len3-up-2.result.now command c.load_named.ensures.stops
