-- The word behind `gen` says how many, if it does.
use Rattle.std.proofs.Common.{◌∙◌, ap}
use Rattle.vc_app_gen.specs.Counts.{families_asked}
use Rattle.vc_app.proofs.AskedLaws.{gen_asked, gen_not_asked, gen_not_there}
use Rattle.vc_app.proofs.words.families_of.Goals as goal

pub returns-in-Some-clause-some : goal.returns-in-Some-clause-some
returns-in-Some-clause-some c =
    gen_asked c.args.words.now c.in-Some.number.now c.families_asked.result c.in-Some.ensures.some
    (c.families_asked.ensures ∙ ap families_asked c.as_bytes.ensures.value)

pub returns-in-Some-clause-none : goal.returns-in-Some-clause-none
returns-in-Some-clause-none c =
    gen_not_asked c.args.words.now c.in-Some.number.now c.families_asked.result c.in-Some.ensures.some
    (c.families_asked.ensures ∙ ap families_asked c.as_bytes.ensures.value)

pub returns-in-None-clause-none : goal.returns-in-None-clause-none
returns-in-None-clause-none c = gen_not_there c.args.words.now c.in-None.ensures.none
