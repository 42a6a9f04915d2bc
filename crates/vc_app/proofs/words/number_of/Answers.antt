-- The words are `gen` and a word more.
use Rattle.vc_app.proofs.AskedLaws.{gen_words}
use Rattle.vc_app.proofs.words.number_of.Goals as goal

pub returns-in-len2-clause-some : goal.returns-in-len2-clause-some
returns-in-len2-clause-some c =
    gen_words c.args.words.now c.command-item.result c.number-item.result c.as_str.result.now
    c.as_str-in-len2.result.now c.eq.result
    c.in-len2.len_at_least c.in-len2.len_below c.command-item.is c.number-item.is
    c.as_str.ensures.value c.as_str-in-len2.ensures.value c.eq.ensures c.if-eq.true
