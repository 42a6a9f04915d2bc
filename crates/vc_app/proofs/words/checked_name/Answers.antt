-- The words are `check` and a name.
use Rattle.vc_app.proofs.words.checked_name.Goals as goal
use Rattle.vc_app.proofs.AskedLaws.{check_words}

pub returns-in-len2-clause-some : goal.returns-in-len2-clause-some
returns-in-len2-clause-some c =
    check_words c.args.words.now c.command-item.result c.model-item.result c.as_str.result.now
    c.as_str-in-len2.result.now c.eq.result
    c.in-len2.len_at_least c.in-len2.len_below c.command-item.is c.model-item.is
    c.as_str.ensures.value c.as_str-in-len2.ensures.value c.eq.ensures c.if-eq.true
