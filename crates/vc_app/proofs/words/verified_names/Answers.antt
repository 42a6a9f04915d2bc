-- The words are `verify` and two names.
use Rattle.vc_app.proofs.AskedLaws.{verify_words}
use Rattle.vc_app.proofs.words.verified_names.Goals as goal

pub returns-in-len3-clause-some : goal.returns-in-len3-clause-some
returns-in-len3-clause-some c =
    verify_words c.args.words.now c.command-item.result c.model-item.result c.chain-item.result c.as_str.result.now
    c.as_str-in-len3.result.now c.as_str-in-len3-2.result.now c.eq.result
    c.in-len3.len_at_least c.in-len3.len_below c.command-item.is c.model-item.is c.chain-item.is
    c.as_str.ensures.value c.as_str-in-len3.ensures.value c.as_str-in-len3-2.ensures.value c.eq.ensures c.if-eq.true
