-- The words are `serve` and three words or four.
use Rattle.std.proofs.Common.{◌<◌, arith, length}
use Rattle.vc_app.proofs.AskedLaws.{serve_words}
use Rattle.vc_app.proofs.words.serve_words.Goals as goal

pub returns-in-len4-up-clause-some : goal.returns-in-len4-up-clause-some
returns-in-len4-up-clause-some c =
    let few : length c.args.words.now < 6 = omega (arith, c.if-more-lt2.true, c.in-len4-up.len_at_least) in
    serve_words c.args.words.now c.command-item.result c.model-item.result c.address-item.result c.number-item.result
    c.as_str.result.now c.as_str-in-len4-up.result.now c.as_str-in-len4-up-2.result.now
    c.as_str-in-len4-up-3.result.now c.eq.result c.in-len4-up.len_at_least few c.command-item.is c.model-item.is
    c.address-item.is c.number-item.is c.as_str.ensures.value c.as_str-in-len4-up.ensures.value
    c.as_str-in-len4-up-2.ensures.value c.as_str-in-len4-up-3.ensures.value c.eq.ensures c.if-eq.true
