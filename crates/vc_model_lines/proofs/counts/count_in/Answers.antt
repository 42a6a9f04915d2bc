-- The limits lie below the ceiling, so the cut doesn't show.
use Rattle.vc_model_lines.proofs.CountLemmas.{counted, not_counted}
use Rattle.vc_model_lines.proofs.counts.count_in.Goals as goal

pub returns-then-is_between-clause-count : goal.returns-then-is_between-clause-count
returns-then-is_between-clause-count c =
    counted c.args.least c.args.most 1000000 c.bounded_number-number.result c.args.word.now c.requires
    c.bounded_number-number.ensures c.if-not-are_digits.ensures c.if-is_between.ensures

pub returns-else-is_between-clause-count : goal.returns-else-is_between-clause-count
returns-else-is_between-clause-count c =
    not_counted c.args.least c.args.most 1000000 c.bounded_number-number.result c.args.word.now c.requires
    c.bounded_number-number.ensures c.if-not-are_digits.ensures c.if-is_between.ensures
