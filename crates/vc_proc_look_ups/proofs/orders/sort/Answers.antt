-- Numbers of rows stand in a total order.
use Rattle.std.proofs.Common.{is_lt, rules}
use Rattle.std.proofs.lemmas.Fn.{always_returns_same}
use Rattle.std.proofs.lemmas.List.Sorted.{ranks_by}
use Rattle.vc_proc_look_ups.specs.Orders.{numbers_compared}
use Rattle.vc_proc_look_ups.proofs.RankLaws.{numbers_total}
use Rattle.vc_proc_look_ups.proofs.orders.sort.Goals as goal

pub returns-clause-sorted : goal.returns-clause-sorted
returns-clause-sorted c =
    let rows = c.args.rows.now in
    let columns = c.args.columns.now in
    c.sort_unstable_by.ensures.sorted (λ a b. is_lt (numbers_compared rows columns a b))
    (ranks_by (numbers_total rows columns) (λ n. n))
    (always_returns_same _ _ _ (λ a r f k. search rules))
