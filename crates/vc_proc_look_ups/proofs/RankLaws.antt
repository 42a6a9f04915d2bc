-- Ranks, rows and their numbers are in a total order.
use Rattle.std.proofs.Common.{ℕ, List}
use Rattle.std.specs.Prelude.{slice_get}
use Rattle.std.specs.Cmp.{IsTotalOrder}
use Rattle.std.specs.Cmp.Lexicographic.{slice_cmp}
use Rattle.std.proofs.lemmas.Cmp.{int_cmp_total, lists_total, nat_cmp_total, on_total, then_total}
use Rattle.vc_value.specs.declared.value.Value.{Value}
use Rattle.vc_proc_look_ups.specs.Orders.{numbers_compared, row_in}
use Rattle.vc_proc_look_ups.specs.Ranks.{compared, count_of, kind_of, ranks_of}

pub ranks_total : IsTotalOrder compared
ranks_total = then_total (on_total kind_of nat_cmp_total) (on_total count_of int_cmp_total)

pub rows_total : IsTotalOrder (slice_cmp compared)
rows_total = lists_total ranks_total

pub numbers_total : (rows : List (List Value)) (columns : List ℕ) → IsTotalOrder (numbers_compared rows columns)
numbers_total rows columns =
    then_total (on_total (λ n. ranks_of columns (row_in (slice_get rows n))) rows_total) nat_cmp_total
