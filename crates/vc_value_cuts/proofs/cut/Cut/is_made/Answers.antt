use Rattle.std.proofs.Common.{◌≡◌, ◌∙◌, ap, arith, rules, drop}
use Rattle.std.proofs.lemmas.List.{take_rest}
use Rattle.std.proofs.lemmas.List.Sorted.{IsPartitionPoint-from_clause}
use Rattle.vc_value_cuts.specs.Made.{lies_below, is_made}
use Rattle.vc_value_cuts.proofs.CutLemmas.{partitioned, made_behind}
use Rattle.vc_value_cuts.proofs.cut.Cut.is_made.Goals as goal

pub returns : goal.returns
returns c =
    let cut = c.args.self.now in
    let grains = c.args.grains.now in
    let start = c.partition_point-start.result in
    let point = IsPartitionPoint-from_clause (lies_below cut) grains start c.partition_point-start.ensures.partitioned
    (partitioned cut grains c.requires) (λ a r f called. search rules) in
    c.is_made_from.ensures ∙ ap (is_made cut) (take_rest grains start)
    ∙ made_behind cut grains start (λ k d inside before. point.0 k d (omega arith) before)
