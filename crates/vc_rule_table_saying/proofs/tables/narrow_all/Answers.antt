use Rattle.std.proofs.Common.{◌∙◌, ap, sym, arith}
use Rattle.std.specs.Prelude.{flat_map}
use Rattle.std.specs.List.{filter}
use Rattle.vc_rule_yield.specs.Yielding.{Yielded}
use Rattle.vc_rule_premises.specs.Saying.{take_conclusions}
use Rattle.vc_rule_table.specs.TableSaid.{has_column}
use Rattle.vc_rule_table_grains.proofs.ConcludingSteps.{concluded_first}
use Rattle.vc_rule_table_saying.specs.Calls.{newly}
use Rattle.vc_rule_table_saying.specs.Sharing.{kept}
use Rattle.vc_rule_table_saying.proofs.SharingLemmas.{kept_whole}
use Rattle.vc_rule_table_saying.proofs.tables.narrow_all.Goals as goal

pub loop-rest-init : goal.loop-rest-init
loop-rest-init g c =
    let call = c.args.call.now in
    let whole = kept_whole c.cited_count-base.result c.args.out.now (sym c.cited_count-base.ensures) in (
      ap (λ (y : Yielded). take_conclusions y
          (flat_map (newly g.V.View.seen call) (filter (has_column call.columns.now) c.args.vars.now))) whole,
      record { stands = omega (arith, c.cited_count-base.ensures); cites = sym whole },
    )

pub loop-rest-preserved : goal.loop-rest-preserved
loop-rest-preserved g c =
    let call = c.args.call.now in
    let base = c.cited_count-base.result in (
      concluded_first (has_column call.columns.now) (newly g.V.View.seen call) (kept base c.loop-rest.out)
          (kept base c.narrow-shared.new.out) c.loop-rest.rest.now
          c.in-len1-up.len_at_least
          c.narrow-shared.ensures.takes
          ∙ c.loop-rest.invariant.0,
      c.narrow-shared.ensures.citing,
    )
