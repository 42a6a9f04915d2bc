use Rattle.std.proofs.Common.{List, ap, ◌∙◌}
use Rattle.vc_value.specs.declared.value.Value.{Value}
use Rattle.vc_rule_premises.specs.Saying.{taken}
use Rattle.vc_rule_table.specs.TableSaid.{rows_said}
use Rattle.vc_rule_table.proofs.CellLemmas.{few_grains}
use Rattle.vc_rule_table_saying.proofs.tables.say_table.Goals as goal

pub say_rows-requires : goal.say_rows-requires
say_rows-requires g c = record { few = few_grains c.args.plan.now c.requires }

pub returns : goal.returns
returns g c =
    c.say_rows.ensures
    ∙ ap (λ (rows : List (List Value)). taken c.args.out.now
    (rows_said c.args.plan.now (g.V.View.seen c.args.view.now) c.args.rule.now rows c.args.columns.now))
    c.rows_of.ensures
