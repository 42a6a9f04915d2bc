use Rattle.vc_plan.specs.declared.atoms.Atom.TheVariants.{Is}
use Rattle.vc_plan.specs.TableRows.{other_columns}
use Rattle.vc_rule_table.specs.Reasons.{rows_reasons}
use Rattle.vc_rule_table_saying.specs.Calls.{reasons_of}
use Rattle.vc_rule_table_saying.proofs.SharingLemmas.{reasons_shared, shared_goes, shared_takes}
use Rattle.vc_rule_table_saying.proofs.sharing.conclude_shared.Goals as goal

pub returns-clause-takes : goal.returns-clause-takes
returns-clause-takes g c =
    let call = c.args.call.now in
    let seen = g.V.View.seen call.view.now in
    shared_takes c.args.base (reasons_of g.V.View.seen call) c.args.out.now c.cite_once.new.out c.conclude.new.self
    (Is c.args.var c.args.value) c.requires.citing.stands c.cite_once.ensures c.conclude.ensures
    (rows_reasons call.plan.now seen (other_columns c.args.var call.columns.now) call.rows.now)
    (reasons_shared call.plan.now seen call.columns.now c.args.var call.rows.now call.notes.now c.requires.call.1
    c.requires.shares)

pub returns-clause-citing : goal.returns-clause-citing
returns-clause-citing g c =
    let seen = g.V.View.seen in
    shared_goes c.args.base (reasons_of seen c.args.call.now) c.args.out.now c.cite_once.new.out c.conclude.new.self
    (Is c.args.var c.args.value) c.requires.citing.stands c.cite_once.ensures c.conclude.ensures
