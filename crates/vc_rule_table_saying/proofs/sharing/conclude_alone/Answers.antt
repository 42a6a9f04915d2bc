use Rattle.std.proofs.Common.{[], ◌∷◌}
use Rattle.vc_plan.specs.declared.atoms.Atom.TheVariants.{Is}
use Rattle.vc_rule_table_saying.specs.Calls.{agreement, reasons_of}
use Rattle.vc_rule_table_saying.proofs.SharingLemmas.{alone_goes, alone_takes}
use Rattle.vc_rule_table_saying.proofs.sharing.conclude_alone.Goals as goal

pub returns-clause-takes : goal.returns-clause-takes
returns-clause-takes g c =
    let call = c.args.call.now in
    alone_takes c.args.base (reasons_of g.V.View.seen call) c.args.out.now c.keep_cited.new.self
    c.conclude_cited.new.out (agreement g.V.View.seen call c.args.var (Is c.args.var c.args.value) ∷ [])
    c.requires.stands c.keep_cited.ensures c.conclude_cited.ensures

pub returns-clause-citing : goal.returns-clause-citing
returns-clause-citing g c =
    let call = c.args.call.now in
    alone_goes c.args.base (reasons_of g.V.View.seen call) c.args.out.now c.keep_cited.new.self
    c.conclude_cited.new.out (agreement g.V.View.seen call c.args.var (Is c.args.var c.args.value) ∷ [])
    c.requires.stands c.keep_cited.ensures c.conclude_cited.ensures
