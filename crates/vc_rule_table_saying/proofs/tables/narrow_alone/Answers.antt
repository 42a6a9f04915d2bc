use Rattle.vc_rule_table_saying.specs.Calls.{narrowed, reasons_of}
use Rattle.vc_rule_table_saying.proofs.SharingLemmas.{alone_goes, alone_takes}
use Rattle.vc_rule_table_saying.proofs.tables.narrow_alone.Goals as goal

pub returns-clause-takes : goal.returns-clause-takes
returns-clause-takes g c =
    let call = c.args.call.now in
    alone_takes c.args.base (reasons_of g.V.View.seen call) c.args.out.now c.keep_cited.new.self
    c.narrow_grains.new.out (narrowed g.V.View.seen call c.args.var) c.requires.stands c.keep_cited.ensures
    c.narrow_grains.ensures

pub returns-clause-citing : goal.returns-clause-citing
returns-clause-citing g c =
    let call = c.args.call.now in
    alone_goes c.args.base (reasons_of g.V.View.seen call) c.args.out.now c.keep_cited.new.self
    c.narrow_grains.new.out (narrowed g.V.View.seen call c.args.var) c.requires.stands c.keep_cited.ensures
    c.narrow_grains.ensures
