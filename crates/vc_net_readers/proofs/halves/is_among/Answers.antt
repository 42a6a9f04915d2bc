-- What was found stands there, and where nothing was found each is another.
use Rattle.std.proofs.lemmas.List.Sorted.{searched}
use Rattle.vc_net_readers.proofs.RisingLemmas.{found_among, not_among}
use Rattle.vc_net_readers.proofs.halves.is_among.Goals as goal

pub returns-in-Ok : goal.returns-in-Ok
returns-in-Ok c =
    found_among c.args.numbers.now c.args.number c.binary_search.result _ c.in-Ok.is
    (searched c.args.numbers.now c.args.number c.binary_search.result c.binary_search.ensures.position c.requires)

pub returns-in-Err : goal.returns-in-Err
returns-in-Err c =
    not_among c.args.numbers.now c.args.number c.binary_search.result _ c.in-Err.is
    (searched c.args.numbers.now c.args.number c.binary_search.result c.binary_search.ensures.position c.requires)
