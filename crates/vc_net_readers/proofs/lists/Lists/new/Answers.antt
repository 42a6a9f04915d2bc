-- All lists were put, so each is found.
use Rattle.vc_net_readers.proofs.ListLemmas.{all_put}
use Rattle.vc_net_readers.proofs.lists.Lists.new.Goals as goal

pub returns : goal.returns
returns c =
    all_put c.loop-rest.spans c.loop-rest.numbers c.loop-rest.rest.now c.args.lists.now c.in_default.len_below
    c.loop-rest.invariant.0 c.loop-rest.invariant.1
