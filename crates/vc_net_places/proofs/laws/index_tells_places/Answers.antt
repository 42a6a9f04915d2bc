use Rattle.vc_net_places.proofs.PlaceLaws.Things.{firsts_are_counted, index_tells_back, index_tells_places}
use Rattle.vc_net_places.proofs.PlaceLaws.Things.{index_tells_things, things_are_counted}
use Rattle.vc_net_places.proofs.laws.index_tells_places.Goals as goal

pub returns-clause-places : goal.returns-clause-places
returns-clause-places c = index_tells_places

pub returns-clause-things : goal.returns-clause-things
returns-clause-things c = index_tells_things

pub returns-clause-counted : goal.returns-clause-counted
returns-clause-counted c = things_are_counted

pub returns-clause-firsts : goal.returns-clause-firsts
returns-clause-firsts c = firsts_are_counted

pub returns-clause-back : goal.returns-clause-back
returns-clause-back c = index_tells_back
