use Rattle.vc_net_places.proofs.PlaceLaws.Numbering.{named_have_places, numbers_are_taken, places_are_apart}
use Rattle.vc_net_places.proofs.PlaceLaws.Numbering.{places_are_counted}
use Rattle.vc_net_places.proofs.laws.places_are_counted.Goals as goal

pub returns-clause-named : goal.returns-clause-named
returns-clause-named c = named_have_places

pub returns-clause-counted : goal.returns-clause-counted
returns-clause-counted c = places_are_counted

pub returns-clause-apart : goal.returns-clause-apart
returns-clause-apart c = places_are_apart

pub returns-clause-taken : goal.returns-clause-taken
returns-clause-taken c = numbers_are_taken
