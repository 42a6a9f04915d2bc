-- The first place decides, or those after it.
use Rattle.std.proofs.Common.{◌∙◌, ap, not, sym}
use Rattle.std.specs.Option.{is_some}
use Rattle.vc_net_standing.specs.Standing.{places_of}
use Rattle.vc_net_log.proofs.KeepLaws.{none_stands, one_stands}
use Rattle.vc_net_log.proofs.keeping.all_stand.Goals as goal

pub returns-then-is_none : goal.returns-then-is_none
returns-then-is_none c =
    sym (none_stands (places_of c.args.standing.now.index c.args.standing.now.facts) c.loop-rest.rest.now _
    c.in-len1-up.len_at_least
    (ap is_some (sym c.number_by_place.ensures.number) ∙ (c.is_none.ensures ∙ ap not c.if-is_none.true)))
    ∙ c.loop-rest.invariant

pub loop-rest-preserved : goal.loop-rest-preserved
loop-rest-preserved c =
    one_stands (places_of c.args.standing.now.index c.args.standing.now.facts) c.loop-rest.rest.now _
    c.in-len1-up.len_at_least
    (ap is_some (sym c.number_by_place.ensures.number) ∙ (c.is_none.ensures ∙ ap not c.if-is_none.false))
    ∙ c.loop-rest.invariant
