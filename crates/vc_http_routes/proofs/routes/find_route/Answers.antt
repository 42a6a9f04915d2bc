use Rattle.std.proofs.Common.{ap, ◌∙◌}
use Rattle.std.specs.Option.{option_map}
use Rattle.matchit.specs.Seek.{first}
use Rattle.vc_http_routes.proofs.RouteLaws.{route_found}
use Rattle.vc_http_routes.proofs.routes.find_route.Goals as goal

pub returns : goal.returns
returns c =
    c.search_route.ensures ∙ ap (λ rows. option_map (λ found. found.value) (first rows c.args.path.now)) c.requires
    ∙ route_found c.args.path.now
