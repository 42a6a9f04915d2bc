-- The rows that a router keeps of the routes.
use Rattle.std.specs.Prelude.{ℕ, List, [], codes, Result, Ok, Err}
use Rattle.matchit.specs.Order.{placed}
use Rattle.matchit.specs.Route.{Scan, parse_route}
use Rattle.matchit.specs.Router.{RouteOf, route_from}
use Rattle.matchit.specs.Rows.{RowsOf}
use Rattle.matchit.specs.declared.error.InsertError.{InsertError}
use Rattle.vc_http_routes.specs.declared.routes.Route.{Route}
use Rattle.vc_http_routes.specs.declared.routes.Route.TheVariants as to

abbrev pub RouteRows : Type 0
RouteRows = RowsOf (RouteOf Route)

-- with one more route, if its text is read
abbrev pub added_scan : Result Scan InsertError → Route → RouteRows → RouteRows
added_scan (Ok scan) route rows = placed (scan.pattern, route_from scan route) rows
added_scan (Err error) route rows = rows

unfoldable pub added : List ℕ → Route → RouteRows → RouteRows
added text route rows = added_scan (parse_route text) route rows

unfoldable pub with_whole_routes : RouteRows → RouteRows
with_whole_routes rows =
    added (codes "/saved/{n}") to.Saved
    (added (codes "/sessions/{s}") to.Session (added (codes "/sessions") to.Sessions rows))

unfoldable pub with_value_routes : RouteRows → RouteRows
with_value_routes rows =
    added (codes "/sessions/{s}/drops/{i}/{c}") to.Drops
    (added (codes "/sessions/{s}/values/{i}/{c}") to.Values rows)

unfoldable pub with_asking_routes : RouteRows → RouteRows
with_asking_routes rows =
    added (codes "/sessions/{s}/whynot/{i}/{c}") to.WhyNot
    (added (codes "/sessions/{s}/why/{i}/{c}") to.Why rows)

unfoldable pub with_told_routes : RouteRows → RouteRows
with_told_routes rows =
    added (codes "/sessions/{s}/log") to.Log
    (added (codes "/sessions/{s}/conflict") to.Conflict rows)

unfoldable pub with_shown_routes : RouteRows → RouteRows
with_shown_routes rows =
    added (codes "/sessions/{s}/routing") to.Routing
    (added (codes "/sessions/{s}/bill") to.Bill rows)

unfoldable pub with_kept_routes : RouteRows → RouteRows
with_kept_routes rows =
    added (codes "/sessions/{s}/load") to.Load
    (added (codes "/sessions/{s}/save") to.Save rows)

-- all of them
unfoldable pub route_rows : RouteRows
route_rows =
    with_kept_routes
    (with_shown_routes (with_told_routes (with_asking_routes (with_value_routes (with_whole_routes [])))))
