use Rattle.std.proofs.Common.{◌∷◌, sym, ◌∙◌}
use Rattle.std.specs.List.{slice_split}
use Rattle.vc_http_routes.specs.Routes.{is_slash}
use Rattle.vc_http_targets.proofs.SplitLaws.{found_cut}
use Rattle.vc_http_targets.proofs.targets.cut_at_slash.Goals as goal

pub returns-in-Some : goal.returns-in-Some
returns-in-Some c =
    found_cut c.args.path.now c.in-Some.place c.in-Some.ensures.place
    ∙ (λ j. sym c.front_of.ensures j ∷ slice_split is_slash (sym c.rest_of.ensures j))
