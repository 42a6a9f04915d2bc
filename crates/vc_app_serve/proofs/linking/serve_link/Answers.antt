-- The link that came is the one that was talked to and is done.
use Rattle.std.proofs.Common.{sym, ap, ◌∙◌, ◌∷◌, [], ◌++◌}
use Rattle.std.specs.Option.{option_map}
use Rattle.vc_app_serve.proofs.linking.serve_link.Goals as goal

pub returns-clause-done : goal.returns-clause-done
returns-clause-done g c =
    let came = c.in_ok-link.link in
    let went = c.talk.new.link in
    record {
      visit = (came, went);
      talks = c.talk.ensures.talks;
      taken = c.in_ok-link.ensures.coming ∙ ap (option_map (λ later. came ∷ later)) (sym c.done.ensures.coming);
      done = c.done.ensures.finished
          ∙ ap (option_map (λ earlier. earlier ++ went ∷ [])) c.in_ok-link.ensures.finished;
    }
