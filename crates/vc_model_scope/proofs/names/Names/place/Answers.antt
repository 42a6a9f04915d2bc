use Rattle.std.proofs.Common.{◌∙◌, sym, ap, nat_eq}
use Rattle.std.specs.Cmp.Lexicographic.{pointwise}
use Rattle.vc_model_scope.specs.Names.{place_of}
use Rattle.vc_model_scope.proofs.NameLemmas.{position-map}
use Rattle.vc_model_scope.proofs.names.Names.place.Goals as goal

pub returns : goal.returns
returns c =
    c.get_index_of.ensures.index
    ∙ sym (position-map (λ k. k.items) (pointwise nat_eq c.args.name.now) c.self.inside.met.keys)
    ∙ ap (λ names. place_of names c.args.name.now) c.self.view_is
