use Rattle.std.proofs.Common.{◌∙◌, sym, ap, nat_eq}
use Rattle.std.specs.Cmp.Lexicographic.{pointwise}
use Rattle.vc_model_scope.specs.Names.{is_among}
use Rattle.vc_model_scope.proofs.NameLemmas.{list_any-map}
use Rattle.vc_model_scope.proofs.names.Names.has.Goals as goal

pub returns : goal.returns
returns c =
    c.contains.ensures
    ∙ sym (list_any-map (λ k. k.items) (pointwise nat_eq c.args.name.now) c.self.inside.met.keys)
    ∙ ap (λ names. is_among names c.args.name.now) c.self.view_is
