use Rattle.std.proofs.Common.{◌∙◌, ◌∷◌, ◌++◌, [], map, sym, ap, nat_eq, if◌then◌else◌}
use Rattle.std.specs.List.{list_any}
use Rattle.std.specs.Cmp.Lexicographic.{pointwise}
use Rattle.vc_model_scope.specs.Names.{with_name}
use Rattle.vc_model_scope.proofs.NameLemmas.{list_any-map, insert-map}
use Rattle.vc_model_scope.proofs.names.Names.add.Goals as goal

pub returns : goal.returns
returns c =
    let keys = c.self.inside.met.keys in
    let key = c.in_ok-key.key in
    let names = map (λ k. k.items) keys in
    ap (map (λ k. k.items)) c.in_ok-insert_full.ensures.keys
    ∙ insert-map (λ k. k.items) (list_any (λ k. pointwise nat_eq key.items k.items) keys) keys key
    ∙ ap (λ there. if there then names else names ++ key.items ∷ [])
    (sym (list_any-map (λ k. k.items) (pointwise nat_eq key.items) keys))
    ∙ ap (λ names. with_name names key.items) c.self.view_is
    ∙ ap (with_name c.args.self.now) c.in_ok-key.ensures.items
