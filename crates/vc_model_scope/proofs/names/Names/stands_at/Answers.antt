-- The key at the place is the name, and no key stands twice.
use Rattle.std.proofs.Common.{◌≡◌, ◌∙◌, ℕ, List, Some, Vec, Global, length, refl, sym, ap, nat_eq}
use Rattle.std.specs.Cmp.Lexicographic.{on_texts_equal, pointwise, same_text}
use Rattle.std.specs.List.{position, slice_get}
use Rattle.std.proofs.lemmas.Option.{slice_get_read}
use Rattle.vc_model_scope.specs.Names.{place_of}
use Rattle.vc_model_scope.proofs.NameLemmas.{position-map, position-IsDistinct}
use Rattle.vc_model_scope.proofs.names.Names.stands_at.Goals as goal

abbrev bytes : Vec ℕ Global → List ℕ
bytes key = key.items

pub returns-in-Some : goal.returns-in-Some
returns-in-Some c = λ same.
    let keys = c.self.inside.met.keys in
    let name = c.args.name.now in
    let place = c.args.place in
    let there = c.in-Some.there.now in
    let slice = c.as_slice.result.now in
    let found = c.in-Some.ensures.lookup in
    let at : slice_get keys place ≡ Some there =
    ap (λ ks. slice_get ks place) (sym c.as_slice.ensures.keys)
    ∙ slice_get_read slice (length slice) place there refl found.3.0 found.1 in
    let is : there.items ≡ name
    = sym c.as_slice-in-Some.ensures.value
    ∙ same_text c.as_slice-in-Some.result.now name (sym same ∙ c.eq.ensures) in
    ap (λ names. place_of names name) (sym c.self.view_is)
    ∙ (position-map bytes (pointwise nat_eq name) keys
    ∙ (ap (λ n. position (λ k. pointwise nat_eq n k.items) keys) (sym is)
    ∙ position-IsDistinct (λ x y. pointwise nat_eq x.items y.items) (on_texts_equal bytes) keys place there
    c.as_slice.ensures.unique at))
