use Rattle.std.proofs.Common.{◌≡◌, ◌∙◌, ap, sym, None, nat_eq}
use Rattle.std.specs.Cmp.Lexicographic.{pointwise}
use Rattle.std.specs.Map.{lookup}
use Rattle.indexmap.proofs.CallerLemmas.{insert_entry-new}
use Rattle.vc_types_names.specs.FirstNames.{value_of}
use Rattle.vc_types_names.proofs.NameLemmas.{is_absent, lookup_push}
use Rattle.vc_types_names.proofs.first_named.FirstNamed.add.Goals as goal

pub returns-in_ok-insert : goal.returns-in_ok-insert
returns-in_ok-insert g c =
    let before = c.args.self.now in
    let key = c.in_ok-key.key in
    let unknown : c.find.result ≡ None = is_absent c.find.result c.if-is_none.ensures in
    let absent = ap (value_of before) c.in_ok-key.ensures.items ∙ sym c.find.ensures ∙ unknown in
    let grown
    = c.in_ok-insert.ensures.entries
    ∙ insert_entry-new (λ x y. pointwise nat_eq x.items y.items) before.met key c.args.value absent in
    λ other. ap (λ pairs. lookup (λ k. pointwise nat_eq other k.items) pairs) grown
    ∙ lookup_push (λ k. k.items) before.met.entries key c.args.value c.args.name.now other c.in_ok-key.ensures.items
