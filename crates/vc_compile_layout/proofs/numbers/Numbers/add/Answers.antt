use Rattle.std.proofs.Common.{◌≡◌, ◌==◌, ◌&&◌, ◌∙◌, ap, sym, None}
use Rattle.std.specs.Map.{lookup}
use Rattle.vc_types_names.proofs.NameLemmas.{is_absent}
use Rattle.indexmap.proofs.CallerLemmas.{insert_entry-new}
use Rattle.vc_compile_layout.proofs.NumberLemmas.{spot_push}
use Rattle.vc_compile_layout.proofs.numbers.Numbers.add.Goals as goal

pub returns-in_ok-insert : goal.returns-in_ok-insert
returns-in_ok-insert c =
    let before = c.args.self.now in
    let spot = c.args.spot in
    let unknown : c.find.result ≡ None = is_absent c.find.result c.if-is_none.ensures in
    let absent = sym c.find.ensures ∙ unknown in
    let grown
    = c.in_ok-insert.ensures.entries
    ∙ insert_entry-new (λ x y. (x.slot == y.slot) && (x.characteristic == y.characteristic)) before.met spot
    c.args.number absent in
    λ i k. ap (λ pairs. lookup (λ s. (i == s.slot) && (k == s.characteristic)) pairs) grown
    ∙ spot_push before.met.entries spot c.args.number i k
