use Rattle.std.proofs.Common.{◌≡◌, ◌∷◌, ◌++◌, [], ◌∙◌, ap, sym, None, is_some, nat_eq}
use Rattle.std.specs.Cmp.Lexicographic.{pointwise}
use Rattle.indexmap.proofs.CallerLemmas.{insert_entry-new}
use Rattle.vc_table.specs.Tables.{text_number, entries_of}
use Rattle.vc_table.proofs.TextLemmas.{lookup_number, entries_more, text_again, no_number}
use Rattle.vc_table.proofs.text_index.TextIndex.add.Goals as goal

pub returns-in_ok-insert : goal.returns-in_ok-insert
returns-in_ok-insert c =
    let pairs = c.self.inside.numbers.entries in
    let key = c.in_ok-key.key in
    let entry = c.args.entry.now in
    let copied : key.items ≡ entry.text = c.in_ok-key.ensures.items ∙ c.bytes-text.ensures in
    let unknown : c.find.result ≡ None = no_number c.find.result c.if-is_none.ensures in
    let absent
    = lookup_number (λ text. text.items) key.items pairs
    ∙ ap (λ entries. text_number entries key.items) c.self.view_is
    ∙ ap (text_number c.args.self.now) c.in_ok-key.ensures.items ∙ sym c.find.ensures ∙ unknown in
    let grown
    = c.in_ok-insert.ensures.entries
    ∙ insert_entry-new (λ x y. pointwise nat_eq x.items y.items) c.self.inside.numbers key entry.number absent in
    λ text. ap (λ pairs. text_number (entries_of (λ text. text.items) pairs) text) grown
    ∙ ap (λ entries. text_number entries text) (entries_more (λ text. text.items) pairs key entry copied)
    ∙ ap (λ entries. text_number (entries ++ entry ∷ []) text) c.self.view_is

pub returns-else-is_none : goal.returns-else-is_none
returns-else-is_none c =
    let same = ap (text_number c.args.self.now) (sym c.bytes-text.ensures) ∙ sym c.find.ensures in
    text_again c.args.self.now c.args.entry.now (ap is_some same ∙ c.if-is_none.ensures)
