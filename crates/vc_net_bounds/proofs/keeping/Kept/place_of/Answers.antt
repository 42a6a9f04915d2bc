-- The column that stands at the place is the one that was asked for.
use Rattle.std.proofs.Common.{rules, ◌≡◌, ◌==◌, ◌&&◌, ◌∙◌, ◌++◌, ◌∷◌, [], Bool, ap, map, sym}
use Rattle.std.specs.List.{list_any}
use Rattle.vc_net_bounds.specs.declared.keeping.Column.{Column}
use Rattle.vc_net_bounds.specs.Keeping.{column_counts}
use Rattle.vc_net_bounds.proofs.KeepingLemmas.{columns_more, kept_more, same_column, stored_counts}
use Rattle.vc_net_bounds.proofs.keeping.Kept.place_of.Goals as goal

pub returns-in_ok-push-clause-counts : goal.returns-in_ok-push-clause-counts
returns-in_ok-push-clause-counts c =
    let plan = c.args.plan.now in
    let stored = c.in_ok-place.ensures.stored in
    let columns = c.self.inside.columns.keys in
    let before : c.self.inside.counts ≡ map (column_counts plan) columns = search rules in
    let grown : c.insert_full.new.self.keys ≡ columns ++ c.args.column ∷ []
    = columns_more (list_any same columns) columns c.insert_full.new.self.keys c.args.column c.in_ok-place.ensures.keys
    (search rules) in
    let kept : c.push.new.self ≡ map (column_counts plan) c.insert_full.new.self.keys
    = c.in_ok-push.ensures.ok
    ∙ (kept_more plan c.args.column columns c.self.inside.counts c.in_ok-count_column.field-0 before
    c.in_ok-count_column.ensures
    ∙ ap (map (column_counts plan)) (sym grown)) in
    stored_counts plan c.args.column stored.0 c.insert_full.new.self.keys c.push.new.self c.in_ok-place.place kept
    stored.1
    (same_column c.args.column stored.0 stored.2)
  where
    same : Column → Bool
    same other =
        (c.args.column.table == other.table)
        && ((c.args.column.column == other.column) && (c.args.column.domain == other.domain))

pub returns-else-is_new-clause-counts : goal.returns-else-is_new-clause-counts
returns-else-is_new-clause-counts c =
    let plan = c.args.plan.now in
    let stored = c.in_ok-place.ensures.stored in
    let kept : c.self.inside.counts ≡ map (column_counts plan) c.insert_full.new.self.keys = search rules in
    stored_counts plan c.args.column stored.0 c.insert_full.new.self.keys c.self.inside.counts c.in_ok-place.place kept
    stored.1
    (same_column c.args.column stored.0 stored.2)
