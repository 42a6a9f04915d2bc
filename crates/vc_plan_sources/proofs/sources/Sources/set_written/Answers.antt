-- The entry that is put into its place is the one that contracts see there.
use Rattle.std.proofs.Common.{◌≡◌, ℕ, List, Option, option_map, map, slice_set, ap, ◌∙◌}
use Rattle.std.proofs.lemmas.List.{map-set}
use Rattle.vc_value.specs.declared.value.Value.{Value}
use Rattle.vc_plan.specs.declared.atoms.Mark.{Mark}
use Rattle.vc_plan.specs.Sources.{Sources}
use Rattle.vc_plan_sources.specs.Changes.{entry_from, with_entry}
use Rattle.vc_plan_sources.proofs.sources.Sources.set_written.Goals as goal

abbrev seen : List (Option Value) → List (Option (Mark × ℕ × ℕ)) → Sources
seen users entries = record { user = users; written = map (option_map entry_from) entries }

changed : (users : List (Option Value)) (entries after : List (Option (Mark × ℕ × ℕ))) (sources : Sources) (v : ℕ)
    (entry : Option (Mark × ℕ × ℕ))
    → seen users entries ≡ sources → after ≡ slice_set entries v entry
    → seen users after ≡ with_entry sources v (option_map entry_from entry)
changed users entries after sources v entry s a =
    ap (seen users) a ∙ (ap (λ written. record { user = users; written = written })
    (map-set (option_map entry_from) entries v entry)
    ∙ ap (λ before. with_entry before v (option_map entry_from entry)) s)

pub returns : goal.returns
returns c = changed c.self.inside.users c.self.inside.entries c.set.new.self c.args.self.now c.args.var c.args.entry
    c.self.view_is c.set.ensures
