use Rattle.std.proofs.Common.{◌∙◌, ap}
use Rattle.std.specs.List.{list_any}
use Rattle.vc_types.specs.NameFaults.{names_column_twice}
use Rattle.vc_types_dependency.proofs.StandingLemmas.{double_is, or_else, or_then}
use Rattle.vc_types_dependency.specs.Found.{setting_in, tree_in}
use Rattle.vc_types_occurrences.specs.Seen.{calls_seen}
use Rattle.vc_types_dependency.proofs.kinds.double_name.Goals as goal

pub returns-then-declared : goal.returns-then-declared
returns-then-declared c =
    let found = c.args.found.now in
    or_then c.in_ok-declared.declared c.in_ok-named.named c.if-declared.true
    ∙ double_is (setting_in found) (tree_in found) c.objects_in.result.now (calls_seen found.parts.now.calls)
    c.in_ok-declared.declared c.in_ok-named.named
    c.requires.variables c.in_ok-declared.ensures c.objects_in.ensures
    (c.in_ok-named.ensures ∙ ap (λ calls. list_any names_column_twice (calls_seen calls)) c.as_slice.ensures)
    c.requires.parts.calls

pub returns-else-declared : goal.returns-else-declared
returns-else-declared c =
    let found = c.args.found.now in
    or_else c.in_ok-declared.declared c.in_ok-named.named c.if-declared.false
    ∙ double_is (setting_in found) (tree_in found) c.objects_in.result.now (calls_seen found.parts.now.calls)
    c.in_ok-declared.declared c.in_ok-named.named
    c.requires.variables c.in_ok-declared.ensures c.objects_in.ensures
    (c.in_ok-named.ensures ∙ ap (λ calls. list_any names_column_twice (calls_seen calls)) c.as_slice.ensures)
    c.requires.parts.calls
