use Rattle.std.proofs.Common.{◌≡◌, ◌++◌, drop, map, flat_map}
use Rattle.vc_compile_plan.specs.Cuts.{relation_marks}
use Rattle.vc_compile_cuts.specs.Marks.{marks_seen}
use Rattle.vc_types_meanings.specs.Seen.{seen}
use Rattle.vc_types_occurrences.specs.Seen.{relations_seen}
use Rattle.vc_compile_cuts.proofs.marks.put_relations.Given as goal

abbrev pub invariant-loop-relation : goal.invariant-loop-relation
invariant-loop-relation l =
    marks_seen l.out ++ flat_map (relation_marks (seen l.setting).model (seen l.setting).variables)
    (relations_seen (drop l.relation-index l.relations))
    ≡ marks_seen l.fn.out ++ flat_map (relation_marks (seen l.setting).model (seen l.setting).variables)
    (relations_seen l.relations)
