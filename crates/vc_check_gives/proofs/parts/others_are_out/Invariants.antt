-- Whether the grains to come are out where they fail is whether all are: those before are.
use Rattle.std.proofs.Common.{◌≡◌, ◌-◌, ◌≤◌}
use Rattle.std.specs.List.{list_all, range_with_len}
use Rattle.vc_check_gives.specs.Parts.{all_said, part_given, passes_or_out}
use Rattle.vc_check_gives.specs.declared.parts.Part.TheVariants.{Others}
use Rattle.vc_check_gives.proofs.parts.others_are_out.Given as goal

abbrev pub invariant-loop-grain : goal.invariant-loop-grain
invariant-loop-grain g l =
    let seen = g.V.View.seen l.view in
    (list_all (passes_or_out l.plan seen l.var l.test) (range_with_len l.grain (l.count - l.grain))
    ≡ all_said seen (part_given l.plan (Others l.var l.test)))
    × (l.grain ≤ l.count)

abbrev pub decreases-loop-grain : goal.decreases-loop-grain
decreases-loop-grain g l = l.count - l.grain
