use Rattle.std.proofs.Common.{◌≡◌, drop}
use Rattle.vc_types_names.specs.Members.{all_marked, flags_of}
use Rattle.vc_types_names.proofs.members.flags_of.Given as goal

abbrev pub invariant-loop-member : goal.invariant-loop-member
invariant-loop-member l = all_marked l.flags.items (drop l.member-index l.members) ≡ flags_of l.members
