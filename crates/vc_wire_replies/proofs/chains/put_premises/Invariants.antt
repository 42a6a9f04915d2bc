-- What is put so far and what is to come are all of it.
use Rattle.std.proofs.Common.{◌≡◌, ◌++◌, drop}
use Rattle.std.specs.List.{flat_map}
use Rattle.vc_wire_replies.specs.Chains.{premise_text}
use Rattle.vc_wire_replies.proofs.chains.put_premises.Given as goal

abbrev pub invariant-loop-premise : goal.invariant-loop-premise
invariant-loop-premise l = l.out ++ flat_map premise_text (drop l.premise-index l.premises)
    ≡ l.initial.out ++ flat_map premise_text l.premises
