use Rattle.std.proofs.Common.{◌≡◌, ◌++◌, ◌∷◌, [], ◌≤◌, length, drop, flat_map, if◌then◌else◌}
use Rattle.vc_compile_tuples.specs.Growing.{below, fits}
use Rattle.vc_compile_tuples.proofs.tuples.+grow.Given as goal

abbrev pub decreases-grow : goal.decreases-grow
decreases-grow l = length l.choices.now

abbrev pub invariant-loop-slot : goal.invariant-loop-slot
invariant-loop-slot l = record {
  few : length l.out ≤ l.most;
  front : l.front ≡ l.fn.front;
  all : l.out ++ flat_map
      (λ i. if fits l.slots l.parts l.fn.front i then below l.slots l.parts (l.fn.front ++ i ∷ []) l.more else [])
      (drop l.slot-index l.slot-items)
      ≡ l.fn.out ++ below l.slots l.parts l.fn.front l.choices;
}
