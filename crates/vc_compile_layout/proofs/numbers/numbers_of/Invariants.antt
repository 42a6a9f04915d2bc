use Rattle.std.proofs.Common.{◌≡◌, ◌==◌, ◌&&◌, ℕ, take}
use Rattle.std.specs.List.{position}
use Rattle.vc_compile_layout.specs.Numbered.{number_of}
use Rattle.vc_compile_layout.proofs.numbers.numbers_of.Given as goal

abbrev pub invariant-loop-number : goal.invariant-loop-number
invariant-loop-number g l =
    (i c : ℕ) → number_of l.numbers i c
    ≡ position (λ x. (g.T.Spotted.slot_of x == i) && (g.T.Spotted.characteristic_of x == c)) (take l.number l.list)
