use Rattle.std.proofs.Common.{◌≡◌, ◌++◌, drop}
use Rattle.vc_compile_uses.specs.Growing.{Numbers}
use Rattle.vc_compile_uses.proofs.texts.push_texts.Given as goal

abbrev pub invariant-loop-text : goal.invariant-loop-text
invariant-loop-text l =
    record {
      numbered : Numbers l.numbers l.all;
      all : l.all ++ drop l.text-index l.texts ≡ l.fn.all ++ l.texts;
    }
