use Rattle.std.proofs.Common.{◌≡◌, drop}
use Rattle.vc_compile_uses.specs.Growing.{texts_seen, with_texts, Numbers}
use Rattle.vc_compile_uses.proofs.texts.add_texts.Given as goal

abbrev pub invariant-loop-text : goal.invariant-loop-text
invariant-loop-text l =
    record {
      numbered : Numbers l.numbers l.all;
      all : with_texts l.all (texts_seen (drop l.text-index l.texts)) ≡ with_texts l.fn.all (texts_seen l.texts);
    }
