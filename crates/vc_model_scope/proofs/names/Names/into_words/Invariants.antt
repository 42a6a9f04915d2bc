use Rattle.std.proofs.Common.{◌≡◌, ◌++◌, map}
use Rattle.vc_model_scope.proofs.names.Names.into_words.Given as goal

abbrev pub invariant-loop-name : goal.invariant-loop-name
invariant-loop-name l =
    l.words ++ map (λ name. name.items) l.name-iterator ≡ map (λ name. name.items) l.initial.name-iterator
