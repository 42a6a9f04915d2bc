-- What variables of a list stand for.
use Rattle.std.specs.Prelude.{ℕ, List, Option}
use Rattle.vc_types.specs.Meanings.{Variable, referent_of, variable_named}
use Rattle.vc_types.specs.declared.meaning.Referent.{Referent}

-- what the first of this name stands for
abbrev pub referent_among : List Variable → List ℕ → Option Referent
referent_among variables name = referent_of (variable_named variables name)
