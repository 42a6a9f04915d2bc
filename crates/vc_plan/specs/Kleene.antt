-- Kleene's truth values.
use Rattle.std.specs.Prelude.{Bool, true, false}
use Rattle.vc_plan.specs.declared.conditions.Kleene.{Kleene}
use Rattle.vc_plan.specs.declared.conditions.Kleene.TheVariants.{True, False, Unknown}

-- the truth of what is known
abbrev pub truth_of : Bool → Kleene
truth_of true = True
truth_of false = False

abbrev pub is_true : Kleene → Bool
is_true True = true
is_true False = false
is_true Unknown = false

abbrev pub is_false : Kleene → Bool
is_false True = false
is_false False = true
is_false Unknown = false

abbrev pub kleene_not : Kleene → Kleene
kleene_not True = False
kleene_not False = True
kleene_not Unknown = Unknown

abbrev pub kleene_and : Kleene → Kleene → Kleene
kleene_and True b = b
kleene_and False b = False
kleene_and Unknown True = Unknown
kleene_and Unknown False = False
kleene_and Unknown Unknown = Unknown

abbrev pub kleene_or : Kleene → Kleene → Kleene
kleene_or True b = True
kleene_or False b = b
kleene_or Unknown True = True
kleene_or Unknown False = Unknown
kleene_or Unknown Unknown = Unknown
