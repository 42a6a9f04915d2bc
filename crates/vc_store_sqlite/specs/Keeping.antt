-- What a keeper over SQLite tells.
use Rattle.std.specs.Prelude.{ℕ, Bool, List, Option, None, Some, if◌then◌else◌}
use Rattle.vc_outside.specs.Keepers.{Texts}

-- the texts of this run, whether a file keeps texts in their place, where texts are kept, once it is begun, and how
-- many calls failed
pub record Told : Type 0 where
  pub run : Texts
  pub in_file : Bool
  pub begun : Option (Option (List ℕ))
  pub faults : ℕ

-- the texts of this run are told, those in a file not
abbrev pub told_texts : Told → Option Texts
told_texts told = if told.in_file then None else Some told.run

-- and once it is begun, for this run or in a file
abbrev pub opened_texts : Told → Option (List ℕ) → Option Texts
opened_texts told None = Some told.run
opened_texts told (Some path) = None
