-- A keeper in memory.
use Rattle.std.specs.Prelude.{ℕ, Bool, true, false, List, Option, Vec, Result, Ok, Err}
use Rattle.vc_value.specs.declared.word.Word.{Word}
use Rattle.vc_outside.specs.Faults.{Calls}
use Rattle.vc_outside.specs.Keepers.{Texts}
use Rattle.vc_outside.specs.declared.keeper.KeepFault.{KeepFault}
use Rattle.vc_outside.specs.declared.keeper.KeepFault.TheVariants.{Failed, OutOfMemory}

-- an entry by the bytes of its name
abbrev pub named_text : {Z : Type 0} → Vec ℕ Z × Word → List ℕ × List ℕ
named_text entry = (entry.0.items, entry.1)

-- what a keeper in memory is: its texts, where it keeps them, and its calls
pub record KeeperState : Type 0 where
  pub texts : Texts
  pub begun : Option (Option (List ℕ))
  pub calls : Calls

-- whether a call failed; one for which memory was wanting didn't
abbrev pub is_failed : {T : Type 0} → Result T KeepFault → Bool
is_failed (Ok x) = false
is_failed (Err Failed) = true
is_failed (Err OutOfMemory) = false
