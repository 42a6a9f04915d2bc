-- Texts by name, as a keeper may tell them.
use Rattle.std.specs.Prelude.{◌≡◌, ℕ, ◌≤◌, Bool, List, ⊤, Option, None, Some, is_some, option_map, Result, Ok, Err}
use Rattle.std.specs.Borrow.{Bor}
use Rattle.std.specs.Cmp.Lexicographic.{slice_cmp}
use Rattle.std.specs.FinMap.{FinMap, get, insert, remove}
use Rattle.std.specs.Ordering.{nat_cmp}
use Rattle.vc_value.specs.declared.word.Word.{Word}
use Rattle.vc_outside.specs.Faults.{Raised}
use Rattle.vc_outside.specs.declared.keeper.KeepFault.{KeepFault}
use Rattle.vc_outside.specs.declared.keeper.KeepFault.TheVariants.{Failed, OutOfMemory}

-- a finite map from names to texts
abbrev pub Texts : Type 0
Texts = FinMap (slice_cmp nat_cmp) (List ℕ)

-- a call that fails raises the count of faults; where memory is wanting, or nothing is, the count is as it was
abbrev pub RaisesFor : ℕ → ℕ → KeepFault → Type 0
RaisesFor before now Failed = Raised before now
RaisesFor before now OutOfMemory = now ≡ before

abbrev pub Raises : {T : Type 0} → ℕ → ℕ → Result T KeepFault → Type 0
Raises before now (Ok x) = now ≡ before
Raises before now (Err fault) = RaisesFor before now fault

pub record HasKeepCause {T : Type 0} (before now : ℕ) (result : Result T KeepFault) : Type 0 where
  pub later : before ≤ now
  pub raises : Raises before now result

-- where texts are kept after a `begin`: in the place of this name, or, after an error, where they were before
abbrev pub Begins : Option (Option (List ℕ)) → Option (Option (List ℕ)) → Option (Bor (List ℕ)) → Result Unit KeepFault
    → Type 0
Begins before now name (Ok done) = now ≡ Some (option_map (λ text. text.now) name)
Begins before now name (Err fault) = now ≡ before

-- what is told after a `begin`: what the keeper opens in the place of this name; or, after an error, what was told
-- before
abbrev pub Opens : Option Texts → (Option (List ℕ) → Option Texts) → Option Texts → Option (Bor (List ℕ))
    → Result Unit KeepFault → Type 0
Opens before opens now name (Ok done) = now ≡ opens (option_map (λ text. text.now) name)
Opens before opens now name (Err fault) = now ≡ before

-- texts that are told have this one under the name then; after an error they are as before
abbrev pub Puts : Option Texts → Option Texts → List ℕ → List ℕ → Result Unit KeepFault → Type 0
Puts None now name text result = now ≡ None
Puts (Some before) now name text (Ok done) = now ≡ Some (insert before name text)
Puts (Some before) now name text (Err fault) = now ≡ Some before

-- what is answered is what is told
abbrev pub Tells : Option Texts → List ℕ → Result (Option Word) KeepFault → Type 0
Tells None name result = ⊤
Tells (Some texts) name (Ok found) = found ≡ get texts name
Tells (Some texts) name (Err fault) = ⊤

-- texts that are told have none under the name then, and whether there was one is answered
abbrev pub Forgets : Option Texts → Option Texts → List ℕ → Result Bool KeepFault → Type 0
Forgets None now name result = now ≡ None
Forgets (Some before) now name (Ok there) = (there ≡ is_some (get before name)) × (now ≡ Some (remove before name))
Forgets (Some before) now name (Err fault) = now ≡ Some before
