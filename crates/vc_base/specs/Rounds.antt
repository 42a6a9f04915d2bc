-- What givers give at a set of atoms, and the least fixpoint of all givers by rounds.
use Rattle.std.specs.Prelude.{Bool, true, false, if◌then◌else◌, ℕ, zero, suc, List, []}
use Rattle.std.specs.List.{flat_map, list_any}
use Rattle.vc_base.specs.Sets.{with_all}

-- what a giver gives at a set: a clash, or atoms
pub data Given (A : Type 0) : Type 0 where
  clash : Given A
  atoms : List A → Given A

-- whether it is a clash
abbrev pub is_clash : {A : Type 0} → Given A → Bool
is_clash clash = true
is_clash (atoms given) = false

-- the atoms given, none with a clash
abbrev pub atoms_of : {A : Type 0} → Given A → List A
atoms_of clash = []
atoms_of (atoms given) = given

-- what settling is about: when two atoms are the same, which sets are clear, what each giver gives at a set, and the
-- givers
pub record System (A O : Type 0) : Type 0 where
  pub same : A → A → Bool
  pub is_clear : List A → Bool
  pub gives : O → List A → Given A
  pub givers : List O

-- how settling ends: contradicted, or at a set to which nothing is to be added
pub data Settlement (A : Type 0) : Type 0 where
  broken : Settlement A
  settled : List A → Settlement A

-- whether some giver clashes at the set
abbrev pub some_clash : {A O : Type 0} → System A O → List A → Bool
some_clash system set = list_any (λ giver. is_clash (system.gives giver set)) system.givers

-- all atoms that some giver gives at the set
abbrev pub all_given : {A O : Type 0} → System A O → List A → List A
all_given system set = flat_map (λ giver. atoms_of (system.gives giver set)) system.givers

-- the set with all that is given at it
abbrev pub next_round : {A O : Type 0} → System A O → List A → List A
next_round system set = with_all system.same set (all_given system set)

-- so many rounds from the set: broken where a giver clashes at a set on the way, or the next set isn't clear
abbrev pub settle : {A O : Type 0} → System A O → ℕ → List A → Settlement A
settle system zero set = if some_clash system set then broken else settled set
settle system (suc rounds) set =
    let next = next_round system set in
    if some_clash system set then broken else (if system.is_clear next then settle system rounds next else broken)
