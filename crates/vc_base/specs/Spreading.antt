-- What a change of some things can spread to, by rules that each read some things and write some.
use Rattle.std.specs.Prelude.{ℕ, zero, suc, Bool, if◌then◌else◌, List, [], length}
use Rattle.std.specs.List.{flat_map, list_any}
use Rattle.vc_base.specs.Sets.{has, with_all, Within}

-- when two things are the same, the rules, and what each reads and writes
pub record Links (T R : Type 0) : Type 0 where
  pub same : T → T → Bool
  pub rules : List R
  pub reads : R → List T
  pub writes : R → List T

-- whether the rule reads a thing of the list
abbrev pub reads_some : {T R : Type 0} → Links T R → List T → R → Bool
reads_some links things rule = list_any (has links.same things) (links.reads rule)

-- what the rules write that read a thing of the list
abbrev pub written_from : {T R : Type 0} → Links T R → List T → List T
written_from links things =
    flat_map (λ rule. let written = links.writes rule in if reads_some links things rule then written else [])
    links.rules

-- the list with what is written from it, so many times
abbrev pub spread : {T R : Type 0} → Links T R → ℕ → List T → List T
spread links zero things = things
spread links (suc n) things = spread links n (with_all links.same things (written_from links things))

-- all that the things reach, each once: no more times are wanted than things are written
abbrev pub reach : {T R : Type 0} → Links T R → List T → List T
reach links things = spread links (suc (length (flat_map links.writes links.rules))) (with_all links.same [] things)

-- the list holds the things, and all that a rule writes that reads one of it
pub record IsSpread {T R : Type 0} (links : Links T R) (things all : List T) : Type 0 where
  pub holds : Within links.same things all
  pub written : Within links.same (written_from links all) all
