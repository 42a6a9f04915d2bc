-- What is known of a keeper around a call.
use Rattle.std.specs.Prelude.{ℕ, List, Option}
use Rattle.vc_outside.specs.Keepers.{Texts}

-- what it tells before, once it is begun, and after, its count of faults, and where it keeps texts afterwards
pub record Keeping : Type 0 where
  pub saved_before : Option Texts
  pub saved_at_start : Option Texts
  pub saved_after : Option Texts
  pub faults_before : ℕ
  pub faults_after : ℕ
  pub begun : Option (Option (List ℕ))

abbrev pub keeping : Option Texts → Option Texts → Option Texts → ℕ → ℕ → Option (Option (List ℕ)) → Keeping
keeping saved_before saved_at_start saved_after faults_before faults_after begun = record {
  saved_before = saved_before;
  saved_at_start = saved_at_start;
  saved_after = saved_after;
  faults_before = faults_before;
  faults_after = faults_after;
  begun = begun;
}
