pub mod ReferentLemmas
