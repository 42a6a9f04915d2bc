pub mod LevelLemmas
