mod CuttingLemmas
mod NumberLemmas
