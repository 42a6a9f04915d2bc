mod FaultLaws
mod LineLemmas
