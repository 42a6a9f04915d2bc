-- The ledger is the blank's.
use Rattle.vc_value_tests.proofs.value_steps.counts_its_ticks.Given as goal

abbrev pub ghosts-run : goal.ghosts-run
ghosts-run a = record { name = a.blank.name; parts = a.blank.parts }
