-- The ledger is the blank's.
use Rattle.vc_net_settling_tests.proofs.net.blames_the_constraint.Given as goal

abbrev pub ghosts-told_of_lamp : goal.ghosts-told_of_lamp
ghosts-told_of_lamp g a = record { name = a.blank.name; parts = a.blank.parts }
