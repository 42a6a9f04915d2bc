-- The ledger is the blank's.
use Rattle.vc_net_settling_tests.proofs.net_sources.tells_user.Given as goal

abbrev pub ghosts-ask_user : goal.ghosts-ask_user
ghosts-ask_user a = record { name = a.blank.name; parts = a.blank.parts }
