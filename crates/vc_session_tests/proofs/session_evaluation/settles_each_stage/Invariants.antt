-- The ledger is the blank's.
use Rattle.vc_session_tests.proofs.session_evaluation.settles_each_stage.Given as goal

abbrev pub ghosts-evaluated : goal.ghosts-evaluated
ghosts-evaluated g a = record { name = a.blank.name; parts = a.blank.parts }
