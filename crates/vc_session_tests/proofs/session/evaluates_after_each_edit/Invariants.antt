-- The ledger is the blank's.
use Rattle.vc_session_tests.proofs.session.evaluates_after_each_edit.Given as goal

abbrev pub ghosts-session_of : goal.ghosts-session_of
ghosts-session_of g a = record { name = a.blank.name; parts = a.blank.parts }
