-- The ledger is the blank's.
use Rattle.vc_app_tests.proofs.desk_shown.tells_of_a_session.Given as goal

abbrev pub ghosts-session_of : goal.ghosts-session_of
ghosts-session_of g a = record { name = a.blank.name; parts = a.blank.parts }
