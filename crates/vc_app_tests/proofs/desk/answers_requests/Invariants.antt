-- The ledger is the blank's.
use Rattle.vc_app_tests.proofs.desk.answers_requests.Given as goal

abbrev pub ghosts-desk_of : goal.ghosts-desk_of
ghosts-desk_of g a = record { name = a.blank.name; parts = a.blank.parts }
