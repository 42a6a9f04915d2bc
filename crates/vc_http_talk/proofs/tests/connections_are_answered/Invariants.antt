-- The ledger is the blank's.
use Rattle.vc_http_talk.proofs.tests.connections_are_answered.Given as goal

abbrev pub ghosts-desk_of : goal.ghosts-desk_of
ghosts-desk_of g a = record { name = a.blank.name; parts = a.blank.parts }
