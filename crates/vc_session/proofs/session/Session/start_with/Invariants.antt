-- The ledger is the blank's.
use Rattle.vc_session.proofs.session.Session.start_with.Given as goal

abbrev pub ghosts-begun : goal.ghosts-begun
ghosts-begun a = record { name = a.blank.name; parts = a.blank.parts }
