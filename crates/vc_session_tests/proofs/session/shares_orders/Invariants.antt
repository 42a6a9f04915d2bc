-- The ledger is the blank's.
use Rattle.vc_session_tests.proofs.session.shares_orders.Given as goal

abbrev pub ghosts-sessions_sharing : goal.ghosts-sessions_sharing
ghosts-sessions_sharing g a = record { name = a.blank.name; parts = a.blank.parts }
