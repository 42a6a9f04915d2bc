-- The ledger is the blank's.
use Rattle.vc_session_tests.proofs.session.tells_reasons.Given as goal

abbrev pub ghosts-reasons_before_and_after : goal.ghosts-reasons_before_and_after
ghosts-reasons_before_and_after g a = record { name = a.blank.name; parts = a.blank.parts }
