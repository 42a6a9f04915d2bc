-- The ledger is the blank's.
use Rattle.vc_rule_tests.proofs.rule.says_that_a_line_is_here.Given as goal

abbrev pub ghosts-evaluate_first : goal.ghosts-evaluate_first
ghosts-evaluate_first g a = record { name = a.blank.name; parts = a.blank.parts }
