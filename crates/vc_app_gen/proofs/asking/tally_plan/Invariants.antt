-- Steps are counted in the ledger of the blank.
use Rattle.vc_app_gen.proofs.asking.tally_plan.Given as goal

abbrev pub ghosts-tally_begun : goal.ghosts-tally_begun
ghosts-tally_begun a = record { name = a.blank.name; parts = a.blank.parts }
