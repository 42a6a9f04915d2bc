use Rattle.vc_app_run.proofs.running.run_job.Given as goal

-- steps are counted in the ledger of the blank
abbrev pub ghosts-answer_from_start : goal.ghosts-answer_from_start
ghosts-answer_from_start g a = record { name = a.blank.name; parts = a.blank.parts }
