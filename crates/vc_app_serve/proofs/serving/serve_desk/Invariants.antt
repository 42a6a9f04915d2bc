use Rattle.vc_app_serve.proofs.serving.serve_desk.Given as goal

-- steps are counted in the ledger of the blank
abbrev pub ghosts-serve_counted : goal.ghosts-serve_counted
ghosts-serve_counted g a = record { name = a.blank.name; parts = a.blank.parts }
