use Rattle.serving_tests.proofs.runs.serve_over.Given as goal

abbrev pub ghosts-serve_named : goal.ghosts-serve_named
ghosts-serve_named g a = record { lock = a.lock.now; setting = a.setting.now }
