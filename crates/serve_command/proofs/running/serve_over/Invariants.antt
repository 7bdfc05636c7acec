use Rattle.serve_command.proofs.running.serve_over.Given as goal

abbrev pub ghosts-serve_room : goal.ghosts-serve_room
ghosts-serve_room g a = record { lock = a.lock; setting = a.setting.now }
