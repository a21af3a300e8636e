use Rattle.cove_run.proofs.threads.play_on_threads.Given as goal

abbrev pub ghosts-play_on_board : goal.ghosts-play_on_board
ghosts-play_on_board g a = record { table = a.opened.table }
