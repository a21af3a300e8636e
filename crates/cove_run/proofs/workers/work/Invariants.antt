use Rattle.cove_run.proofs.workers.work.Given as goal

abbrev pub ghosts-take_steps : goal.ghosts-take_steps
ghosts-take_steps g a = record { name = a.blank.name; parts = a.blank.parts }
