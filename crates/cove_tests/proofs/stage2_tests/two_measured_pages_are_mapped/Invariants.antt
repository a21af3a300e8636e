use Rattle.cove_tests.proofs.stage2_tests.two_measured_pages_are_mapped.Given as goal

abbrev pub ghosts-both_found : goal.ghosts-both_found
ghosts-both_found g a = record { name = a.blank.name; parts = a.blank.parts }
