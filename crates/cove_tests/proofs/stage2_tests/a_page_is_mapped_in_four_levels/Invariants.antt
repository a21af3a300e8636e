use Rattle.cove_tests.proofs.stage2_tests.a_page_is_mapped_in_four_levels.Given as goal

abbrev pub ghosts-alone_found : goal.ghosts-alone_found
ghosts-alone_found g a = record { name = a.blank.name; parts = a.blank.parts }
