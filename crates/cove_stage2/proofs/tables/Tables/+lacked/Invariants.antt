use Rattle.cove_stage2.proofs.tables.Tables.+lacked.Given as goal

-- the depth
abbrev pub decreases-lacked : goal.decreases-lacked
decreases-lacked g l = l.depth
