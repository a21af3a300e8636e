use Rattle.std.proofs.Common.{refl, inl, inr, arith}
use Rattle.cove_base.specs.Tables.{At}
use Rattle.cove_map_examples.proofs.TableProofs.{no_entry, no_way_beside, way_of_four, way_of_three}
use Rattle.cove_map_examples.proofs.tables.worked_links.Goals as goal

pub returns-clause-way : goal.returns-clause-way
returns-clause-way c = way_of_three

pub returns-clause-no_way : goal.returns-clause-no_way
returns-clause-no_way c = λ old way. let named = way.way (At 0 0) (inr (inl refl)) in let is = named.1 in absurd (omega (arith, no_entry 0 0 (omega arith)))

pub returns-clause-moved : goal.returns-clause-moved
returns-clause-moved c = λ old new was is way. let same = way.kept (At 0 0) (omega arith, omega arith) (omega arith) in absurd (omega arith)

pub returns-clause-beside : goal.returns-clause-beside
returns-clause-beside c = λ old new other way. other (way.others (At 1 1) (omega arith, omega arith) no_way_beside)

pub returns-clause-four_levels : goal.returns-clause-four_levels
returns-clause-four_levels c = way_of_four

pub returns-clause-one_level_less : goal.returns-clause-one_level_less
returns-clause-one_level_less c = λ old new none way. let named = way.way (At 2 0) (inl refl) in let is = named.1 in absurd (omega arith)

pub returns-clause-kept : goal.returns-clause-kept
returns-clause-kept c = λ words. record { links = λ a link. refl; spare = λ page spare. spare }

pub returns-clause-linked : goal.returns-clause-linked
returns-clause-linked c = λ new named keeps. let same = keeps.links (At 0 0) (omega arith, omega arith) in absurd (omega (arith, no_entry 0 0 (omega arith)))

pub returns-clause-unlinked : goal.returns-clause-unlinked
returns-clause-unlinked c = λ old named keeps. let same = keeps.links (At 0 0) (omega arith, omega arith) in absurd (omega (arith, no_entry 0 0 (omega arith)))
