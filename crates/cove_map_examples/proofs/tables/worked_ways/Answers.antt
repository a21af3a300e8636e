use Rattle.std.proofs.Common.{refl, inl, inr}
use Rattle.cove_map_examples.proofs.TableProofs.{not_as_three, not_beside, not_leaf}
use Rattle.cove_map_examples.proofs.tables.worked_ways.Goals as goal

pub returns-clause-root : goal.returns-clause-root
returns-clause-root c = inr (inl refl)

pub returns-clause-last : goal.returns-clause-last
returns-clause-last c = inl refl

pub returns-clause-beside : goal.returns-clause-beside
returns-clause-beside c = not_beside

pub returns-clause-leaf : goal.returns-clause-leaf
returns-clause-leaf c = not_leaf

pub returns-clause-root_of_four : goal.returns-clause-root_of_four
returns-clause-root_of_four c = inr (inr (inl refl))

pub returns-clause-between : goal.returns-clause-between
returns-clause-between c = inr (inl refl)

pub returns-clause-last_of_four : goal.returns-clause-last_of_four
returns-clause-last_of_four c = inl refl

pub returns-clause-as_in_three : goal.returns-clause-as_in_three
returns-clause-as_in_three c = not_as_three
