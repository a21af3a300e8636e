use Rattle.std.proofs.Common.{◌^◌, [], ◌∷◌, refl, arith, length-append}
use Rattle.cove_map_examples.proofs.tables.worked_changes.Goals as goal

pub returns-clause-same : goal.returns-clause-same
returns-clause-same c = λ words g tree. record { tree = tree; here = refl; others = λ h low other. refl; length = refl }

pub returns-clause-elsewhere : goal.returns-clause-elsewhere
returns-clause-elsewhere c = λ old new none changes. let here = changes.here in absurd (omega arith)

pub returns-clause-another : goal.returns-clause-another
returns-clause-another c = λ old new other changes. other (changes.others 8 (omega arith) (omega arith))

pub returns-clause-beyond_three : goal.returns-clause-beyond_three
returns-clause-beyond_three c = λ old new other changes. other (changes.others (2 ^ 29) (omega arith) (omega arith))

pub returns-clause-longer : goal.returns-clause-longer
returns-clause-longer c = λ words changes. let same = changes.length in absurd (omega (arith, length-append words (0 ∷ [])))
