use Rattle.std.proofs.Common.{◌≡◌}
use Rattle.cove_journal.specs.Reading.{arguments_of}
use Rattle.cove_journal.proofs.reading.read_arguments.Given as goal

abbrev pub invariant-loop-word : goal.invariant-loop-word
invariant-loop-word l =
    (goal.iterator-loop-word).can_next l.words
    × (goal.iterator-loop-word).is_finite l.words
    × (arguments_of l.args.items l.words ≡ arguments_of l.initial.args.items l.initial.words)
