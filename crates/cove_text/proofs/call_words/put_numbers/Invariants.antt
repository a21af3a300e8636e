use Rattle.std.proofs.Common.{◌≡◌, ◌≤◌, ◌+◌, ◌*◌, ◌++◌, length, take, flat_map}
use Rattle.cove_base.specs.Numbers.{number_text}
use Rattle.cove_base.specs.Text.{spaced}
use Rattle.cove_text.proofs.call_words.put_numbers.Given as goal

abbrev pub invariant-loop-number : goal.invariant-loop-number
invariant-loop-number l =
    (l.out ≡ l.initial.out ++ flat_map (λ n. spaced (number_text n)) (take l.number-index l.numbers))
    × (length l.out ≤ length l.initial.out + 19 * l.number-index)
