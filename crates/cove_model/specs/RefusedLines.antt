-- Lines that are refused, each with the first kind of fault that applies to it.
use Rattle.std.specs.Prelude.{◌≡◌, ℕ, ◌+◌, List, [], ◌∷◌, ◌++◌, length, map, codes, Err}
use Rattle.cove_base.specs.declared.faults.Kind.{Kind}
use Rattle.cove_base.specs.declared.faults.Kind.TheVariants.{BadHeader, UnknownWord, BadNumber, WrongCount, OutOfBoard}
use Rattle.cove_model.specs.Examples.{text}
use Rattle.cove_model.specs.Grammar.{script_of, fault_at}

-- each line, after these, is the first that is faulty, and of this kind
abbrev pub AreRefused : (before : List (List ℕ)) → List (List ℕ × Kind) → Type 0
AreRefused before rows =
    map (λ row. script_of 99 (text (before ++ row.0 ∷ []))) rows ≡ map (λ row. Err (fault_at (length before + 1) row.1)) rows

-- what comes first
abbrev pub first_lines : List (List ℕ × Kind)
first_lines =
    (codes "0 gfence", BadHeader)
    ∷ (codes "bord 1 1 0", BadHeader)
    ∷ (codes "Board 1 1 0", BadHeader)
    ∷ (codes "key 00", BadHeader)
    ∷ (codes "fill x", BadHeader)
    ∷ (codes "end 1", BadHeader)
    ∷ (codes "0x", BadHeader)
    ∷ (codes "fly", BadHeader)
    ∷ (codes "board", WrongCount)
    ∷ (codes "board 1 1", WrongCount)
    ∷ (codes "board 0 0 8 0", WrongCount)
    ∷ (codes "board x", BadNumber)
    ∷ (codes "board 0 1 0 x", BadNumber)
    ∷ (codes "board 18446744073709551616 1 0", BadNumber)
    ∷ (codes "board 0 1 0", OutOfBoard)
    ∷ (codes "board 4097 1 0", OutOfBoard)
    ∷ (codes "board 1 0 0", OutOfBoard)
    ∷ (codes "board 1 9 0", OutOfBoard)
    ∷ (codes "board 1 257 0", OutOfBoard)
    ∷ (codes "board 1 1 8", OutOfBoard)
    ∷ []

-- what comes after the board
abbrev pub lines_after_board : List (List ℕ × Kind)
lines_after_board =
    (codes "board 4 2 1", UnknownWord)
    ∷ (codes "key", WrongCount)
    ∷ (codes "key 0", BadNumber)
    ∷ (codes "key 0g", BadNumber)
    ∷ (codes "key 0x00", BadNumber)
    ∷ (codes "key 00 ff", BadNumber)
    ∷ (codes "key 00 1", WrongCount)
    ∷ (codes "fill", WrongCount)
    ∷ (codes "fill 0", WrongCount)
    ∷ (codes "fill x", BadNumber)
    ∷ (codes "fill x 00", BadNumber)
    ∷ (codes "fill 0 0", BadNumber)
    ∷ (codes "fill 0 zz", BadNumber)
    ∷ (codes "fill 16384 00 x", BadNumber)
    ∷ (codes "fill 16384 00 1", WrongCount)
    ∷ (codes "fill 16384 00", OutOfBoard)
    ∷ (codes "fill 16383 0000", OutOfBoard)
    ∷ (codes "fill 18446744073709551615 00", OutOfBoard)
    ∷ (codes "gfence", UnknownWord)
    ∷ (codes "phases", UnknownWord)
    ∷ (codes "keys", UnknownWord)
    ∷ (codes "5", WrongCount)
    ∷ (codes "0x", BadNumber)
    ∷ (codes "0zz", BadNumber)
    ∷ (codes "0zz fly", UnknownWord)
    ∷ (codes "0zz gfence", BadNumber)
    ∷ (codes "0X1 gfence", BadNumber)
    ∷ (codes "-1 gfence", UnknownWord)
    ∷ (codes "+1 gfence", UnknownWord)
    ∷ (codes "0 fly x", UnknownWord)
    ∷ (codes "0 Gfence", UnknownWord)
    ∷ (codes "0 board", UnknownWord)
    ∷ (codes "0 # gfence", UnknownWord)
    ∷ (codes "0 gfence x", BadNumber)
    ∷ (codes "0 gfence #", BadNumber)
    ∷ (codes "2 gfence 1", WrongCount)
    ∷ (codes "2 gfence", OutOfBoard)
    ∷ (codes "256 gfence", OutOfBoard)
    ∷ (codes "0x100000000 gfence", OutOfBoard)
    ∷ (codes "18446744073709551615 gfence", OutOfBoard)
    ∷ (codes "0 convert", WrongCount)
    ∷ (codes "0 convert 1", WrongCount)
    ∷ (codes "0 convert x", BadNumber)
    ∷ (codes "0 convert 1 2 3", WrongCount)
    ∷ (codes "0 convert 1 2 x", BadNumber)
    ∷ (codes "0 measured 1 2 3 4", WrongCount)
    ∷ (codes "0 measured 1 2 3 4 5 6", WrongCount)
    ∷ (codes "0 kick 000000000000000000001", BadNumber)
    ∷ (codes "0 kick 99999999999999999999", BadNumber)
    ∷ (codes "0 kick 0x", BadNumber)
    ∷ (codes "0 kick 0X1", BadNumber)
    ∷ (codes "0 kick 0x00000000000000001", BadNumber)
    ∷ (codes "0 kick -1", BadNumber)
    ∷ (codes "0 ld", WrongCount)
    ∷ (codes "0 ld 4 4", WrongCount)
    ∷ (codes "0 ld 4", OutOfBoard)
    ∷ (codes "0 ld 0x4000", OutOfBoard)
    ∷ (codes "0 ld 18446744073709551608", OutOfBoard)
    ∷ (codes "0 sd 1", WrongCount)
    ∷ (codes "0 sd 8 x", BadNumber)
    ∷ (codes "0 sd 1 1", OutOfBoard)
    ∷ (codes "phase 1", WrongCount)
    ∷ (codes "phase x", BadNumber)
    ∷ (codes "turns", WrongCount)
    ∷ (codes "turns 2 x", BadNumber)
    ∷ (codes "turns 0 1 2", OutOfBoard)
    ∷ (codes "turns 256", OutOfBoard)
    ∷ (codes "end 1", WrongCount)
    ∷ (codes "end x", BadNumber)
    ∷ []

-- what comes after a key
abbrev pub lines_after_key : List (List ℕ × Kind)
lines_after_key =
    (codes "key 00", UnknownWord)
    ∷ (codes "key", UnknownWord)
    ∷ (codes "board x", UnknownWord)
    ∷ []

-- what comes after a line of a hart
abbrev pub lines_after_body : List (List ℕ × Kind)
lines_after_body =
    (codes "key 00", UnknownWord)
    ∷ (codes "fill 0 00", UnknownWord)
    ∷ (codes "fill x", UnknownWord)
    ∷ (codes "board 1 1 0", UnknownWord)
    ∷ []

-- what comes after the line `end`
abbrev pub lines_after_end : List (List ℕ × Kind)
lines_after_end =
    (codes "end", UnknownWord)
    ∷ (codes "0 gfence", UnknownWord)
    ∷ (codes "phase x", UnknownWord)
    ∷ (codes "turns", UnknownWord)
    ∷ (codes "5", UnknownWord)
    ∷ []
