-- Which words the command accepts.
use Rattle.std.specs.Prelude.{Bool, false, List, [], ◌∷◌, String, string_bytes, bytes_eq, codes, IsTrue}
use Rattle.std.specs.declared.alloc.Global.{Global}

-- the words are `sched` alone
abbrev pub accepts : List (String Global) → Bool
accepts (word ∷ []) = bytes_eq (string_bytes word) (codes "sched")
accepts words = false

-- the command accepts the words
abbrev pub IsAccepted : List (String Global) → Type 0
IsAccepted words = IsTrue (accepts words)
