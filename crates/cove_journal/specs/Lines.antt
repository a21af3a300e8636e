use Rattle.std.specs.Prelude.{ℕ, ◌^◌, Bool, true, nat_lt, List, [], ◌∷◌, ◌++◌, codes, if◌then◌else◌}
use Rattle.cove_base.specs.Numbers.{natural_text}
use Rattle.cove_base.specs.Text.{joined, spaced}
use Rattle.cove_base.specs.declared.events.Event.{Event}
use Rattle.cove_base.specs.declared.events.Event.TheVariants as events
use Rattle.cove_base.specs.declared.events.Exit.{Exit}
use Rattle.cove_base.specs.declared.events.Exit.TheVariants as exits

-- the address of a page of guest memory has 64 bits
abbrev pub is_addressable : Exit → Bool
is_addressable (exits.Fault cause page) = nat_lt page.0 (2 ^ 52)
is_addressable _ = true

-- an event whose line can be written: the page of a fault has an address
abbrev pub is_writable : Event → Bool
is_writable (events.Exit exit) = is_addressable exit
is_writable _ = true

-- a text, and words after it, each after a space
abbrev pub words_after : (text : List ℕ) → List (List ℕ) → List ℕ
words_after text [] = text
words_after text (word ∷ words) = words_after (text ++ spaced word) words

-- the last line of a journal of so many entries: whether every line of the script is ended, or the limit came first
abbrev pub last_line_of : (whole : Bool) (n : ℕ) → List ℕ
last_line_of whole n = joined ((if whole then codes "end" else codes "limit") ∷ natural_text n ∷ [])
