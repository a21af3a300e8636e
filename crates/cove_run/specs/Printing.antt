-- What the program prints beside the lines of a journal.
use Rattle.std.specs.Prelude.{ℕ, ◌<◌, IsTrue, List, [], ◌∷◌, ◌++◌, length, codes, slice_index_or}
use Rattle.cove_base.specs.Numbers.{natural_text}
use Rattle.cove_base.specs.declared.events.Entry.{Entry}
use Rattle.cove_base.specs.declared.faults.Kind.{Kind}
use Rattle.cove_base.specs.declared.faults.Kind.TheVariants.{TooLong, NotAscii, BadHeader, UnknownWord, BadNumber, WrongCount, OutOfBoard, NoEnd}
use Rattle.cove_base.specs.declared.faults.ScriptFault.{ScriptFault}
use Rattle.cove_journal.specs.Lines.{is_writable}
use Rattle.cove_base.specs.Text.{spaced}

-- the word of a kind of fault
abbrev pub kind_text : Kind → List ℕ
kind_text TooLong = codes "TooLong"
kind_text NotAscii = codes "NotAscii"
kind_text BadHeader = codes "BadHeader"
kind_text UnknownWord = codes "UnknownWord"
kind_text BadNumber = codes "BadNumber"
kind_text WrongCount = codes "WrongCount"
kind_text OutOfBoard = codes "OutOfBoard"
kind_text NoEnd = codes "NoEnd"

-- the line that refuses an input: the number of a line, and a word for what is wrong there
abbrev pub refused_line : (number : ℕ) (word : List ℕ) → List ℕ
refused_line number word = codes "refused" ++ spaced (natural_text number) ++ spaced word ++ 10 ∷ []

-- the line that refuses an input with a fault
abbrev pub refusal_line : ScriptFault → List ℕ
refusal_line fault = refused_line fault.line (kind_text fault.kind)

-- the line that refuses a script which harts on threads do not run
abbrev pub not_built_line : List ℕ
not_built_line = refused_line 0 (codes "NotBuilt")

-- every entry of a history has a line
abbrev pub AreWritable : List Entry → Type 0
AreWritable history = (i : ℕ) (d : Entry) → i < length history → IsTrue (is_writable (slice_index_or history i d).event)
