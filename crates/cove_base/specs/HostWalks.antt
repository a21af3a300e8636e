-- What a walk to a host page comes to, by one load of the page's word.
use Rattle.std.specs.Prelude.{ℕ, ◌%◌, ◌==◌, Bool, if◌then◌else◌}
use Rattle.cove_base.specs.declared.events.Walked.{Walked}
use Rattle.cove_base.specs.declared.events.Walked.TheVariants.{Found, Missing}
use Rattle.cove_base.specs.declared.numbers.Page.{Page}

-- the word is one of a page of the host's, however often it is mapped
abbrev pub says_host : (word : ℕ) → Bool
says_host word = word % 8 == 0

-- a walk finds a page of the host's, and hands back the word of another
abbrev pub walked_to : Page → (word : ℕ) → Walked
walked_to page word = if says_host word then Found page else Missing word
