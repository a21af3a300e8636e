-- Who holds a page, with the words that the host sees there.
use Rattle.std.specs.Prelude.{ℕ, Bool, true, false, List, [], ◌∷◌, ◌++◌, ◌==◌, not, filter, map, take, drop, replicate, slice_index_or, slice_set, Option, Some, None}
use Rattle.std.specs.List.{list_all, list_any}

-- what a TVM uses a page for; a page of its memory stands at a guest page
pub data Purpose : Type 0 where
  AsRoot : Purpose
  AsState : Purpose
  AsTable : Purpose
  AsVcpu : Purpose
  AsData : (guest : ℕ) → Purpose

-- The host's page; a page on its way from the host, with the harts that may still use it, and, once a fence began, those
-- that it waits for; the monitor's; a TVM's. The lists of harts rise. Only the first two have words.
pub data Owner : Type 0 where
  Host : (words : List ℕ) → Owner
  Converting : (held : List ℕ) (waiting : Option (List ℕ)) (words : List ℕ) → Owner
  Free : Owner
  Given : (tvm : ℕ) (purpose : Purpose) → Owner

-- the page is the host's
abbrev pub is_host : Owner → Bool
is_host (Host words) = true
is_host owner = false

-- the page is the monitor's, and may be given to a TVM or back to the host
abbrev pub is_free : Owner → Bool
is_free Free = true
is_free owner = false

-- a number is in a list
abbrev pub has : (n : ℕ) → List ℕ → Bool
has n ns = list_any (λ m. m == n) ns

-- harts without one of them
abbrev pub without : (hart : ℕ) (harts : List ℕ) → List ℕ
without hart harts = filter (λ other. not (other == hart)) harts

-- the words of a page that nothing was written to
unfoldable pub zeros : List ℕ
zeros = replicate 512 0

-- a page on its way from the host, of which the fences may be complete
abbrev pub settled : (held waiting words : List ℕ) → Owner
settled held [] words = Free
settled held (hart ∷ harts) words = Converting held (Some (hart ∷ harts)) words

-- a page of the host after its convert: every hart may still use it
abbrev pub converted : (harts : List ℕ) → Owner → Owner
converted harts (Host words) = Converting harts None words
converted harts owner = owner

-- a page after a global fence of a hart that began with these others
abbrev pub fenced : (hart : ℕ) (others : List ℕ) → Owner → Owner
fenced hart others (Converting held None words) = settled (without hart held) others words
fenced hart others (Converting held (Some waiting) words) = settled (without hart held) waiting words
fenced hart others owner = owner

-- a page after a local fence of a hart
abbrev pub fence_answered : (hart : ℕ) → Owner → Owner
fence_answered hart (Converting held None words) = Converting (without hart held) None words
fence_answered hart (Converting held (Some waiting) words) = settled (without hart held) (without hart waiting) words
fence_answered hart owner = owner

-- a free page after it was given back to the host
abbrev pub reclaimed : Owner → Owner
reclaimed Free = Host zeros
reclaimed owner = owner

-- a page after a word of it was written
abbrev pub word_stored : (place value : ℕ) → Owner → Owner
word_stored place value (Host words) = Host (slice_set words place value)
word_stored place value (Converting held waiting words) = Converting held waiting (slice_set words place value)
word_stored place value owner = owner

-- the words that the host sees of a page
abbrev pub words_of : Owner → List ℕ
words_of (Host words) = words
words_of (Converting held waiting words) = words
words_of owner = []

-- a hart may use the page: it is the host's, or on its way and the hart may hold a translation of it yet
abbrev pub may_use : (hart : ℕ) → Owner → Bool
may_use hart (Host words) = true
may_use hart (Converting held waiting words) = has hart held
may_use hart owner = false

-- to whom a page belongs
pub data Holder : Type 0 where
  TheHost : Holder
  TheMonitor : Holder
  OfTvm : (tvm : ℕ) → Holder

-- who holds a page: on its way it is the host's yet
abbrev pub holder : Owner → Holder
holder (Host words) = TheHost
holder (Converting held waiting words) = TheHost
holder Free = TheMonitor
holder (Given tvm purpose) = OfTvm tvm

-- the page with a number; past the memory there is none of the host's
abbrev pub page_at : (pages : List Owner) (p : ℕ) → Owner
page_at pages p = slice_index_or pages p Free

-- each of the n pages from a first one on passes the test
abbrev pub every : (test : Owner → Bool) (first n : ℕ) (pages : List Owner) → Bool
every test first n pages = list_all test (take n (drop first pages))

-- the n pages from a first one on are changed, and no other
abbrev pub change : (how : Owner → Owner) (first n : ℕ) (pages : List Owner) → List Owner
change how first n pages = take first pages ++ map how (take n (drop first pages)) ++ drop n (drop first pages)
