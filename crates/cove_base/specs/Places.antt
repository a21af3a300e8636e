use Rattle.std.specs.Prelude.{◌≡◌, ℕ, ◌+◌, ◌*◌, ◌<◌, ◌≤◌}
use Rattle.cove_base.specs.declared.limits.TheConstants.{TVM_LIMIT}

-- the page word of a page
abbrev pub page_word : (page : ℕ) → ℕ
page_word page = page

-- a table word of a page, of which it has 512
abbrev pub table_word : (pages page i : ℕ) → ℕ
table_word pages page i = pages + 512 * page + i

-- the global epoch
abbrev pub epoch_word : (pages : ℕ) → ℕ
epoch_word pages = 513 * pages

-- the answered number of a hart
abbrev pub answered_word : (pages hart : ℕ) → ℕ
answered_word pages hart = 513 * pages + 1 + hart

-- the number of a TVM
abbrev pub tvm_word : (pages harts tvm : ℕ) → ℕ
tvm_word pages harts tvm = 513 * pages + 1 + harts + tvm

-- the word of a hart, which says where it is
abbrev pub hart_word : (pages harts hart : ℕ) → ℕ
hart_word pages harts hart = 513 * pages + 2 + TVM_LIMIT + harts + hart

-- the count of entries
abbrev pub count_word : (pages harts : ℕ) → ℕ
count_word pages harts = 513 * pages + 2 + TVM_LIMIT + 2 * harts

-- how many words there are
abbrev pub all_words : (pages harts : ℕ) → ℕ
all_words pages harts = 513 * pages + 3 + TVM_LIMIT + 2 * harts

-- the words that are used, by what they are for
pub data Place : Type 0 where
  PageWord : (page : ℕ) → Place
  TableWord : (page i : ℕ) → Place
  EpochWord : Place
  AnsweredWord : (hart : ℕ) → Place
  TvmWord : (tvm : ℕ) → Place
  HartWord : (hart : ℕ) → Place
  CountWord : Place

-- a page and a hart are of the board, and a TVM is one that may be created
abbrev pub IsPlace : (pages harts : ℕ) → Place → Type 0
IsPlace pages harts (PageWord page) = page < pages
IsPlace pages harts (TableWord page i) = (page < pages) × (i < 512)
IsPlace pages harts EpochWord = Unit {0}
IsPlace pages harts (AnsweredWord hart) = hart < harts
IsPlace pages harts (TvmWord tvm) = (1 ≤ tvm) × (tvm ≤ TVM_LIMIT)
IsPlace pages harts (HartWord hart) = hart < harts
IsPlace pages harts CountWord = Unit {0}

-- where a word stands
abbrev pub place_of : (pages harts : ℕ) → Place → ℕ
place_of pages harts (PageWord page) = page_word page
place_of pages harts (TableWord page i) = table_word pages page i
place_of pages harts EpochWord = epoch_word pages
place_of pages harts (AnsweredWord hart) = answered_word pages hart
place_of pages harts (TvmWord tvm) = tvm_word pages harts tvm
place_of pages harts (HartWord hart) = hart_word pages harts hart
place_of pages harts CountWord = count_word pages harts

-- each place is one of all words
abbrev pub PlacesFit : Type 0
PlacesFit = (pages harts : ℕ) (a : Place) → IsPlace pages harts a → place_of pages harts a < all_words pages harts

-- different places are different words
abbrev pub PlacesDiffer : Type 0
PlacesDiffer =
    (pages harts : ℕ) (a b : Place) → IsPlace pages harts a → IsPlace pages harts b
    → place_of pages harts a ≡ place_of pages harts b → a ≡ b
