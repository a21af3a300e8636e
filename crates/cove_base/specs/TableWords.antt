use Rattle.std.specs.Prelude.{◌≡◌, ℕ, ◌+◌, ◌*◌, ◌^◌}

-- a leaf of a page of the TVM's own: V, R, W, X, U, A and D
abbrev pub private_leaf : (page : ℕ) → ℕ
private_leaf page = 1024 * page + 0xDF

-- a leaf of a page of the host's: V, R, W, U, A and D
abbrev pub shared_leaf : (page : ℕ) → ℕ
shared_leaf page = 1024 * page + 0xD7

-- a leaf after it was blocked: without V, with bit 8, and with a number from bit 26 on
abbrev pub blocked : (leaf since : ℕ) → ℕ
blocked leaf since = leaf + 0xFF + 2 ^ 26 * since

-- a leaf of a page, present or blocked
pub data NamesPage (page word : ℕ) : Type 0 where
  PrivateLeaf : word ≡ private_leaf page → NamesPage page word
  SharedLeaf : word ≡ shared_leaf page → NamesPage page word
  BlockedPrivate : (since : ℕ) → word ≡ blocked (private_leaf page) since → NamesPage page word
  BlockedShared : (since : ℕ) → word ≡ blocked (shared_leaf page) since → NamesPage page word
