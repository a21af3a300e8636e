use Rattle.std.specs.Prelude.{◌≡◌, ℕ, Bool, true, false, ◌&&◌}
use Rattle.cove_base.specs.Tables.{present}
use Rattle.cove_base.specs.declared.events.Walked.{Walked}
use Rattle.cove_base.specs.declared.events.Walked.TheVariants.{Found, Missing}

-- what a walk comes to at a leaf: the page of a present leaf, which for a fetch isn't shared; else the leaf's word
abbrev pub WalksTo : (fetch : Bool) (leaf : ℕ) → Walked → Type 0
WalksTo fetch leaf (Found page) =
    (shared : Bool) × (leaf ≡ present page.0 shared) × ((fetch && shared) ≡ false)
WalksTo fetch leaf (Missing word) =
    (word ≡ leaf) × ((page : ℕ) (shared : Bool) → leaf ≡ present page shared → (fetch && shared) ≡ true)
