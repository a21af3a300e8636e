-- Which leaf of a TVM's tables stands for a mapping of its guest page.
use Rattle.std.specs.Prelude.{◌≡◌, ℕ, ◌+◌, ◌<◌, ◌≤◌, true, false, List, Option, Some, None}
use Rattle.cove_base.specs.TableWords.{blocked}
use Rattle.cove_base.specs.Tables.{present}
use Rattle.cove_model.specs.Mappings.{page_under}
use Rattle.cove_model.specs.Sound.{Within}
use Rattle.cove_model.specs.Tvms.{Backing, OwnPage, HostPage, Standing, Present, Blocked, Mapping}
use Rattle.cove_model.specs.WordsStand.{number_in}
use Rattle.cove_tvm.specs.Entered.{WaitsSince, entered_below}

-- the leaf, while it is present, of a page of the TVM's own, and of one of the host's
abbrev pub leaf_of : Backing → ℕ
leaf_of (OwnPage page words) = present page false
leaf_of (HostPage page) = present page true

module _ (pages harts : ℕ) (words : List ℕ) (t : ℕ) where
  -- a leaf that is blocked since a number: the harts that may use it yet entered with no later one
  pub record BlockedStands (base leaf : ℕ) (held : List ℕ) (waiting : Option (List ℕ)) : Type 0 where
    pub since : ℕ
    pub begun : since ≤ number_in pages harts words t
    pub is : leaf ≡ blocked base since
    pub holds : Within held (entered_below pages harts words t (since + 1))
    pub waits : WaitsSince pages harts words t since waiting

  -- a leaf stands as the mapping does
  abbrev pub StandingStands : (base leaf : ℕ) → Standing → Type 0
  StandingStands base leaf Present = leaf ≡ base
  StandingStands base leaf (Blocked held waiting) = BlockedStands base leaf held waiting

  -- no mapping has the leaf 0; a mapping has the leaf of its page, which is of the board
  abbrev pub LeafStands : (leaf : ℕ) → Option Mapping → Type 0
  LeafStands leaf None = leaf ≡ 0
  LeafStands leaf (Some mapping) =
      (page_under mapping.backing < pages) × StandingStands (leaf_of mapping.backing) leaf mapping.standing
