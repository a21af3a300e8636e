-- What holds of the state after every history, legal or not.
use Rattle.std.specs.Prelude.{◌≡◌, ℕ, Bool, ◌<◌, true, List, [], ◌∷◌, length, Some, None}
use Rattle.std.specs.List.{AllByRecursion}
use Rattle.cove_model.specs.Owners.{Owner, has, Host, Converting, Free, Given, AsData, is_host, may_use, page_at}
use Rattle.cove_model.specs.States.{harts_below, Seat, State, harts_inside, tvm_at}
use Rattle.cove_model.specs.Mappings.{is_own, mapping_of, may_follow, page_under}
use Rattle.cove_model.specs.Translations.{Tlb}
use Rattle.cove_model.specs.Types.{ScriptValue}
use Rattle.cove_model.specs.Tvms.{Backing, OwnPage, HostPage, Standing, Present, Blocked, Mapping, Tvm}

-- every number of a list is in another
abbrev pub Within : (inner outer : List ℕ) → Type 0
Within inner outer = (n : ℕ) → has n inner ≡ true → has n outer ≡ true

-- each number of a list is below those after it, so that the first is the least
abbrev pub Rises : List ℕ → Type 0
Rises [] = Unit {0}
Rises (n ∷ ns) = AllByRecursion (λ m. n < m) ns × Rises ns

-- A page that the host sees has 512 words. A hart that may still use a page on its way is on the board; once a fence
-- began, the page waits for just the harts that have not answered it, of which there is one, and those that may still
-- use it are among them.
abbrev pub IsSoundPage : (harts : ℕ) (unanswered : List ℕ) → Owner → Type 0
IsSoundPage harts unanswered (Host words) = length words ≡ 512
IsSoundPage harts unanswered (Converting held None words) = (length words ≡ 512) × Within held (harts_below harts)
IsSoundPage harts unanswered (Converting held (Some waiting) words) =
    (length words ≡ 512) × Within held waiting × (waiting ≡ unanswered) × (0 < length waiting)
IsSoundPage harts unanswered Free = Unit {0}
IsSoundPage harts unanswered (Given tvm purpose) = Unit {0}

-- the harts that may still use a blocked mapping were inside when it was blocked: they are inside before a fence of the
-- TVM, and after it among those that it waits for
abbrev pub IsHeldWithin : (inside : List ℕ) → Standing → Type 0
IsHeldWithin inside Present = Unit {0}
IsHeldWithin inside (Blocked held None) = Within held inside
IsHeldWithin inside (Blocked held (Some waiting)) = Within held waiting

-- a page of the TVM's own is given to it for its guest page, and has 512 words; a shared one is the host's
abbrev pub IsBacked : (pages : List Owner) (t guest : ℕ) → Backing → Type 0
IsBacked pages t guest (OwnPage page words) = (page_at pages page ≡ Given t (AsData guest)) × (length words ≡ 512)
IsBacked pages t guest (HostPage page) = is_host (page_at pages page) ≡ true

pub record IsSoundMapping (pages : List Owner) (inside : List ℕ) (t : ℕ) (mapping : Mapping) : Type 0 where
  pub held_within : IsHeldWithin inside mapping.standing
  pub backed : IsBacked pages t mapping.guest mapping.backing

-- every mapping of a TVM is sound
abbrev pub IsSoundTvm : State → Tvm → Type 0
IsSoundTvm S tvm = AllByRecursion (IsSoundMapping S.pages (harts_inside S tvm.number) tvm.number) tvm.mappings

-- every page and every mapping is sound, and the harts that have not answered are on the board, and rise
pub record IsSound (S : State) : Type 0 where
  pub pages_sound : (p : ℕ) → IsSoundPage S.harts S.unanswered (page_at S.pages p)
  pub on_board : Within S.unanswered (harts_below S.harts)
  pub rising : Rises S.unanswered
  pub tvms_sound : AllByRecursion (IsSoundTvm S) S.tvms

-- a guest page of the TVM that a hart is inside is mapped, privately or not, to a page, and the hart may follow the mapping
pub record LeadsTo (S : State) (h : ℕ) (own : Bool) (g p : ℕ) : Type 0 where
  pub seat : Seat
  pub sits : S.seats h ≡ Some seat
  pub mapping : Mapping
  pub found : mapping_of (tvm_at S seat.tvm) g ≡ Some mapping
  pub kind : is_own mapping.backing ≡ own
  pub shows : page_under mapping.backing ≡ p
  pub follows : may_follow h mapping.standing ≡ true

-- a hart may use what its translations name: a host page is the host's, or on its way and the hart may hold it yet; a guest
-- page leads to its page, privately where it is for fetches
pub record IsUsable (S : State) (h : ℕ) (held : Tlb) : Type 0 where
  pub pages : AllByRecursion (λ p. may_use h (page_at S.pages p) ≡ true) held.pages
  pub fetches : AllByRecursion (λ pair. LeadsTo S h true pair.0 pair.1) held.fetches
  pub accesses : AllByRecursion (λ pair. (own : Bool) × LeadsTo S h own pair.0 pair.1) held.accesses

-- the board is the script's
pub record IsBoardOf (script : ScriptValue) (S : State) : Type 0 where
  pub same_harts : S.harts ≡ script.harts
  pub same_files : S.files ≡ script.files
  pub same_key : S.key ≡ script.key
  pub same_pages : length S.pages ≡ script.pages
  pub same_lists : length S.ended ≡ script.harts
