-- Words and ground stand still after a change of owners that leaves every TVM.
use Rattle.std.proofs.Common.{◌≡◌, ℕ, zero, suc, ◌+◌, ◌-◌, ◌*◌, ◌/◌, ◌%◌, ◌^◌, ◌<◌, ◌≤◌, ◌∙◌, Bool, false, cond, eqb, ltb, min, List, [], ◌∷◌, count_by, drop, get_or, length, take, Option, Some, None, refl, sym, ap, subst, arith}
use Rattle.std.proofs.lemmas.List.{get_or-drop, get_or-take, length-drop, length-take}
use Rattle.std.proofs.lemmas.List.Sums.{sum_by-cons}
use Rattle.std.proofs.lemmas.Option.{none-some, slice_get_within}
use Rattle.cove_model.specs.Machine.{epoch_word, hart_word, table_word, tvm_word, TVM_LIMIT, at, AsRoot, AsState, AsTable, AsVcpu, AsData, Converting, Free, Given, Host, Owner, has, page_at, State, find_tvm, FrameStands, PageStands, answered_in, epoch_in, maps_of, words_at}
use Rattle.cove_model.specs.WordLaws.{Stand}
use Rattle.cove_model.specs.TableLaw.{is_shared_leaf, shared_leaves}
use Rattle.cove_model.specs.Tvms.{Tvm as ModelTvm}
use Rattle.cove_tvm.proofs.KeptTvms.{left_tvms_stand}
use Rattle.cove_tvm.specs.GroundLaws.{OwnersChangeStands}
use Rattle.cove_tvm.specs.Leaves.{LeavesEveryTvm, LeavesTvm}
use Rattle.cove_tvm.specs.TvmStands.{TvmStands}
use Rattle.cove_tvm.specs.TvmTables.{TvmTable, live_at, unless_gone}
use Rattle.cove_tvm.specs.declared.machines.Tvm.{Tvm}
use Rattle.std.specs.List.{slice_get}

-- a live TVM is one that was created
pub live_made : (table : TvmTable) (t : ℕ) (tvm : Tvm) → live_at table t ≡ Some tvm → (1 ≤ t) × (t ≤ length table.tvms)
live_made table zero tvm live = absurd (none-some tvm live)
live_made table (suc k) tvm live = go (slice_get table.tvms k) refl live
  where
    go : (x : Option Tvm) → slice_get table.tvms k ≡ x → unless_gone x ≡ Some tvm → (1 ≤ suc k) × (suc k ≤ length table.tvms)
    go None is gone = absurd (none-some tvm gone)
    go (Some y) is there = let low = slice_get_within table.tvms k y is in (omega arith, omega arith)

-- words that leave every TVM leave each that may be created
pub leaves_each : (pages harts : ℕ) (old new : List ℕ) → LeavesEveryTvm pages harts old new → (t : ℕ) → t ≤ TVM_LIMIT → LeavesTvm pages harts old new t
leaves_each pages harts old new leaves t few = record {
  size = leaves.size;
  page = λ p role on. leaves.page p t role on;
  table = λ p i on low own. leaves.tables (table_word pages p i) (omega arith) (omega arith);
  number = leaves.rest (tvm_word pages harts t) (omega arith) (omega arith);
  inside = λ number hart on.
      ap (λ w. cond (eqb (w / 2 ^ 32) t) (ltb (w % 2 ^ 32) number) false)
      (leaves.rest (hart_word pages harts hart) (omega arith) (omega arith));
}

-- ---- words with the same shared leaves

abbrev pub flag : Bool → ℕ
flag b = cond b 1 0

-- a test that passes at the same places counts as many
count_same : (test : ℕ → Bool) (xs ys : List ℕ) → length xs ≡ length ys → ((i : ℕ) → i < length xs → test (get_or xs i 0) ≡ test (get_or ys i 0)) → count_by test xs ≡ count_by test ys
count_same test [] [] size same = refl
count_same test [] (y ∷ ys) size same = absurd (omega arith)
count_same test (x ∷ xs) [] size same = absurd (omega arith)
count_same test (x ∷ xs) (y ∷ ys) size same =
    let first = sum_by-cons (λ k. cond (test k) 1 0) x xs in
    let second = sum_by-cons (λ k. cond (test k) 1 0) y ys in
    let here = ap flag (same 0 (omega arith)) in
    let rest = count_same test xs ys (omega arith) (λ i low. same (suc i) (omega arith)) in
    omega arith

pub window_same : (pages p : ℕ) (old new : List ℕ) → length new ≡ length old
    → ((i : ℕ) → i < 512 * pages → is_shared_leaf p (get_or new (pages + i) 0) ≡ is_shared_leaf p (get_or old (pages + i) 0))
    → shared_leaves pages new p ≡ shared_leaves pages old p
window_same pages p old new size same =
    count_same (is_shared_leaf p) (take (512 * pages) (drop pages new)) (take (512 * pages) (drop pages old)) sizes
    (λ i h.
    let small = low i h in
    ap (is_shared_leaf p) (word new i small) ∙ same i small ∙ sym (ap (is_shared_leaf p) (word old i small)))
  where
    sizes : length (take (512 * pages) (drop pages new)) ≡ length (take (512 * pages) (drop pages old))
    sizes =
        length-take (512 * pages) (drop pages new)
        ∙ ap (λ n. min (512 * pages) n) (length-drop pages new ∙ ap (λ n. n - pages) size ∙ sym (length-drop pages old))
        ∙ sym (length-take (512 * pages) (drop pages old))

    low : (i : ℕ) → i < length (take (512 * pages) (drop pages new)) → i < 512 * pages
    low i h = omega (arith, h, length-take (512 * pages) (drop pages new))

    word : (words : List ℕ) (i : ℕ) → i < 512 * pages → get_or (take (512 * pages) (drop pages words)) i 0 ≡ get_or words (pages + i) 0
    word words i h = get_or-take (512 * pages) (drop pages words) i 0 h ∙ get_or-drop pages words i 0

pub shared_kept : (pages : ℕ) (old new : List ℕ) (page : ℕ) → length new ≡ length old
    → ((place : ℕ) → pages ≤ place → place < epoch_word pages → get_or new place 0 ≡ get_or old place 0)
    → shared_leaves pages new page ≡ shared_leaves pages old page
shared_kept pages old new page size tables =
    window_same pages page old new size (λ i low. ap (is_shared_leaf page) (tables (pages + i) (omega arith) (omega arith)))

-- ---- a state whose TVMs changed, and whose pages are mapped and filled as before

pub stand_kept : (pages harts : ℕ) (words : List ℕ) (S : State) (tvms : List ModelTvm) (made : ℕ) → ((p : ℕ) → maps_of (record S { tvms = tvms; made = made }) p ≡ maps_of S p)
    → Stand pages harts words S → Stand pages harts words (record S { tvms = tvms; made = made })
stand_kept pages harts words S tvms made same stand =
    let old = stand.stands in
    record {
      stands = record {
        size = old.size;
        owners = record {
          page_count = old.owners.page_count;
          hart_count = old.owners.hart_count;
          page = λ p on. subst (λ maps. PageStands harts (epoch_in pages words) (answered_in pages words) maps (get_or words p 0) (page_at S.pages p)) (sym (same p))
              (old.owners.page p on);
          unanswered = old.owners.unanswered;
        };
        tables = old.tables;
        unused = old.unused;
        seats = old.seats;
      };
      within = stand.within;
    }

pub frame_kept : (S T : State) (frame : List ℕ) (o : Owner) → ((u g : ℕ) → words_at S u g ≡ Some frame → words_at T u g ≡ Some frame)
    → FrameStands S frame o → FrameStands T frame o
frame_kept S T frame (Host words) same stands = stands
frame_kept S T frame (Converting held waiting words) same stands = stands
frame_kept S T frame Free same stands = tt
frame_kept S T frame (Given u AsRoot) same stands = tt
frame_kept S T frame (Given u AsState) same stands = tt
frame_kept S T frame (Given u AsTable) same stands = tt
frame_kept S T frame (Given u AsVcpu) same stands = tt
frame_kept S T frame (Given u (AsData g)) same stands = same u g stands

-- ---- a change of owners

pub owners_change_stands : OwnersChangeStands
owners_change_stands words new ground frames S T stands keeps leaves words_stand frames_stand = record {
  words_stand = words_stand;
  frames = frames_stand;
  board = record {
    key = stands.board.key ∙ sym keeps.key;
    kicked = λ hart on. stands.board.kicked hart on ∙ ap (has hart) (sym keeps.kicked);
    filecount = stands.board.filecount ∙ sym keeps.files;
    file_harts = stands.board.file_harts;
    file_count = stands.board.file_count;
    tvm_pages = stands.board.tvm_pages;
    made = stands.board.made ∙ sym keeps.made;
    few = subst (λ n. n ≤ TVM_LIMIT) (sym keeps.made) stands.board.few;
  };
  tvm = λ t. subst (λ seats. TvmStands ground.pages ground.harts new t seats ground.files (live_at ground.tvms t) (find_tvm T t)) (sym keeps.seats)
      (subst (λ tvms. TvmStands ground.pages ground.harts new t S.seats ground.files (live_at ground.tvms t) (at (λ tvm. tvm.number) t tvms)) (sym keeps.tvms)
      (kept t (live_at ground.tvms t) refl (find_tvm S t) (stands.tvm t)));
  counted = λ p on.
      shared_kept ground.pages words new p leaves.size leaves.tables ∙ stands.counted p on ∙ ap (maps_of_all p) (sym keeps.tvms);
} where
  maps_of_all : (p : ℕ) → List ModelTvm → ℕ
  maps_of_all p tvms = maps_of (record S { tvms = tvms }) p

  kept : (t : ℕ) (x : Option Tvm) → live_at ground.tvms t ≡ x → (v : Option ModelTvm)
      → TvmStands ground.pages ground.harts words t S.seats ground.files x v → TvmStands ground.pages ground.harts new t S.seats ground.files x v
  kept t None is None stand = stand
  kept t None is (Some model) stand = absurd stand
  kept t (Some tvm) is v stand =
      let low = live_made ground.tvms t tvm is in
      let few = stands.board.few in
      let made = stands.board.made in
      left_tvms_stand ground.pages ground.harts t words new S.seats ground.files (Some tvm) v
      (leaves_each ground.pages ground.harts words new leaves t (omega arith)) stand
