-- What the guest pages of the ground's TVMs tell of those of a state.
use Rattle.std.proofs.Common.{◌≡◌, ◌↔◌, ◌∙◌, ℕ, ◌+◌, ◌-◌, ◌/◌, ◌<◌, ◌≤◌, Bool, true, false, not, cond, List, Option, Some, None, is_some, length, Result, Ok, Err, refl, sym, ap, subst, arith}
use Rattle.std.proofs.lemmas.Bool.{false≢true, lt-ltb}
use Rattle.std.proofs.lemmas.Bool.Decides.{same_from_decides}
use Rattle.std.specs.List.{list_all, list_any, range_with_len}
use Rattle.std.specs.Prelude.{nat_lt}
use Rattle.cove_base.specs.Modes.{guest_limit, leaves_of}
use Rattle.cove_base.specs.Tables.{IsTree, leaf_at}
use Rattle.cove_model.specs.Machine.{Reply, InvalidAddress, is_private, is_shared, missing_tables, mapping_of, Check, plain, State, tvm_at}
use Rattle.cove_base.specs.declared.statuses.Status.TheVariants.{Failed}
use Rattle.cove_host.proofs.GuestTests.{all_pass, none_passes}
use Rattle.cove_host.proofs.LifeTold.{live_stand}
use Rattle.cove_host.specs.Checked.{checked}
use Rattle.cove_host.specs.FoundTvms.{IsLiveTvm, IsSomeLiveTvm}
use Rattle.cove_host.specs.GuestRuns.{EachGuest, KindsFit, kind_as}
use Rattle.cove_model.specs.Tvms.{Backing, OwnPage, HostPage, Standing, Present, Blocked, Mapping, Tvm as ModelTvm}
use Rattle.cove_region.proofs.StandingLemmas.{private-agrees, shared-agrees}
use Rattle.cove_region.specs.GuestMaps.{GuestMap, covers, has_shared as is_row, kind_of}
use Rattle.cove_region.specs.Standing.{StandFor}
use Rattle.cove_region.specs.declared.kinds.AreaKind.{AreaKind}
use Rattle.cove_region.specs.declared.kinds.AreaKind.TheVariants.{Outside, Private, Shared}
use Rattle.cove_stage2.specs.Lacked.{tables_lacked}
use Rattle.cove_tvm.proofs.TablesMissing.{missing_agree}
use Rattle.cove_tvm.specs.LeafStands.{LeafStands, StandingStands, leaf_of}
use Rattle.cove_tvm.specs.declared.machines.Tvm.{Tvm}

-- a guest page of a kind is in a region
in_region : (s r : Bool) → (s ≡ true → r ≡ true) → (cond s Shared (cond r Private Outside) ≡ Outside → ⊥) → r ≡ true
in_region s true inside some = refl
in_region true false inside some = inside refl
in_region false false inside some = absurd (some refl)

-- two tests, of which one holds just where the other fails
opposite : {P : Type 0} (l b : Bool) → ((l ≡ false) ↔ P) → ((b ≡ true) ↔ P) → l ≡ not b
opposite true true left right = absurd (false≢true (sym (left.1 (right.0 refl))))
opposite true false left right = refl
opposite false true left right = refl
opposite false false left right = absurd (false≢true (right.1 (left.0 refl)))

-- the check of missing tables
abbrev pub lacking : (missing : ℕ) → Check
lacking missing = record { fails = nat_lt 0 missing; status = Failed; value = missing }

-- that kind is one of guest pages in a region
pub never_outside : (shared : Bool) → kind_as shared ≡ Outside → ⊥
never_outside true e = absurd cc
never_outside false e = absurd cc

-- ---- leaves

some_base : (backing : Backing) → 0 < leaf_of backing
some_base (OwnPage page own) = omega arith
some_base (HostPage page) = omega arith

module _ (pages harts : ℕ) (words : List ℕ) (t : ℕ) where
  some_leaf : (base leaf : ℕ) (standing : Standing) → 0 < base → StandingStands pages harts words t base leaf standing → leaf ≡ 0 → ⊥
  some_leaf base leaf Present some is none = omega arith
  some_leaf base leaf (Blocked held waiting) some stands none = let is = stands.is in omega arith

  -- a leaf is absent just where there is no mapping
  pub absent_told : (leaf : ℕ) (m : Option Mapping) → LeafStands pages harts words t leaf m → (is_some m ≡ false) ↔ (leaf ≡ 0)
  absent_told leaf None stands = (λ e. stands, λ e. refl)
  absent_told leaf (Some m) stands = (
    λ e. absurd (false≢true (sym e)),
    λ none. absurd (some_leaf (leaf_of m.backing) leaf m.standing (some_base m.backing) stands.1 none),
  )

-- ---- a live TVM

-- its tables are a tree
pub tree_of : {words : List ℕ} {tvm : Tvm} → IsSomeLiveTvm words tvm → IsTree tvm.tables.pages tvm.tables.root.0 (leaves_of tvm.tables.mode) words
tree_of {words} {tvm} some =
    let stand = live_stand some.live in
    subst (λ (count : ℕ). IsTree count tvm.tables.root.0 (leaves_of tvm.tables.mode) words) (sym stand.board) stand.tables.tree

module _ {words : List ℕ} {S : State} {t : ℕ} {tvm : Tvm} (one : IsLiveTvm words S t tvm) where
  -- guest pages of a kind are near
  pub kind_near : (kind : AreaKind) (first n : ℕ) → (kind ≡ Outside → ⊥) → 1 ≤ n → EachGuest (λ g. kind_of tvm.regions g ≡ kind) first n → first + n ≤ guest_limit tvm.tables.mode
  kind_near kind first n other some are =
      let last : ℕ = first + (n - 1) in
      let fields = (live_stand one).fields in
      let covered =
      in_region (is_row tvm.regions last) (covers tvm.regions.regions last) (fields.regions.inside last)
      (λ e. other (sym (are last (omega arith) (omega arith)) ∙ e)) in
      let low = fields.near last covered in
      omega arith

  kind_told : (kind : AreaKind) (test : ModelTvm → ℕ → Bool)
      → ((guests : GuestMap) (model : ModelTvm) → StandFor guests model → (g : ℕ) → (kind_of guests g ≡ kind) ↔ (test model g ≡ true)) → (first n : ℕ) (b : Bool)
      → ((b ≡ true) ↔ EachGuest (λ g. kind_of tvm.regions g ≡ kind) first n) → list_all (test (tvm_at S t)) (range_with_len first n) ≡ b
  kind_told kind test agrees first n b tells = same_from_decides (list_all (test (tvm_at S t)) (range_with_len first n)) b told tells
    where
      same : (g : ℕ) → (kind_of tvm.regions g ≡ kind) ↔ (test (tvm_at S t) g ≡ true)
      same g = agrees tvm.regions (tvm_at S t) (live_stand one).fields.regions g

      told : (list_all (test (tvm_at S t)) (range_with_len first n) ≡ true) ↔ EachGuest (λ g. kind_of tvm.regions g ≡ kind) first n
      told = (
        λ e g low high. (same g).1 ((all_pass (test (tvm_at S t)) first n).0 e g low high),
        λ each. (all_pass (test (tvm_at S t)) first n).1 (λ g low high. (same g).0 (each g low high)),
      )

  -- the check of kinds
  pub kinds_told : (shared b : Bool) (gpa n : ℕ) → ((b ≡ true) ↔ EachGuest (λ g. kind_of tvm.regions g ≡ kind_as shared) (gpa / 4096) n)
      → checked (plain (not b) InvalidAddress) ≡ checked (KindsFit shared S t gpa n)
  kinds_told true b gpa n tells =
      ap (λ e. checked (plain (not e) InvalidAddress)) (sym (kind_told Shared is_shared shared-agrees (gpa / 4096) n b tells))
  kinds_told false b gpa n tells =
      ap (λ e. checked (plain (not e) InvalidAddress)) (sym (kind_told Private is_private private-agrees (gpa / 4096) n b tells))

  -- the check of mappings
  pub unmapped_told : (first n : ℕ) (b : Bool) → first + n ≤ guest_limit tvm.tables.mode
      → ((b ≡ true) ↔ EachGuest (λ g. leaf_at tvm.tables.pages tvm.tables.root.0 (leaves_of tvm.tables.mode) words g ≡ 0) first n)
      → list_any (λ g. is_some (mapping_of (tvm_at S t) g)) (range_with_len first n) ≡ not b
  unmapped_told first n b near tells = opposite (list_any (λ g. is_some (mapping_of (tvm_at S t) g)) (range_with_len first n)) b told tells
    where
      same : (g : ℕ) → g < guest_limit tvm.tables.mode → (is_some (mapping_of (tvm_at S t) g) ≡ false) ↔ (leaf_at tvm.tables.pages tvm.tables.root.0 (leaves_of tvm.tables.mode) words g ≡ 0)
      same g low =
          let stand = live_stand one in
          subst (λ (count : ℕ). (is_some (mapping_of (tvm_at S t) g) ≡ false) ↔ (leaf_at count tvm.tables.root.0 (leaves_of tvm.tables.mode) words g ≡ 0)) (sym stand.board)
          (absent_told one.ground.pages one.ground.harts words t (leaf_at one.ground.pages tvm.tables.root.0 (leaves_of tvm.tables.mode) words g) (mapping_of (tvm_at S t) g) (stand.mappings.leaf g low))

      told : (list_any (λ g. is_some (mapping_of (tvm_at S t) g)) (range_with_len first n) ≡ false)
          ↔ EachGuest (λ g. leaf_at tvm.tables.pages tvm.tables.root.0 (leaves_of tvm.tables.mode) words g ≡ 0) first n
      told = (
        λ e g low high. (same g (omega arith)).0 ((none_passes (λ k. is_some (mapping_of (tvm_at S t) k)) first n).0 e g low high),
        λ each. (none_passes (λ k. is_some (mapping_of (tvm_at S t) k)) first n).1 (λ g low high. (same g (omega arith)).1 (each g low high)),
      )

  -- as many table pages are missing as the tables lack beside those of the pool
  pub missing_told : (gpa n : ℕ) → gpa / 4096 + n ≤ guest_limit tvm.tables.mode
      → missing_tables (tvm_at S t) gpa n ≡ tables_lacked tvm.tables.pages tvm.tables.root.0 words (leaves_of tvm.tables.mode) (gpa / 4096) n - length tvm.pool.pages
  missing_told gpa n near =
      let stand = live_stand one in
      subst (λ (count : ℕ). missing_tables (tvm_at S t) gpa n ≡ tables_lacked count tvm.tables.root.0 words (leaves_of tvm.tables.mode) (gpa / 4096) n - length tvm.pool.pages) (sym stand.board)
      (missing_agree one.ground.pages one.ground.harts t tvm.tables.root.0 (leaves_of tvm.tables.mode) gpa n words tvm.pool.pages (tvm_at S t) (ap leaves_of stand.mode) stand.mappings near)

-- the answer where some are missing, and where none is
pub some_missing : (missing value : ℕ) → 0 < missing → value ≡ missing → Err (record { status = Failed; value = value }) ≡ checked (lacking missing)
some_missing missing value some same =
    ap (λ (m : ℕ). let answer : Result (Unit {0}) Reply = Err (record { status = Failed; value = m }) in answer) same
    ∙ sym (ap (λ b. cond b (let answer : Result (Unit {0}) Reply = Err (record { status = Failed; value = missing }) in answer) (Ok tt)) (lt-ltb 0 missing some))

pub none_missing : (missing : ℕ) → missing ≡ 0 → Ok tt ≡ checked (lacking missing)
none_missing missing none = ap (λ (m : ℕ). checked (lacking m)) (sym none)
