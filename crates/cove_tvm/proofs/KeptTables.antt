-- The tables of a TVM, on new words that keep it.
use Rattle.std.proofs.Common.{◌≡◌, ℕ, zero, suc, ◌+◌, ◌*◌, ◌/◌, ◌%◌, ◌<◌, ◌≤◌, ◌∙◌, List, get_or, length, sym, ap, subst, arith, inl, inr}
use Rattle.cove_base.proofs.TableLemmas.{below-named, next-cases}
use Rattle.cove_base.proofs.TreeLemmas.{link-slot, named-outside}
use Rattle.cove_model.specs.Machine.{given, table_word, Role, Root, Table, IsRoot}
use Rattle.cove_base.specs.Tables.{Slot, At, IsLeaf, IsLink, IsSlot, IsSpare, IsTree, below, entry_at, entry_in, next_table, slots_at}
use Rattle.cove_tvm.specs.KeptOwn.{KeepsTvm}
use Rattle.cove_tvm.specs.TvmStands.{AreTables}

module _ (pages harts t root leaves : ℕ) (old new pool : List ℕ) (keeps : KeepsTvm pages harts old new t)
    (tables : AreTables pages harts old t root leaves pool) where
  -- a page that was given is given still
  pub given_kept : (p : ℕ) (role : Role) → p < pages → get_or old p 0 ≡ given t role → get_or new p 0 ≡ given t role
  given_kept p role on = keeps.page p role on

  root_word : (n : ℕ) → n < 2048 → get_or new (table_word pages root n) 0 ≡ get_or old (table_word pages root n) 0
  root_word n slot =
      let fits = tables.given.root_is.fits in
      let place : table_word pages root n ≡ table_word pages (root + n / 512) (n % 512) = omega arith in
      ap (λ k. get_or new k 0) place
      ∙ keeps.table (root + n / 512) (n % 512) (omega arith) (omega arith) (inl (tables.given.root_is.roots (n / 512) (omega arith)))
      ∙ ap (λ k. get_or old k 0) (sym place)

  -- a table that a slot names is on the board
  on_board : (a : Slot) (page : ℕ) → IsSlot a → entry_at pages root old a ≡ next_table page → page < pages
  on_board a page slot named = (named-outside pages root leaves old tables.tree a page slot named).0

  -- below the entry of a slot
  below_kept : (a : Slot) (i : ℕ) → IsSlot a → i < 512 → below pages new (entry_at pages root old a) i ≡ below pages old (entry_at pages root old a) i
  below_kept a i slot low = elim (next-cases pages (entry_at pages root old a)) [
    | inl (page, named) ↦
        below-named pages new (entry_at pages root old a) page i named
        ∙ keeps.table page i (on_board a page slot named) low (inr (tables.given.linked a page slot named))
        ∙ sym (below-named pages old (entry_at pages root old a) page i named)
    | inr empty ↦ empty new i ∙ sym (empty old i)
  ]

  entry_stays : (d n : ℕ) → n < slots_at d → entry_in pages root new d n ≡ entry_in pages root old d n
  entry_stays zero n slot = root_word n slot
  entry_stays (suc d) n slot =
      ap (λ k. below pages new k (n % 512)) (entry_stays d (n / 512) (omega arith))
      ∙ below_kept (At d (n / 512)) (n % 512) (omega arith) (omega arith)

  -- every entry stays
  pub entry_kept : (a : Slot) → IsSlot a → entry_at pages root new a ≡ entry_at pages root old a
  entry_kept (At d n) slot = entry_stays d n slot

  root_kept : IsRoot pages new t root
  root_kept =
      let was = tables.given.root_is in
      let fits = was.fits in
      record {
        fits = was.fits;
        roots = λ i low. given_kept (root + i) Root (omega arith) (was.roots i low);
        least = λ p low is. was.least p low (keeps.root p (omega arith) is);
      }

  tree_kept : IsTree pages root leaves new
  tree_kept = record {
    fits = tables.tree.fits;
    size = subst (λ n. 513 * pages ≤ n) (sym keeps.size) tables.tree.size;
    links = λ a slot. subst (IsLink pages root) (sym (entry_kept a (link-slot leaves a slot))) (tables.tree.links a slot);
    leaf = λ g low. subst IsLeaf (sym (entry_kept (At leaves g) low)) (tables.tree.leaf g low);
    apart = λ a b page ha hb na nb. tables.tree.apart a b page ha hb (sym (entry_kept a ha) ∙ na) (sym (entry_kept b hb) ∙ nb);
  }

  spare_kept : (k : ℕ) → k < length pool → IsSpare pages root new (get_or pool k 0)
  spare_kept k low =
      let was = tables.spare.each k low in
      record {
        outside = was.outside;
        unnamed = λ a slot named. was.unnamed a slot (sym (entry_kept a slot) ∙ named);
        zeros = λ i small. keeps.table (get_or pool k 0) i was.outside.0 small (inr (tables.given.spare k low)) ∙ was.zeros i small;
      }

  -- they are tables still
  pub tables_kept : AreTables pages harts new t root leaves pool
  tables_kept = record {
    tree = tree_kept;
    spare = record { each = spare_kept; differ = tables.spare.differ };
    given = record {
      root_is = root_kept;
      linked = λ a page slot named.
          let before : entry_at pages root old a ≡ next_table page = sym (entry_kept a slot) ∙ named in
          given_kept page Table (on_board a page slot before) (tables.given.linked a page slot before);
      spare = λ k low. given_kept (get_or pool k 0) Table (tables.spare.each k low).outside.0 (tables.given.spare k low);
    };
  }
