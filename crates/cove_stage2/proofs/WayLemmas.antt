-- The way to a slot, linked one table after another.
use Rattle.std.proofs.Common.{◌≡◌, ◌≢◌, ℕ, zero, suc, ◌-◌, ◌/◌, ◌%◌, ◌^◌, ◌<◌, ◌≤◌, ◌∙◌, List, length, refl, sym, ap, subst, arith}
use Rattle.cove_base.proofs.StoreLemmas.{AllAllowed-split, stored-append}
use Rattle.cove_base.proofs.TableLemmas.{below-absent}
use Rattle.cove_base.specs.Modes.{leaves_of}
use Rattle.cove_base.specs.Places.{table_word}
use Rattle.cove_base.specs.Stores.{AllAllowed, stored}
use Rattle.cove_base.specs.Tables.{At, IsLink, IsLinkSlot, IsPool, below, IsTree, StandsAt, entry_in, slots_at}
use Rattle.cove_base.specs.declared.modes.Mode.{Mode}
use Rattle.cove_base.specs.declared.modes.Mode.TheVariants.{Sv39x4, Sv48x4}
use Rattle.cove_stage2.proofs.LackedLemmas.{enough-above, enough-here}
use Rattle.cove_stage2.proofs.LeafLemmas.{named-board, place-is}
use Rattle.cove_stage2.proofs.LinkLemmas.{named-table, way-itself, way-next, way-none}
use Rattle.cove_stage2.specs.Links.{LinkedWay, LinksTable, MayLinkWay}
use Rattle.cove_stage2.specs.MapStores.{link_stores, pool_after, pool_left, slot_stores, way_stores}

-- there are few slots at a depth that a mode has
pub few-slots : (mode : Mode) (d : ℕ) → d ≤ leaves_of mode → slots_at d ≤ 2 ^ 38
few-slots mode zero deep = omega arith
few-slots mode (suc zero) deep = omega arith
few-slots mode (suc (suc zero)) deep = omega arith
few-slots mode (suc (suc (suc zero))) deep = omega arith
few-slots Sv39x4 (suc (suc (suc (suc d)))) deep = absurd (omega arith)
few-slots Sv48x4 (suc (suc (suc (suc d)))) deep = absurd (omega arith)

-- ---- the table that a leaf is in

module _ (pages root : ℕ) (words : List ℕ) (g : ℕ) where
  leaf-below : (d entry : ℕ) → IsTree pages root (suc d) words → g < slots_at (suc d) → entry_in pages root words (suc d) g ≢ 0 → entry ≡ entry_in pages root words d (g / 512)
      → (entry / 1024 < pages) × ((place : ℕ) → place ≡ table_word pages (entry / 1024) (g % 512) → StandsAt pages root words (At (suc d) g) place)
  leaf-below d entry tree low some is =
      let link = subst (IsLink pages root) (sym is) (tree.links (At d (g / 512)) (omega arith, omega arith)) in
      let linked : entry ≢ 0 = λ none. some (ap (λ e. below pages words e (g % 512)) (sym is ∙ none) ∙ below-absent pages words (g % 512)) in (
        named-board pages root entry link linked,
        λ place at. (entry / 1024, sym is ∙ named-table pages root entry link linked, at),
      )

  -- an entry above a leaf that isn't 0 names the leaf's table
  pub table-of-leaf : (mode : Mode) (depth entry : ℕ) → IsTree pages root (leaves_of mode) words → g < slots_at (leaves_of mode) → entry_in pages root words (leaves_of mode) g ≢ 0
      → depth ≡ leaves_of mode → entry ≡ entry_in pages root words (depth - 1) (g / 512)
      → (entry / 1024 < pages) × ((place : ℕ) → place ≡ table_word pages (entry / 1024) (g % 512) → StandsAt pages root words (At (leaves_of mode) g) place)
  table-of-leaf Sv39x4 depth entry tree low some deep is = leaf-below 1 entry tree low some (is ∙ ap (λ d. entry_in pages root words (d - 1) (g / 512)) deep)
  table-of-leaf Sv48x4 depth entry tree low some deep is = leaf-below 2 entry tree low some (is ∙ ap (λ d. entry_in pages root words (d - 1) (g / 512)) deep)

-- ---- one table after another

module _ (pages root leaves : ℕ) where
  -- the way to a slot of the root is linked
  pub way-root : (words pool : List ℕ) (n place : ℕ) → IsTree pages root leaves words → IsPool pages root words pool → place ≡ table_word pages root n → LinkedWay pages root leaves words pool words pool 0 n place
  way-root words pool n place tree spare at = record {
    stores = refl;
    pool_is = refl;
    tree = tree;
    spare = spare;
    way = way-none pages root words n;
    at = at;
    length = refl;
  }

  module _ (allows : List ℕ → ℕ → ℕ → Type 0) (words pool : List ℕ) (d n : ℕ) (may : MayLinkWay pages root leaves allows words pool (suc d) n) where
    -- what links the slots above, and then the one
    parts : AllAllowed allows words (way_stores pages root words pool d (n / 512))
        × AllAllowed allows (stored words (way_stores pages root words pool d (n / 512)))
        (slot_stores pages root (stored words (way_stores pages root words pool d (n / 512))) (pool_left pages root words pool d (n / 512)) (At d (n / 512)))
    parts =
        AllAllowed-split allows words (way_stores pages root words pool d (n / 512))
        (slot_stores pages root (stored words (way_stores pages root words pool d (n / 512))) (pool_left pages root words pool d (n / 512)) (At d (n / 512))) may.allowed

    pub may-above : MayLinkWay pages root leaves allows words pool d (n / 512)
    may-above = record {
      deep = let deep = may.deep in omega arith;
      slot = let slot = may.slot in omega arith;
      tree = may.tree;
      spare = may.spare;
      enough = enough-above pages root words d n (length pool) may.enough;
      allowed = parts.0;
    }

    -- once the slots above are linked, the one may be
    module _ (mid left : List ℕ) (place : ℕ) (above : LinkedWay pages root leaves words pool mid left d (n / 512) place) where
      low : n / 512 < slots_at d
      low = let slot = may.slot in omega arith

      pub here-slot : IsLinkSlot leaves (At d (n / 512))
      here-slot = let deep = may.deep in (omega arith, low)

      same : entry_in pages root mid d (n / 512) ≡ entry_in pages root words d (n / 512)
      same = way-itself pages root words mid d (n / 512) low above.way

      pub here-enough : entry_in pages root mid d (n / 512) ≡ 0 → 0 < length left
      here-enough none = subst (λ ps. 0 < length ps) (sym above.pool_is) (enough-here pages root words pool d n may.enough (sym same ∙ none))

      -- what links it
      here-stores : link_stores (entry_in pages root mid d (n / 512)) place left
          ≡ slot_stores pages root (stored words (way_stores pages root words pool d (n / 512))) (pool_left pages root words pool d (n / 512)) (At d (n / 512))
      here-stores =
          ap (λ p. link_stores (entry_in pages root mid d (n / 512)) p left) (place-is pages root mid (At d (n / 512)) place above.at)
          ∙ ap (λ ws. slot_stores pages root ws left (At d (n / 512))) above.stores
          ∙ ap (λ ps. slot_stores pages root (stored words (way_stores pages root words pool d (n / 512))) ps (At d (n / 512))) above.pool_is

      pub here-allowed : AllAllowed allows mid (link_stores (entry_in pages root mid d (n / 512)) place left)
      here-allowed = rw (here-stores, above.stores) parts.1

      -- and the way to the slot below it is linked then
      pub way-linked : (new rest : List ℕ) (page at : ℕ) → new ≡ stored mid (link_stores (entry_in pages root mid d (n / 512)) place left)
          → LinksTable pages root leaves mid new (At d (n / 512)) page → rest ≡ pool_after (entry_in pages root mid d (n / 512)) left → IsPool pages root new rest
          → at ≡ table_word pages page (n % 512) → LinkedWay pages root leaves words pool new rest (suc d) n at
      way-linked new rest page at stores table pool_is spare stands = record {
        stores =
            stores ∙ ap (stored mid) here-stores
            ∙ ap (λ ws. stored ws (slot_stores pages root (stored words (way_stores pages root words pool d (n / 512))) (pool_left pages root words pool d (n / 512)) (At d (n / 512)))) above.stores
            ∙ sym (stored-append words (way_stores pages root words pool d (n / 512)) (slot_stores pages root (stored words (way_stores pages root words pool d (n / 512))) (pool_left pages root words pool d (n / 512)) (At d (n / 512))));
        pool_is =
            pool_is ∙ ap (λ e. pool_after e left) same
            ∙ ap (pool_after (entry_in pages root words d (n / 512))) above.pool_is;
        tree = table.tree;
        spare = spare;
        way = way-next pages root leaves words mid new d n page may.slot above.way table;
        at = (page, table.named, stands);
        length = table.length ∙ above.length;
      }
