-- What sharing and unsharing tell of the guest pages that were asked for, by what the code found of the regions and rows.
use Rattle.std.proofs.Common.{◌≡◌, ℕ, ◌<◌, ◌≤◌, true, false, true≢false, not, ◌&&◌, ◌||◌, List, None, Some, length, get_or, sym, ap, subst, ◌∙◌}
use Rattle.std.proofs.lemmas.List.Quantifiers.{position-Some}
use Rattle.std.specs.List.{list_any, position}
use Rattle.cove_base.specs.declared.limits.TheConstants.{SHARED_RUN_LIMIT}
use Rattle.cove_region.proofs.CutLemmas.{covers-cut, cut_rows}
use Rattle.cove_region.proofs.JoinLemmas.{carried}
use Rattle.cove_region.proofs.KindLemmas.{share_few, share_full, share_inside, share_taken, unshare_few, unshare_full, unshare_inside, unshare_kept, unshare_made, unshare_outside}
use Rattle.cove_region.proofs.RowLemmas.{position_none}
use Rattle.cove_region.specs.GuestMaps.{AreMade, AreOfOneRegion, FormTooManyRows, GuestMap, covers, has_guest, has_shared_with, has_shared_without, holds, meets}
use Rattle.cove_region.specs.Rows.{AreKept, AreRows, HasPages, adjoin, rows_cut}
use Rattle.cove_region.specs.declared.areas.Area.{Area}
use Rattle.cove_region.specs.declared.kinds.AreaKind.TheVariants.{Private, Shared}

module _ (pages : Area) {asked : Area} {regions rows : List Area} {view : GuestMap} (view_is : ◌≡◌ {A = GuestMap} (record { regions = regions; rows = rows }) view)
    (pages_is : pages ≡ asked) where
  -- what holds of the regions and rows that are kept holds of their view
  tells : (P : GuestMap → Area → Type 0) → P (record { regions = regions; rows = rows }) pages → P view asked
  tells P = carried P (record { regions = regions; rows = rows }) view pages asked view_is pages_is

  has_pages : HasPages asked → HasPages pages
  has_pages = subst HasPages (sym pages_is)

  -- ---- share

  module _ (held : list_any (holds pages) regions ≡ true) (free : list_any (meets pages) rows ≡ false) where
    pub were_private : AreOfOneRegion view Private asked
    were_private = tells (λ m p. AreOfOneRegion m Private p) (share_inside regions rows pages held free)

    pub too_many_with : AreKept regions rows → HasPages asked → adjoin rows pages ≡ false → length rows ≡ SHARED_RUN_LIMIT → FormTooManyRows (has_shared_with view asked)
    too_many_with kept some alone full = tells (λ m p. FormTooManyRows (has_shared_with m p)) (share_full regions rows pages kept (has_pages some) free alone full)

  -- pages that no region holds, or that some row has, were not private
  pub none_held : list_any (holds pages) regions ≡ false → AreOfOneRegion view Private asked → ⊥
  none_held none = tells (λ m p. AreOfOneRegion m Private p → ⊥) (λ all. true≢false (sym all.region ∙ none))

  pub were_taken : AreKept regions rows → HasPages asked → list_any (meets pages) rows ≡ true → AreOfOneRegion view Private asked → ⊥
  were_taken kept some met = tells (λ m p. AreOfOneRegion m Private p → ⊥) (share_taken regions rows pages kept (has_pages some) met)

  pub few_with : (new : List Area) → AreRows new → length new ≤ SHARED_RUN_LIMIT → ((g : ℕ) → covers new g ≡ (covers rows g || has_guest g pages))
      → FormTooManyRows (has_shared_with view asked) → ⊥
  few_with new lawful few joined = tells (λ m p. FormTooManyRows (has_shared_with m p) → ⊥) (share_few regions rows new pages lawful few joined)

  -- ---- unshare

  pub were_not_shared : AreKept regions rows → HasPages asked → position (holds pages) rows ≡ None → AreOfOneRegion view Shared asked → ⊥
  were_not_shared kept some none =
      tells (λ m p. AreOfOneRegion m Shared p → ⊥) (unshare_outside regions rows pages kept (has_pages some) (position_none (holds pages) rows none))

  module _ (held : list_any (holds pages) regions ≡ true) (place : ℕ) (found : position (holds pages) rows ≡ Some place) where
    pub were_shared : AreOfOneRegion view Shared asked
    were_shared =
        let hit = position-Some (holds pages) rows place pages found in
        tells (λ m p. AreOfOneRegion m Shared p) (unshare_inside regions rows place pages pages held hit.0 hit.1)

    module _ (kept : AreKept regions rows) (some : HasPages asked) where
      pub too_many_without : (d : Area) → length rows ≡ SHARED_RUN_LIMIT → (get_or rows place d).first < pages.first → pages.end < (get_or rows place d).end
          → FormTooManyRows (has_shared_without view asked)
      too_many_without d full before after =
          let hit = position-Some (holds pages) rows place d found in
          tells (λ m p. FormTooManyRows (has_shared_without m p)) (unshare_full regions rows place d pages kept (has_pages some) hit.0 hit.1 full before after)

      -- the rows without the pages
      module _ (new : List Area) (cut : new ≡ rows_cut rows place (get_or rows place pages) pages) (few : length new ≤ SHARED_RUN_LIMIT) where
        cut_lawful : AreRows new
        cut_lawful =
            let hit = position-Some (holds pages) rows place pages found in
            subst AreRows (sym cut) (cut_rows rows place pages pages kept.maximal hit.0 hit.1 (has_pages some))

        cut_covers : (g : ℕ) → covers new g ≡ (covers rows g && not (has_guest g pages))
        cut_covers g =
            let hit = position-Some (holds pages) rows place pages found in
            ap (λ xs. covers xs g) cut ∙ covers-cut rows place pages pages kept.maximal hit.0 hit.1 (has_pages some) g

        pub kept_without : AreKept regions new
        kept_without = unshare_kept regions rows new pages kept cut_lawful few cut_covers

        pub few_without : FormTooManyRows (has_shared_without view asked) → ⊥
        few_without = tells (λ m p. FormTooManyRows (has_shared_without m p) → ⊥) (unshare_few regions rows new pages cut_lawful few cut_covers)

        pub made_private : AreMade Private asked view (record { regions = regions; rows = new })
        made_private =
            tells (λ m p. AreMade Private p m (record { regions = regions; rows = new })) (unshare_made regions rows new pages held cut_covers)
