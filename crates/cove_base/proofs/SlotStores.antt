-- What the store of one word leaves of the entries of slots, whatever the words of tables are.
use Rattle.std.proofs.Common.{◌≡◌, ◌≢◌, ℕ, zero, suc, ◌/◌, ◌%◌, ◌<◌, List, get_or, length, set, sym, ap, ◌∙◌, inl, inr, ◌⊎◌, arith, get_or-set_other, get_or-set_same}
use Rattle.std.proofs.lemmas.Bool.{cases_eq}
use Rattle.cove_base.proofs.TableLemmas.{below-absent, below-named, below-none, next-cases}
use Rattle.cove_base.proofs.TreeLemmas.{entry-stands}
use Rattle.cove_base.specs.Places.{table_word}
use Rattle.cove_base.specs.Tables.{Slot, At, IsSlot, StandsAt, below, entry_at, entry_in, next_table, slots_at}

module _ (pages root : ℕ) (words : List ℕ) (place word : ℕ) where
  abbrev new : List ℕ
  new = set words place word

  -- below one entry, where no word of its table is stored
  pub below-same : (entry i : ℕ) → ((page : ℕ) → entry ≡ next_table page → place ≡ table_word pages page i → ⊥) → below pages new entry i ≡ below pages words entry i
  below-same entry i apart = elim (next-cases pages entry) [
    | inl (page, named) ↦
        below-named pages new entry page i named
        ∙ get_or-set_other words place (table_word pages page i) word 0 (λ e. apart page named (sym e))
        ∙ sym (below-named pages words entry page i named)
    | inr empty ↦ empty new i ∙ sym (empty words i)
  ]

  -- where no slot stands at the place, every entry stays
  module _ (none : (a : Slot) → IsSlot a → StandsAt pages root words a place → ⊥) where
    stays : (d n : ℕ) → n < slots_at d → entry_in pages root new d n ≡ entry_in pages root words d n
    stays zero n slot = get_or-set_other words place (table_word pages root n) word 0 (λ e. none (At zero n) slot (sym e))
    stays (suc d) n slot =
        ap (λ k. below pages new k (n % 512)) (stays d (n / 512) (omega arith))
        ∙ below-same (entry_in pages root words d (n / 512)) (n % 512) (λ page named at. none (At (suc d) n) slot (page, named, at))

    pub entries-stay : (a : Slot) → IsSlot a → entry_at pages root new a ≡ entry_at pages root words a
    entries-stay (At d n) slot = stays d n slot

  -- an entry stays, or its slot stands at the place and it becomes the word
  abbrev pub EntryMoves : Slot → Type 0
  EntryMoves a = (entry_at pages root new a ≡ entry_at pages root words a) ⊎ (StandsAt pages root words a place × (entry_at pages root new a ≡ word))

  -- The new word has below it what the one at the place had.
  module _ (within : place < length words) (under : (i : ℕ) → i < 512 → below pages new word i ≡ below pages words (get_or words place 0) i) where
    -- one level down
    down : (a : Slot) (i : ℕ) → i < 512 → EntryMoves a
        → (below pages new (entry_at pages root new a) i ≡ below pages words (entry_at pages root words a) i)
        ⊎ ((page : ℕ) × (entry_at pages root words a ≡ next_table page) × (place ≡ table_word pages page i) × (below pages new (entry_at pages root new a) i ≡ word))
    down a i low (inr moved) =
        inl
        (ap (λ k. below pages new k i) moved.1 ∙ under i low
        ∙ sym (ap (λ k. below pages words k i) (entry-stands pages root words a place moved.0)))
    down a i low (inl same) = elim (next-cases pages (entry_at pages root words a)) [
      | inr none ↦ inl (at_new ∙ none new i ∙ sym (none words i))
      | inl (page, named) ↦ elim (cases_eq place (table_word pages page i)) [
        | inl here ↦ inr (
          page,
          named,
          here,
          at_new ∙ below-named pages new (entry_at pages root words a) page i named
              ∙ ap (λ p. get_or new p 0) (sym here) ∙ get_or-set_same words place word 0 within,
        )
        | inr off ↦ inl
            (at_new ∙ below-named pages new (entry_at pages root words a) page i named
            ∙ get_or-set_other words place (table_word pages page i) word 0 (λ e. off (sym e))
            ∙ sym (below-named pages words (entry_at pages root words a) page i named))
      ]
    ] where
      at_new : below pages new (entry_at pages root new a) i ≡ below pages new (entry_at pages root words a) i
      at_new = ap (λ k. below pages new k i) same

    moves : (d n : ℕ) → n < slots_at d → EntryMoves (At d n)
    moves zero n slot = elim (cases_eq place (table_word pages root n)) [
      | inl here ↦ inr (here, ap (λ p. get_or new p 0) (sym here) ∙ get_or-set_same words place word 0 within)
      | inr off ↦ inl (get_or-set_other words place (table_word pages root n) word 0 (λ e. off (sym e)))
    ]
    moves (suc d) n slot = elim (down (At d (n / 512)) (n % 512) (omega arith) (moves d (n / 512) (omega arith))) [
      | inl same ↦ inl same
      | inr moved ↦ inr ((moved.0, moved.1, moved.2), moved.3)
    ]

    pub entry-moves : (a : Slot) → IsSlot a → EntryMoves a
    entry-moves (At d n) slot = moves d n slot

  -- where the word at the place names no table, and what the new one names is empty and has no word at the place, both have nothing below
  pub under-empty : ((page : ℕ) → get_or words place 0 ≢ next_table page)
      → ((page i : ℕ) → word ≡ next_table page → i < 512 → (get_or words (table_word pages page i) 0 ≡ 0) × (place ≢ table_word pages page i))
      → (i : ℕ) → i < 512 → below pages new word i ≡ below pages words (get_or words place 0) i
  under-empty plain empty i low = nothing ∙ sym (below-none pages (get_or words place 0) plain words i) where
    nothing : below pages new word i ≡ 0
    nothing = elim (next-cases pages word) [
      | inl (page, named) ↦
          let blank = empty page i named low in
          below-named pages new word page i named
          ∙ get_or-set_other words place (table_word pages page i) word 0 (λ e. blank.1 (sym e)) ∙ blank.0
      | inr none ↦ none new i
    ]

-- ---- words that become 0

module _ (pages root : ℕ) (words : List ℕ) (place : ℕ) (inside : place < length words) where
  abbrev zeroed : List ℕ
  zeroed = set words place 0

  -- an entry stays, or it goes
  abbrev pub StaysOrGoes : Slot → Type 0
  StaysOrGoes a = (entry_at pages root zeroed a ≡ entry_at pages root words a) ⊎ (entry_at pages root zeroed a ≡ 0)

  -- one level down
  zero-below : (a : Slot) (i : ℕ) → StaysOrGoes a → (below pages zeroed (entry_at pages root zeroed a) i ≡ below pages words (entry_at pages root words a) i) ⊎ (below pages zeroed (entry_at pages root zeroed a) i ≡ 0)
  zero-below a i (inr gone) = inr (ap (λ k. below pages zeroed k i) gone ∙ below-absent pages zeroed i)
  zero-below a i (inl same) = elim (next-cases pages (entry_at pages root words a)) [
    | inr none ↦ inr (ap (λ k. below pages zeroed k i) same ∙ none zeroed i)
    | inl (page, named) ↦ elim (cases_eq place (table_word pages page i)) [
      | inl here ↦ inr
          (ap (λ k. below pages zeroed k i) same ∙ below-named pages zeroed (entry_at pages root words a) page i named
          ∙ ap (λ p. get_or zeroed p 0) (sym here) ∙ get_or-set_same words place 0 0 inside)
      | inr off ↦ inl
          (ap (λ k. below pages zeroed k i) same ∙ below-same pages root words place 0 (entry_at pages root words a) i (λ q is at. off (at ∙ ap (λ p. table_word pages p i) (one is named))))
    ]
  ]
    where
      one : {entry p q : ℕ} → entry ≡ next_table p → entry ≡ next_table q → p ≡ q
      one a b = omega arith

  zeros : (d n : ℕ) → StaysOrGoes (At d n)
  zeros zero n = elim (cases_eq place (table_word pages root n)) [
    | inl here ↦ inr (ap (λ p. get_or zeroed p 0) (sym here) ∙ get_or-set_same words place 0 0 inside)
    | inr off ↦ inl (get_or-set_other words place (table_word pages root n) 0 0 (λ e. off (sym e)))
  ]
  zeros (suc d) n = zero-below (At d (n / 512)) (n % 512) (zeros d (n / 512))

  pub zero-moves : (a : Slot) → StaysOrGoes a
  zero-moves (At d n) = zeros d n
