use Rattle.std.proofs.Common.{zero, suc, ◌≢◌, refl, sym, replicate, ◌≡◌, ℕ, ◌+◌, ◌*◌, ◌/◌, ◌%◌, ◌<◌, ◌≤◌, ◌∙◌, List, [], ◌∷◌, get_or, length, ap, arith}
use Rattle.std.proofs.lemmas.List.{get_or-replicate, length-replicate}
use Rattle.cove_base.proofs.TableLemmas.{below-absent}
use Rattle.cove_base.specs.Places.{table_word}
use Rattle.cove_base.specs.Tables.{Slot, At, IsSlot, below, entry_at, entry_in, next_table, slots_at, IsOutside, NoTable, IsAbsent, IsTree, IsSpare, IsPool}
use Rattle.cove_base.proofs.TreeLemmas.{link-slot}

-- below a root of zeros each entry is 0
empty-in : (pages root : ℕ) (words : List ℕ) → ((n : ℕ) → n < 2048 → get_or words (table_word pages root n) 0 ≡ 0) → (d n : ℕ) → n < slots_at d → entry_in pages root words d n ≡ 0
empty-in pages root words zeros zero n h = zeros n h
empty-in pages root words zeros (suc d) n h =
    ap (λ e. below pages words e (n % 512)) (empty-in pages root words zeros d (n / 512) (omega arith)) ∙ below-absent pages words (n % 512)

pub empty-entries : (pages root : ℕ) (words : List ℕ) → ((n : ℕ) → n < 2048 → get_or words (table_word pages root n) 0 ≡ 0) → (a : Slot) → IsSlot a → entry_at pages root words a ≡ 0
empty-entries pages root words zeros (At d n) h = empty-in pages root words zeros d n h

zero≢table : (entry page : ℕ) → entry ≡ 0 → entry ≡ next_table page → ⊥
zero≢table entry page none e = omega arith

-- a root of zeros is a tree without a table
pub empty-tree : (pages root leaves : ℕ) (words : List ℕ) → root + 4 ≤ pages → 513 * pages ≤ length words → ((n : ℕ) → n < 2048 → get_or words (table_word pages root n) 0 ≡ 0) → IsTree pages root leaves words
empty-tree pages root leaves words fits size zeros = record {
  fits = fits;
  size = size;
  links = λ a h. NoTable (empty-entries pages root words zeros a (link-slot leaves a h));
  leaf = λ g h. IsAbsent (empty-entries pages root words zeros (At leaves g) h);
  apart = λ a b page ha hb na nb. absurd (zero≢table _ page (empty-entries pages root words zeros a ha) na);
}

-- beside such a root a page of zeros is spare
pub empty-spare : (pages root : ℕ) (words : List ℕ) (page : ℕ) → ((n : ℕ) → n < 2048 → get_or words (table_word pages root n) 0 ≡ 0) → IsOutside pages root page → ((i : ℕ) → i < 512 → get_or words (table_word pages page i) 0 ≡ 0) → IsSpare pages root words page
empty-spare pages root words page zeros outside clear = record {
  outside = outside;
  unnamed = λ a h named. zero≢table _ page (empty-entries pages root words zeros a h) named;
  zeros = clear;
}

-- the words of a list of zeros
zero-word : (n : ℕ) (words : List ℕ) → words ≡ replicate n 0 → (place : ℕ) → place < n → get_or words place 0 ≡ 0
zero-word n words is place small = ap (λ ws. get_or ws place 0) is ∙ get_or-replicate n place 0 0 small

zero-root : (pages root n : ℕ) (words : List ℕ) → words ≡ replicate n 0 → root + 4 ≤ pages → 513 * pages ≤ n → (i : ℕ) → i < 2048 → get_or words (table_word pages root i) 0 ≡ 0
zero-root pages root n words is fits size i h = zero-word n words is (table_word pages root i) (omega arith)

-- such a list is a tree without a table
pub zeros-tree : (pages root leaves n : ℕ) (words : List ℕ) → words ≡ replicate n 0 → root + 4 ≤ pages → 513 * pages ≤ n → IsTree pages root leaves words
zeros-tree pages root leaves n words is fits size =
    let long : length words ≡ n = ap length is ∙ length-replicate n 0 in
    empty-tree pages root leaves words fits (omega (arith, long, size)) (zero-root pages root n words is fits size)

pub zeros-absent : (pages root n : ℕ) (words : List ℕ) → words ≡ replicate n 0 → root + 4 ≤ pages → 513 * pages ≤ n → (a : Slot) → IsSlot a → entry_at pages root words a ≡ 0
zeros-absent pages root n words is fits size = empty-entries pages root words (zero-root pages root n words is fits size)

pub zeros-spare : (pages root n : ℕ) (words : List ℕ) → words ≡ replicate n 0 → root + 4 ≤ pages → 513 * pages ≤ n → (page : ℕ) → IsOutside pages root page → IsSpare pages root words page
zeros-spare pages root n words is fits size page out =
    let on = out.0 in
    empty-spare pages root words page (zero-root pages root n words is fits size) out (λ i h. zero-word n words is (table_word pages page i) (omega arith))

-- two of its pages are a pool
pub zeros-pool : (pages root n : ℕ) (words : List ℕ) → words ≡ replicate n 0 → root + 4 ≤ pages → 513 * pages ≤ n → (p q : ℕ) → p ≢ q → IsOutside pages root p → IsOutside pages root q → IsPool pages root words (p ∷ q ∷ [])
zeros-pool pages root n words is fits size p q apart outp outq = record {
  each = each;
  differ = differ;
} where
  each : (k : ℕ) → k < length (p ∷ q ∷ []) → IsSpare pages root words (get_or (p ∷ q ∷ []) k 0)
  each zero h = zeros-spare pages root n words is fits size p outp
  each (suc zero) h = zeros-spare pages root n words is fits size q outq
  each (suc (suc k)) h = absurd (omega arith)

  differ : (j k : ℕ) → j < length (p ∷ q ∷ []) → k < length (p ∷ q ∷ []) → get_or (p ∷ q ∷ []) j 0 ≡ get_or (p ∷ q ∷ []) k 0 → j ≡ k
  differ zero zero hj hk e = refl
  differ zero (suc zero) hj hk e = absurd (apart e)
  differ zero (suc (suc k)) hj hk e = absurd (omega arith)
  differ (suc zero) zero hj hk e = absurd (apart (sym e))
  differ (suc zero) (suc zero) hj hk e = refl
  differ (suc zero) (suc (suc k)) hj hk e = absurd (omega arith)
  differ (suc (suc j)) k hj hk e = absurd (omega arith)
