-- What the examples of tables show.
use Rattle.std.proofs.Common.{◌≡◌, ℕ, ◌+◌, ◌-◌, ◌^◌, ◌<◌, ◌&&◌, Bool, true, false, List, [], ◌∷◌, refl, arith, true≢false, ◌∙◌, ap, ◌==◌, get_or, inl, inr}
use Rattle.std.proofs.lemmas.List.{get_or-replicate}
use Rattle.cove_base.proofs.TableLemmas.{below-absent}
use Rattle.cove_base.proofs.TreeLemmas.{slot-depth, slot-number}
use Rattle.cove_base.specs.Executions.{flag}
use Rattle.cove_base.specs.TableWords.{blocked}
use Rattle.cove_base.specs.Tables.{At, IsLeaf, IsAbsent, IsPresent, IsBlocked, IsSlot, Slot, below, entry_at, entry_in, next_table, present, slots_at}
use Rattle.cove_map_examples.specs.Examples.{zero_words}
use Rattle.cove_model.specs.LawfulStores.{IsRoot}
use Rattle.cove_stage2.proofs.ZeroLemmas.{zeros-absent}
use Rattle.cove_stage2.specs.Changes.{IsOnWay, NamesWay}
use Rattle.cove_stage2.specs.Entries.{IsEntryWord, OfLeaf, OfTable}
use Rattle.cove_stage2.specs.Lacked.{LacksRest, tables_lacked}
use Rattle.cove_stage2.specs.LawfulTables.{AreGiven}
use Rattle.cove_stage2.specs.MapStores.{pool_after, pool_left}

-- ---- entries

no_leaf : IsLeaf 2 → ⊥
no_leaf (IsAbsent e) = absurd (omega arith)
no_leaf (IsPresent page false low e) = absurd (omega arith)
no_leaf (IsPresent page true low e) = absurd (omega arith)
no_leaf (IsBlocked page false since low few e) = absurd (omega arith)
no_leaf (IsBlocked page true since low few e) = absurd (omega arith)

pub no_entry_word : IsEntryWord 2 → ⊥
no_entry_word (OfLeaf leaf) = no_leaf leaf
no_entry_word (OfTable page low e) = absurd (omega arith)

pub not_present : (page : ℕ) (shared : Bool) → 0 ≡ present page shared → ⊥
not_present page false e = absurd (omega arith)
not_present page true e = absurd (omega arith)

pub not_blocked : (page : ℕ) (shared : Bool) (since : ℕ) → present 5 true ≡ blocked (present page shared) since → ⊥
not_blocked page false since e = absurd (omega arith)
not_blocked page true since e = absurd (omega arith)

-- ---- walks

pub not_fetched : (shared : Bool) → present 5 true ≡ present 5 shared → (true && shared) ≡ false → ⊥
not_fetched false e own = absurd (omega arith)
not_fetched true e own = absurd (true≢false own)

pub not_there : (shared : Bool) → present 5 true ≡ present 6 shared → ⊥
not_there false e = absurd (omega arith)
not_there true e = absurd (omega arith)

pub not_while_blocked : (shared : Bool) → blocked (present 5 true) 3 ≡ present 5 shared → ⊥
not_while_blocked false e = absurd (omega arith)
not_while_blocked true e = absurd (omega arith)

-- an entry that names a table is no leaf
pub no_page : (leaf : ℕ) (shared : Bool) → leaf ≡ next_table 3 → leaf ≡ present 5 shared → ⊥
no_page leaf false e there = absurd (omega arith)
no_page leaf true e there = absurd (omega arith)

-- ---- slots

pub no_entry : (depth n : ℕ) → n < slots_at depth → entry_in 8 4 zero_words depth n ≡ 0
no_entry depth n low = zeros-absent 8 4 4173 zero_words refl (omega arith) (omega arith) (At depth n) low

pub not_beside : IsOnWay 2 (2 ^ 18 + 1030) (At 1 515) → ⊥
not_beside (inl same) = let number = slot-number 1 1 515 514 same in absurd (omega arith)
not_beside (inr (inl same)) = let depth = slot-depth 1 0 515 1 same in absurd (omega arith)
not_beside (inr (inr on)) = on

pub not_leaf : IsOnWay 2 (2 ^ 18 + 1030) (At 2 (2 ^ 18 + 1030)) → ⊥
not_leaf (inl same) = let depth = slot-depth 2 1 (2 ^ 18 + 1030) 514 same in absurd (omega arith)
not_leaf (inr (inl same)) = let depth = slot-depth 2 0 (2 ^ 18 + 1030) 1 same in absurd (omega arith)
not_leaf (inr (inr on)) = on

pub not_as_three : IsOnWay 3 (2 ^ 18 + 1030) (At 1 514) → ⊥
not_as_three (inl same) = let depth = slot-depth 1 2 514 514 same in absurd (omega arith)
not_as_three (inr (inl same)) = let number = slot-number 1 1 514 1 same in absurd (omega arith)
not_as_three (inr (inr (inl same))) = let depth = slot-depth 1 0 514 0 same in absurd (omega arith)
not_as_three (inr (inr (inr on))) = on

pub no_way_beside : IsOnWay 2 9 (At 1 1) → ⊥
no_way_beside (inl same) = let number = slot-number 1 1 1 0 same in absurd (omega arith)
no_way_beside (inr (inl same)) = let depth = slot-depth 1 0 1 0 same in absurd (omega arith)
no_way_beside (inr (inr on)) = on

-- where the slots above a guest page name tables, its way is named
pub way_of_three : (words : List ℕ) → entry_at 8 4 words (At 0 0) ≡ next_table 2 → entry_at 8 4 words (At 1 0) ≡ next_table 3 → NamesWay 8 4 2 words words 9
way_of_three words upper lower = record { way = way; kept = λ a link some. refl; others = λ a link off. refl } where
  way : (a : Slot) → IsOnWay 2 9 a → (page : ℕ) × (entry_at 8 4 words a ≡ next_table page)
  way a (inl same) = (3, ap (entry_at 8 4 words) same ∙ lower)
  way a (inr (inl same)) = (2, ap (entry_at 8 4 words) same ∙ upper)
  way a (inr (inr on)) = absurd on

pub way_of_four : (words : List ℕ) → entry_at 8 4 words (At 0 0) ≡ next_table 1 → entry_at 8 4 words (At 1 0) ≡ next_table 2 → entry_at 8 4 words (At 2 0) ≡ next_table 3 → NamesWay 8 4 3 words words 9
way_of_four words upper middle lower = record { way = way; kept = λ a link some. refl; others = λ a link off. refl } where
  way : (a : Slot) → IsOnWay 3 9 a → (page : ℕ) × (entry_at 8 4 words a ≡ next_table page)
  way a (inl same) = (3, ap (entry_at 8 4 words) same ∙ lower)
  way a (inr (inl same)) = (2, ap (entry_at 8 4 words) same ∙ middle)
  way a (inr (inr (inl same))) = (1, ap (entry_at 8 4 words) same ∙ upper)
  way a (inr (inr (inr on))) = absurd on

-- a slot with no entry is counted
pub counted : (entry : ℕ) → entry ≡ 0 → flag (entry == 0) ≡ 1
counted entry none = ap (λ x. flag (x == 0)) none

lacked : (depth n : ℕ) → n < slots_at depth → flag (entry_in 8 4 zero_words depth n == 0) ≡ 1
lacked depth n low = counted (entry_in 8 4 zero_words depth n) (no_entry depth n low)

root_0 : flag (entry_in 8 4 zero_words 0 0 == 0) ≡ 1
root_0 = lacked 0 0 (omega arith)

middle_0 : flag (entry_in 8 4 zero_words 1 0 == 0) ≡ 1
middle_0 = lacked 1 0 (omega arith)

middle_1 : flag (entry_in 8 4 zero_words 1 1 == 0) ≡ 1
middle_1 = lacked 1 1 (omega arith)

deep_0 : flag (entry_in 8 4 zero_words 2 0 == 0) ≡ 1
deep_0 = lacked 2 0 (omega arith)

-- a run lacks a table of each level, or two of the lower
pub of_9 : tables_lacked 8 4 zero_words 2 9 1 ≡ 2
of_9 = omega (arith, root_0, middle_0)

of_10 : tables_lacked 8 4 zero_words 2 10 1 ≡ 2
of_10 = omega (arith, root_0, middle_0)

of_both : tables_lacked 8 4 zero_words 2 9 2 ≡ 2
of_both = omega (arith, root_0, middle_0)

pub across : tables_lacked 8 4 zero_words 2 511 2 ≡ 3
across = omega (arith, root_0, middle_0, middle_1)

pub lacks_still : LacksRest 8 4 2 zero_words zero_words 9 → ⊥
lacks_still lacks = let same = lacks 2 (omega arith) (omega arith) in absurd (omega (arith, of_9, of_10, of_both))

pub left : pool_left 8 4 zero_words (1 ∷ 2 ∷ 3 ∷ []) 2 9 ≡ 1 ∷ []
left =
    ap (λ x. pool_after (entry_in 8 4 zero_words 1 0) (pool_after x (1 ∷ 2 ∷ 3 ∷ []))) (no_entry 0 0 (omega arith))
    ∙ ap (λ x. pool_after x (1 ∷ 2 ∷ [])) (no_entry 1 0 (omega arith))

-- ---- four levels

pub deep_9 : tables_lacked 8 4 zero_words 3 9 1 ≡ 3
deep_9 = omega (arith, root_0, middle_0, deep_0)

deep_10 : tables_lacked 8 4 zero_words 3 10 1 ≡ 3
deep_10 = omega (arith, root_0, middle_0, deep_0)

deep_both : tables_lacked 8 4 zero_words 3 9 2 ≡ 3
deep_both = omega (arith, root_0, middle_0, deep_0)

pub deep_across : tables_lacked 8 4 zero_words 3 511 2 ≡ 4
deep_across = omega (arith, root_0, middle_0, deep_0, lacked 2 1 (omega arith))

pub between : tables_lacked 8 4 zero_words 3 (2 ^ 18 - 1) 2 ≡ 5
between = omega (arith, root_0, middle_0, middle_1, lacked 2 511 (omega arith), lacked 2 512 (omega arith))

pub below_root : (words : List ℕ) → entry_at 8 4 words (At 0 0) ≡ next_table 2 → entry_at 8 4 words (At 1 0) ≡ 0 → tables_lacked 8 4 words 3 9 1 ≡ 2
below_root words named none =
    let upper : flag (entry_in 8 4 words 0 0 == 0) ≡ 0 = ap (λ x. flag (x == 0)) named in
    let middle = counted (entry_in 8 4 words 1 0) none in
    let lower = counted (entry_in 8 4 words 2 0) (ap (λ x. below 8 words x 0) none ∙ below-absent 8 words 0) in
    omega (arith, upper, middle, lower)

pub deep_lacks_still : LacksRest 8 4 3 zero_words zero_words 9 → ⊥
deep_lacks_still lacks = let same = lacks 2 (omega arith) (omega arith) in absurd (omega (arith, deep_9, deep_10, deep_both))

pub deep_left : pool_left 8 4 zero_words (1 ∷ 2 ∷ 3 ∷ []) 3 9 ≡ []
deep_left = ap (pool_after (entry_in 8 4 zero_words 2 0)) left ∙ ap (λ x. pool_after x (1 ∷ [])) (no_entry 2 0 (omega arith))

-- ---- words

pub zero_word : (place : ℕ) → place < 4173 → get_or zero_words place 0 ≡ 0
zero_word place below = get_or-replicate 4173 place 0 0 below

pub no_table : (words : List ℕ) → IsRoot 8 words 1 4 → ((a : Slot) → IsSlot a → entry_at 8 4 words a ≡ 0) → AreGiven 8 words 1 4 []
no_table words is none = record {
  root_is = is;
  linked = λ a page slot named. let zero = none a slot in absurd (omega arith);
  spare = λ k low. absurd (omega arith);
}
