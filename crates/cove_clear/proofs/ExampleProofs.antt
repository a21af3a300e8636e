-- What the examples show: of a board whose TVM has a root of zeros and one page of memory, which no leaf names.
use Rattle.std.proofs.Common.{◌≡◌, ◌≢◌, ℕ, zero, suc, ◌+◌, ◌-◌, ◌*◌, ◌^◌, ◌<◌, ◌≤◌, ◌∙◌, false, true≢false, List, [], ◌∷◌, get_or, length, length-set, replicate, set, refl, sym, ap, inl, inr, arith, get_or-set_other, get_or-set_same}
use Rattle.std.proofs.lemmas.Bool.{cases_eq}
use Rattle.std.proofs.lemmas.List.{get_or-append_right}
use Rattle.cove_model.specs.Machine.{given, host, released, all_words, epoch_word, hart_word, table_word, Root, Table, Data, AreOwned, ChangesTable, IsLeft, IsRoot, Rewrites, has}
use Rattle.cove_base.specs.Tables.{Slot, Names, IsSlot, entry_at, next_table}
use Rattle.cove_clear.proofs.Zeroing.{one_has}
use Rattle.cove_clear.specs.Clearing.{AreCounted, AreGathered, Clears, IsBeingCleared, IsClearable, MayBeCleared, Proceeds}
use Rattle.cove_model.proofs.LeafWords.{none_named}
use Rattle.cove_model.proofs.Lists.{replicate_zero}
use Rattle.cove_model.specs.TableExamples.{entered_words, rooted}
use Rattle.cove_model.specs.TableLaw.{shared_leaves}
use Rattle.cove_stage2.proofs.ZeroLemmas.{empty-entries, empty-tree}

-- ---- the words

abbrev page_words : List ℕ
page_words = host 0 ∷ host 0 ∷ given 1 Data ∷ released ∷ given 1 Root ∷ given 1 Root ∷ given 1 Root ∷ given 1 Root ∷ []

rooted_zero : (place : ℕ) → 8 ≤ place → get_or rooted place 0 ≡ 0
rooted_zero place past = get_or-append_right page_words (replicate (all_words 8 1 - 8) 0) 8 place 0 refl past ∙ replicate_zero (all_words 8 1 - 8) (place - 8)

size : length rooted ≡ 4173
size = refl

-- no slot below any root has an entry
no_entry : (r : ℕ) (a : Slot) → IsSlot a → entry_at 8 r rooted a ≡ 0
no_entry r = empty-entries 8 r rooted (λ n low. rooted_zero (table_word 8 r n) (omega arith))

no_link : (r : ℕ) (a : Slot) (page : ℕ) → IsSlot a → entry_at 8 r rooted a ≡ next_table page → ⊥
no_link r a page slot named = let none = sym (no_entry r a slot) ∙ named in absurd (omega arith)

no_name : (a : Slot) (page : ℕ) → IsSlot a → Names page false (entry_at 8 4 rooted a) → ⊥
no_name a page slot named = none_named page false (entry_at 8 4 rooted a) (no_entry 4 a slot) named

-- ---- a TVM that is being destroyed

nobody : IsLeft 8 1 rooted 1
nobody hart on there =
    let none : get_or rooted (hart_word 8 1 hart) 0 ≡ 0 = rooted_zero (hart_word 8 1 hart) (omega arith) in
    let is : get_or rooted (hart_word 8 1 hart) 0 ≡ 2 ^ 32 * 1 + there.0 = there.1.1 in
    absurd (omega arith)

root_word : (i : ℕ) → i < 4 → get_or rooted (suc (suc (suc (suc i)))) 0 ≡ given 1 Root
root_word zero low = refl
root_word (suc zero) low = refl
root_word (suc (suc zero)) low = refl
root_word (suc (suc (suc zero))) low = refl
root_word (suc (suc (suc (suc i)))) low = absurd (omega arith)

root_page : (i : ℕ) → i < 4 → get_or rooted (4 + i) 0 ≡ given 1 Root
root_page i low = let same : 4 + i ≡ suc (suc (suc (suc i))) = omega arith in ap (λ k. get_or rooted k 0) same ∙ root_word i low

no_root_before : (p : ℕ) → p < 4 → get_or rooted p 0 ≢ given 1 Root
no_root_before zero low e = absurd (omega arith)
no_root_before (suc zero) low e = absurd (omega arith)
no_root_before (suc (suc zero)) low e = absurd (omega arith)
no_root_before (suc (suc (suc zero))) low e = absurd (omega arith)
no_root_before (suc (suc (suc (suc p)))) low e = absurd (omega arith)

owned : (u r : ℕ) → IsRoot 8 rooted u r → AreOwned 8 rooted u r
owned u r is = record {
  root_is = is;
  linked = λ a page link named. absurd (no_link r a page link named);
  apart = λ a b page link other named also. absurd (no_link r a page link named);
  backed = λ a page shared slot small named. absurd (none_named page shared (entry_at 8 r rooted a) (no_entry r a slot) named);
}

clearable : (leaves : ℕ) → IsClearable 8 1 rooted 1 4 leaves
clearable leaves = record {
  few = omega arith;
  size = size;
  left = nobody;
  root_is = record { fits = omega arith; roots = root_page; least = no_root_before };
  tree = empty-tree 8 4 leaves rooted (omega arith) (omega (arith, size)) (λ n low. rooted_zero (table_word 8 4 n) (omega arith));
  owned = owned;
  once = λ a b p slot other on first second. absurd (no_name a p slot first);
}

no_table : (p : ℕ) → p < 8 → get_or rooted p 0 ≢ given 1 Table
no_table zero on e = absurd (omega arith)
no_table (suc zero) on e = absurd (omega arith)
no_table (suc (suc zero)) on e = absurd (omega arith)
no_table (suc (suc (suc zero))) on e = absurd (omega arith)
no_table (suc (suc (suc (suc p)))) on e = let is = root_word p (omega arith) in absurd (omega arith)

one_data : (p : ℕ) → p < 8 → get_or rooted p 0 ≡ given 1 Data → p ≡ 2
one_data zero on e = absurd (omega arith)
one_data (suc zero) on e = absurd (omega arith)
one_data (suc (suc zero)) on e = refl
one_data (suc (suc (suc zero))) on e = absurd (omega arith)
one_data (suc (suc (suc (suc p)))) on e = let is = root_word p (omega arith) in absurd (omega arith)

pub gathered : AreGathered 8 rooted 1 4 (2 ∷ [])
gathered = record {
  differ = (refl, tt);
  on_board = λ p there. let is = one_has 2 p there in omega arith;
  own = λ p there. inr (ap (λ k. get_or rooted k 0) (sym (one_has 2 p there)));
  empty = λ p i there table low. rooted_zero (table_word 8 p i) (omega arith);
  unlinked = λ a p link named. absurd (no_link 4 a p link named);
  unmapped = λ a p slot on named. absurd (no_name a p slot named);
  tables = λ p on table. absurd (no_table p on table);
  memory = λ p on data_page. inl (ap (λ k. has k (2 ∷ [])) (one_data p on data_page));
}

counted : AreCounted 8 rooted
counted zero maps on is = let none : shared_leaves 8 rooted 0 ≡ 0 = refl in omega arith
counted (suc zero) maps on is = let none : shared_leaves 8 rooted 1 ≡ 0 = refl in omega arith
counted (suc (suc zero)) maps on is = absurd (omega arith)
counted (suc (suc (suc zero))) maps on is = absurd (omega arith)
counted (suc (suc (suc (suc p)))) maps on is = let root = root_word p (omega arith) in absurd (omega arith)

pub leaving : (leaves : ℕ) → IsBeingCleared 8 1 rooted 1 4 leaves (2 ∷ [])
leaving leaves = record { clearable = clearable leaves; gathered = gathered; counted = counted }

pub not_inside : (leaves : ℕ) → IsBeingCleared 8 1 entered_words 1 4 leaves (2 ∷ []) → ⊥
not_inside leaves going = going.clearable.left 0 (omega arith) (0, (omega arith, get_or-set_same rooted 4171 (2 ^ 32) 0 (omega (arith, size))))

pub not_miscounted : (leaves : ℕ) → IsBeingCleared 8 1 (set rooted 0 (host 1)) 1 4 leaves (2 ∷ []) → ⊥
not_miscounted leaves going =
    let none : shared_leaves 8 (set rooted 0 (host 1)) 0 ≡ 0 = refl in
    let count : 1 ≡ shared_leaves 8 (set rooted 0 (host 1)) 0 = going.counted 0 1 (omega arith) refl in
    absurd (omega arith)

-- ---- what is gathered

pub not_lost : AreGathered 8 rooted 1 4 [] → ⊥
not_lost all = elim (all.memory 2 (omega arith) refl) [
  | inl there ↦ absurd (true≢false (sym there))
  | inr (a, slot, named) ↦ no_name a 2 slot named
]

pub not_of_the_host : AreGathered 8 rooted 1 4 (2 ∷ 0 ∷ []) → ⊥
not_of_the_host all = elim (all.own 0 refl) [ inl is ↦ absurd (omega arith) | inr is ↦ absurd (omega arith) ]

-- ---- words that are cleared

abbrev linked_words : List ℕ
linked_words = set rooted (table_word 8 4 0) (next_table 3)

linked_other : (place : ℕ) → place ≢ table_word 8 4 0 → get_or linked_words place 0 ≡ get_or rooted place 0
linked_other place off = get_or-set_other rooted (table_word 8 4 0) place (next_table 3) 0 off

linked_here : get_or linked_words (table_word 8 4 0) 0 ≡ next_table 3
linked_here = get_or-set_same rooted (table_word 8 4 0) (next_table 3) 0 (omega (arith, size))

pub cleared : Clears 8 linked_words rooted 1
cleared = record {
  size = sym (length-set rooted (table_word 8 4 0) (next_table 3));
  tables = λ p i on low. elim (cases_eq p 4) [
    | inl is ↦ inr (inl (linked_other p (omega arith) ∙ ap (λ k. get_or rooted k 0) is), rooted_zero (table_word 8 p i) (omega arith))
    | inr off ↦ inl (sym (linked_other (table_word 8 p i) (omega arith)))
  ];
  page = λ p on. inl (sym (linked_other p (omega arith)));
  behind = λ place past. sym (linked_other place (omega arith));
}

pub counts_less : Clears 8 (set rooted 0 (host 1)) rooted 1
counts_less = record {
  size = sym (length-set rooted 0 (host 1));
  tables = λ p i on low. inl (sym (get_or-set_other rooted 0 (table_word 8 p i) (host 1) 0 (omega arith)));
  page = λ p on. elim (cases_eq p 0) [
    | inl is ↦ inr (1, 0, ap (λ k. get_or (set rooted 0 (host 1)) k 0) is, ap (λ k. get_or rooted k 0) is)
    | inr off ↦ inl (sym (get_or-set_other rooted 0 p (host 1) 0 off))
  ];
  behind = λ place past. sym (get_or-set_other rooted 0 place (host 1) 0 (omega arith));
}

pub not_linked : Clears 8 rooted linked_words 1 → ⊥
not_linked clears =
    let here = linked_here in
    let was = rooted_zero (table_word 8 4 0) (omega arith) in
    elim (clears.tables 4 0 (omega arith) (omega arith)) [ inl same ↦ absurd (omega arith) | inr gone ↦ let zero_now = gone.1 in absurd (omega arith) ]

pub not_of_another : Clears 8 linked_words rooted 2 → ⊥
not_of_another clears =
    let here = linked_here in
    let is = rooted_zero (table_word 8 4 0) (omega arith) in
    let mine : get_or linked_words 4 0 ≡ given 1 Root = linked_other 4 (omega arith) in
    elim (clears.tables 4 0 (omega arith) (omega arith)) [
      | inl same ↦ absurd (omega arith)
      | inr gone ↦ elim gone.0 [ inl root ↦ absurd (omega arith) | inr table ↦ absurd (omega arith) ]
    ]

pub not_taken_back : (t : ℕ) → Clears 8 rooted (set rooted 2 released) t → ⊥
not_taken_back t clears =
    elim (clears.page 2 (omega arith)) [ inl same ↦ absurd (omega arith) | inr hosts ↦ let was = hosts.2 in absurd (omega arith) ]

pub not_given_away : Clears 8 rooted (set rooted 3 (given 2 Data)) 1 → ⊥
not_given_away clears =
    elim (clears.page 3 (omega arith)) [ inl same ↦ absurd (omega arith) | inr hosts ↦ let was = hosts.2 in absurd (omega arith) ]

pub not_the_epoch : Clears 8 rooted (set rooted (epoch_word 8) 1) 1 → ⊥
not_the_epoch clears =
    let here = get_or-set_same rooted (epoch_word 8) 1 0 (omega (arith, size)) in
    let was = rooted_zero (epoch_word 8) (omega arith) in
    let same = clears.behind (epoch_word 8) (omega arith) in
    absurd (omega arith)

-- ---- what a TVM goes on to

pub allows_nothing : (leaves : ℕ) (words pool : List ℕ) → MayBeCleared (λ old place word. ⊥) 8 4 leaves words pool → ⊥
allows_nothing leaves words pool may =
    let root = may.4.clearable.root_is.roots 0 (omega arith) in
    may.5 words (table_word 8 4 0) 0 (ChangesTable may.1 4 0 (omega arith) (omega arith) refl (inl root) (Rewrites may.4.clearable.left))

pub not_lost_on_the_way : (leaves : ℕ) → Proceeds 8 4 leaves rooted (2 ∷ []) rooted [] → ⊥
not_lost_on_the_way leaves on = not_lost (on 1 1 (leaving leaves)).leaving.gathered

pub not_taken_yet : (leaves : ℕ) (pool : List ℕ) → Proceeds 8 4 leaves rooted (2 ∷ []) (set rooted 2 released) pool → ⊥
not_taken_yet leaves pool on = not_taken_back 1 (on 1 1 (leaving leaves)).clears
