-- What the examples of tables show.
use Rattle.std.proofs.Common.{◌≡◌, ◌≢◌, ℕ, zero, suc, ◌+◌, ◌-◌, ◌*◌, ◌/◌, ◌%◌, ◌^◌, ◌<◌, ◌≤◌, false, List, [], ◌∷◌, Option, Some, None, get_or, length, set, replicate, refl, sym, ap, subst, ◌∙◌, inl, inr, arith, get_or-set_other, get_or-set_same}
use Rattle.std.proofs.lemmas.List.{get_or-append_right}
use Rattle.std.proofs.lemmas.Option.{none-some}
use Rattle.cove_base.proofs.TableLemmas.{below-absent}
use Rattle.cove_model.specs.Machine.{Way, no_rings, converting, given, host, released, all_words, hart_word, table_word, tvm_word, Root, Data, AreOwned, IsBehindLeaf, IsInside, IsLawful, ChangesPage, ChangesTable, Answers, Begins, FencesTvm, ChangesHart, PageChange, Counts, Converts, Frees, Gives, TakesBack, Removes, Enters, Leaves, IsLeft, IsTableOf, TableChange, Links, Maps, Blocks, Unblocks, Unmaps, Rewrites, number_in}
use Rattle.cove_base.specs.TableWords.{blocked, private_leaf}
use Rattle.cove_base.specs.Tables.{Slot, At, IsSlot, below, entry_at, entry_in, next_table, slots_at}
use Rattle.cove_model.proofs.LeafWords.{blocked_none, given_host, given_number, given_role, none_named, present_blocked, present_next, present_none, present_same}
use Rattle.cove_model.proofs.Lists.{replicate_zero}
use Rattle.cove_model.proofs.OwnedStores.{free_given, one_owner}
use Rattle.cove_model.proofs.StoreLawProofs.{page_change}
use Rattle.cove_model.specs.TableExamples.{entered_words, fetching, guest, rooted}
use Rattle.cove_model.specs.TableLaw.{EntersWithin, IsGuestLive, MayReach}

-- ---- the words

abbrev first_words : List ℕ
first_words = host 0 ∷ host 0 ∷ given 1 Data ∷ released ∷ given 1 Root ∷ given 1 Root ∷ given 1 Root ∷ given 1 Root ∷ []

rooted_zero : (place : ℕ) → 8 ≤ place → get_or rooted place 0 ≡ 0
rooted_zero place past = get_or-append_right first_words (replicate (all_words 8 1 - 8) 0) 8 place 0 refl past ∙ replicate_zero (all_words 8 1 - 8) (place - 8)

size : length rooted ≡ 4173
size = refl

entered_other : (place : ℕ) → place ≢ 4171 → get_or entered_words place 0 ≡ get_or rooted place 0
entered_other place ne = get_or-set_other rooted 4171 place (2 ^ 32) 0 ne

entered_here : get_or entered_words (hart_word 8 1 0) 0 ≡ 2 ^ 32
entered_here = get_or-set_same rooted 4171 (2 ^ 32) 0 (omega (arith, size))

entered_zero : (place : ℕ) → 8 ≤ place → place ≢ 4171 → get_or entered_words place 0 ≡ 0
entered_zero place past ne = entered_other place ne ∙ rooted_zero place past

-- ---- empty tables

module _ (words : List ℕ) (zeros : (place : ℕ) → 8 ≤ place → place < 4104 → get_or words place 0 ≡ 0) where
  no_word : (d n : ℕ) → n < slots_at d → entry_in 8 4 words d n ≡ 0
  no_word zero n low = zeros (table_word 8 4 n) (omega arith) (omega arith)
  no_word (suc d) n low = ap (λ k. below 8 words k (n % 512)) (no_word d (n / 512) (omega arith)) ∙ below-absent 8 words (n % 512)

  pub no_entry : (a : Slot) → IsSlot a → entry_at 8 4 words a ≡ 0
  no_entry (At d n) low = no_word d n low

  no_link : (a : Slot) (page : ℕ) → IsSlot a → entry_at 8 4 words a ≡ next_table page → ⊥
  no_link a page slot named = let e = sym (no_entry a slot) ∙ named in absurd (omega arith)

  empty_owned : get_or words 4 0 ≡ given 1 Root → get_or words 5 0 ≡ given 1 Root → get_or words 6 0 ≡ given 1 Root → get_or words 7 0 ≡ given 1 Root
      → ((p : ℕ) → p < 4 → get_or words p 0 ≢ given 1 Root) → AreOwned 8 words 1 4
  empty_owned a b c d least = record {
    root_is = record { fits = omega arith; roots = roots; least = least };
    linked = λ s page slot named. absurd (no_link s page slot named);
    apart = λ s t page slot other named also. absurd (no_link s page slot named);
    backed = λ a page shared slot small named. absurd (none_named page shared (entry_at 8 4 words a) (no_entry a slot) named);
  }
    where
      roots : (i : ℕ) → i < 4 → get_or words (4 + i) 0 ≡ given 1 Root
      roots zero low = a
      roots (suc zero) low = b
      roots (suc (suc zero)) low = c
      roots (suc (suc (suc zero))) low = d
      roots (suc (suc (suc (suc i)))) low = absurd (omega arith)

least_word : (p : ℕ) → p < 4 → get_or rooted p 0 ≢ given 1 Root
least_word zero low e = absurd (omega arith)
least_word (suc zero) low e = absurd (omega arith)
least_word (suc (suc zero)) low e = absurd (omega arith)
least_word (suc (suc (suc zero))) low e = absurd (omega arith)
least_word (suc (suc (suc (suc p)))) low e = absurd (omega arith)

pub rooted_owned : AreOwned 8 rooted 1 4
rooted_owned = empty_owned rooted (λ place past low. rooted_zero place past) refl refl refl refl least_word

pub entered_owned : AreOwned 8 entered_words 1 4
entered_owned =
    empty_owned entered_words (λ place past low. entered_zero place past (omega arith))
    (entered_other 4 (omega arith)) (entered_other 5 (omega arith)) (entered_other 6 (omega arith)) (entered_other 7 (omega arith))
    (λ p low e. least_word p low (sym (entered_other p (omega arith)) ∙ e))

pub not_its_root : AreOwned 8 (set rooted 6 (host 0)) 1 4 → ⊥
not_its_root owned =
    let is : get_or (set rooted 6 (host 0)) 6 0 ≡ given 1 Root = owned.root_is.roots 2 (omega arith) in
    let here : get_or (set rooted 6 (host 0)) 6 0 ≡ 0 = get_or-set_same rooted 6 (host 0) 0 (omega (arith, size)) in
    absurd (omega arith)

-- ---- who is inside

pub inside : IsInside 8 1 entered_words 1 0
inside = (0, (omega arith, entered_here))

pub nobody_inside : IsLeft 8 1 rooted 1
nobody_inside hart on there =
    let zero-is : get_or rooted (hart_word 8 1 hart) 0 ≡ 0 = rooted_zero (hart_word 8 1 hart) (omega arith) in
    let is : get_or rooted (hart_word 8 1 hart) 0 ≡ 2 ^ 32 * 1 + there.0 = there.1.1 in
    absurd (omega arith)

pub within : EntersWithin 8 1 entered_words
within tvm hart number low high on there =
    let one : hart ≡ 0 = omega arith in
    let word : get_or entered_words (hart_word 8 1 hart) 0 ≡ 2 ^ 32 * tvm + number = there.1 in
    let is : get_or entered_words (hart_word 8 1 hart) 0 ≡ 2 ^ 32 = ap (λ h. get_or entered_words (hart_word 8 1 h) 0) one ∙ entered_here in
    let small : number < 2 ^ 32 = there.0 in
    omega arith

pub not_within : EntersWithin 8 1 (set rooted (hart_word 8 1 0) (2 ^ 32 + 1)) → ⊥
not_within most =
    let here : get_or (set rooted (hart_word 8 1 0) (2 ^ 32 + 1)) (hart_word 8 1 0) 0 ≡ 2 ^ 32 + 1 = get_or-set_same rooted 4171 (2 ^ 32 + 1) 0 (omega (arith, size)) in
    let few = most 1 0 1 (omega arith) (omega arith) (omega arith) (omega arith, here) in
    let number : number_in 8 1 (set rooted (hart_word 8 1 0) (2 ^ 32 + 1)) 1 ≡ 0 =
    get_or-set_other rooted 4171 (tvm_word 8 1 1) (2 ^ 32 + 1) 0 (omega arith) ∙ rooted_zero (tvm_word 8 1 1) (omega arith) in
    absurd (omega arith)

-- ---- what a hart inside relies on

pub live : IsGuestLive 8 1 entered_words 1 4 2 0 (guest no_rings)
live = record {
  low = omega arith;
  high = omega arith;
  on_board = omega arith;
  entered = (omega arith, entered_here);
  owned = entered_owned;
  way = λ way is. record { root_is = sym (ap (λ (o : Option Way). root_or o) is); named = λ page among. let none = subst (λ (ts : List ℕ). among.0 < length ts) (sym (ap (λ (o : Option Way). tables_or o) is)) among.1 in absurd (omega arith) };
  fetches = λ g page named. absurd (none-some page named);
  accesses = λ g page named. absurd (none-some page named);
}
  where
    root_or : Option Way → ℕ
    root_or None = 4
    root_or (Some way) = way.root

    tables_or : Option Way → List ℕ
    tables_or None = []
    tables_or (Some way) = way.tables

pub not_mapped : (leaves : ℕ) → IsGuestLive 8 1 entered_words 1 4 leaves 0 (guest fetching) → ⊥
not_mapped leaves live =
    let reach = live.fetches 9 (record { 0 = 2 }) refl in
    let none = no_entry entered_words (λ place past low. entered_zero place past (omega arith)) (At leaves 9) reach.0 in
    elim reach.1.1 [
      | inl is ↦ present_none 2 false (sym is ∙ none)
      | inr held ↦ blocked_none 2 false held.0 (sym held.2 ∙ none)
    ]

-- ---- lawful stores

own_table : IsTableOf entered_words 1 4
own_table = inl (entered_other 4 (omega arith))

table_zero : get_or entered_words (table_word 8 4 0) 0 ≡ 0
table_zero = entered_zero (table_word 8 4 0) (omega arith) (omega arith)

pub own_page_mapped : IsLawful 8 1 0 entered_words entered_words (table_word 8 4 0) (private_leaf 2)
own_page_mapped =
    ChangesTable 1 4 0 (omega arith) (omega arith) refl own_table
    (Maps 2 false table_zero refl (omega arith) (entered_other 2 (omega arith)))

host_change : (tvm : ℕ) → tvm ≡ 1 → TableChange 8 1 entered_words tvm entered_words (table_word 8 4 0) (get_or entered_words (table_word 8 4 0) 0) (private_leaf 0) → ⊥
host_change tvm one (Links q none is q-below q-given unnamed zeros) = present_next 0 false q is
host_change tvm one (Maps p s none is p-below behind) = go (present_same 0 false p s is)
  where
    go : (0 ≡ p) × (false ≡ s) → ⊥
    go same =
        let data_word : get_or entered_words 0 0 ≡ given tvm Data = subst (λ x. IsBehindLeaf entered_words tvm x false) (sym same.0) (subst (IsBehindLeaf entered_words tvm p) (sym same.1) behind) in
        let is : get_or entered_words 0 0 ≡ 0 = entered_other 0 (omega arith) in
        absurd (omega arith)
host_change tvm one (Blocks p s r a p-small was is root_is slot stands before) = present_none p s (sym was ∙ table_zero)
host_change tvm one (Unblocks p s since p-small was is) = blocked_none p s since (sym was ∙ table_zero)
host_change tvm one (Unmaps p s since p-small was is fenced above) = blocked_none p s since (sym was ∙ table_zero)
host_change tvm one (Rewrites left) = left 0 (omega arith) (subst (λ t. IsInside 8 1 entered_words t 0) (sym one) inside)

pub host_page_mapped : IsLawful 8 1 0 entered_words entered_words (table_word 8 4 0) (private_leaf 0) → ⊥
host_page_mapped (ChangesPage page below at change) = absurd (omega arith)
host_page_mapped (ChangesTable u page i below low at of change) =
    let same : page ≡ 4 = omega arith in
    host_change u (one_owner entered_words u 1 4 (subst (IsTableOf entered_words u) same of) own_table) change
host_page_mapped (Answers is at new) = absurd (omega arith)
host_page_mapped (Begins at room new all) = absurd (omega arith)
host_page_mapped (FencesTvm u low high at room new all) = absurd (omega arith)
host_page_mapped (ChangesHart is at change) = absurd (omega arith)

pub page_converted : IsLawful 8 1 0 rooted rooted 0 (converting 0)
page_converted = ChangesPage 0 (omega arith) refl (Converts refl refl (ap converting (sym (rooted_zero 4104 (omega arith)))))

converted_data : PageChange 8 1 rooted rooted 2 (converting 0) → ⊥
converted_data (Counts before after was new few) = absurd (omega arith)
converted_data (Converts then now new) = absurd (omega arith)
converted_data (Frees free new) = absurd (omega arith)
converted_data (Gives u role low high free new left) = absurd (omega arith)
converted_data (TakesBack u role was new left) = absurd (omega arith)
converted_data (Removes u was new none) = absurd (omega arith)

pub data_page_converted : IsLawful 8 1 0 rooted rooted 2 (converting 0) → ⊥
data_page_converted lawful = converted_data (page_change lawful (omega arith))

pub enters : IsLawful 8 1 0 rooted rooted (hart_word 8 1 0) (2 ^ 32)
enters =
    let none : number_in 8 1 rooted 1 ≡ 0 = rooted_zero (tvm_word 8 1 1) (omega arith) in
    ChangesHart (omega arith) refl (Enters 1 4 (omega arith) (omega arith) (rooted_zero (hart_word 8 1 0) (omega arith)) (omega arith) rooted_owned)

pub enters_untold : IsLawful 8 1 0 rooted rooted (hart_word 8 1 0) (2 ^ 32 + 1) → ⊥
enters_untold (ChangesPage page below at change) = absurd (omega arith)
enters_untold (ChangesTable u page i below low at of change) = absurd (omega arith)
enters_untold (Answers is at new) = absurd (omega arith)
enters_untold (Begins at room new all) = absurd (omega arith)
enters_untold (FencesTvm u low high at room new all) = absurd (omega arith)
enters_untold (ChangesHart is at (Enters u root low high out new owned)) =
    let none : number_in 8 1 rooted u ≡ 0 = rooted_zero (tvm_word 8 1 u) (omega arith) in
    absurd (omega arith)
enters_untold (ChangesHart is at (Leaves u here new)) = absurd (omega arith)

pub leaves : IsLawful 8 1 0 entered_words entered_words (hart_word 8 1 0) 0
leaves = ChangesHart (omega arith) refl (Leaves 1 inside refl)

root_page : get_or entered_words 4 0 ≡ given 1 Root
root_page = entered_other 4 (omega arith)

root_change : PageChange 8 1 entered_words entered_words 4 released → ⊥
root_change (Counts before after was new few) = given_host 1 before Root (sym root_page ∙ was)
root_change (Converts then now new) = absurd (omega arith)
root_change (Frees free new) = free_given _ 1 Root free root_page
root_change (Gives u role low high free new left) = free_given _ 1 Root free root_page
root_change (TakesBack u role was new left) =
    left 0 (omega arith) (subst (λ t. IsInside 8 1 entered_words t 0) (given_number 1 u Root role (sym root_page ∙ was)) inside)
root_change (Removes u was new none) = let e = given_role 1 u Root Data (sym root_page ∙ was) in absurd (omega arith)

pub root_taken_back : IsLawful 8 1 0 entered_words entered_words 4 released → ⊥
root_taken_back lawful = root_change (page_change lawful (omega arith))

-- ---- what a hart may reach

pub held_yet : MayReach 3 2 false (blocked (private_leaf 2) 4)
held_yet = (omega arith, inr (4, omega arith, refl))

pub blocked_before : MayReach 3 2 false (blocked (private_leaf 2) 2) → ⊥
blocked_before reach = elim reach.1 [
  | inl is ↦ present_blocked 2 false 2 false 2 (sym is)
  | inr held ↦ let same : blocked (private_leaf 2) 2 ≡ blocked (private_leaf 2) held.0 = held.2 in let late : 3 ≤ held.0 = held.1 in absurd (omega arith)
]
