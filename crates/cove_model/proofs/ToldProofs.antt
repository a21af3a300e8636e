-- What words that stand tell of the state.
use Rattle.std.proofs.Common.{◌≡◌, ℕ, zero, suc, ◌+◌, ◌^◌, ◌<◌, ◌≤◌, Bool, cond, eqb, ltb, ◌||◌, ◌↔◌, ap, List, [], ◌∷◌, length, get_or, refl, sym, ◌∙◌, inl, inr, arith, false, true}
use Rattle.std.proofs.lemmas.Bool.{cases_lt, lt-ltb, le-ltb}
use Rattle.std.proofs.lemmas.List.Sums.{length-filter}
use Rattle.std.specs.List.{filter, range_with_len}
use Rattle.cove_model.specs.Machine.{State, shared_pages, host, IsFreeWord, IsPageWord, OfHost, OfConverting, OfGiven, OfReleased, Owner, Host, Converting, Free, Given, has, is_host, page_at, FreeStands, OwnersStand, PageStands, role_of, epoch_in, answered_in, maps_of}
use Rattle.cove_model.specs.WordLaws.{WordsTellHost, WordsTellShared, WordsTellFree, WordsTellAnswered, WordsTellLowest, WordsAreWords}
use Rattle.cove_model.proofs.StandLemmas.{host_page, free_page}

-- the word of a page of the host's says how often it is mapped
maps_told : (pages harts : ℕ) (words : List ℕ) (S : State) (p : ℕ) → p < pages → OwnersStand pages harts words S → is_host (page_at S.pages p) ≡ true → get_or words p 0 ≡ host (maps_of S p)
maps_told pages harts words S p within old e = let was = host_page (page_at S.pages p) e in rw was.1 at (old.page p within)

pub words_tell_host : WordsTellHost
words_tell_host pages harts words S p within old = (
  λ e. (maps_of S p, maps_told pages harts words S p within old e),
  λ is. let stands = old.page p within in grind arith,
)

-- a number is in a list exactly where it is counted
has_counted : (p : ℕ) (qs : List ℕ) → (has p qs ≡ false) ↔ (length (filter (λ q. eqb q p) qs) ≡ 0)
has_counted p [] = (λ e. refl, λ e. refl)
has_counted p (q ∷ qs) = let rest = has_counted p qs in go (eqb q p) rest
  where
    go : (b : Bool) → (has p qs ≡ false) ↔ (length (filter (λ k. eqb k p) qs) ≡ 0) → ((b || has p qs) ≡ false) ↔ (length (cond b (q ∷ filter (λ k. eqb k p) qs) (filter (λ k. eqb k p) qs)) ≡ 0)
    go true rest = (λ e. cc, λ e. absurd (omega arith))
    go false rest = rest

counted_is : (S : State) (p : ℕ) → length (filter (λ q. eqb q p) (shared_pages S)) ≡ maps_of S p
counted_is S p = length-filter (λ q. eqb q p) (shared_pages S)

-- how often a page is mapped is 0 where it is not
pub maps_none : (S : State) (p : ℕ) → has p (shared_pages S) ≡ false → maps_of S p ≡ 0
maps_none S p e = sym (counted_is S p) ∙ (has_counted p (shared_pages S)).0 e

pub words_tell_shared : WordsTellShared
words_tell_shared pages harts words S p within old e =
    let is = maps_told pages harts words S p within old e in (
      λ none. is ∙ ap host (maps_none S p none),
      λ zero_maps. (has_counted p (shared_pages S)).1 (counted_is S p ∙ (let z = is in omega arith)),
    )

free_to : (harts : ℕ) (numbers : ℕ → ℕ) (word floor : ℕ) → (k : ℕ) × (k < harts) × (floor ≡ numbers k) → FreeStands harts numbers word → IsFreeWord floor word
free_to harts numbers word floor one (inl is) = inl is
free_to harts numbers word floor one (inr stands) = inr (stands.0, omega (arith, one.2, stands.2 one.0 one.1), stands.1)

pub words_tell_free : WordsTellFree
words_tell_free pages harts words S p floor within old least = (
  λ e. free_to harts (answered_in pages words) (get_or words p 0) floor least.1 (rw (free_page (page_at S.pages p) e) at (old.page p within)),
  λ is. let stands = old.page p within in let answers = least.0 in grind arith,
)

pub filter_none : (p : ℕ → Bool) (a n : ℕ) → ((k : ℕ) → a ≤ k → k < a + n → p k ≡ false) → filter p (range_with_len a n) ≡ []
filter_none p a zero fails = refl
filter_none p a (suc n) fails = rw (fails a (omega arith) (omega arith)) (filter_none p (a + 1) n (λ k low high. fails k (omega arith) (omega arith)))

pub words_tell_answered : WordsTellAnswered
words_tell_answered pages harts words S old answers =
    old.unanswered ∙ filter_none (λ k. ltb (answered_in pages words k) (epoch_in pages words)) 0 harts (λ k low high. le-ltb (answered_in pages words k) (epoch_in pages words) (answers k (omega arith)))

-- the first number of a run that passes is the first of those that pass
filter_first : (p : ℕ → Bool) (a n k : ℕ) → a ≤ k → k < a + n → p k ≡ true → ((j : ℕ) → j < k → p j ≡ false) → (0 < length (filter p (range_with_len a n))) × (get_or (filter p (range_with_len a n)) 0 0 ≡ k)
filter_first p a zero k low high passes fails = absurd (omega arith)
filter_first p a (suc n) k low high passes fails =
    elim (cases_lt a k) [
      | inl less ↦ rw (fails a less) (filter_first p (a + 1) n k (omega arith) (omega arith) passes fails)
      | inr here ↦
          let is : k ≡ a = omega arith in
          rw (rw is at passes) (omega arith, sym is)
    ]

pub words_tell_lowest : WordsTellLowest
words_tell_lowest pages harts words S hart old lowest =
    rw old.unanswered (filter_first (λ k. ltb (answered_in pages words k) (epoch_in pages words)) 0 harts hart (omega arith) (omega (arith, lowest.0))
    (lt-ltb (answered_in pages words hart) (epoch_in pages words) lowest.1) (λ j less. le-ltb (answered_in pages words j) (epoch_in pages words) (lowest.2 j less)))

page_word_of : (harts epoch : ℕ) (numbers : ℕ → ℕ) (maps word : ℕ) (owner : Owner) → 0 < harts → ((k : ℕ) → k < harts → numbers k ≤ epoch) → epoch < 2 ^ 32 → maps < 2 ^ 32 → PageStands harts epoch numbers maps word owner → IsPageWord word
page_word_of harts epoch numbers maps word (Host words) some within limit few stands = OfHost maps few stands
page_word_of harts epoch numbers maps word (Converting held waiting words) some within limit few stands =
    OfConverting stands.since (omega (arith, stands.begun)) stands.is
page_word_of harts epoch numbers maps word Free some within limit few (inl is) = OfReleased is
page_word_of harts epoch numbers maps word Free some within limit few (inr stands) =
    OfConverting stands.0 (omega (arith, stands.2 0 some, within 0 some)) stands.1
page_word_of harts epoch numbers maps word (Given tvm purpose) some within limit few stands =
    OfGiven tvm (role_of purpose) stands.0 stands.1 stands.2

pub words_are_words : WordsAreWords
words_are_words pages harts words S p on stand some limit few =
    page_word_of harts (epoch_in pages words) (answered_in pages words) (maps_of S p) (get_or words p 0) (page_at S.pages p) some stand.within limit few (stand.stands.owners.page p on)
