-- What the checks of runs of pages say.
use Rattle.std.proofs.Common.{◌≡◌, ℕ, zero, suc, ◌+◌, ◌/◌, ◌<◌, ◌≤◌, Bool, true, false, not, map, List, length, replicate, refl, sym, ap, ◌∙◌, arith, ltb-false}
use Rattle.std.specs.List.{AllByRecursion, range_with_len}
use Rattle.cove_base.specs.Ranges.{is_outside}
use Rattle.cove_model.proofs.Members.{false-true}
use Rattle.cove_model.proofs.Runs.{every_at, zeros_size}
use Rattle.cove_model.specs.Machine.{Owner, Host, Converting, Free, Given, AsData, every, is_free, is_host, page_at, words_of, zeros, IsSoundPage, State, giving_memory, given_to}
use Rattle.cove_model.proofs.PageRuns.{each_inside}

-- ---- what the checks of runs say

pub within_memory : (base n pages : ℕ) → is_outside base n pages ≡ false → base / 4096 + n ≤ pages
within_memory base n pages e = ltb-false pages (base / 4096 + n) e

pub not_false : (b : Bool) → not b ≡ false → b ≡ true
not_false true e = refl
not_false false e = false-true (sym e)

pub free_page : (o : Owner) → is_free o ≡ true → o ≡ Free
free_page Free e = refl
free_page (Host words) e = false-true e
free_page (Converting held waiting words) e = false-true e
free_page (Given t purpose) e = false-true e

-- a page that was free is given where it was to be
pub memory_given : (S : State) (t base n gpa : ℕ) → is_outside base n (length S.pages) ≡ false → not (every is_free (base / 4096) n S.pages) ≡ false
    → (i : ℕ) → i < n → page_at (giving_memory t base n gpa S).pages (base / 4096 + i) ≡ Given t (AsData (gpa / 4096 + i))
memory_given S t base n gpa inside free i below =
    let bound = within_memory base n (length S.pages) inside in
    let was = free_page (page_at S.pages (base / 4096 + i)) (every_at is_free (base / 4096) n S.pages (not_false (every is_free (base / 4096) n S.pages) free) (base / 4096 + i) (omega arith) (omega arith) (omega arith)) in
    each_inside (λ k. given_to t (AsData (gpa / 4096 + k))) (base / 4096) n S.pages i below (omega arith)
    ∙ ap (given_to t (AsData (gpa / 4096 + i))) was

-- the words of the host's pages are 512 each
pub host_words : (S : State) → ((p : ℕ) → IsSoundPage S.harts S.unanswered (page_at S.pages p)) → (first n : ℕ)
    → ((i : ℕ) → first ≤ i → i < first + n → is_host (page_at S.pages i) ≡ true)
    → AllByRecursion (λ (words : List ℕ). length words ≡ 512) (map (λ p. words_of (page_at S.pages p)) (range_with_len first n))
host_words S sound first zero hosts = tt
host_words S sound first (suc n) hosts = (
  one (page_at S.pages first) (sound first) (hosts first (omega arith) (omega arith)),
  host_words S sound (first + 1) n (λ i low high. hosts i (omega arith) (omega arith)),
)
  where
    one : (o : Owner) → IsSoundPage S.harts S.unanswered o → is_host o ≡ true → length (words_of o) ≡ 512
    one (Host words) s e = s
    one (Converting held waiting words) s e = false-true e
    one Free s e = false-true e
    one (Given t purpose) s e = false-true e

pub all_hosts : (S : State) (base n : ℕ) → is_outside base n (length S.pages) ≡ false → not (every is_host (base / 4096) n S.pages) ≡ false
    → (i : ℕ) → base / 4096 ≤ i → i < base / 4096 + n → is_host (page_at S.pages i) ≡ true
all_hosts S base n inside hosts i low high =
    let bound = within_memory base n (length S.pages) inside in
    every_at is_host (base / 4096) n S.pages (not_false (every is_host (base / 4096) n S.pages) hosts) i low high (omega arith)

pub length_words : (S : State) (first n : ℕ) → length (map (λ p. words_of (page_at S.pages p)) (range_with_len first n)) ≡ n
length_words S first zero = refl
length_words S first (suc n) = ap suc (length_words S (first + 1) n)

pub zeros_all : (n : ℕ) → AllByRecursion (λ (words : List ℕ). length words ≡ 512) (replicate n zeros)
zeros_all zero = tt
zeros_all (suc n) = (zeros_size, zeros_all n)
