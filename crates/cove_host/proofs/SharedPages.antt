-- Pages of the host's are mapped shared in a state just where a test of their words says so.
use Rattle.std.proofs.Common.{◌≡◌, ◌↔◌, ℕ, ◌+◌, ◌<◌, ◌≤◌, ◌∙◌, ◌&&◌, Bool, true, false, List, [], ◌∷◌, get_or, eqb, eqb-true, eq-eqb, nat_le, nat_lt, refl, sym, ap, arith, inl, inr}
use Rattle.std.proofs.lemmas.Bool.{and_from, and_parts, false≢true, le-leb, leb-true, lt-ltb, ltb-true, or_cases, or_left, or_right}
use Rattle.std.specs.List.{list_any}
use Rattle.cove_model.specs.Machine.{IsMappedWord, host, every, has, is_host, page_at, State, shared_pages}
use Rattle.cove_model.proofs.Runs.{every_at}
use Rattle.cove_model.proofs.ToldProofs.{words_tell_host, words_tell_shared}
use Rattle.cove_owner.specs.States.{SomePage}
use Rattle.cove_tvm.specs.Stands.{Stands}
use Rattle.cove_tvm.specs.declared.ground.Ground.{Ground}

-- a number of a run
abbrev pub in_run : (first n p : ℕ) → Bool
in_run first n p = nat_le first p && nat_lt p (first + n)

-- a test that no number of a list passes, and one that one of them passes
any_none : (test : ℕ → Bool) (xs : List ℕ) → ((p : ℕ) → has p xs ≡ true → test p ≡ false) → list_any test xs ≡ false
any_none test [] never = refl
any_none test (x ∷ xs) never =
    rw (never x (or_left (eqb x x) (has x xs) (eq-eqb x x refl)))
    (any_none test xs (λ p there. never p (or_right (eqb x p) (has p xs) there)))

any_some : (test : ℕ → Bool) (xs : List ℕ) (p : ℕ) → has p xs ≡ true → test p ≡ true → list_any test xs ≡ true
any_some test [] p there passes = absurd (false≢true there)
any_some test (x ∷ xs) p there passes = elim (or_cases (eqb x p) (has p xs) there) [
  | inl here ↦ or_left (test x) (list_any test xs) (ap test (eqb-true x p here) ∙ passes)
  | inr later ↦ or_right (test x) (list_any test xs) (any_some test xs p later passes)
]

-- a number that passes is in no list of which none does
not_in : (test : ℕ → Bool) (xs : List ℕ) (p : ℕ) → list_any test xs ≡ false → test p ≡ true → has p xs ≡ false
not_in test xs p none passes = go (has p xs) refl
  where
    go : (b : Bool) → has p xs ≡ b → has p xs ≡ false
    go true there = absurd (false≢true (sym none ∙ any_some test xs p there passes))
    go false off = off

-- a word of the host's that is not mapped
unmapped : (word : ℕ) → (maps : ℕ) → word ≡ host maps → (IsMappedWord word → ⊥) → word ≡ host 0
unmapped word maps is fails = grind arith

module _ (words : List ℕ) (G : Ground) (S : State) (first n : ℕ) (stands : Stands words G S) (inside : first + n ≤ G.pages)
    (hosts : every is_host first n S.pages ≡ true) where
  host_at : (p : ℕ) → first ≤ p → p < first + n → is_host (page_at S.pages p) ≡ true
  host_at p low high =
      let long = stands.words_stand.stands.owners.page_count in
      every_at is_host first n S.pages hosts p low high (omega arith)

  told_at : (p : ℕ) → first ≤ p → p < first + n → (has p (shared_pages S) ≡ false) ↔ (get_or words p 0 ≡ host 0)
  told_at p low high = words_tell_shared G.pages G.harts words S p (omega arith) stands.words_stand.stands.owners (host_at p low high)

  -- where none of them is mapped shared, each has the word of such a page
  pub unshared_words : list_any (in_run first n) (shared_pages S) ≡ false → (p : ℕ) → first ≤ p → p < first + n → get_or words p 0 ≡ host 0
  unshared_words none p low high =
      (told_at p low high).0
      (not_in (in_run first n) (shared_pages S) p none (and_from (nat_le first p) (nat_lt p (first + n)) (le-leb first p low) (lt-ltb p (first + n) high)))

  some_shared : SomePage IsMappedWord words first n → list_any (in_run first n) (shared_pages S) ≡ true
  some_shared some =
      let p = some.0 in
      any_some (in_run first n) (shared_pages S) p
      (there (has p (shared_pages S)) (λ off. let is = (told_at p some.1 some.2).0 off in let mapped = some.3 in omega arith))
      (and_from (nat_le first p) (nat_lt p (first + n)) (le-leb first p some.1) (lt-ltb p (first + n) some.2))
    where
      there : (b : Bool) → (b ≡ false → ⊥) → b ≡ true
      there true never = refl
      there false never = absurd (never refl)

  none_shared : (SomePage IsMappedWord words first n → ⊥) → list_any (in_run first n) (shared_pages S) ≡ false
  none_shared none = any_none (in_run first n) (shared_pages S) (λ p there. not_both (in_run first n p) (λ passes.
      let parts = and_parts (nat_le first p) (nat_lt p (first + n)) passes in
      let low = leb-true first p parts.0 in
      let high = ltb-true p (first + n) parts.1 in
      let is = (words_tell_host G.pages G.harts words S p (omega arith) stands.words_stand.stands.owners).0 (host_at p low high) in
      false≢true (sym ((told_at p low high).1 (unmapped (get_or words p 0) is.0 is.1 (λ mapped. none (p, low, high, mapped)))) ∙ there)))
    where
      not_both : (b : Bool) → (b ≡ true → ⊥) → b ≡ false
      not_both true never = absurd (never refl)
      not_both false never = refl

  pub shared_told : (b : Bool) → ((b ≡ true) ↔ SomePage IsMappedWord words first n) → list_any (in_run first n) (shared_pages S) ≡ b
  shared_told true test = some_shared (test.0 refl)
  shared_told false test = none_shared (λ some. false≢true (test.1 some))
