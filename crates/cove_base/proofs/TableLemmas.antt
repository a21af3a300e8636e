use Rattle.std.proofs.Common.{◌≡◌, ◌≢◌, ℕ, ◌+◌, ◌*◌, ◌/◌, ◌%◌, ◌∙◌, ◌⊎◌, inl, inr, Bool, true, false, cond, eqb, eqb-true, List, get_or, refl, sym, ap, arith}
use Rattle.cove_base.specs.Places.{table_word}
use Rattle.cove_base.specs.Tables.{next_table, below, IsLeaf, IsAbsent, IsPresent, IsBlocked, IsLink, NoTable, ATable}

-- below a next table stands a word of its page
pub below-table : (pages : ℕ) (words : List ℕ) (page i : ℕ) → below pages words (next_table page) i ≡ get_or words (table_word pages page i) 0
unfolding below
below-table pages words page i =
    let rest : (1024 * page + 1) % 1024 ≡ 1 = omega arith in
    let named : (1024 * page + 1) / 1024 ≡ page = omega arith in
    rw (rest, named) refl

-- below an entry that names a table stands a word of its page
pub below-named : (pages : ℕ) (words : List ℕ) (entry page i : ℕ) → entry ≡ next_table page → below pages words entry i ≡ get_or words (table_word pages page i) 0
below-named pages words entry page i named = ap (λ k. below pages words k i) named ∙ below-table pages words page i

-- below no table stands 0
pub below-absent : (pages : ℕ) (words : List ℕ) (i : ℕ) → below pages words 0 i ≡ 0
unfolding below
below-absent pages words i = refl

-- what an entry above the leaves names, it names at its number over 1024
pub below-link : (pages root : ℕ) (words : List ℕ) (entry i place : ℕ) → IsLink pages root entry → entry ≢ 0 → place ≡ table_word pages (entry / 1024) i → below pages words entry i ≡ get_or words place 0
below-link pages root words entry i place (NoTable e) some at = absurd (some e)
below-link pages root words entry i place (ATable page out e) some at =
    let named : entry / 1024 ≡ page = omega arith in
    below-named pages words entry page i e ∙ ap (λ k. get_or words k 0) (ap (λ p. table_word pages p i) (sym named) ∙ sym at)

-- an entry names a table, or nothing stands below it
pub next-cases : (pages entry : ℕ) → ((page : ℕ) × (entry ≡ next_table page)) ⊎ ((words : List ℕ) (i : ℕ) → below pages words entry i ≡ 0)
unfolding below
next-cases pages entry = go (eqb (entry % 1024) 1) refl
  where
    go : (b : Bool) → eqb (entry % 1024) 1 ≡ b → ((page : ℕ) × (entry ≡ next_table page)) ⊎ ((words : List ℕ) (i : ℕ) → below pages words entry i ≡ 0)
    go true e = let rest : entry % 1024 ≡ 1 = eqb-true (entry % 1024) 1 e in inl (entry / 1024, omega arith)
    go false e = inr (λ words i. ap (λ b. cond b (get_or words (table_word pages (entry / 1024) i) 0) 0) e)

-- below an entry that names no table stands nothing
pub below-none : (pages entry : ℕ) → ((page : ℕ) → entry ≢ next_table page) → (words : List ℕ) (i : ℕ) → below pages words entry i ≡ 0
below-none pages entry none words i = elim (next-cases pages entry) [ inl (page, named) ↦ absurd (none page named) | inr empty ↦ empty words i ]

-- no leaf is the word of a next table
pub leaf≢table : (word page : ℕ) → IsLeaf word → word ≢ next_table page
leaf≢table word page (IsAbsent is) e = omega arith
leaf≢table word page (IsPresent q false h is) e = omega arith
leaf≢table word page (IsPresent q true h is) e = omega arith
leaf≢table word page (IsBlocked q false since h k is) e = omega arith
leaf≢table word page (IsBlocked q true since h k is) e = omega arith
