-- What the words of harts tell of the harts inside a TVM.
use Rattle.std.proofs.Common.{◌≡◌, ℕ, zero, suc, ◌+◌, ◌/◌, ◌^◌, ◌<◌, ◌≤◌, ◌∙◌, Bool, true, false, cond, eqb, ltb, filter, List, [], ◌∷◌, get_or, length, Option, Some, None, Err, Ok, refl, sym, ap, inl, inr, arith}
use Rattle.std.proofs.lemmas.Bool.{cases_lt, lt-ltb, ne_eqb}
use Rattle.std.specs.List.{range_with_len}
use Rattle.std.specs.Option.{option_map_or}
use Rattle.cove_model.specs.Machine.{hart_word, ENTRY_LIMIT, Denied, Seat, State, harts_inside, is_in, FencesWithin, SeatStands}
use Rattle.cove_base.specs.declared.numbers.HartId.{HartId}
use Rattle.cove_host.proofs.CheckedLemmas.{Answer}
use Rattle.cove_host.specs.HartsInside.{IsFirstInside, is_inside, is_word_of}
use Rattle.cove_tvm.specs.Stands.{Stands}
use Rattle.cove_tvm.specs.declared.ground.Ground.{Ground}

-- ---- the first of a run that passes a test

none_first : (test : ℕ → Bool) (a n : ℕ) → ((k : ℕ) → a ≤ k → k < a + n → test k ≡ false) → filter test (range_with_len a n) ≡ []
none_first test a zero off = refl
none_first test a (suc n) off =
    ap (λ b. cond b (a ∷ filter test (range_with_len (a + 1) n)) (filter test (range_with_len (a + 1) n))) (off a (omega arith) (omega arith))
    ∙ none_first test (a + 1) n (λ k low high. off k (omega arith) (omega arith))

one_first : (test : ℕ → Bool) (a n h : ℕ) → a ≤ h → h < a + n → test h ≡ true → ((k : ℕ) → a ≤ k → k < h → test k ≡ false)
    → (rest : List ℕ) × (filter test (range_with_len a n) ≡ h ∷ rest)
one_first test a zero h low high on off = absurd (omega arith)
one_first test a (suc n) h low high on off = elim (cases_lt a h) [
  | inl under ↦
      let more = one_first test (a + 1) n h (omega arith) (omega arith) on (λ k k-low k-high. off k (omega arith) k-high) in (
        more.0,
        ap (λ b. cond b (a ∷ filter test (range_with_len (a + 1) n)) (filter test (range_with_len (a + 1) n))) (off a (omega arith) under) ∙ more.1,
      )
  | inr over ↦
      let same : h ≡ a = omega arith in (
        filter test (range_with_len (a + 1) n),
        ap (λ b. cond b (a ∷ filter test (range_with_len (a + 1) n)) (filter test (range_with_len (a + 1) n))) (ap test (sym same) ∙ on)
            ∙ ap (λ k. k ∷ filter test (range_with_len (a + 1) n)) (sym same),
      )
]

-- the answer of the check, by the harts that are inside
abbrev pub answer_by : List ℕ → Answer
answer_by inside = cond (ltb 0 (length inside)) (Err (record { status = Denied; value = get_or inside 0 0 })) (Ok tt)

abbrev answer_by_first : (hart : ℕ) → Answer
answer_by_first hart = Err (record { status = Denied; value = hart })

-- and by the first of them
abbrev pub answer_first : Option HartId → Answer
answer_first None = Ok tt
answer_first (Some hart) = Err (record { status = Denied; value = hart.0 })

answer_some : (h : ℕ) (rest : List ℕ) → answer_by (h ∷ rest) ≡ answer_by_first h
answer_some h rest = ap (λ b. cond b (answer_by_first h) (Ok tt)) (lt-ltb 0 (length (h ∷ rest)) (omega arith))

-- ---- one hart

module _ (words : List ℕ) (G : Ground) (S : State) (t : ℕ) (fences : FencesWithin G.pages G.harts words (ENTRY_LIMIT)) (stands : Stands words G S) where
  seat_told : (hart : ℕ) → hart < G.harts → is_inside G.pages G.harts words t hart ≡ option_map_or (is_in t) (S.seats hart) false
  seat_told hart on = go (S.seats hart) (stands.words_stand.stands.seats hart on)
    where
      word : ℕ
      word = get_or words (hart_word G.pages G.harts hart) 0

      go : (seat : Option Seat) → SeatStands G.pages G.harts words (get_or words (hart_word G.pages G.harts hart) 0) seat
          → is_word_of (get_or words (hart_word G.pages G.harts hart) 0) t ≡ option_map_or (is_in t) seat false
      go None is = ap (λ k. is_word_of k t) is
      go (Some seat) sits =
          let few = fences.numbers seat.tvm sits.low sits.high in
          let begun = sits.begun in
          let low = sits.low in
          let is = sits.is in
          let some = ne_eqb (get_or words (hart_word G.pages G.harts hart) 0) 0 (λ e. omega arith) in
          let number : get_or words (hart_word G.pages G.harts hart) 0 / 2 ^ 32 ≡ seat.tvm = omega arith in
          ap (λ b. cond b false (eqb (get_or words (hart_word G.pages G.harts hart) 0 / 2 ^ 32) t)) some ∙ ap (λ n. eqb n t) number

  -- the answer of the check
  pub inside_told : (first : Option HartId) → IsFirstInside G.pages G.harts words t first
      → answer_by (harts_inside S t) ≡ answer_first first
  inside_told None none =
      let harts = stands.words_stand.stands.owners.hart_count in
      let empty = none_first (λ h. option_map_or (is_in t) (S.seats h) false) 0 S.harts
      (λ k low high. sym (seat_told k (omega arith)) ∙ none k (omega arith)) in
      ap answer_by empty
  inside_told (Some hart) first =
      let harts = stands.words_stand.stands.owners.hart_count in
      let on = first.0 in
      let one = one_first (λ h. option_map_or (is_in t) (S.seats h) false) 0 S.harts hart.0 (omega arith) (omega arith)
      (sym (seat_told hart.0 first.0) ∙ first.1) (λ k low high. sym (seat_told k (omega arith)) ∙ first.2 k high) in
      ap answer_by one.1 ∙ answer_some hart.0 one.0
