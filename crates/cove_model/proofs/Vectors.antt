-- Histories that are computed from the definitions alone.
use Rattle.cove_model.specs.Machine.{Entry, Hit, Walk, LocalFence, Success, IsCached, IsQuiet, Legal, after, own, TheHost, TheMonitor, is_found, opening, word_at}
use Rattle.cove_model.proofs.Loads.{load_told}
use Rattle.cove_model.specs.Examples.{and_back, board, during_a_fence, during_a_fence_history, early_walk, early_walk_history, ended_hits, ended_hits_history, faulted, fence, held_before, held_before_history, last_answer, last_answer_history, late, late_history, load, loaded, local_fence, long_fill, once_free, said, short_fill, stale, stale_history, there_and_back, there_and_back_history, to_the_monitor, two_harts}
use Rattle.cove_model.specs.Owners.{zeros}
use Rattle.cove_base.specs.declared.walks.Target.TheVariants.{Host}
use Rattle.cove_model.specs.Played.{played}
use Rattle.cove_model.specs.States.{opening_words}
use Rattle.std.proofs.Common.{List, [], ap, arith, drop, refl, slice_index, sym, take, true, true≢false, ℕ, ◌++◌, ◌∙◌, ◌∷◌, ◌≡◌, ◌≢◌}

-- ---- the opening memory

pub later_above : word_at (opening (board 1 (long_fill ∷ short_fill ∷ []) [] [])) 0x4000 ≡ 0x339911
unfolding opening_words
later_above = refl

pub later_hides : word_at (opening (board 1 (short_fill ∷ long_fill ∷ []) [] [])) 0x4000 ≡ 0x332211
unfolding opening_words
later_hides = refl

pub elsewhere : word_at (opening (board 1 (long_fill ∷ []) [] [])) 0x4008 ≡ 0
unfolding opening_words
elsewhere = refl

abbrev word_zero : ℕ
word_zero = slice_index (opening_words [] 4) 0

zero_word : word_zero ≡ 0
unfolding opening_words
zero_word = refl

-- ---- plays

pub there_and_back_played : played 5 there_and_back ≡ there_and_back_history
unfolding played
there_and_back_played = refl

pub limit_played : played 2 there_and_back ≡ to_the_monitor ∷ fence ∷ []
unfolding played
limit_played = refl

pub nothing_played : played 5 (board 1 [] [] []) ≡ []
unfolding played
nothing_played = refl

pub during_a_fence_played : played 8 during_a_fence ≡ during_a_fence_history
unfolding played
during_a_fence_played = refl

stale_word : slice_index (opening_words stale.fills 4) 0 ≡ 0x8877665544332211
unfolding opening_words
stale_word = refl

pub stale_played : played 8 stale ≡ stale_history 0x8877665544332211 Hit
unfolding played
stale_played = ap (λ word. stale_history word Hit) stale_word

-- these show the first word of page 4, which is zero
pub held_before_played : played 8 held_before ≡ held_before_history
unfolding played zeros
held_before_played = ap (λ word. loaded 1 0x4000 Walk word ∷ drop 1 held_before_history) zero_word

pub early_walk_played : played 8 early_walk ≡ early_walk_history
unfolding played
early_walk_played = ap (λ word. to_the_monitor ∷ loaded 1 0x4000 Walk word ∷ faulted 2 0x4000 ∷ []) zero_word

pub ended_hits_played : played 8 ended_hits ≡ ended_hits_history
unfolding played
ended_hits_played = ap (λ word. loaded 1 0x4000 Walk word ∷ to_the_monitor ∷ loaded 1 0x4000 Hit word ∷ drop 3 ended_hits_history) zero_word

pub last_answer_played : played 8 last_answer ≡ last_answer_history
unfolding played
last_answer_played = refl

-- ---- what is refused

-- a load shows the word of the opening memory
pub other_word : Legal (board 1 [] (load 0 0x4000 ∷ []) []) (loaded 0 0x4000 Walk 5 ∷ []) → ⊥
other_word legal =
    let script = board 1 [] (load 0 0x4000 ∷ []) [] in
    absurd (let e : ◌≡◌ {A = ℕ} 5 0 = (load_told script (opening script) 0 0x4000 Walk 5 legal.0).1 ∙ zero_word in omega arith)

-- a walk that was made after a convert finds nothing
abbrev late_front : List Entry
late_front = take 2 late_history

never_late : (earlier since : List Entry) → late_front ≡ earlier ++ since → own since 1 ≡ [] → is_found (after late earlier) 1 (Host (record { 0 = 4 })) ≡ true → ⊥
never_late [] since split silent host = absurd (let e : said 1 LocalFence Success 0 ∷ [] ≡ [] = ap (λ xs. own xs 1) split ∙ silent in cc)
never_late (x ∷ []) since split silent host = absurd (let e : said 1 LocalFence Success 0 ∷ [] ≡ [] = ap (λ xs. own (drop 1 xs) 1) split ∙ silent in cc)
never_late (x ∷ y ∷ []) since split silent host =
    true≢false (sym host ∙ ap (λ xs. is_found (after late xs) 1 (Host (record { 0 = 4 }))) (sym (ap (take 2) split)))
never_late (x ∷ y ∷ z ∷ earlier) since split silent host = absurd (let e : [] ≡ z ∷ (earlier ++ since) = ap (drop 2) split in cc)

pub late_walk : IsCached late late_history → ⊥
late_walk cached = let was = cached.1.1.0.1 in never_late was.earlier was.since was.split was.silent was.found

-- ---- what is not quiet

comes_back : TheHost ≢ TheMonitor
comes_back e = cc

pub named_by_other : IsQuiet two_harts (once_free ++ loaded 1 0x4000 Walk 0 ∷ and_back ∷ []) → ⊥
named_by_other quiet = true≢false (quiet.1.1.1.1.0 4 1 comes_back)

pub named_by_own : IsQuiet two_harts (once_free ++ loaded 0 0x4000 Walk 0 ∷ and_back ∷ []) → ⊥
named_by_own quiet = true≢false (quiet.1.1.1.1.0 4 0 comes_back)

pub named_as_it_leaves : IsQuiet (board 3 [] [] []) (to_the_monitor ∷ fence ∷ said 2 LocalFence Success 0 ∷ loaded 2 0x4000 Walk 0 ∷ local_fence ∷ []) → ⊥
named_as_it_leaves quiet = true≢false (quiet.1.1.1.1.0 4 2 (λ e. comes_back (sym e)))
