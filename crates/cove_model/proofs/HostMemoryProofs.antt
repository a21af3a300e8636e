-- What a load shows, and which pages have words.
use Rattle.std.proofs.Common.{◌≡◌, ℕ, ◌<◌, ◌≤◌, true, List, ◌∷◌, ◌++◌, length, slice_get, slice_index, Some, None, option_and_then, refl, sym, ◌∙◌, ap, subst, arith, true≢false}
use Rattle.std.proofs.lemmas.List.{get_or_past}
use Rattle.std.proofs.lemmas.Option.{none-some, same_Some, slice_get-get_or}
use Rattle.cove_model.specs.Machine.{ScriptValue, Entry, Event, How, Legal, after, Owner, Host, Converting, Free, Given, Purpose, fence_answered, converted, fenced, may_use, page_at, reclaimed, without, word_stored, words_of, zeros, IsSoundPage, State, harts_below, page_of, word_place, Allows, after_event, done}
use Rattle.cove_base.specs.declared.events.Event.TheVariants.{Load}
use Rattle.cove_model.proofs.AtTheEnd.{legal_at, line_pages}
use Rattle.cove_model.proofs.Boards.{board_of}
use Rattle.cove_model.proofs.EventMoves.{moves}
use Rattle.cove_model.proofs.Histories.{sound}
use Rattle.cove_model.proofs.Loads.{load_told}
use Rattle.cove_model.proofs.Moves.{Move, Same, Converts, Reclaims, Stores, Fences, Responds, Gives, Returns}
use Rattle.cove_model.specs.HostMemory.{host_memory, host_word, seen_words}

-- a page that a hart may use has this word
seen_word : (S : State) (hart place value : ℕ) (owner : Owner) → place < 512 → IsSoundPage S.harts S.unanswered owner → may_use hart owner ≡ true → value ≡ slice_index (words_of owner) place → option_and_then (λ words. slice_get words place) (seen_words owner) ≡ Some value
seen_word S hart place value (Host words) within sound use' is = slice_get-get_or words place 0 (omega (arith, sound)) ∙ ap (λ v. Some v) (sym is)
seen_word S hart place value (Converting held None words) within sound use' is = slice_get-get_or words place 0 (omega (arith, sound.0)) ∙ ap (λ v. Some v) (sym is)
seen_word S hart place value (Converting held (Some waiting) words) within sound use' is = slice_get-get_or words place 0 (omega (arith, sound.0)) ∙ ap (λ v. Some v) (sym is)
seen_word S hart place value Free within sound use' is = absurd (true≢false (sym use'))
seen_word S hart place value (Given tvm purpose) within sound use' is = absurd (true≢false (sym use'))

-- a load shows the word of host memory
pub load_shows : (script : ScriptValue) (before rest : List Entry) (entry : Entry) (addr : ℕ) (how : How) (value : ℕ) → Legal script (before ++ entry ∷ rest) → entry.event ≡ Load addr how value → host_word (after script before) addr ≡ Some value
load_shows script before rest entry addr how value legal is =
    let S = after script before in
    let P : Event → Type 0 = λ event. Allows script S entry.hart.0 event in
    let told = load_told script S entry.hart.0 addr how value (subst P is (legal_at script before entry rest legal)) in
    seen_word S entry.hart.0 (word_place addr) value (page_at S.pages (page_of addr)) (omega arith) ((sound script before).pages_sound (page_of addr)) told.0 told.1

words_of_sound : (S : State) (owner : Owner) (words : List ℕ) → IsSoundPage S.harts S.unanswered owner → seen_words owner ≡ Some words → length words ≡ 512
words_of_sound S (Host ws) words sound e = sym (ap length (same_Some ws words e)) ∙ sound
words_of_sound S (Converting held None ws) words sound e = sym (ap length (same_Some ws words e)) ∙ sound.0
words_of_sound S (Converting held (Some waiting) ws) words sound e = sym (ap length (same_Some ws words e)) ∙ sound.0
words_of_sound S Free words sound e = absurd (none-some _ e)
words_of_sound S (Given tvm purpose) words sound e = absurd (none-some _ e)

-- the pages of host memory have 512 words
pub memory_words : (script : ScriptValue) (history : List Entry) (p : ℕ) (words : List ℕ) → host_memory (after script history) p ≡ Some words → length words ≡ 512
memory_words script history p words e =
    words_of_sound (after script history) (page_at (after script history).pages p) words ((sound script history).pages_sound p) e

-- past the memory there is none
pub memory_outside : (script : ScriptValue) (history : List Entry) (p : ℕ) → script.pages ≤ p → host_memory (after script history) p ≡ None
memory_outside script history p past =
    let S = after script history in
    ap seen_words (get_or_past S.pages p Free (omega (arith, (board_of script history).same_pages)))

-- ---- what comes back

still : (change : Owner → Owner) → change Free ≡ Free → ((tvm : ℕ) (purpose : Purpose) → change (Given tvm purpose) ≡ Given tvm purpose) → (owner : Owner) → seen_words owner ≡ None → seen_words (change owner) ≡ None
still change free given (Host words) e = absurd (none-some _ (sym e))
still change free given (Converting held waiting words) e = absurd (none-some _ (sym e))
still change free given Free e = ap seen_words free
still change free given (Given tvm purpose) e = ap seen_words (given tvm purpose)

reclaimed_zeros : (owner : Owner) (words : List ℕ) → seen_words owner ≡ None → seen_words (reclaimed owner) ≡ Some words → words ≡ zeros
reclaimed_zeros (Host ws) words none e = absurd (none-some _ (sym none))
reclaimed_zeros (Converting held waiting ws) words none e = absurd (none-some _ (sym none))
reclaimed_zeros Free words none e = sym (same_Some zeros words e)
reclaimed_zeros (Given tvm purpose) words none e = absurd (none-some _ e)

returned_move : (S T : State) (h : ℕ) (old new : Owner) (words : List ℕ) → Move S T h old new → seen_words old ≡ None → seen_words new ≡ Some words → words ≡ zeros
returned_move S T h old new words move none some = go move
  where
    never : (owner : Owner) → new ≡ owner → seen_words owner ≡ None → words ≡ zeros
    never owner is e = absurd (none-some _ (sym (ap seen_words is ∙ e) ∙ some))

    go : Move S T h old new → words ≡ zeros
    go (Same u e) = never old e none
    go (Converts u e) = never (converted (harts_below S.harts) old) e (still (converted (harts_below S.harts)) refl (λ tvm purpose. refl) old none)
    go (Reclaims u e) = reclaimed_zeros old words none (sym (ap seen_words e) ∙ some)
    go (Stores place value u e) = never (word_stored place value old) e (still (word_stored place value) refl (λ tvm purpose. refl) old none)
    go (Fences f u e) = never (fenced h (without h (harts_below S.harts)) old) e (still (fenced h (without h (harts_below S.harts))) refl (λ tvm purpose. refl) old none)
    go (Responds u e) = never (fence_answered h old) e (still (fence_answered h) refl (λ tvm purpose. refl) old none)
    go (Gives t purpose u root was e) = never (Given t purpose) e refl
    go (Returns t purpose u left was e) = never Free e refl

-- a page that comes to the host has zeros
pub returned_zeros : (S : State) (hart : ℕ) (event : Event) (p : ℕ) (words : List ℕ) → host_memory S p ≡ None → host_memory (after_event S hart event) p ≡ Some words → words ≡ zeros
returned_zeros S hart event p words none some =
    let D = done S hart event in
    returned_move S D hart (page_at S.pages p) (page_at D.pages p) words (moves S hart event p) none
    (ap (λ pages. seen_words (page_at pages p)) (sym (line_pages hart (D.seats hart) D)) ∙ some)
