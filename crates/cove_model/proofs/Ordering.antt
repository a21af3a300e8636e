-- Numbers of live TVMs differ, and pages are given to live TVMs alone.
use Rattle.std.proofs.Common.{◌≡◌, ℕ, ◌+◌, ◌≤◌, Bool, true, false, cond, eqb, eqb-true, not, ◌||◌, true≢false, map, filter, List, [], ◌∷◌, ◌++◌, Option, Some, None, refl, sym, ap, subst, ◌∙◌, inl, inr, ◌⊎◌, ⊎_elim, arith, set as slice_set}
use Rattle.std.specs.List.{AllByRecursion}
use Rattle.std.proofs.lemmas.Bool.{cases_lt}
use Rattle.std.proofs.lemmas.List.{map-append}
use Rattle.cove_model.specs.Machine.{ScriptValue, Entry, Owner, Purpose, Host, Converting, Free, Given, converted, fence_answered, fenced, has, page_at, reclaimed, settled, without, word_stored, zeros, freed, harts_below, opening_words, Seat, State, board_in, opening, after, AreDistinct, IsOrderly, numbers_of, done, left, line_ended, Tvm, created}
use Rattle.cove_model.proofs.Runs.{page_map, opening_page, opening_past}
use Rattle.cove_model.proofs.AtTheEnd.{after_push, from_end}
use Rattle.cove_model.proofs.Distinct.{distinct_append, distinct_filter, has_kept, has_left, keys_altered, keys_dropped}
use Rattle.cove_model.proofs.Changes.{Alters, Grows, Loses, NoTvm, Once, OneTvm, TvmsChange, Twice}
use Rattle.cove_model.proofs.EventMoves.{moves}
use Rattle.cove_model.proofs.GuestChanges.{change_done}
use Rattle.cove_model.proofs.Measuring.{guests_differ}
use Rattle.cove_model.proofs.Lists.{all_append, all_weaker}
use Rattle.cove_model.proofs.Moves.{Move, Same, Converts, Reclaims, Stores, Fences, Responds, Gives, Returns}

-- ---- how the numbers of the live TVMs change

pub data Renumbered (S T : State) : Type 0 where
  Kept : T.made ≡ S.made → numbers_of T ≡ numbers_of S → Renumbered S T
  Added : T.made ≡ S.made + 1 → numbers_of T ≡ numbers_of S ++ (S.made + 1) ∷ [] → Renumbered S T
  Fewer : (test : ℕ → Bool) → T.made ≡ S.made → numbers_of T ≡ filter test (numbers_of S)
      → ((p u : ℕ) (purpose : Purpose) → page_at T.pages p ≡ Given u purpose → test u ≡ true) → Renumbered S T

-- a page that a destroy leaves given is another TVM's
freed_apart : (t u : ℕ) (purpose : Purpose) (o : Owner) → freed t o ≡ Given u purpose → not (eqb u t) ≡ true
freed_apart t u purpose (Host words) e = absurd (other e)
  where
    other : Host words ≡ Given u purpose → ⊥
    other q = cc
freed_apart t u purpose (Converting held waiting words) e = absurd (other e)
  where
    other : Converting held waiting words ≡ Given u purpose → ⊥
    other q = cc
freed_apart t u purpose Free e = absurd (other e)
  where
    other : Free ≡ Given u purpose → ⊥
    other q = cc
freed_apart t u purpose (Given v role) e = go (eqb v t) refl e
  where
    free : Free ≡ Given u purpose → ⊥
    free q = cc

    same : Given v role ≡ Given u purpose → v ≡ u
    same q = cc

    go : (b : Bool) → eqb v t ≡ b → cond b Free (Given v role) ≡ Given u purpose → not (eqb u t) ≡ true
    go true q r = absurd (free r)
    go false q r = ap (λ k. not (eqb k t)) (sym (same r)) ∙ ap not q

numbers_one : (Calm : Type 0) (S : State) (pages : List Owner) (h : ℕ) (xs ys : List Tvm) → OneTvm Calm S pages h xs ys → map (λ (k : Tvm). k.number) ys ≡ map (λ (k : Tvm). k.number) xs
numbers_one Calm S pages h xs ys (NoTvm e) = ap (map (λ (k : Tvm). k.number)) e
numbers_one Calm S pages h xs ys (Alters t how e names each) = ap (map (λ (k : Tvm). k.number)) e ∙ keys_altered (λ (k : Tvm). k.number) t how (λ tvm. (names tvm).0) xs

renumbered : (Calm : Type 0) (S T : State) (h : ℕ) → TvmsChange Calm S T h → Renumbered S T
renumbered Calm S T h (Once made one) = Kept made (numbers_one Calm S T.pages h S.tvms T.tvms one)
renumbered Calm S T h (Twice made mid one two bound) = Kept made (numbers_one Calm S T.pages h mid T.tvms two ∙ numbers_one Calm S T.pages h S.tvms mid one)
renumbered Calm S T h (Grows mode made e) = Added made (ap (map (λ (k : Tvm). k.number)) e ∙ map-append (λ (k : Tvm). k.number) S.tvms (created (S.made + 1) mode (board_in S) ∷ []))
renumbered Calm S T h (Loses t made e pages nobody restless) =
    Fewer (λ n. not (eqb n t)) made (ap (map (λ (k : Tvm). k.number)) e ∙ keys_dropped (λ (k : Tvm). k.number) (λ n. eqb n t) S.tvms)
    (λ p u purpose given. freed_apart t u purpose (page_at S.pages p) (sym (page_map (freed t) refl S.pages p) ∙ ap (λ ps. page_at ps p) (sym pages) ∙ given))

-- live numbers differ, and none is above those that were made
pub record AreNumbered (S : State) : Type 0 where
  pub distinct : AreDistinct (numbers_of S)
  pub made : AllByRecursion (λ n. n ≤ S.made) (numbers_of S)

above : (m : ℕ) (ns : List ℕ) → AllByRecursion (λ n. n ≤ m) ns → has (m + 1) ns ≡ false
above m [] all = refl
above m (n ∷ ns) all = go (eqb n (m + 1)) refl (above m ns all.1)
  where
    go : (b : Bool) → eqb n (m + 1) ≡ b → has (m + 1) ns ≡ false → (b || has (m + 1) ns) ≡ false
    go true e rest = let q = eqb-true n (m + 1) e in let low = all.0 in absurd (omega arith)
    go false e rest = rest

all_filtered : (P : ℕ → Type 0) (test : ℕ → Bool) (ns : List ℕ) → AllByRecursion P ns → AllByRecursion P (filter test ns)
all_filtered P test [] all = tt
all_filtered P test (n ∷ ns) all = go (test n) (all_filtered P test ns all.1)
  where
    go : (b : Bool) → AllByRecursion P (filter test ns) → AllByRecursion P (cond b (n ∷ filter test ns) (filter test ns))
    go true rest = (all.0, rest)
    go false rest = rest

numbered : (S T : State) → Renumbered S T → AreNumbered S → AreNumbered T
numbered S T (Kept made numbers) a = record {
  distinct = subst AreDistinct (sym numbers) a.distinct;
  made = subst (AllByRecursion (λ n. n ≤ T.made)) (sym numbers) (subst (λ m. AllByRecursion (λ n. n ≤ m) (numbers_of S)) (sym made) a.made);
}
numbered S T (Added made numbers) a = record {
  distinct = subst AreDistinct (sym numbers) (distinct_append (numbers_of S) ((S.made + 1) ∷ []) a.distinct (refl, tt)
      (λ k e. subst (λ n. has n (numbers_of S) ≡ false) (last k e) (above S.made (numbers_of S) a.made)));
  made = subst (AllByRecursion (λ n. n ≤ T.made)) (sym numbers)
      (all_append (λ n. n ≤ T.made) (numbers_of S) ((S.made + 1) ∷ [])
      (all_weaker (λ n. n ≤ S.made) (λ n. n ≤ T.made) (λ n le. omega arith) (numbers_of S) a.made) (omega arith, tt));
}
  where
    last : (k : ℕ) → has k ((S.made + 1) ∷ []) ≡ true → S.made + 1 ≡ k
    last k e = go (eqb (S.made + 1) k) refl e
      where
        go : (b : Bool) → eqb (S.made + 1) k ≡ b → (b || false) ≡ true → S.made + 1 ≡ k
        go true q r = eqb-true (S.made + 1) k q
        go false q r = absurd (true≢false (sym r))
numbered S T (Fewer test made numbers left) a = record {
  distinct = subst AreDistinct (sym numbers) (distinct_filter test (numbers_of S) a.distinct);
  made = subst (AllByRecursion (λ n. n ≤ T.made)) (sym numbers)
      (all_filtered (λ n. n ≤ T.made) test (numbers_of S) (subst (λ m. AllByRecursion (λ n. n ≤ m) (numbers_of S)) (sym made) a.made));
}

numbered_line : (h : ℕ) (o : Option Seat) (S : State) → AreNumbered S → AreNumbered (line_ended h o S)
numbered_line h None S a = record { distinct = a.distinct; made = a.made }
numbered_line h (Some seat) S a = a

pub after_numbered : (script : ScriptValue) (H : List Entry) → AreNumbered (after script H)
after_numbered script = from_end (λ H. AreNumbered (after script H))
    (λ H e more.
    let S = after script H in
    subst AreNumbered (sym (after_push script H e))
    (numbered_line e.hart.0 ((done S e.hart.0 e.event).seats e.hart.0) (done S e.hart.0 e.event) (numbered S (done S e.hart.0 e.event) (renumbered ⊥ S (done S e.hart.0 e.event) e.hart.0 (change_done S e.hart.0 e.event)) more)))
    (record { distinct = tt; made = tt })

-- ---- pages are given to live TVMs

-- a number that was live is, where a page is given to it
lives : (S T : State) → Renumbered S T → (p u : ℕ) (purpose : Purpose) → page_at T.pages p ≡ Given u purpose → has u (numbers_of S) ≡ true → has u (numbers_of T) ≡ true
lives S T (Kept made numbers) p u purpose given e = ap (has u) numbers ∙ e
lives S T (Added made numbers) p u purpose given e = ap (has u) numbers ∙ has_left u (numbers_of S) ((S.made + 1) ∷ []) e
lives S T (Fewer test made numbers left) p u purpose given e = ap (has u) numbers ∙ has_kept test u (numbers_of S) e (left p u purpose given)

-- a change of a page that gives none
abbrev GivesNone : (Owner → Owner) → Type 0
GivesNone f = (o : Owner) (u : ℕ) (purpose : Purpose) → f o ≡ Given u purpose → o ≡ Given u purpose

settled_none : (held waiting words : List ℕ) (u : ℕ) (purpose : Purpose) → settled held waiting words ≡ Given u purpose → ⊥
settled_none held [] words u purpose e = cc
settled_none held (k ∷ ks) words u purpose e = cc

converted_none : (harts : List ℕ) → GivesNone (converted harts)
converted_none harts (Host words) u purpose e = absurd (other e)
  where
    other : Converting harts None words ≡ Given u purpose → ⊥
    other q = cc
converted_none harts (Converting held waiting words) u purpose e = e
converted_none harts Free u purpose e = e
converted_none harts (Given t role) u purpose e = e

reclaimed_none : GivesNone reclaimed
reclaimed_none (Host words) u purpose e = e
reclaimed_none (Converting held waiting words) u purpose e = e
reclaimed_none Free u purpose e = absurd (other zeros e)
  where
    other : (words : List ℕ) → Host words ≡ Given u purpose → ⊥
    other words q = cc
reclaimed_none (Given t role) u purpose e = e

fenced_none : (h : ℕ) (others : List ℕ) → GivesNone (fenced h others)
fenced_none h others (Host words) u purpose e = e
fenced_none h others (Converting held None words) u purpose e = absurd (settled_none (without h held) others words u purpose e)
fenced_none h others (Converting held (Some waiting) words) u purpose e = absurd (settled_none (without h held) waiting words u purpose e)
fenced_none h others Free u purpose e = e
fenced_none h others (Given t role) u purpose e = e

answered_none : (h : ℕ) → GivesNone (fence_answered h)
answered_none h (Host words) u purpose e = e
answered_none h (Converting held None words) u purpose e = absurd (other e)
  where
    other : Converting (without h held) None words ≡ Given u purpose → ⊥
    other q = cc
answered_none h (Converting held (Some waiting) words) u purpose e = absurd (settled_none (without h held) (without h waiting) words u purpose e)
answered_none h Free u purpose e = e
answered_none h (Given t role) u purpose e = e

stored_none : (place value : ℕ) → GivesNone (word_stored place value)
stored_none place value (Host words) u purpose e = absurd (other (slice_set words place value) e)
  where
    other : (ws : List ℕ) → Host ws ≡ Given u purpose → ⊥
    other ws q = cc
stored_none place value (Converting held waiting words) u purpose e = absurd (other (slice_set words place value) e)
  where
    other : (ws : List ℕ) → Converting held waiting ws ≡ Given u purpose → ⊥
    other ws q = cc
stored_none place value Free u purpose e = e
stored_none place value (Given t role) u purpose e = e

-- what a page that is given afterwards was: given to the same, or that is live
origin : (S T : State) (h : ℕ) (old new : Owner) (u : ℕ) (purpose : Purpose) → Move S T h old new → new ≡ Given u purpose → (old ≡ Given u purpose) ⊎ (has u (numbers_of T) ≡ true)
origin S T h old new u purpose (Same w q) e = inl (sym q ∙ e)
origin S T h old new u purpose (Converts w q) e = inl (converted_none (harts_below S.harts) old u purpose (sym q ∙ e))
origin S T h old new u purpose (Reclaims w q) e = inl (reclaimed_none old u purpose (sym q ∙ e))
origin S T h old new u purpose (Stores place value w q) e = inl (stored_none place value old u purpose (sym q ∙ e))
origin S T h old new u purpose (Fences all w q) e = inl (fenced_none h (without h (harts_below S.harts)) old u purpose (sym q ∙ e))
origin S T h old new u purpose (Responds w q) e = inl (answered_none h old u purpose (sym q ∙ e))
origin S T h old new u purpose (Gives t role w gift free q) e = inr (subst (λ k. has k (numbers_of T) ≡ true) (same (sym q ∙ e)) gift.live)
  where
    same : Given t role ≡ Given u purpose → t ≡ u
    same r = cc
origin S T h old new u purpose (Returns t role w left given q) e = absurd (other (sym q ∙ e))
  where
    other : Free ≡ Given u purpose → ⊥
    other r = cc

abbrev AreLive : State → Type 0
AreLive S = (p t : ℕ) (purpose : Purpose) → page_at S.pages p ≡ Given t purpose → has t (numbers_of S) ≡ true

live_line : (h : ℕ) (o : Option Seat) (S : State) → AreLive S → AreLive (line_ended h o S)
live_line h None S a = a
live_line h (Some seat) S a = a

opening_none : (script : ScriptValue) (p t : ℕ) (purpose : Purpose) → page_at (opening script).pages p ≡ Given t purpose → ⊥
opening_none script p t purpose e = ⊎_elim
    (λ lt. host (opening_words script.fills p) (sym (opening_page script p lt) ∙ e))
    (λ le. free (sym (opening_past script p le) ∙ e))
    (cases_lt p script.pages)
  where
    host : (words : List ℕ) → Host words ≡ Given t purpose → ⊥
    host words q = cc

    free : Free ≡ Given t purpose → ⊥
    free q = cc

pub after_live : (script : ScriptValue) (H : List Entry) → AreLive (after script H)
after_live script = from_end (λ H. AreLive (after script H))
    (λ H e more.
    let S = after script H in
    let T = done S e.hart.0 e.event in
    subst AreLive (sym (after_push script H e))
    (live_line e.hart.0 (T.seats e.hart.0) T
    (λ p t purpose given. ⊎_elim (λ old. lives S T (renumbered ⊥ S (done S e.hart.0 e.event) e.hart.0 (change_done S e.hart.0 e.event)) p t purpose given (more p t purpose old)) (λ live. live)
    (origin S T e.hart.0 (page_at S.pages p) (page_at T.pages p) t purpose (moves S e.hart.0 e.event p) given))))
    (λ p t purpose e. absurd (opening_none script p t purpose e))

-- ---- all of it

pub orderly : (script : ScriptValue) (H : List Entry) → IsOrderly (after script H)
orderly script H =
    let a = after_numbered script H in
    record { numbers = a.distinct; made = a.made; guests = guests_differ script H; given = after_live script H }
