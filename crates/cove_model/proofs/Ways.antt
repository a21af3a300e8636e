-- What events of other harts leave of the way of a hart inside: the root of its TVM's tables, and pages given to it for tables.
use Rattle.std.proofs.Common.{◌≡◌, ℕ, ◌+◌, ◌<◌, ◌≤◌, Bool, true, false, cond, find, List, [], ◌∷◌, ◌++◌, Option, Some, None, length, map, refl, sym, ap, subst, ◌∙◌, inl, inr, arith, true≢false, unwrap_or}
use Rattle.std.proofs.lemmas.Bool.{ne_eqb}
use Rattle.std.specs.List.{AllByRecursion, range_with_len}
use Rattle.cove_base.proofs.ScriptLimits.{Limits}
use Rattle.cove_model.specs.Machine.{Way, ScriptValue, Entry, Legal, after, Owner, Host, Converting, Free, Given, Purpose, AsRoot, AsState, AsTable, AsVcpu, AsData, fence_answered, converted, fenced, has, page_at, reclaimed, settled, without, word_stored, is_root_of, root_of, Seat, State, harts_below, harts_inside, done, Tvm}
use Rattle.cove_model.proofs.AtTheEnd.{after_push, line_pages}
use Rattle.cove_model.proofs.EventMoves.{moves}
use Rattle.cove_model.proofs.Frames.{framed_done}
use Rattle.cove_model.proofs.Histories.{after_harts}
use Rattle.cove_model.proofs.KeepingCalls.{sits_inside}
use Rattle.cove_model.proofs.KeyedLemmas.{at_key}
use Rattle.cove_model.proofs.Lists.{all_at}
use Rattle.cove_model.proofs.Moves.{Move, Same, Converts, Reclaims, Stores, Fences, Responds, Gives, Returns, IsReturnable}
use Rattle.cove_model.proofs.Ordering.{after_numbered}
use Rattle.cove_model.proofs.Running.{mode_apart, seat_apart, seat_on}
use Rattle.cove_model.specs.Fits.{WayFits}

-- ---- roots

settled_root : (t : ℕ) (held waiting words : List ℕ) → is_root_of t (settled held waiting words) ≡ false
settled_root t held [] words = refl
settled_root t held (h ∷ hs) words = refl

converted_root : (t : ℕ) (harts : List ℕ) (o : Owner) → is_root_of t (converted harts o) ≡ is_root_of t o
converted_root t harts (Host words) = refl
converted_root t harts (Converting held waiting words) = refl
converted_root t harts Free = refl
converted_root t harts (Given u purpose) = refl

reclaimed_root : (t : ℕ) (o : Owner) → is_root_of t (reclaimed o) ≡ is_root_of t o
reclaimed_root t (Host words) = refl
reclaimed_root t (Converting held waiting words) = refl
reclaimed_root t Free = refl
reclaimed_root t (Given u purpose) = refl

stored_root : (t place value : ℕ) (o : Owner) → is_root_of t (word_stored place value o) ≡ is_root_of t o
stored_root t place value (Host words) = refl
stored_root t place value (Converting held waiting words) = refl
stored_root t place value Free = refl
stored_root t place value (Given u purpose) = refl

fenced_root : (t h : ℕ) (others : List ℕ) (o : Owner) → is_root_of t (fenced h others o) ≡ is_root_of t o
fenced_root t h others (Host words) = refl
fenced_root t h others (Converting held None words) = settled_root t (without h held) others words
fenced_root t h others (Converting held (Some waiting) words) = settled_root t (without h held) waiting words
fenced_root t h others Free = refl
fenced_root t h others (Given u purpose) = refl

answered_root : (t h : ℕ) (o : Owner) → is_root_of t (fence_answered h o) ≡ is_root_of t o
answered_root t h (Host words) = refl
answered_root t h (Converting held None words) = refl
answered_root t h (Converting held (Some waiting) words) = settled_root t (without h held) (without h waiting) words
answered_root t h Free = refl
answered_root t h (Given u purpose) = refl

-- a hart that is inside a TVM whose number was made
record IsIn (S : State) (k t : ℕ) : Type 0 where
  pub inside : has k (harts_inside S t) ≡ true
  pub made : t ≤ S.made

not_nobody : (S : State) (k t u : ℕ) → IsIn S k t → harts_inside S u ≡ [] → u ≡ t → ⊥
not_nobody S k t u here none same =
    true≢false (sym here.inside ∙ ap (λ n. has k (harts_inside S n)) (sym same) ∙ ap (has k) none)

module _ (S T : State) (h k t : ℕ) (here : IsIn S k t) where
  given_root : (u : ℕ) (purpose : Purpose) → (purpose ≡ AsRoot → u ≡ S.made + 1) → is_root_of t (Given u purpose) ≡ false
  given_root u AsRoot root = ne_eqb u t (λ same. let made = here.made in let new = root refl in omega arith)
  given_root u AsState root = refl
  given_root u AsTable root = refl
  given_root u AsVcpu root = refl
  given_root u (AsData g) root = refl

  taken_root : (u : ℕ) (purpose : Purpose) → IsReturnable S u purpose → is_root_of t (Given u purpose) ≡ false
  taken_root u purpose (inl data_page) = ap (λ p. is_root_of t (Given u p)) data_page.1
  taken_root u AsRoot (inr none) = ne_eqb u t (not_nobody S k t u here none)
  taken_root u AsState (inr none) = refl
  taken_root u AsTable (inr none) = refl
  taken_root u AsVcpu (inr none) = refl
  taken_root u (AsData g) (inr none) = refl

  root_move : (old new : Owner) → Move S T h old new → is_root_of t new ≡ is_root_of t old
  root_move old new (Same u q) = ap (is_root_of t) q
  root_move old new (Converts u q) = ap (is_root_of t) q ∙ converted_root t (harts_below S.harts) old
  root_move old new (Reclaims u q) = ap (is_root_of t) q ∙ reclaimed_root t old
  root_move old new (Stores place value u q) = ap (is_root_of t) q ∙ stored_root t place value old
  root_move old new (Fences all u q) = ap (is_root_of t) q ∙ fenced_root t h (without h (harts_below S.harts)) old
  root_move old new (Responds u q) = ap (is_root_of t) q ∙ answered_root t h old
  root_move old new (Gives v purpose u root free q) = ap (is_root_of t) q ∙ given_root v purpose root.new_root ∙ sym (ap (is_root_of t) free)
  root_move old new (Returns v purpose u left given q) = ap (is_root_of t) q ∙ sym (taken_root v purpose left) ∙ sym (ap (is_root_of t) given)

  -- ---- table pages

  table_taken : (v : ℕ) (purpose : Purpose) → IsReturnable S v purpose → Given v purpose ≡ Given t AsTable → ⊥
  table_taken v purpose (inl data_page) same = other (ap (Given v) (sym data_page.1) ∙ same)
    where
      other : {g : ℕ} → Given v (AsData g) ≡ Given t AsTable → ⊥
      other q = cc
  table_taken v purpose (inr none) same = not_nobody S k t v here none (number same)
    where
      number : Given v purpose ≡ Given t AsTable → v ≡ t
      number q = cc

  table_move : (old new : Owner) → Move S T h old new → old ≡ Given t AsTable → new ≡ Given t AsTable
  table_move old new (Same u q) e = q ∙ e
  table_move old new (Converts u q) e = q ∙ ap (converted (harts_below S.harts)) e
  table_move old new (Reclaims u q) e = q ∙ ap reclaimed e
  table_move old new (Stores place value u q) e = q ∙ ap (word_stored place value) e
  table_move old new (Fences all u q) e = q ∙ ap (fenced h (without h (harts_below S.harts))) e
  table_move old new (Responds u q) e = q ∙ ap (fence_answered h) e
  table_move old new (Gives v purpose u root free q) e = absurd (free_given (sym free ∙ e))
    where
      free_given : Free ≡ Given t AsTable → ⊥
      free_given q = cc
  table_move old new (Returns v purpose u left given q) e = absurd (table_taken v purpose left (sym given ∙ e))

-- ---- the first that passes a test

find_same : (f g : ℕ → Bool) → ((n : ℕ) → f n ≡ g n) → (ns : List ℕ) → find f ns ≡ find g ns
find_same f g same [] = refl
find_same f g same (n ∷ ns) = ap (λ b. cond b (Some n) (find f ns)) (same n) ∙ ap (λ o. cond (g n) (Some n) o) (find_same f g same ns)

root_same : (old new : List Owner) (t : ℕ) → length new ≡ length old → ((p : ℕ) → is_root_of t (page_at new p) ≡ is_root_of t (page_at old p)) → root_of new t ≡ root_of old t
root_same old new t size each =
    ap (λ n. unwrap_or (find (λ p. is_root_of t (page_at new p)) (range_with_len 0 n)) 0) size
    ∙ ap (λ o. unwrap_or o 0) (find_same (λ p. is_root_of t (page_at new p)) (λ p. is_root_of t (page_at old p)) each (range_with_len 0 (length old)))

-- ---- an entry of another hart

-- the numbers of live TVMs were made
number_made : (m : ℕ) (xs : List Tvm) → AllByRecursion (λ n. n ≤ m) (map (λ tvm. tvm.number) xs) → AllByRecursion (λ (tvm : Tvm). tvm.number ≤ m) xs
number_made m [] all = tt
number_made m (x ∷ xs) all = (all.0, number_made m xs all.1)

module _ (script : ScriptValue) (limits : Limits script) (H : List Entry) (e : Entry) (front : Legal script H) (h : ℕ) (on : h < script.harts) (ne : e.hart.0 ≡ h → ⊥) where
  abbrev before : State
  before = after script H

  abbrev now : State
  now = after script (H ++ e ∷ [])

  pages_are : now.pages ≡ (done before e.hart.0 e.event).pages
  pages_are =
      let D = done before e.hart.0 e.event in
      ap (λ (T : State). T.pages) (after_push script H e) ∙ line_pages e.hart.0 (D.seats e.hart.0) D

  is_in : (seat : Seat) → before.seats h ≡ Some seat → IsIn before h seat.tvm
  is_in seat sits =
      let board = subst (λ n. h < n) (sym (after_harts script H)) on in
      let there = seat_on script limits H h seat on sits front in
      record {
        inside = sits_inside before h seat (record { on_board = board; sits = sits });
        made = subst (λ n. n ≤ before.made) (at_key (λ (tvm : Tvm). tvm.number) seat.tvm before.tvms there.tvm there.live)
            (all_at (λ (tvm : Tvm). tvm.number ≤ before.made) (λ (tvm : Tvm). tvm.number) seat.tvm before.tvms there.tvm there.live
            (number_made before.made before.tvms (after_numbered script H).made));
      }

  pub root_apart : (seat : Seat) → before.seats h ≡ Some seat → root_of now.pages seat.tvm ≡ root_of before.pages seat.tvm
  root_apart seat sits =
      let D = done before e.hart.0 e.event in
      ap (λ ps. root_of ps seat.tvm) pages_are
      ∙ root_same before.pages D.pages seat.tvm (framed_done before e.hart.0 e.event).size
      (λ p. root_move before D e.hart.0 h seat.tvm (is_in seat sits) (page_at before.pages p) (page_at D.pages p) (moves before e.hart.0 e.event p))

  pub table_apart : (seat : Seat) → before.seats h ≡ Some seat → (p : ℕ) → page_at before.pages p ≡ Given seat.tvm AsTable → page_at now.pages p ≡ Given seat.tvm AsTable
  table_apart seat sits p given =
      let D = done before e.hart.0 e.event in
      ap (λ ps. page_at ps p) pages_are
      ∙ table_move before D e.hart.0 h seat.tvm (is_in seat sits) (page_at before.pages p) (page_at D.pages p) (moves before e.hart.0 e.event p) given

  pub way_apart : (way : Option Way) → WayFits before h way → WayFits now h way
  way_apart None fits = seat_apart script H e h ne ∙ fits
  way_apart (Some way) fits = record {
    seat = fits.seat;
    sits = seat_apart script H e h ne ∙ fits.sits;
    root = root_apart fits.seat fits.sits ∙ fits.root;
    mode = mode_apart script limits H e h fits.seat on fits.sits front ∙ fits.mode;
    tables = λ p among. table_apart fits.seat fits.sits p (fits.tables p among);
  }
