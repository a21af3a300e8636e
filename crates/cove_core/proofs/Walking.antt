-- A walk that a hart needs, and that it goes on fitting afterwards.
use Rattle.std.proofs.Common.{◌≡◌, ℕ, ◌<◌, Bool, true, false, cond, ◌||◌, is_some, IsTrue, List, Option, None, Some, nat_lt, eq-eqb, refl, sym, subst, ap, ◌∙◌}
use Rattle.std.proofs.lemmas.Bool.{false≢true}
use Rattle.std.proofs.lemmas.Option.{none-some}
use Rattle.cove_model.specs.Machine.{next_line, HartRings, HartValue, accessed_page, after_walk, has_walked_to, ScriptValue, is_within_limits, Entry, Page, ScriptLine, Target, after, has, is_host, page_at, tlb}
use Rattle.cove_base.specs.HartPlaces.{IsNextPlace}
use Rattle.cove_base.specs.Rings.{found}
use Rattle.cove_base.specs.declared.events.Walked.{Walked}
use Rattle.cove_base.specs.declared.events.Walked.TheVariants as walks
use Rattle.cove_base.specs.declared.walks.Noted.{Noted}
use Rattle.cove_base.specs.declared.walks.Target.TheVariants as targets
use Rattle.cove_base.proofs.HartPlaceLemmas.{line_at_place}
use Rattle.cove_base.proofs.ScriptLimits.{line_page}
use Rattle.cove_core.proofs.BoardLemmas.{kept_stand}
use Rattle.cove_core.specs.Kept.{IsKept}
use Rattle.cove_core.specs.Reached.{IsPrepared}
use Rattle.cove_core.specs.Walks.{IsFoundIn}
use Rattle.cove_core.specs.declared.monitors.Mon.{Mon}
use Rattle.cove_hart.specs.Needs.{access_need, line_need, next_need}
use Rattle.cove_hart.specs.declared.needs.Need.TheVariants.{Walk, Event, Idle}
use Rattle.cove_model.proofs.Fitting.{fits_walked, host_at, ring_finds_page}
use Rattle.cove_core.proofs.Performing.{target_is}
use Rattle.cove_model.proofs.Offering.{aim_of_page}
use Rattle.cove_model.proofs.Playing.{was_now}
use Rattle.cove_model.proofs.Unbuilt.{outside_after}
use Rattle.cove_model.specs.Aims.{aimed_at, next_aim}
use Rattle.cove_model.proofs.ToldProofs.{words_tell_host}
use Rattle.cove_core.specs.KeptRule.{NeededWalksLeaveAlone}
use Rattle.cove_model.proofs.AloneProofs.{fits_fit_alone, walks_leave_alone}
use Rattle.cove_model.specs.Fits.{Fits, IsSought, rings_of, walked_rings}
use Rattle.cove_model.specs.FitsAlone.{FitsAlone, UnusedSought}

-- a walk that is needed is one to the page of the next line, which neither the ring nor an unused walk has
pub record IsWanted (script : ScriptValue) (held : HartValue) (p : ℕ) : Type 0 where
  pub line : ScriptLine
  pub next : next_line script held.hart held.ended ≡ Some line
  pub asks : accessed_page line.line ≡ Some p
  pub lacks : found p held.rings.hosts ≡ None
  pub unwalked : has_walked_to held.walked p ≡ false

lacking : (o : Option Page) → is_some o ≡ false → o ≡ None
lacking None e = refl
lacking (Some page) e = absurd (false≢true (sym e))

abbrev page_number : ℕ → Page
page_number k = record { 0 = k }

pub wanted : (script : ScriptValue) (held : HartValue) (phase : ℕ) (page : Page) → next_need script held phase ≡ Walk (targets.Host page) → IsWanted script held page.0
wanted script held phase page needed = by_line (next_line script held.hart held.ended) refl needed
  where
    same_walk : (p : ℕ) → Walk (targets.Host (record { 0 = p })) ≡ Walk (targets.Host page) → p ≡ page.0
    same_walk p e = cc

    by_test : (line : ScriptLine) → next_line script held.hart held.ended ≡ Some line → (p : ℕ) → accessed_page line.line ≡ Some p → (a b : Bool) → is_some (found p held.rings.hosts) ≡ a → has_walked_to held.walked p ≡ b → cond (a || b) Event (Walk (targets.Host (record { 0 = p }))) ≡ Walk (targets.Host page) → IsWanted script held page.0
    by_test line next p asks true b e f need = cc
    by_test line next p asks false true e f need = cc
    by_test line next p asks false false e f need =
        let same = same_walk p need in
        record {
          line = line;
          next = next;
          asks = asks ∙ ap (λ k. Some k) same;
          lacks = subst (λ k. found k held.rings.hosts ≡ None) same (lacking (found p held.rings.hosts) e);
          unwalked = subst (λ k. has_walked_to held.walked k ≡ false) same f;
        }

    by_access : (line : ScriptLine) → next_line script held.hart held.ended ≡ Some line → (o : Option ℕ) → accessed_page line.line ≡ o → access_need held o ≡ Walk (targets.Host page) → IsWanted script held page.0
    by_access line next None asks need = cc
    by_access line next (Some p) asks need = by_test line next p asks (is_some (found p held.rings.hosts)) (has_walked_to held.walked p) refl refl need

    by_phase : (line : ScriptLine) → next_line script held.hart held.ended ≡ Some line → (late : Bool) → cond late Idle (access_need held (accessed_page line.line)) ≡ Walk (targets.Host page) → IsWanted script held page.0
    by_phase line next true need = cc
    by_phase line next false need = by_access line next (accessed_page line.line) refl need

    by_line : (o : Option ScriptLine) → next_line script held.hart held.ended ≡ o → line_need held phase o ≡ Walk (targets.Host page) → IsWanted script held page.0
    by_line None next need = cc
    by_line (Some line) next need = by_phase line next (nat_lt phase line.phase) need

-- the page that is wanted is one of the board
pub wanted_below : (script : ScriptValue) → IsTrue (is_within_limits script) → (held : HartValue) (p : ℕ) → IsNextPlace script held.hart held.ended held.place → IsWanted script held p → p < script.pages
wanted_below script within held p place want =
    line_page script within held.place want.line p (line_at_place script held.hart held.ended held.place place ∙ want.next) want.asks

-- ---- the hart goes on fitting

pub unwalked_now : (script : ScriptValue) (H : List Entry) (held : HartValue) (p : ℕ) → FitsAlone script H held → IsWanted script held p → held.walked ≡ None
unwalked_now script H held p fits want = go held.walked fits.walk want.unwalked
  where
    off : (t : Target) (w : Walked) → t ≡ host_at p → has_walked_to (Some (record { target = t; walked = w })) p ≡ false → ⊥
    off t w same lacks = false≢true (sym lacks ∙ ap (λ (k : Target). has_walked_to (Some (record { target = k; walked = w })) p) same ∙ eq-eqb p p refl)

    unfit : (target : Target) (w : Walked) → IsSought script H held.hart target → has_walked_to (Some (record { target = target; walked = w })) p ≡ false → ⊥
    unfit target w f = off target w (target_is script H held.hart held.ended fits.counts want.line want.next p want.asks target f)

    go : (noted : Option Noted) → UnusedSought script H held.hart noted → has_walked_to noted p ≡ false → noted ≡ None
    go None f lacks = refl
    go (Some noted) f lacks = absurd (unfit noted.target noted.walked f lacks)

pub sought : (script : ScriptValue) (H : List Entry) (held : HartValue) (p : ℕ) → FitsAlone script H held → IsWanted script held p → held.walked ≡ None → IsSought script H held.hart (host_at p)
sought script H held p fits want none =
    let T = tlb script H held.hart in
    let rings : held.rings ≡ rings_of T = fits.rings ∙ ap (walked_rings (rings_of T)) none in
    record {
      aims =
          ap (aimed_at script (after script H) held.hart) (outside_after script H held.hart)
          ∙ ap next_aim (ap (next_line script held.hart) (sym fits.counts) ∙ want.next) ∙ aim_of_page want.line.line p want.asks;
      absent = absent_by (has p T.pages) (sym (ring_finds_page T.pages p) ∙ ap (λ (r : HartRings). found p r.hosts) (sym rings) ∙ want.lacks);
    }
  where
    absent_by : (b : Bool) → cond b (Some (page_number p)) None ≡ None → b ≡ false
    absent_by true e = absurd (none-some (page_number p) (sym e))
    absent_by false e = refl

pub fits_walk : (script : ScriptValue) (words : List ℕ) (held : HartValue) (page : Page) (walked : Walked) → page.0 < script.pages → IsWanted script held page.0 → IsFoundIn words page.0 walked → (mon : Mon) → IsKept script words mon → Fits script mon.history held → Fits script mon.history (after_walk held (targets.Host page) walked)
fits_walk script words held page (walks.Found q) below want finds mon kept fits =
    let H = mon.history in
    let alone = fits_fit_alone script H held fits in
    let none = unwalked_now script H held page.0 alone want in
    let host : is_host (page_at (after script H).pages page.0) ≡ true = (words_tell_host script.pages script.harts words (after script H) page.0 below (kept_stand script words mon kept).stands.owners).1 finds.1 in
    fits_walked script H held (targets.Host page) (walks.Found q) fits none
    (sought script H held page.0 alone want none, record { was = was_now script H held.hart (targets.Host page) host; led = finds.0 })
fits_walk script words held page (walks.Missing word) below want finds mon kept fits =
    let H = mon.history in
    let alone = fits_fit_alone script H held fits in
    let none = unwalked_now script H held page.0 alone want in
    fits_walked script H held (targets.Host page) (walks.Missing word) fits none (sought script H held page.0 alone want none)

pub needed_walks_leave_alone : NeededWalksLeaveAlone
needed_walks_leave_alone script history held phase page walked within needed alone =
    let want = wanted script held phase page needed in
    let none = unwalked_now script history held page.0 alone want in (
      wanted_below script within held page.0 alone.stands want,
      none,
      walks_leave_alone script history held (targets.Host page) walked none (sought script history held page.0 alone want none) alone,
    )

-- ---- a hart that needs no walk

-- a hart whose need is its event is prepared for it
pub prepared_for : (script : ScriptValue) (held : HartValue) (phase : ℕ) → next_need script held phase ≡ Event → IsPrepared script held
prepared_for script held phase need = by_line (next_line script held.hart held.ended) refl need
  where
    by_phase : (line : ScriptLine) → next_line script held.hart held.ended ≡ Some line → (late : Bool) → cond late Idle (access_need held (accessed_page line.line)) ≡ Event → IsPrepared script held
    by_phase line next true need' = cc
    by_phase line next false need' = record { line = line; next = next; ready = need' }

    by_line : (o : Option ScriptLine) → next_line script held.hart held.ended ≡ o → line_need held phase o ≡ Event → IsPrepared script held
    by_line None next need' = cc
    by_line (Some line) next need' = by_phase line next (nat_lt phase line.phase) need'
