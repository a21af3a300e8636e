-- What a hart did, counted as an entry, is what the clauses of a step say.
use Rattle.std.proofs.Common.{◌≡◌, ℕ, zero, suc, ◌+◌, ◌<◌, List, [], ◌∷◌, ◌++◌, None, Option, Some, IfSome, IfNone, IsSome, IsTrue, get_or, set, length, slice_get, refl, sym, subst, ap, ◌∙◌, arith}
use Rattle.std.proofs.lemmas.Option.{none-some, same_Some}
use Rattle.std.proofs.lemmas.List.{length_push}
use Rattle.cove_base.proofs.HartPlaceLemmas.{line_at_place}
use Rattle.cove_base.proofs.ScriptLimits.{limits_of, line_page, Limits}
use Rattle.cove_base.specs.declared.numbers.HartId.{HartId}
use Rattle.cove_model.specs.Machine.{next_line, HartRings, HartValue, accessed_page, count_word, ScriptValue, is_within_limits, Entry, Event, ENTRY_LIMIT, Line, ScriptLine, Legal, after, AllowsLawful, IsLawful, MakesLawful, first_behind, line_offer, offer, entry_by, page_of, word_place, Takes, host_done, host_touched, tlb, ReachesWhere, FencesWithin}
use Rattle.cove_base.specs.declared.scripts.Line.TheVariants as lines
use Rattle.cove_core.specs.Kept.{IsKept}
use Rattle.cove_core.specs.Made.{IsMade, IsPerformed, IsTold}
use Rattle.cove_core.specs.Reached.{CanDo, IsDone, IsPrepared, IsReachable, load_event, store_event as stored_event}
use Rattle.cove_core.specs.Stepped.{IsFirstBehind}
use Rattle.cove_core.specs.declared.monitors.Mon.{Mon}
use Rattle.cove_core.proofs.BoardLemmas.{at_script, board_by, kept_page_words, kept_ready, kept_stand, met_after}
use Rattle.cove_core.proofs.CallLemmas.{stays_within}
use Rattle.cove_core.proofs.Clearing.{clear_other, clear_own}
use Rattle.cove_core.proofs.Entering.{countable}
use Rattle.cove_core.proofs.Events.{IsRightly, call_rightly, load_done, load_rightly, load_told, store_rightly, store_told}
use Rattle.cove_core.proofs.GroundSteps.{stored_stands, with_memory}
use Rattle.cove_core.proofs.Performing.{absent_now, reached_rightly, told_rightly}
use Rattle.cove_hart.specs.Needs.{access_need}
use Rattle.cove_hart.specs.declared.needs.Need.TheVariants as needs
use Rattle.cove_mem.specs.Frames.{frame}
use Rattle.cove_model.proofs.AtTheEnd.{after_push, legal_push, tlb_same}
use Rattle.cove_model.proofs.Offering.{offered}
use Rattle.cove_model.proofs.Unbuilt.{all_outside, done_outside, renewed_outside, touched_outside}
use Rattle.cove_model.proofs.Fitting.{fits_other}
use Rattle.cove_model.specs.Fits.{Fits, rings_of}
use Rattle.cove_tvm.specs.Stands.{Stands}
use Rattle.cove_tvm.specs.declared.ground.Ground.{Ground}

-- all that is known of an event before it is counted
pub record Parts (script : ScriptValue) (words : List ℕ) (mon : Mon) (held : HartValue) (line : Line) (now : List ℕ) (G : Ground) (rings : HartRings) (event : Event) : Type 0 where
  pub rightly : IsRightly script mon.history held.hart line rings event
  pub stands : Stands now G (host_done (after script mon.history) held.hart event)
  pub count : get_or now (count_word script.pages script.harts) 0 ≡ length mon.history
  pub fences : FencesWithin script.pages script.harts now (length mon.history + 1)
  pub told : IsTold words held.rings (host_touched event)
  pub lawful : MakesLawful script.pages script.harts held.hart words words now

module _ (script : ScriptValue) (within : IsTrue (is_within_limits script)) (words : List ℕ) (mon : Mon) (kept : IsKept script words mon) (held : HartValue) (fits : Fits script mon.history held) (l : ScriptLine) (at : slice_get script.lines held.place ≡ Some l) (next : next_line script held.hart held.ended ≡ Some l) where
  frame_count : length mon.ground.memory ≡ script.pages
  frame_count = kept.stands.frames.count ∙ (kept_stand script words mon kept).stands.owners.page_count

  limits : Limits script
  limits = limits_of script within

  reachable : length mon.history < ENTRY_LIMIT → (p : ℕ) → accessed_page l.line ≡ Some p → IsReachable words mon.ground.memory held p
  reachable room p asks =
      let below = line_page script within held.place l p at asks in
      let pages = limits.few_pages in
      let some = limits.some_harts in
      let size = (kept_stand script words mon kept).stands.size in
      let count = frame_count in
      record {
        limit = omega arith;
        place = omega arith;
        frame = omega arith;
        word = kept_page_words script limits words mon kept room p below;
        absent = absent_now script limits mon.history kept.legal words (kept_stand script words mon kept) held fits l next p asks;
      }

  pub can_do : length mon.history < ENTRY_LIMIT → (line : Line) → l.line ≡ line → CanDo words mon.ground held line
  can_do room (lines.Call call) is = record {
    ready = kept_ready script limits words mon kept room;
    on_board = subst (λ n. held.hart < n) (sym kept.board.harts) fits.on_board;
  }
  can_do room (lines.Load addr) is = reachable room (page_of addr) (ap accessed_page is)
  can_do room (lines.Store addr value) is = reachable room (page_of addr) (ap accessed_page is)

  -- what was reached, of an access
  access_below : (p : ℕ) → accessed_page l.line ≡ Some p → p < length mon.ground.memory
  access_below p asks =
      let below = line_page script within held.place l p at asks in
      let count = frame_count in
      omega arith

  pub parts : access_need held (accessed_page l.line) ≡ needs.Event → (line : Line) → l.line ≡ line → (now : List ℕ) (G : Ground) (rings : HartRings) (event : Event) → IsDone words now mon.ground G held rings event line → Parts script words mon held line now G rings event
  parts ready (lines.Call call) is now G rings event did =
      let S = after script mon.history in
      let served = did.served.serves S (met_after script limits mon.history kept.legal) kept.stands in
      subst (Parts script words mon held (lines.Call call) now G rings) (sym did.is) (record {
        rightly = call_rightly script mon.history held l call fits next is did.reply served.0 rings did.rings_are;
        stands = served.1;
        count = at_script script mon.ground kept.board (λ p k. get_or now (count_word p k) 0 ≡ get_or words (count_word p k) 0) did.served.count ∙ kept.count;
        fences =
            at_script script mon.ground kept.board (λ p k. (most : ℕ) → FencesWithin p k words most → FencesWithin p k now (most + 1)) did.served.fences
            (length mon.history) kept.fences;
        told = tt;
        lawful = at_script script mon.ground kept.board (λ p k. MakesLawful p k held.hart words words now) did.served.lawful;
      })
  parts ready (lines.Load addr) is now G rings event did =
      let S = after script mon.history in
      let asks = ap accessed_page is in
      let r = did.0.reach in
      let value = get_or (frame mon.ground.memory (page_of addr)) (word_place addr) 0 in
      let below = line_page script within held.place l (page_of addr) at asks in
      let need = ap (access_need held) (sym asks) ∙ ready in
      let stand = kept_stand script words mon kept in
      let right = reached_rightly script limits mon.history kept.legal words stand held fits l next (page_of addr) asks below need rings r did.0.reaches in
      let same = load_done S held.hart addr value r in
      subst (λ e. Parts script words mon held (lines.Load addr) now G rings e) (sym did.0.is)
      (subst (λ ws. Parts script words mon held (lines.Load addr) ws G rings (load_event addr value r)) (sym did.1)
      (subst (λ (K : Ground). Parts script words mon held (lines.Load addr) words K rings (load_event addr value r)) (sym did.2) (record {
        rightly = load_rightly script mon.history held.hart addr mon.ground.memory kept.stands.frames (access_below (page_of addr) asks) rings r right;
        stands = subst (Stands words mon.ground) (sym same) kept.stands;
        count = kept.count;
        fences = stays_within script.pages script.harts words (length mon.history) kept.fences;
        told = load_told words held.rings addr value r (told_rightly script limits mon.history kept.legal words stand held fits l next (page_of addr) asks need rings r did.0.reaches);
        lawful = ([], tt, refl);
      })))
  parts ready (lines.Store addr value) is now G rings event did =
      let S = after script mon.history in
      let asks = ap accessed_page is in
      let r = did.0.reach in
      let below = line_page script within held.place l (page_of addr) at asks in
      let need = ap (access_need held) (sym asks) ∙ ready in
      let stand = kept_stand script words mon kept in
      let right = reached_rightly script limits mon.history kept.legal words stand held fits l next (page_of addr) asks below need rings r did.0.reaches in
      let grown = did.2 ∙ ap (with_memory mon.ground) did.0.frames in
      subst (λ e. Parts script words mon held (lines.Store addr value) now G rings e) (sym did.0.is)
      (subst (λ ws. Parts script words mon held (lines.Store addr value) ws G rings (stored_event addr value r)) (sym did.1)
      (subst (λ (K : Ground). Parts script words mon held (lines.Store addr value) words K rings (stored_event addr value r)) (sym grown) (record {
        rightly = store_rightly script mon.history held.hart addr value rings r right;
        stands = stored_stands words mon.ground S held.hart addr value r right.may (access_below (page_of addr) asks) kept.stands;
        count = kept.count;
        fences = stays_within script.pages script.harts words (length mon.history) kept.fences;
        told = store_told words held.rings addr value r (told_rightly script limits mon.history kept.legal words stand held fits l next (page_of addr) asks need rings r did.0.reaches);
        lawful = ([], tt, refl);
      })))

  -- where no hart is behind, the event is performed
  pub performed : first_behind script (after script mon.history) l.phase ≡ None → (now : List ℕ) (G : Ground) (rings : HartRings) (event : Event) → held.inside ≡ None → Parts script words mon held l.line now G rings event → IsPerformed script now (record { ground = G; history = mon.history; progress = mon.progress }) (record held { rings = rings }) event
  performed none now G rings event outside did =
      let S = after script mon.history in
      let all = all_outside script mon.history in
      let offer_is : offer script S held.hart ≡ line_offer S held.hart l.line = offered script S held.hart all l (ap (next_line script held.hart) (sym fits.counts) ∙ next) none in
      let stands = subst (Stands now G) (sym (done_outside S held.hart all event)) did.stands in
      record {
        board = board_by script mon.history held.hart event now G stands;
        legal = kept.legal;
        cached = kept.cached;
        progress = kept.progress;
        allowed = subst (λ o. Takes S held.hart o event) (sym offer_is) did.rightly.takes;
        reached = subst (ReachesWhere script mon.history held.hart) (sym (touched_outside S held.hart all event)) did.rightly.reached;
        stands = stands;
        count = did.count;
        fences = did.fences;
        on_board = fits.on_board;
        counts = fits.counts;
        place = fits.stands;
        rings = did.rightly.rings_are ∙ ap rings_of (sym (renewed_outside S held.hart all (tlb script mon.history held.hart) event));
        outside = outside;
      }

  -- and counted, it is made as the clauses say
  pub made : (now : List ℕ) (G : Ground) (rings : HartRings) (event : Event) → IsPerformed script now (record { ground = G; history = mon.history; progress = mon.progress }) (record held { rings = rings }) event → Parts script words mon held l.line now G rings event → (counted : List ℕ) (new : Mon) (left : HartValue) → IsKept script counted new → Fits script new.history left → new.history ≡ mon.history ++ entry_by held.hart event ∷ [] → left.hart ≡ held.hart → left.rings ≡ rings → left.walked ≡ None → counted ≡ set now (count_word script.pages script.harts) (length mon.history + 1) → IsMade script words counted mon new held left (entry_by held.hart event)
  made now G rings event performed did counted new left kept' fits' grown same same_rings used stores =
      let H = mon.history in
      let e = entry_by held.hart event in
      let S = after script H in
      let legal : Legal script (H ++ e ∷ []) = legal_push script H e kept.legal performed.allowed in
      record {
        by = refl;
        step = (performed.allowed, ap (after script) grown ∙ after_push script H e);
        grown = grown;
        kept = kept';
        same_hart = same;
        fits = fits';
        others = λ other ne old. subst (λ h. Fits script h other) (sym grown) (fits_other script limits H e kept.legal legal other (λ q. ne (sym q)) old);
        told = subst (IsTold words held.rings) (sym (touched_outside S held.hart (all_outside script H) event)) did.told;
        clear = clear_own script limits H e legal held.hart left (same_rings ∙ performed.rings ∙ ap rings_of (sym (tlb_same script H e held.hart refl))) used;
        others_clear = λ other ne old. clear_other script limits H e legal other (λ q. ne (sym q)) old;
        stores = (now, did.lawful, countable script now (record { ground = G; history = mon.history; progress = mon.progress }) (record held { rings = rings }) event performed, stores);
      }

-- ---- the next line of a hart, by its place

pub next_at : (script : ScriptValue) (H : List Entry) (held : HartValue) → Fits script H held → (l : ScriptLine) → slice_get script.lines held.place ≡ Some l → next_line script held.hart held.ended ≡ Some l
next_at script H held fits l at = sym (line_at_place script held.hart held.ended held.place fits.stands) ∙ at

pub ready_at : (script : ScriptValue) (held : HartValue) → IsPrepared script held → (l : ScriptLine) → next_line script held.hart held.ended ≡ Some l → access_need held (accessed_page l.line) ≡ needs.Event
ready_at script held prepared l next =
    let same : l ≡ prepared.line = same_Some l prepared.line (sym next ∙ prepared.next) in
    ap (λ (k : ScriptLine). access_need held (accessed_page k.line)) same ∙ prepared.ready

pub has_next : (script : ScriptValue) (H : List Entry) (held : HartValue) → Fits script H held → IsPrepared script held → slice_get script.lines held.place ≡ None → ⊥
has_next script H held fits prepared none =
    none-some prepared.line (sym none ∙ line_at_place script held.hart held.ended held.place fits.stands ∙ prepared.next)

-- what is behind the hart's next line, is behind the line at its place
pub behind_at : (script : ScriptValue) (H : List Entry) (held : HartValue) (l : ScriptLine) (other : ℕ) → next_line script held.hart held.ended ≡ Some l → IsFirstBehind script H held other → first_behind script (after script H) l.phase ≡ Some other
behind_at script H held l other next behind =
    ap (λ (k : ScriptLine). first_behind script (after script H) k.phase) (same_Some l behind.line (sym next ∙ behind.next)) ∙ behind.first

-- ---- on another name of the board

pub allows_on : (allows : List ℕ → ℕ → ℕ → Type 0) (pages pages' harts harts' hart : ℕ) → pages' ≡ pages → harts' ≡ harts → (old : List ℕ) → AllowsLawful allows pages harts hart old → AllowsLawful allows pages' harts' hart old
allows_on allows pages pages' harts harts' hart p h old all = λ words place word lawful.
    all words place word (subst (λ n. IsLawful pages n hart old words place word) h (subst (λ n. IsLawful n harts' hart old words place word) p lawful))

-- what no hart is behind, as the code finds it
pub none_behind : (script : ScriptValue) (H : List Entry) (l : ScriptLine) (found : Option HartId) → found ≡ None → IfNone found (first_behind script (after script H) l.phase ≡ None) → first_behind script (after script H) l.phase ≡ None
none_behind script H l found is none = subst (λ r. IfNone r (first_behind script (after script H) l.phase ≡ None)) is none

-- an event of a hart, from what it was prepared for to what it did
pub record Performing (script : ScriptValue) (words : List ℕ) (mon : Mon) (held : HartValue) (line : Line) (now : List ℕ) (G : Ground) (rings : HartRings) (event : Event) : Type 0 where
  pub parts : Parts script words mon held line now G rings event
  pub performed : IsPerformed script now (record { ground = G; history = mon.history; progress = mon.progress }) (record held { rings = rings }) event

pub performing : (script : ScriptValue) → IsTrue (is_within_limits script) → (words : List ℕ) (mon : Mon) → IsKept script words mon → (held : HartValue) → Fits script mon.history held → held.inside ≡ None → IsPrepared script held → (l : ScriptLine) → slice_get script.lines held.place ≡ Some l → first_behind script (after script mon.history) l.phase ≡ None → (now : List ℕ) (G : Ground) (rings : HartRings) (event : Event) → IsDone words now mon.ground G held rings event l.line → Performing script words mon held l.line now G rings event
performing script within words mon kept held fits outside prepared l at none now G rings event done =
    let next = next_at script mon.history held fits l at in
    let did = parts script within words mon kept held fits l at next (ready_at script held prepared l next) l.line refl now G rings event done in
    record { parts = did; performed = performed script within words mon kept held fits l at next none now G rings event outside did }

-- ---- the entry at the end of a history

abbrev pub entry_from : HartId → Event → Entry
entry_from hart event = record { hart = hart; event = event }

pub last_entry : (P : Entry → Type 0) (H H' : List Entry) (entry : Entry) (place : ℕ) → H' ≡ H ++ entry ∷ [] → place ≡ length H → P entry → IfSome (slice_get H' place) P
last_entry P H H' entry place grown end p =
    subst (λ o. IfSome o P) (sym (ap (λ n. slice_get H' n) end ∙ ap (λ h. slice_get h (length H)) grown ∙ at_end H entry)) p
  where
    at_end : (xs : List Entry) (x : Entry) → slice_get (xs ++ x ∷ []) (length xs) ≡ Some x
    at_end [] x = refl
    at_end (y ∷ ys) x = at_end ys x

pub some_last : (H H' : List Entry) (entry : Entry) (place : ℕ) → H' ≡ H ++ entry ∷ [] → place ≡ length H → IsSome (slice_get H' place)
some_last H H' entry place grown end = within_some H' place (subst (λ n. n < length H') (sym end) (omega (arith, ap length grown, length_push H entry)))
  where
    within_some : (xs : List Entry) (n : ℕ) → n < length xs → IsSome (slice_get xs n)
    within_some [] n less = absurd (omega arith)
    within_some (x ∷ xs) zero less = refl
    within_some (x ∷ xs) (suc n) less = within_some xs n (omega arith)
