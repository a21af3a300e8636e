-- What a hart does in its turn is the turn of each play that has its history and its note.
use Rattle.std.proofs.Common.{◌≡◌, ℕ, ◌<◌, ◌≤◌, Bool, true, false, cond, ◌||◌, ◌⊎◌, nat_lt, is_some, IsTrue, IsSome, IfSome, IfNone, arith, List, [], ◌∷◌, ◌++◌, Option, None, Some, inl, inr, ◌↔◌, length, get_or, slice_get, refl, sym, subst, ap, ◌∙◌}
use Rattle.std.proofs.lemmas.Bool.{cases_lt, cond-false, cond-true, false≢true, lt-ltb, ltb-true}
use Rattle.cove_model.specs.Machine.{Target, next_line, HartRings, HartValue, accessed_page, has_walked_to, IsHostWord, page_word, ScriptValue, is_within_limits, Entry, Event, How, Hit, Walk, ENTRY_LIMIT, Page, Line, ScriptLine, IsReached, Reaches, ReachesWhere, EachEntry, Legal, after, Behind, Nothing, Offer, Touch, first_behind, host_target, line_offer, offer, outside_offer, sought, target_of, has, is_host, page_at, Note, Play, Unwalked, WalkFound, WalkMissed, ended_event, ending, entered, entry_by, entry_turn, noted, sought_turn, turn, walked, walks_first, State, ended_by, page_of, word_at, Allows, Takes, Came, Failed, Arrival, host_touched, tlb, touched}
use Rattle.std.proofs.lemmas.List.{length_push}
use Rattle.std.proofs.lemmas.Option.{same_Some}
use Rattle.cove_base.proofs.HartPlaceLemmas.{line_at_place}
use Rattle.cove_base.proofs.ScriptLimits.{limits_of, line_page, Limits}
use Rattle.cove_base.specs.Rings.{found}
use Rattle.cove_base.specs.declared.events.Event.TheVariants as events
use Rattle.cove_base.specs.declared.events.Walked.{Walked}
use Rattle.cove_base.specs.declared.events.Walked.TheVariants as walks
use Rattle.cove_base.specs.declared.numbers.HartId.{HartId}
use Rattle.cove_base.specs.declared.scripts.Line.TheVariants as lines
use Rattle.cove_base.specs.declared.walks.Noted.{Noted}
use Rattle.cove_base.specs.declared.walks.Target.TheVariants as targets
use Rattle.cove_core.proofs.BoardLemmas.{kept_page_words, kept_stand}
use Rattle.cove_core.proofs.Performing.{absent_now, not_true, reached_rightly, told_rightly, walk_is}
use Rattle.cove_model.proofs.AloneProofs.{fits_fit_alone}
use Rattle.cove_core.proofs.Walking.{sought as sought_walk, unwalked_now, wanted, wanted_below}
use Rattle.cove_core.specs.Kept.{IsKept}
use Rattle.cove_core.specs.Made.{IsMade, IsTold, IsWithinReach}
use Rattle.cove_core.specs.Plays.{IsTurn, IsTurned, note_of}
use Rattle.cove_core.specs.Reached.{HasUnusedWalk, IsPrepared, finds_page}
use Rattle.cove_core.specs.Walks.{HavePageWords, IsFoundIn, IsWalked}
use Rattle.cove_core.specs.declared.accesses.Reach.TheVariants as reach
use Rattle.cove_core.specs.declared.monitors.Mon.{Mon}
use Rattle.cove_hart.specs.Needs.{access_need, line_need, next_need}
use Rattle.cove_hart.specs.declared.needs.Need.TheVariants as needs
use Rattle.cove_model.proofs.AtTheEnd.{each_last}
use Rattle.cove_model.proofs.Fitting.{host_at}
use Rattle.cove_model.proofs.Offering.{aim_of_page, due, offered, offered_behind, sought_outside}
use Rattle.cove_model.proofs.Unbuilt.{all_outside, offer_outside, touched_outside}
use Rattle.cove_model.proofs.Playing.{noted_other, noted_same, turn_full}
use Rattle.cove_model.proofs.ToldProofs.{words_tell_host}
use Rattle.cove_model.specs.Fits.{Fits}
use Rattle.cove_model.specs.WordLaws.{Stand}

-- how an access ended, by its way
abbrev how_of : Arrival → Option How
how_of (Came how) = Some how
how_of Failed = None

-- what is told of an access by the words and the rings
abbrev IsToldHow : (words : List ℕ) → HartRings → (host : Bool) (p : ℕ) → Arrival → Type 0
IsToldHow words rings host p (Came how) = IsWithinReach words rings p
IsToldHow words rings host p Failed = (found p rings.hosts ≡ None) × (host ≡ false)

-- a play whose hart holds its target or has this note makes no walk first, and the access ends in this way
abbrev EndsSo : (holds : Bool) → Note → (host : Bool) → Arrival → Type 0
EndsSo holds note host way = (walks_first holds note ≡ false) × (ending holds note host ≡ how_of way)

-- ---- how an access ends

module _ (script : ScriptValue) (limits : Limits script) (H : List Entry) (legal : Legal script H) (words : List ℕ) (stand : Stand script.pages script.harts words (after script H)) (held : HartValue) (fits : Fits script H held) (l : ScriptLine) (next : next_line script held.hart held.ended ≡ Some l) (p : ℕ) (asks : accessed_page l.line ≡ Some p) (below : p < script.pages) (ready : access_need held (Some p) ≡ needs.Event) where
  abbrev holds : Bool
  holds = has p (tlb script H held.hart).pages

  abbrev host : Bool
  host = is_host (page_at (after script H).pages p)

  told_host : IsHostWord (get_or words (page_word p) 0) → host ≡ true
  told_host word = (words_tell_host script.pages script.harts words (after script H) p below stand.stands.owners).1 word

  -- by a note and whether the target is held, in both parts
  ends_by : (b : Bool) (note : Note) (way : Arrival) → holds ≡ b → EndsSo b note host way → EndsSo holds note host way
  ends_by b note way is ends = (ap (λ c. walks_first c note) is ∙ ends.0, ap (λ c. ending c note host) is ∙ ends.1)

  unwalked_ends : held.walked ≡ None → (way : Arrival) → Reaches script H held.hart (host_at p) way → EndsSo holds Unwalked host way
  unwalked_ends none way right = by_way way right (reached_rightly script limits H legal words stand held fits l next p asks below ready held.rings reach.Held (none, refl)).right
    where
      by_way : (way' : Arrival) → Reaches script H held.hart (host_at p) way' → holds ≡ true → EndsSo holds Unwalked host way'
      by_way (Came Hit) right' named = ends_by true Unwalked (Came Hit) named (refl, refl)
      by_way (Came Walk) right' named = absurd (false≢true (sym right'.0 ∙ named))
      by_way Failed right' named = absurd (false≢true (sym right' ∙ named))

  found_ends : HasUnusedWalk held.walked true → (way : Arrival) → Reaches script H held.hart (host_at p) way → IsToldHow words held.rings host p way → EndsSo holds WalkFound host way
  found_ends has_walked way right told = by_way way right told (walk_is script limits H legal words stand held fits l next p asks true has_walked).absent
    where
      no_fault : found p held.rings.hosts ≡ None → host ≡ false → ⊥
      no_fault none off = elim (told_rightly script limits H legal words stand held fits l next p asks ready held.rings reach.Walked (has_walked, refl)) [
        | inl some ↦ false≢true (sym (ap (λ (o : Option Page). is_some o) none) ∙ some)
        | inr word ↦ false≢true (sym off ∙ told_host word)
      ]

      by_way : (way' : Arrival) → Reaches script H held.hart (host_at p) way' → IsToldHow words held.rings host p way' → holds ≡ false → EndsSo holds WalkFound host way'
      by_way (Came Hit) right' told' lacks = absurd (false≢true (sym lacks ∙ right'))
      by_way (Came Walk) right' told' lacks = ends_by false WalkFound (Came Walk) lacks (refl, refl)
      by_way Failed right' told' lacks = absurd (no_fault told'.0 told'.1)

  missing_ends : HasUnusedWalk held.walked false → (way : Arrival) → Reaches script H held.hart (host_at p) way → IsToldHow words held.rings host p way → EndsSo holds WalkMissed host way
  missing_ends has_walked way right told = by_way way right told (walk_is script limits H legal words stand held fits l next p asks false has_walked).absent
    where
      is_the_hosts : IsWithinReach words held.rings p → host ≡ true
      is_the_hosts within = elim within [
        | inl some ↦ absurd (false≢true (sym (ap (λ (o : Option Page). is_some o) (absent_now script limits H legal words stand held fits l next p asks has_walked)) ∙ some))
        | inr word ↦ told_host word
      ]

      by_way : (way' : Arrival) → Reaches script H held.hart (host_at p) way' → IsToldHow words held.rings host p way' → holds ≡ false → EndsSo holds WalkMissed host way'
      by_way (Came Hit) right' told' lacks = absurd (false≢true (sym lacks ∙ right'))
      by_way (Came Walk) right' told' lacks = ends_by false WalkMissed (Came Walk) lacks (refl, ap (ending false WalkMissed) (is_the_hosts told'))
      by_way Failed right' told' lacks = ends_by false WalkMissed Failed lacks (refl, ap (ending false WalkMissed) told'.1)

  -- an access of a play ends in the way of the hart's
  pub ends_so : (way : Arrival) → Reaches script H held.hart (host_at p) way → IsToldHow words held.rings host p way → EndsSo holds (note_of held.walked) host way
  ends_so way right told = go held.walked refl
    where
      by_finding : (finding : Bool) → HasUnusedWalk held.walked finding → EndsSo holds (cond finding WalkFound WalkMissed) host way
      by_finding true has_walked = found_ends has_walked way right told
      by_finding false has_walked = missing_ends has_walked way right told

      go : (o : Option Noted) → held.walked ≡ o → EndsSo holds (note_of o) host way
      go None e = unwalked_ends e way right
      go (Some noted) e = by_finding (finds_page noted.walked) (subst (λ o. HasUnusedWalk o (finds_page noted.walked)) (sym e) refl)

-- ---- an entry is a turn

-- a turn where there is room
turn_open : (limit : ℕ) (script : ScriptValue) (play : Play) (h : ℕ) → length play.history < limit → turn limit script play h ≡ sought_turn script play (after script play.history) h (offer script (after script play.history) h) (sought script (after script play.history) h)
turn_open limit script play h room = cond-true (nat_lt (length play.history) limit) _ play (lt-ltb (length play.history) limit room)

module _ (script : ScriptValue) (within : IsTrue (is_within_limits script)) (H : List Entry) (legal : Legal script H) (words : List ℕ) (stand : Stand script.pages script.harts words (after script H)) (held : HartValue) (fits : Fits script H held) (prepared : IsPrepared script held) (notes : ℕ → Note) (mine : notes held.hart ≡ note_of held.walked) where
  abbrev play : Play
  play = record { history = H; notes = notes }

  abbrev S : State
  S = after script H

  access_ends : (addr : ℕ) → accessed_page prepared.line.line ≡ Some (page_of addr) → (way : Arrival) → Reaches script H held.hart (host_target addr) way → IsToldHow words held.rings (is_host (page_at S.pages (page_of addr))) (page_of addr) way
      → EndsSo (has (page_of addr) (tlb script H held.hart).pages) (notes held.hart) (is_host (page_at S.pages (page_of addr))) way
  access_ends addr asks way right told =
      let l = prepared.line in
      let at : slice_get script.lines held.place ≡ Some l = line_at_place script held.hart held.ended held.place fits.stands ∙ prepared.next in
      let below = line_page script within held.place l (page_of addr) at asks in
      let ready = sym (ap (access_need held) asks) ∙ prepared.ready in
      subst (λ n. EndsSo (has (page_of addr) (tlb script H held.hart).pages) n (is_host (page_at S.pages (page_of addr))) way) (sym mine)
      (ends_so script (limits_of script within) H legal words stand held fits l prepared.next (page_of addr) asks below ready way right told)

  -- the turn of an access that ends in this way
  access_turn : (addr : ℕ) (success : How → Event) (fault : Event) (way : Arrival) → EndsSo (has (page_of addr) (tlb script H held.hart).pages) (notes held.hart) (is_host (page_at S.pages (page_of addr))) way
      → sought_turn script play S held.hart (Touch (host_target addr) success fault) (Some (host_target addr)) ≡ entered play held.hart (ended_event success fault (how_of way))
  access_turn addr success fault way ends =
      cond-false (walks_first (has (page_of addr) (tlb script H held.hart).pages) (notes held.hart)) (walked play held.hart (is_host (page_at S.pages (page_of addr)))) (entry_turn script play S held.hart (Touch (host_target addr) success fault)) ends.0
      ∙ ap (λ o. entered play held.hart (ended_event success fault o)) ends.1

  touch_turn : (addr : ℕ) (success : How → Event) (fault event : Event) → accessed_page prepared.line.line ≡ Some (page_of addr)
      → ((how : How) → host_touched (success how) ≡ Some (host_target addr, Came how)) → host_touched fault ≡ Some (host_target addr, Failed)
      → Takes S held.hart (Touch (host_target addr) success fault) event → ReachesWhere script H held.hart (host_touched event) → IsTold words held.rings (host_touched event)
      → sought_turn script play S held.hart (Touch (host_target addr) success fault) (Some (host_target addr)) ≡ entered play held.hart event
  touch_turn addr success fault event asks comes fails (inl takes) reached told =
      let touched = ap host_touched takes.1 ∙ comes takes.0 in
      access_turn addr success fault (Came takes.0)
      (access_ends addr asks (Came takes.0) (subst (ReachesWhere script H held.hart) touched reached) (subst (IsTold words held.rings) touched told))
      ∙ ap (entered play held.hart) (sym takes.1)
  touch_turn addr success fault event asks comes fails (inr takes) reached told =
      let touched = ap host_touched takes.0 ∙ fails in
      access_turn addr success fault Failed
      (access_ends addr asks Failed (subst (ReachesWhere script H held.hart) touched reached) (subst (IsTold words held.rings) touched told, takes.1))
      ∙ ap (entered play held.hart) (sym takes.0)

  line_turns : (l : Line) → prepared.line.line ≡ l → (event : Event) → Takes S held.hart (line_offer S held.hart l) event → ReachesWhere script H held.hart (host_touched event) → IsTold words held.rings (host_touched event)
      → sought_turn script play S held.hart (line_offer S held.hart l) (target_of (line_offer S held.hart l)) ≡ entered play held.hart event
  line_turns (lines.Call call) is event takes reached told = ap (entered play held.hart) (sym takes)
  line_turns (lines.Load addr) is event takes reached told =
      touch_turn addr (λ how. events.Load addr how (word_at S addr)) (events.LoadFault addr) event (ap accessed_page is) (λ how. refl) refl takes reached told
  line_turns (lines.Store addr value) is event takes reached told =
      touch_turn addr (λ how. events.Store addr value how) (events.StoreFault addr value) event (ap accessed_page is) (λ how. refl) refl takes reached told

  pub entered_turn : (event : Event) → Allows script S held.hart event → IsReached script H held.hart event → IsTold words held.rings (touched S held.hart event)
      → sought_turn script play S held.hart (offer script S held.hart) (sought script S held.hart) ≡ entered play held.hart event
  entered_turn event allows reached told =
      let all = all_outside script H in
      let l = prepared.line in
      let next = ap (next_line script held.hart) (sym fits.counts) ∙ prepared.next in
      let d = due script S held.hart all l next event allows in
      let offers = offered script S held.hart all l next d.0 in
      let same = touched_outside S held.hart all event in
      ap (λ o. sought_turn script play S held.hart (offer script S held.hart) o) (sought_outside script S held.hart all)
      ∙ ap (λ o. sought_turn script play S held.hart o (target_of o)) offers
      ∙ line_turns l.line refl event d.1 (subst (ReachesWhere script H held.hart) same reached) (subst (IsTold words held.rings) same told)

-- a turn that leads to a play leads to its history and notes
turn_by : (script : ScriptValue) (play : Play) (h : ℕ) (history : List Entry) (own : Note) (noted_walk : Option Noted) → turn ENTRY_LIMIT script play h ≡ record { history = history; notes = noted h own play.notes } → own ≡ note_of noted_walk → IsTurn script play h history noted_walk
turn_by script play h history own noted_walk is owns = record {
  history_is = ap (λ (p : Play). p.history) is;
  own = ap (λ (p : Play). p.notes h) is ∙ noted_same h h own play.notes refl ∙ owns;
  others = λ other ne. ap (λ (p : Play). p.notes other) is ∙ noted_other h other own play.notes ne;
}

abbrev as_play : List Entry → (ℕ → Note) → Play
as_play history notes = record { history = history; notes = notes }

-- for each play of the same history
at_history : (script : ScriptValue) (H new : List Entry) (h : ℕ) (noted_walk : Option Noted) (play : Play) → play.history ≡ H → IsTurn script (record { history = H; notes = play.notes }) h new noted_walk → IsTurn script play h new noted_walk
at_history script H new h noted_walk play e is = subst (λ K. IsTurn script (record { history = K; notes = play.notes }) h new noted_walk) (sym e) is

pub made_turned : (script : ScriptValue) → IsTrue (is_within_limits script) → (words now : List ℕ) (mon new : Mon) → IsKept script words mon → (held left : HartValue) → Fits script mon.history held → IsPrepared script held → length mon.history < ENTRY_LIMIT → (entry : Entry) → IsMade script words now mon new held left entry → left.walked ≡ None → IsTurned script mon.history new.history held left true
made_turned script within words now mon new kept held left fits prepared room entry made used = record {
  same_hart = made.same_hart;
  fits = made.fits;
  others = made.others;
  takes = takes;
  still = λ no. absurd (false≢true (sym no));
  moved = λ moves play e mine same.
      let longer : new.history ≡ mon.history = sym (takes play e mine).history_is ∙ ap (λ (p : Play). p.history) same ∙ e in
      let size = ap length (sym made.grown ∙ longer) in
      let one_more = length_push mon.history entry in
      absurd (omega arith);
}
  where
    entry_of_hart : ℕ → Entry
    entry_of_hart k = entry_by k entry.event

    taken : (notes : ℕ → Note) → notes held.hart ≡ note_of held.walked → IsTurn script (record { history = mon.history; notes = notes }) held.hart new.history left.walked
    taken notes mine =
        let cached = subst (λ K. EachEntry (λ before e. IsReached script before e.hart.0 e.event) [] K) made.grown made.kept.cached in
        let reached = each_last (λ before e. IsReached script before e.hart.0 e.event) [] mon.history entry cached in
        let allows = made.step.0 in
        let is = turn_open ENTRY_LIMIT script (record { history = mon.history; notes = notes }) held.hart room
        ∙ entered_turn script within mon.history kept.legal words (kept_stand script words mon kept) held fits prepared notes mine entry.event
        (subst (λ k. Allows script (after script mon.history) k entry.event) made.by allows)
        (subst (λ k. IsReached script mon.history k entry.event) made.by reached)
        made.told in
        let same : mon.history ++ entry_by held.hart entry.event ∷ [] ≡ new.history = ap (λ k. mon.history ++ entry_of_hart k ∷ []) (sym made.by) ∙ sym made.grown in
        turn_by script (record { history = mon.history; notes = notes }) held.hart new.history Unwalked left.walked
        (is ∙ ap (λ K. as_play K (noted held.hart Unwalked notes)) same) (sym (ap note_of used))

    takes : (play : Play) → play.history ≡ mon.history → play.notes held.hart ≡ note_of held.walked → IsTurn script play held.hart new.history left.walked
    takes play e mine = at_history script mon.history new.history held.hart left.walked play e (taken play.notes mine)

-- ---- a walk is a turn

found_rightly : (words : List ℕ) (host : Bool) (p : ℕ) (w : Walked) → IsFoundIn words p w → ((host ≡ true) ↔ IsHostWord (get_or words (page_word p) 0)) → host ≡ finds_page w
found_rightly words is_hosts p (walks.Found page) finds tells = tells.1 finds.1
found_rightly words true p (walks.Missing word) finds tells = absurd (finds.1 (tells.0 refl))
found_rightly words false p (walks.Missing word) finds tells = refl

-- the turn of a hart that seeks a page, which it does not hold, and has no note
walk_sought : (script : ScriptValue) (play : Play) (S : State) (h p : ℕ) (offered_it : Offer) (o : Option Target) → o ≡ Some (host_at p) → has p (tlb script play.history h).pages ≡ false → play.notes h ≡ Unwalked → sought_turn script play S h offered_it o ≡ walked play h (is_host (page_at S.pages p))
walk_sought script play S h p offered_it o is lacks none =
    ap (sought_turn script play S h offered_it) is
    ∙ cond-true (walks_first (has p (tlb script play.history h).pages) (play.notes h)) (walked play h (is_host (page_at S.pages p))) (entry_turn script play S h offered_it)
    (ap (λ b. walks_first b (play.notes h)) lacks ∙ ap (walks_first false) none)

line_seeks : (S : State) (h p : ℕ) (l : Line) → accessed_page l ≡ Some p → target_of (line_offer S h l) ≡ Some (host_at p)
line_seeks S h p (lines.Call call) asks = cc
line_seeks S h p (lines.Load addr) asks = aim_of_page (lines.Load addr) p asks
line_seeks S h p (lines.Store addr value) asks = aim_of_page (lines.Store addr value) p asks

pub walk_turned : (script : ScriptValue) → IsTrue (is_within_limits script) → (words : List ℕ) (mon : Mon) → IsKept script words mon → (held left : HartValue) → Fits script mon.history held → (phase : ℕ) → IsWalked script words phase held left → (l : ScriptLine) → next_line script held.hart held.ended ≡ Some l → length mon.history < ENTRY_LIMIT → first_behind script (after script mon.history) l.phase ≡ None → IsTurned script mon.history mon.history held left true
walk_turned script within words mon kept held left fits phase is_walked l next room none_behind = record {
  same_hart = ap (λ (v : HartValue). v.hart) is_walked.left_is;
  fits = is_walked.fits mon kept fits;
  others = λ other ne f. f;
  takes = takes;
  still = λ no. absurd (false≢true (sym no));
  moved = λ moves play e mine same.
      let none = unwalked_now script mon.history held is_walked.page.0 (fits_fit_alone script mon.history held fits) (wanted script held phase is_walked.page is_walked.needed) in
      walk_is_noted (finds_page is_walked.walked)
      (ap (λ (v : HartValue). note_of v.walked) (sym is_walked.left_is) ∙ sym (takes play e mine).own ∙ ap (λ (p : Play). p.notes held.hart) same ∙ mine ∙ ap note_of none);
}
  where
    walk_is_noted : (b : Bool) → cond b WalkFound WalkMissed ≡ Unwalked → ⊥
    walk_is_noted true e = cc
    walk_is_noted false e = cc

    taken : (notes : ℕ → Note) → notes held.hart ≡ note_of held.walked → IsTurn script (record { history = mon.history; notes = notes }) held.hart mon.history left.walked
    taken notes mine =
        let p = is_walked.page.0 in
        let S = after script mon.history in
        let play : Play = record { history = mon.history; notes = notes } in
        let want = wanted script held phase is_walked.page is_walked.needed in
        let alone = fits_fit_alone script mon.history held fits in
        let none = unwalked_now script mon.history held p alone want in
        let sought_it = sought_walk script mon.history held p alone want none in
        let below = wanted_below script within held p fits.stands want in
        let same : l ≡ want.line = same_Some l want.line (sym next ∙ want.next) in
        let all = all_outside script mon.history in
        let here = ap (next_line script held.hart) (sym fits.counts) ∙ next in
        let asks : accessed_page l.line ≡ Some p = ap (λ (k : ScriptLine). accessed_page k.line) same ∙ want.asks in
        let seeks = sought_outside script S held.hart all ∙ ap target_of (offered script S held.hart all l here none_behind) ∙ line_seeks S held.hart p l.line asks in
        let is = turn_open ENTRY_LIMIT script play held.hart room
        ∙ walk_sought script play S held.hart p (offer script S held.hart) (sought script S held.hart) seeks sought_it.absent (mine ∙ ap note_of none) in
        let tells = found_rightly words (is_host (page_at S.pages p)) p is_walked.walked is_walked.finds (words_tell_host script.pages script.harts words S p below (kept_stand script words mon kept).stands.owners) in
        turn_by script play held.hart mon.history (cond (is_host (page_at S.pages p)) WalkFound WalkMissed) left.walked is
        (ap (λ b. cond b WalkFound WalkMissed) tells ∙ sym (ap (λ (v : HartValue). note_of v.walked) is_walked.left_is))

    takes : (play : Play) → play.history ≡ mon.history → play.notes held.hart ≡ note_of held.walked → IsTurn script play held.hart mon.history left.walked
    takes play e mine = at_history script mon.history mon.history held.hart left.walked play e (taken play.notes mine)

-- ---- a turn that changes nothing

still_turn : (script : ScriptValue) (play : Play) (h : ℕ) → (length play.history < ENTRY_LIMIT → sought_turn script play (after script play.history) h (offer script (after script play.history) h) (sought script (after script play.history) h) ≡ play) → turn ENTRY_LIMIT script play h ≡ play
still_turn script play h stays = elim (cases_lt (length play.history) ENTRY_LIMIT) [
  | inl room ↦ turn_open ENTRY_LIMIT script play h room ∙ stays room
  | inr full ↦ turn_full ENTRY_LIMIT script play h full
]

-- a hart outside that is offered nothing, or waits, makes no turn
idle_turn : (script : ScriptValue) (play : Play) (h : ℕ) (offered_it : Offer) → target_of offered_it ≡ None → entry_turn script play (after script play.history) h offered_it ≡ play → offer script (after script play.history) h ≡ offered_it → sought_turn script play (after script play.history) h (offer script (after script play.history) h) (sought script (after script play.history) h) ≡ play
idle_turn script play h offered_it none idle is =
    let S = after script play.history in
    let seeks : sought script S h ≡ None =
    sought_outside script S h (all_outside script play.history) ∙ ap target_of is ∙ none in
    ap (sought_turn script play S h (offer script S h)) seeks ∙ ap (entry_turn script play S h) is ∙ idle

stays_turned : (script : ScriptValue) (H : List Entry) (held : HartValue) → Fits script H held → ((play : Play) → play.history ≡ H → turn ENTRY_LIMIT script play held.hart ≡ play) → IsTurned script H H held held false
stays_turned script H held fits stays = record {
  same_hart = refl;
  fits = fits;
  others = λ other ne f. f;
  takes = λ play e mine. record {
    history_is = ap (λ (p : Play). p.history) (stays play e) ∙ e;
    own = ap (λ (p : Play). p.notes held.hart) (stays play e) ∙ mine;
    others = λ other ne. ap (λ (p : Play). p.notes other) (stays play e);
  };
  still = λ no. stays;
  moved = λ moves. absurd (false≢true moves);
}

-- no line is left
pub over_turned : (script : ScriptValue) (H : List Entry) (held : HartValue) → Fits script H held → slice_get script.lines held.place ≡ None → IsTurned script H H held held false
over_turned script H held fits none = stays_turned script H held fits (λ play e. still_turn script play held.hart (λ room. stays play e))
  where
    stays : (play : Play) → play.history ≡ H → sought_turn script play (after script play.history) held.hart (offer script (after script play.history) held.hart) (sought script (after script play.history) held.hart) ≡ play
    stays play e =
        let next : next_line script held.hart (ended_by (after script play.history) held.hart) ≡ None =
        ap (λ K. next_line script held.hart (ended_by (after script K) held.hart)) e ∙ ap (next_line script held.hart) (sym fits.counts)
        ∙ sym (line_at_place script held.hart held.ended held.place fits.stands) ∙ none in
        let S = after script play.history in
        idle_turn script play held.hart Nothing refl refl (offer_outside S held.hart (all_outside script play.history) script ∙ ap (outside_offer script S held.hart) next)

-- another hart is behind
pub behind_turned : (script : ScriptValue) (H : List Entry) (held : HartValue) → Fits script H held → (l : ScriptLine) → next_line script held.hart held.ended ≡ Some l → (other : ℕ) → first_behind script (after script H) l.phase ≡ Some other → IsTurned script H H held held false
behind_turned script H held fits l here other behind = stays_turned script H held fits (λ play e. still_turn script play held.hart (λ room. stays play e))
  where
    stays : (play : Play) → play.history ≡ H → sought_turn script play (after script play.history) held.hart (offer script (after script play.history) held.hart) (sought script (after script play.history) held.hart) ≡ play
    stays play e =
        let next : next_line script held.hart (ended_by (after script play.history) held.hart) ≡ Some l =
        ap (λ K. next_line script held.hart (ended_by (after script K) held.hart)) e ∙ ap (next_line script held.hart) (sym fits.counts) ∙ here in
        idle_turn script play held.hart (Behind other) refl refl
        (offered_behind script (after script play.history) held.hart (all_outside script play.history) l next other (ap (λ K. first_behind script (after script K) l.phase) e ∙ behind))

-- ---- as the code comes to them

pub none_of : {P : Type 0} (o : Option HartId) → is_some o ≡ false → IfNone o P → P
none_of None e p = p
none_of (Some h) e p = absurd (false≢true (sym e))

pub behind_of : (script : ScriptValue) (H : List Entry) (held : HartValue) → Fits script H held → (l : ScriptLine) → next_line script held.hart held.ended ≡ Some l → (o : Option HartId) → is_some o ≡ true → IfSome o (λ hart. first_behind script (after script H) l.phase ≡ Some hart.0) → IsTurned script H H held held false
behind_of script H held fits l next None e behind = absurd (false≢true e)
behind_of script H held fits l next (Some h) e behind = behind_turned script H held fits l next h.0 behind

pub made_at : (script : ScriptValue) → IsTrue (is_within_limits script) → (words now : List ℕ) (mon new : Mon) → IsKept script words mon → (held left : HartValue) → Fits script mon.history held → IsPrepared script held → (ENTRY_LIMIT ≤ length mon.history → ⊥) → (o : Option Entry) → IsSome o → IfSome o (λ entry. IsMade script words now mon new held left entry) → left.walked ≡ None → IsTurned script mon.history new.history held left true
made_at script within words now mon new kept held left fits prepared unfilled None is made used = absurd (false≢true is)
made_at script within words now mon new kept held left fits prepared unfilled (Some entry) is made used =
    made_turned script within words now mon new kept held left fits prepared (room (cases_lt (length mon.history) ENTRY_LIMIT)) entry made used
  where
    room : (length mon.history < ENTRY_LIMIT) ⊎ (ENTRY_LIMIT ≤ length mon.history) → length mon.history < ENTRY_LIMIT
    room (inl lt) = lt
    room (inr ge) = absurd (unfilled ge)

-- in the phase of its own line a hart is not idle
pub idle_never : (script : ScriptValue) (held : HartValue) (l : ScriptLine) → next_line script held.hart held.ended ≡ Some l → next_need script held l.phase ≡ needs.Idle → ⊥
idle_never script held l next idle = by_access (accessed_page l.line) (sym (ap (λ b. cond b needs.Idle (access_need held (accessed_page l.line))) (not_less l.phase)) ∙ sym (ap (line_need held l.phase) next) ∙ idle)
  where
    not_less : (n : ℕ) → nat_lt n n ≡ false
    not_less n = not_true (nat_lt n n) (λ e. let lt = ltb-true n n e in omega arith)

    by_test : (b : Bool) (p : ℕ) → cond b needs.Event (needs.Walk (targets.Host (record { 0 = p }))) ≡ needs.Idle → ⊥
    by_test true p e = cc
    by_test false p e = cc

    by_access : (o : Option ℕ) → access_need held o ≡ needs.Idle → ⊥
    by_access None e = cc
    by_access (Some p) e = by_test (is_some (found p held.rings.hosts) || has_walked_to held.walked p) p e

-- words that are kept have each page's word
pub kept_words : (script : ScriptValue) → IsTrue (is_within_limits script) → (words : List ℕ) (mon : Mon) → IsKept script words mon → length mon.history < ENTRY_LIMIT → HavePageWords script.pages words
kept_words script within words mon kept room p below =
    let size = (kept_stand script words mon kept).stands.size in
    (omega arith, kept_page_words script (limits_of script within) words mon kept room p below)
