-- The event of what a hart did is performed, as the definitions say.
use Rattle.std.proofs.Common.{◌≡◌, ◌≢◌, ℕ, ◌+◌, ◌<◌, ◌≤◌, ◌⊎◌, Bool, true, false, cond, List, [], Option, None, Some, get_or, set, length, inl, inr, refl, sym, subst, ap, ◌∙◌, arith, get_or-set_other, get_or-set_same, length-set}
use Rattle.std.proofs.lemmas.Bool.{cases_eq, cases_lt, false≢true}
use Rattle.std.proofs.lemmas.Option.{none-some}
use Rattle.cove_model.specs.Machine.{next_line, HartRings, HartValue, accessed_page, ScriptValue, HostCall, Entry, Event, Line, ScriptLine, Reply, Target, How, Hit, Walk, Keeps, rule, line_offer, ReachesWhere, reply_to, after, Owner, Host, Converting, Free, Given, change, may_use, page_at, word_stored, words_of, State, page_of, word_place, word_at, Takes, host_done, Tlb, emptied_by, forgets_outside, host_touched, tlb, with_touched, FrameStands, FramesStand, PageStands, is_table, maps_of}
use Rattle.cove_base.specs.declared.calls.HostCall.TheVariants as calls
use Rattle.cove_base.specs.declared.events.Event.TheVariants as events
use Rattle.cove_base.specs.declared.scripts.Line.TheVariants as lines
use Rattle.cove_base.specs.declared.walks.Noted.{Noted}
use Rattle.cove_base.specs.declared.events.Walked.{Walked}
use Rattle.cove_base.specs.declared.events.Walked.TheVariants as walks
use Rattle.cove_core.specs.Made.{IsTold}
use Rattle.cove_core.specs.Reached.{load_event, rings_left, store_event as stored_event, frames_by}
use Rattle.cove_core.specs.declared.accesses.Reach.{Reach}
use Rattle.cove_core.specs.declared.accesses.Reach.TheVariants as reach
use Rattle.cove_core.proofs.Performing.{IsReachedRightly, IsToldBy, MayReach, aim_is}
use Rattle.cove_model.proofs.Offering.{aim_of_none}
use Rattle.cove_mem.specs.Frames.{frame, with_word}
use Rattle.cove_model.proofs.Runs.{change_cases, change_inside, change_outside, length_change}
use Rattle.cove_model.specs.Fits.{Fits, IsSought, UnusedFits, WalkFits, rings_of, walked_rings}
use Rattle.cove_base.specs.Statuses.{is_success}
use Rattle.cove_model.specs.WordLaws.{Stand}

-- what an event of a hart outside is, beside the words and the frames that it leaves
pub record IsRightly (script : ScriptValue) (H : List Entry) (h : ℕ) (line : Line) (rings : HartRings) (event : Event) : Type 0 where
  pub takes : Takes (after script H) h (line_offer (after script H) h line) event
  pub reached : ReachesWhere script H h (host_touched event)
  pub rings_are : rings ≡ rings_of (emptied_by (forgets_outside (after script H) h event) (with_touched (after script H) h (host_touched event) (tlb script H h)))

-- ---- loads

frame_told : (S : State) (h : ℕ) (f : List ℕ) (o : Owner) → may_use h o ≡ true → FrameStands S f o → f ≡ words_of o
frame_told S h f Free may stands = absurd (false≢true may)
frame_told S h f (Given tvm purpose) may stands = absurd (false≢true may)
frame_told S h f _ may stands = stands

-- a word that a hart may load is that of the frame
word_told : (S : State) (frames : List (List ℕ)) (h addr : ℕ) → FramesStand frames S → page_of addr < length frames → may_use h (page_at S.pages (page_of addr)) ≡ true → get_or (frame frames (page_of addr)) (word_place addr) 0 ≡ word_at S addr
word_told S frames h addr stands below may =
    ap (λ f. get_or f (word_place addr) 0) (frame_told S h (frame frames (page_of addr)) (page_at S.pages (page_of addr)) may (stands.frame (page_of addr) below))

pub load_rightly : (script : ScriptValue) (H : List Entry) (h addr : ℕ) (frames : List (List ℕ)) → FramesStand frames (after script H) → page_of addr < length frames → (rings : HartRings) (r : Reach) → IsReachedRightly script H h (page_of addr) rings r → IsRightly script H h (lines.Load addr) rings (load_event addr (get_or (frame frames (page_of addr)) (word_place addr) 0) r)
load_rightly script H h addr frames stands below rings r right = go r right
  where
    value : ℕ
    value = get_or (frame frames (page_of addr)) (word_place addr) 0

    loads : (how : How) → may_use h (page_at (after script H).pages (page_of addr)) ≡ true → Takes (after script H) h (line_offer (after script H) h (lines.Load addr)) (events.Load addr how value)
    loads how may = inl (how, ap (λ v. events.Load addr how v) (word_told (after script H) frames h addr stands below may), may)

    go : (r : Reach) → IsReachedRightly script H h (page_of addr) rings r → IsRightly script H h (lines.Load addr) rings (load_event addr value r)
    go reach.Held right = record { takes = loads Hit right.may; reached = right.right; rings_are = right.rings_are }
    go reach.Absent right = record { takes = inr (refl, right.may); reached = right.right; rings_are = right.rings_are }
    go _ right = record { takes = loads Walk right.may; reached = right.right; rings_are = right.rings_are }

pub load_done : (S : State) (h addr value : ℕ) (r : Reach) → host_done S h (load_event addr value r) ≡ S
load_done S h addr value reach.Held = refl
load_done S h addr value _ = refl

pub load_told : (words : List ℕ) (rings : HartRings) (addr value : ℕ) (r : Reach) → IsToldBy words rings (page_of addr) r → IsTold words rings (host_touched (load_event addr value r))
load_told words rings addr value reach.Held told = told
load_told words rings addr value _ told = told

-- ---- stores

pub store_rightly : (script : ScriptValue) (H : List Entry) (h addr value : ℕ) (rings : HartRings) (r : Reach) → IsReachedRightly script H h (page_of addr) rings r → IsRightly script H h (lines.Store addr value) rings (stored_event addr value r)
store_rightly script H h addr value rings reach.Held right = record { takes = inl (Hit, refl, right.may); reached = right.right; rings_are = right.rings_are }
store_rightly script H h addr value rings reach.Absent right = record { takes = inr (refl, right.may); reached = right.right; rings_are = right.rings_are }
store_rightly script H h addr value rings _ right = record { takes = inl (Walk, refl, right.may); reached = right.right; rings_are = right.rings_are }

pub store_told : (words : List ℕ) (rings : HartRings) (addr value : ℕ) (r : Reach) → IsToldBy words rings (page_of addr) r → IsTold words rings (host_touched (stored_event addr value r))
store_told words rings addr value reach.Held told = told
store_told words rings addr value _ told = told

-- a stored word of a page is no matter of the shared words
page_stored : (harts epoch : ℕ) (numbers : ℕ → ℕ) (maps word i v : ℕ) (o : Owner) → PageStands harts epoch numbers maps word o → PageStands harts epoch numbers maps word (word_stored i v o)
page_stored harts epoch numbers maps word i v (Converting held waiting words) stands = record {
  since = stands.since;
  is = stands.is;
  begun = stands.begun;
  holds = stands.holds;
  waits = stands.waits;
  pending = stands.pending;
}
page_stored harts epoch numbers maps word i v _ stands = stands

table_stored : (i v : ℕ) (o : Owner) → is_table (word_stored i v o) ≡ is_table o
table_stored i v Free = refl
table_stored i v _ = refl

stand_stored : (pages harts : ℕ) (words : List ℕ) (S : State) (i v p : ℕ) → Stand pages harts words S → Stand pages harts words (record S { pages = change (word_stored i v) p 1 S.pages })
stand_stored pages harts words S i v p old = record {
  stands = record {
    size = old.stands.size;
    owners = record {
      page_count = length_change (word_stored i v) p 1 S.pages ∙ old.stands.owners.page_count;
      hart_count = old.stands.owners.hart_count;
      page = λ q below. elim (change_cases (word_stored i v) p 1 S.pages q) [
        | inl same ↦ subst (PageStands harts _ _ (maps_of S q) (get_or words q 0)) (sym same) (old.stands.owners.page q below)
        | inr other ↦ subst (PageStands harts _ _ (maps_of S q) (get_or words q 0)) (sym other) (page_stored harts _ _ (maps_of S q) (get_or words q 0) i v (page_at S.pages q) (old.stands.owners.page q below))
      ];
      unanswered = old.stands.owners.unanswered;
    };
    tables = λ q j below small e. old.stands.tables q j below small (elim (change_cases (word_stored i v) p 1 S.pages q) [
      | inl same ↦ sym (ap is_table same) ∙ e
      | inr other ↦ sym (table_stored i v (page_at S.pages q)) ∙ sym (ap is_table other) ∙ e
    ]);
    unused = old.stands.unused;
    seats = old.stands.seats;
  };
  within = old.within;
}

frame_stored : (S : State) (h : ℕ) (f : List ℕ) (i v : ℕ) (o : Owner) → may_use h o ≡ true → FrameStands S f o → FrameStands S (set f i v) (word_stored i v o)
frame_stored S h f i v Free may stands = absurd (false≢true may)
frame_stored S h f i v (Given tvm purpose) may stands = absurd (false≢true may)
frame_stored S h f i v _ may stands = ap (λ x. set x i v) stands

frames_stored : (frames : List (List ℕ)) (S : State) (h i v p : ℕ) → may_use h (page_at S.pages p) ≡ true → p < length frames → FramesStand frames S → FramesStand (with_word frames p i v) (record S { pages = change (word_stored i v) p 1 S.pages })
frames_stored frames S h i v p may below old =
    let new : List (List ℕ) = with_word frames p i v in
    let size : length new ≡ length frames = length-set frames p (set (frame frames p) i v) in
    let board = old.count in
    record {
      count = size ∙ old.count ∙ sym (length_change (word_stored i v) p 1 S.pages);
      frame = λ q low. elim (cases_eq q p) [
        | inl e ↦
            subst (λ k. FrameStands S (get_or new k []) (page_at (change (word_stored i v) p 1 S.pages) k)) (sym e)
            (subst (λ f. FrameStands S f (page_at (change (word_stored i v) p 1 S.pages) p)) (sym (get_or-set_same frames p (set (frame frames p) i v) [] below))
            (subst (FrameStands S (set (frame frames p) i v)) (sym (change_inside (word_stored i v) p 1 S.pages p (omega arith) (omega arith) (omega arith)))
            (frame_stored S h (frame frames p) i v (page_at S.pages p) may (old.frame p below))))
        | inr ne ↦
            subst (λ f. FrameStands S f (page_at (change (word_stored i v) p 1 S.pages) q)) (sym (get_or-set_other frames p q (set (frame frames p) i v) [] ne))
            (subst (FrameStands S (get_or frames q [])) (sym (change_outside (word_stored i v) p 1 S.pages q (apart q ne)))
            (old.frame q (omega arith)))
      ];
    }
  where
    apart : (q : ℕ) → q ≢ p → (q < p) ⊎ (p + 1 ≤ q)
    apart q ne = elim (cases_lt q p) [ inl less ↦ inl less | inr more ↦ inr (omega arith) ]

pub store_stands : (pages harts : ℕ) (words : List ℕ) (S : State) (h addr value : ℕ) (r : Reach) → Stand pages harts words S → Stand pages harts words (host_done S h (stored_event addr value r))
store_stands pages harts words S h addr value reach.Absent old = old
store_stands pages harts words S h addr value _ old = stand_stored pages harts words S (word_place addr) value (page_of addr) old

pub store_frames : (frames : List (List ℕ)) (S : State) (h addr value : ℕ) (r : Reach) → MayReach S h (page_of addr) r → page_of addr < length frames → FramesStand frames S → FramesStand (frames_by r frames (with_word frames (page_of addr) (word_place addr) value)) (host_done S h (stored_event addr value r))
store_frames frames S h addr value reach.Absent may below old = old
store_frames frames S h addr value _ may below old = frames_stored frames S h (word_place addr) value (page_of addr) may below old

-- ---- calls

-- a hart whose next line is a call has no walk that it did not use
unwalked : (script : ScriptValue) (H : List Entry) (held : HartValue) (l : ScriptLine) → Fits script H held → next_line script held.hart held.ended ≡ Some l → accessed_page l.line ≡ None → held.walked ≡ None
unwalked script H held l fits next none = go held.walked fits.walk
  where
    never : (t : Target) → IsSought script H held.hart t → ⊥
    never t is = none-some t (sym (aim_of_none l.line none) ∙ aim_is script H held.hart held.ended fits.counts l next t is)

    unfit : (target : Target) (w : Walked) → WalkFits script H held.hart target w → ⊥
    unfit target (walks.Found page) f = never target f.0
    unfit target (walks.Missing word) f = never target f

    go : (noted : Option Noted) → UnusedFits script H held.hart noted → noted ≡ None
    go None f = refl
    go (Some noted) f = absurd (unfit noted.target noted.walked f)

call_rings : (S : State) (h : ℕ) (call : HostCall) (accepted : Bool) (t : Tlb) → rings_left call accepted (rings_of t) ≡ rings_of (emptied_by (cond accepted (rule S h call).forgets Keeps) t)
call_rings S h calls.GlobalFence true t = refl
call_rings S h calls.LocalFence true t = refl
call_rings S h (calls.Run u v fuel) true t = refl
call_rings S h _ true t = refl
call_rings S h _ false t = refl

pub call_rightly : (script : ScriptValue) (H : List Entry) (held : HartValue) (l : ScriptLine) (call : HostCall) → Fits script H held → next_line script held.hart held.ended ≡ Some l → l.line ≡ lines.Call call → (reply : Reply) → reply ≡ reply_to (after script H) held.hart call → (rings : HartRings) → rings ≡ rings_left call (is_success reply.status) held.rings → IsRightly script H held.hart (lines.Call call) rings (events.Call call reply)
call_rightly script H held l call fits next is reply answered rings left =
    let none = unwalked script H held l fits next (ap accessed_page is) in
    let t = tlb script H held.hart in
    let all : held.rings ≡ rings_of t = fits.rings ∙ ap (walked_rings (rings_of t)) none in
    record {
      takes = ap (λ r. events.Call call r) answered;
      reached = tt;
      rings_are = left ∙ ap (rings_left call (is_success reply.status)) all ∙ call_rings (after script H) held.hart call (is_success reply.status) t;
    }
