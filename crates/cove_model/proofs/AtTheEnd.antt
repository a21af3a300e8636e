-- What a history gives, one entry later.
use Rattle.cove_model.specs.Machine.{ScriptValue, Entry, Event, Line, EachEntry, Legal, after, after_entry, own, told, Seat, State, ended_by, opening, Allows, after_event, asked, done, line_ended, Tlb, held_after, held_from, nothing_held, renewed, tlb}
use Rattle.cove_model.proofs.Frames.{framed_done}
use Rattle.std.proofs.Common.{List, None, Option, Some, [], ap, append-nil, append_assoc, arith, eq-eqb, eqb, filter_map, fold, get_or, get_or-set_other, get_or-set_same, length, length-set, ne_eqb, refl, subst, sym, ℕ, ◌++◌, ◌+◌, ◌<◌, ◌∙◌, ◌∷◌, ◌≡◌, ◌≢◌}
use Rattle.std.proofs.lemmas.Bool.{cond-false, cond-true}
use Rattle.std.proofs.lemmas.List.Elements.{filter-append, filter_map-append}
use Rattle.std.proofs.lemmas.List.Sums.{fold_push}
use Rattle.std.specs.List.{cons_option}

pub after_push : (script : ScriptValue) (history : List Entry) (entry : Entry) → after script (history ++ entry ∷ []) ≡ after_entry (after script history) entry
after_push script history entry = fold_push after_entry (opening script) history entry

-- ---- the ended lines

pub ended_length : (S : State) (h : ℕ) (event : Event) → length (after_event S h event).ended ≡ length S.ended
ended_length S h event = go ((done S h event).seats h) ∙ ap length (framed_done S h event).ended
  where
    go : (o : Option Seat) → length (line_ended h o (done S h event)).ended ≡ length (done S h event).ended
    go None = length-set (done S h event).ended h (ended_by (done S h event) h + 1)
    go (Some seat) = refl

-- a hart that is outside after its event has ended a line
pub ended_own : (S : State) (h : ℕ) (event : Event) → h < length S.ended → (done S h event).seats h ≡ None → ended_by (after_event S h event) h ≡ ended_by S h + 1
ended_own S h event lt outside =
    let e = (framed_done S h event).ended in
    let l = ap length e in
    let within : h < length (done S h event).ended = omega arith in
    ap (λ o. ended_by (line_ended h o (done S h event)) h) outside
    ∙ get_or-set_same (done S h event).ended h (ended_by (done S h event) h + 1) 0 within ∙ ap (λ xs. get_or xs h 0 + 1) e

-- and one that is inside has not
pub ended_inside : (S : State) (h : ℕ) (event : Event) (seat : Seat) → (done S h event).seats h ≡ Some seat → ended_by (after_event S h event) h ≡ ended_by S h
ended_inside S h event seat inside =
    ap (λ o. ended_by (line_ended h o (done S h event)) h) inside ∙ ap (λ xs. get_or xs h 0) (framed_done S h event).ended

pub ended_other : (S : State) (h k : ℕ) (event : Event) → k ≢ h → ended_by (after_event S h event) k ≡ ended_by S k
ended_other S h k event ne = go ((done S h event).seats h) ∙ ap (λ xs. get_or xs k 0) (framed_done S h event).ended
  where
    go : (o : Option Seat) → ended_by (line_ended h o (done S h event)) k ≡ ended_by (done S h event) k
    go None = get_or-set_other (done S h event).ended h k (ended_by (done S h event) h + 1) 0 ne
    go (Some seat) = refl

-- the end of a line changes nothing else
pub line_pages : (h : ℕ) (o : Option Seat) (S : State) → (line_ended h o S).pages ≡ S.pages
line_pages h None S = refl
line_pages h (Some seat) S = refl

pub line_seats : (h : ℕ) (o : Option Seat) (S : State) → (line_ended h o S).seats ≡ S.seats
line_seats h None S = refl
line_seats h (Some seat) S = refl

pub line_tvms : (h : ℕ) (o : Option Seat) (S : State) → (line_ended h o S).tvms ≡ S.tvms
line_tvms h None S = refl
line_tvms h (Some seat) S = refl

pub line_harts : (h : ℕ) (o : Option Seat) (S : State) → (line_ended h o S).harts ≡ S.harts
line_harts h None S = refl
line_harts h (Some seat) S = refl

pub after_harts_same : (S : State) (h : ℕ) (event : Event) → (after_event S h event).harts ≡ S.harts
after_harts_same S h event = line_harts h ((done S h event).seats h) (done S h event) ∙ (framed_done S h event).harts

-- ---- facts of each entry

pub each_push : (P : List Entry → Entry → Type 0) (before history : List Entry) (entry : Entry) → EachEntry P before history → P (before ++ history) entry → EachEntry P before (history ++ entry ∷ [])
each_push P before [] entry all here = (subst (λ b. P b entry) (append-nil before) here, tt)
each_push P before (x ∷ history) entry all here =
    (all.0, each_push P (before ++ x ∷ []) history entry all.1 (subst (λ b. P b entry) (sym (append_assoc before (x ∷ []) history)) here))

pub each_front : (P : List Entry → Entry → Type 0) (before history : List Entry) (entry : Entry) → EachEntry P before (history ++ entry ∷ []) → EachEntry P before history
each_front P before [] entry all = tt
each_front P before (x ∷ history) entry all = (all.0, each_front P (before ++ x ∷ []) history entry all.1)

pub each_last : (P : List Entry → Entry → Type 0) (before history : List Entry) (entry : Entry) → EachEntry P before (history ++ entry ∷ []) → P (before ++ history) entry
each_last P before [] entry all = subst (λ b. P b entry) (sym (append-nil before)) all.0
each_last P before (x ∷ history) entry all =
    subst (λ b. P b entry) (append_assoc before (x ∷ []) history) (each_last P (before ++ x ∷ []) history entry all.1)

-- an entry anywhere in a history
pub each_at : (P : List Entry → Entry → Type 0) (front before : List Entry) (entry : Entry) (rest : List Entry) → EachEntry P front (before ++ entry ∷ rest) → P (front ++ before) entry
each_at P front [] entry rest all = subst (λ b. P b entry) (sym (append-nil front)) all.0
each_at P front (x ∷ before) entry rest all =
    subst (λ b. P b entry) (append_assoc front (x ∷ []) before) (each_at P (front ++ x ∷ []) before entry rest all.1)

-- induction from the end
module _ (Q : List Entry → Type 0) (next : (history : List Entry) (entry : Entry) → Q history → Q (history ++ entry ∷ [])) where
  from_front : (front history : List Entry) → Q front → Q (front ++ history)
  from_front front [] q = subst Q (sym (append-nil front)) q
  from_front front (x ∷ history) q = subst Q (append_assoc front (x ∷ []) history) (from_front (front ++ x ∷ []) history (next front x q))

  pub from_end : Q [] → (history : List Entry) → Q history
  from_end q history = from_front [] history q

abbrev pub Allowed : ScriptValue → List Entry → Entry → Type 0
Allowed script before entry = Allows script (after script before) entry.hart.0 entry.event

pub legal_push : (script : ScriptValue) (history : List Entry) (entry : Entry) → Legal script history → Allowed script history entry → Legal script (history ++ entry ∷ [])
legal_push script history entry legal here = each_push (Allowed script) [] history entry legal here

pub legal_front : (script : ScriptValue) (history : List Entry) (entry : Entry) → Legal script (history ++ entry ∷ []) → Legal script history
legal_front script history entry legal = each_front (Allowed script) [] history entry legal

pub legal_last : (script : ScriptValue) (history : List Entry) (entry : Entry) → Legal script (history ++ entry ∷ []) → Allowed script history entry
legal_last script history entry legal = each_last (Allowed script) [] history entry legal

pub legal_at : (script : ScriptValue) (before : List Entry) (entry : Entry) (rest : List Entry) → Legal script (before ++ entry ∷ rest) → Allowed script before entry
legal_at script before entry rest legal = each_at (Allowed script) [] before entry rest legal

-- ---- own entries, and the lines that they answer

pub own_alone : (entry : Entry) (h : ℕ) → (entry.hart.0 ≡ h → ⊥) → own (entry ∷ []) h ≡ []
own_alone entry h ne = cond-false (eqb entry.hart.0 h) (entry ∷ []) [] (ne_eqb entry.hart.0 h ne)

pub own_same : (history : List Entry) (entry : Entry) (h : ℕ) → entry.hart.0 ≡ h → own (history ++ entry ∷ []) h ≡ own history h ++ entry ∷ []
own_same history entry h e =
    filter-append (λ x. eqb x.hart.0 h) history (entry ∷ [])
    ∙ ap (λ xs. own history h ++ xs) (cond-true (eqb entry.hart.0 h) (entry ∷ []) [] (eq-eqb entry.hart.0 h e))

pub own_other : (history : List Entry) (entry : Entry) (h : ℕ) → (entry.hart.0 ≡ h → ⊥) → own (history ++ entry ∷ []) h ≡ own history h
own_other history entry h e =
    filter-append (λ x. eqb x.hart.0 h) history (entry ∷ [])
    ∙ ap (λ xs. own history h ++ xs) (cond-false (eqb entry.hart.0 h) (entry ∷ []) [] (ne_eqb entry.hart.0 h e))
    ∙ append-nil (own history h)

pub told_same : (history : List Entry) (entry : Entry) (h : ℕ) (line : Line) → entry.hart.0 ≡ h → asked entry.event ≡ Some line → told (history ++ entry ∷ []) h ≡ told history h ++ line ∷ []
told_same history entry h line e a =
    ap (filter_map (λ x. asked x.event)) (own_same history entry h e)
    ∙ filter_map-append (λ x. asked x.event) (own history h) (entry ∷ [])
    ∙ ap (λ o. told history h ++ cons_option o []) a

pub told_other : (history : List Entry) (entry : Entry) (h : ℕ) → (entry.hart.0 ≡ h → ⊥) → told (history ++ entry ∷ []) h ≡ told history h
told_other history entry h e = ap (filter_map (λ x. asked x.event)) (own_other history entry h e)

-- ---- translations

held_push : (h : ℕ) (S : State) (held : Tlb) (history : List Entry) (entry : Entry) → held_from h S held (history ++ entry ∷ []) ≡ held_after h (fold after_entry S history) (held_from h S held history) entry
held_push h S held [] entry = refl
held_push h S held (x ∷ history) entry = held_push h (after_entry S x) (held_after h S held x) history entry

pub tlb_push : (script : ScriptValue) (history : List Entry) (entry : Entry) (h : ℕ) → tlb script (history ++ entry ∷ []) h ≡ held_after h (after script history) (tlb script history h) entry
tlb_push script history entry h = held_push h (opening script) nothing_held history entry

pub tlb_same : (script : ScriptValue) (history : List Entry) (entry : Entry) (h : ℕ) → entry.hart.0 ≡ h → tlb script (history ++ entry ∷ []) h ≡ renewed (after script history) h (tlb script history h) entry.event
tlb_same script history entry h e = tlb_push script history entry h ∙ cond-true (eqb entry.hart.0 h) _ (tlb script history h) (eq-eqb entry.hart.0 h e)

pub tlb_other : (script : ScriptValue) (history : List Entry) (entry : Entry) (h : ℕ) → (entry.hart.0 ≡ h → ⊥) → tlb script (history ++ entry ∷ []) h ≡ tlb script history h
tlb_other script history entry h e = tlb_push script history entry h ∙ cond-false (eqb entry.hart.0 h) _ (tlb script history h) (ne_eqb entry.hart.0 h e)
