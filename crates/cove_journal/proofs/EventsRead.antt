-- The words of an entry that is readable name that entry.
use Rattle.std.proofs.Common.{◌≡◌, ℕ, ◌+◌, ◌*◌, ◌/◌, ◌^◌, ◌<◌, ◌≤◌, true, false, not, nat_lt, List, [], ◌∷◌, ◌++◌, length, map, Option, Some, option_map, option_and_then, codes, bytes_eq, refl, sym, ap, ◌∙◌, arith}
use Rattle.std.specs.Int.{to_be_bytes, w64}
use Rattle.std.specs.List.{list_all}
use Rattle.std.proofs.lemmas.Bool.{and_parts, and_from, eqb-true, lt-ltb, ltb-true, ne_eqb}
use Rattle.std.proofs.lemmas.List.{append-nil, append_assoc, length-append}
use Rattle.std.proofs.lemmas.List.Folds.{list_all-append}
use Rattle.cove_base.specs.CallWords.{arguments, call_of, word_of}
use Rattle.cove_base.specs.EventWords.{act_arguments, act_word, event_words, exit_words, how_text, reply_words, status_text, word_text}
use Rattle.cove_base.specs.Numbers.{is_u64, natural_text, number_of, number_text}
use Rattle.cove_base.specs.Statuses.{is_success}
use Rattle.cove_base.specs.Text.{text_words}
use Rattle.cove_model.specs.Machine.{GuestAct, HostCall, Convert, Entry, Event, How, Hit, Walk, Reply, Status, Success}
use Rattle.cove_base.specs.declared.calls.GuestAct.TheVariants as acts
use Rattle.cove_base.specs.declared.events.Event.TheVariants as events
use Rattle.cove_base.specs.declared.events.Exit.{Exit}
use Rattle.cove_base.specs.declared.events.Exit.TheVariants as exits
use Rattle.cove_base.specs.declared.numbers.Gpn.{Gpn}
use Rattle.cove_base.proofs.CallLemmas.{call_of-word_of, is_word-word_of, length-arguments}
use Rattle.cove_base.proofs.JoinedWords.{is_word, text_words-joined}
use Rattle.cove_model.specs.Reports.{entry_line, entry_words}
use Rattle.cove_text.proofs.JoinedWords.{is_word-hex_text, is_word-natural_text, is_word-number_text, is_word-numbers}
use Rattle.cove_text.proofs.Numerals.{number_of-natural_text, number_of-number_text}
use Rattle.cove_journal.specs.Forms.{has_line, is_act_shown, is_event_shown, is_exit_shown, is_fault_cause, is_trap_cause}
use Rattle.cove_base.specs.EventSizes.{is_sized}
use Rattle.cove_journal.specs.Journals.{is_readable}
use Rattle.cove_journal.specs.Reading.{act_of, acted_of, answer_of, answered_of, arguments_of, call_event_of, entry_named, event_named, fault_of, how_of, load_named, made_of, memory_word_of, status_named, store_named, trap_of}
use Rattle.cove_journal.proofs.HexRead.{bytes_are_small, memory_word_is_no_fault, memory_word_is_read, quote_is_read, word_bytes_are_small}

-- ---- words

how_is_word : (how : How) → is_word (how_text how) ≡ true
how_is_word Hit = refl
how_is_word Walk = refl

status_is_word : (status : Status) → is_word (status_text status) ≡ true
status_is_word Success = refl
status_is_word _ = refl

act_is_word : (act : GuestAct) → is_word (act_word act) ≡ true
act_is_word acts.Other = refl
act_is_word _ = refl

reply_is_words : (reply : Reply) → list_all is_word (reply_words reply) ≡ true
reply_is_words reply = and_from _ _ (status_is_word reply.status) (and_from _ _ (is_word-number_text reply.value) refl)

-- numbers, and an answer after them
answered_is_words : (ns : List ℕ) (reply : Reply) → list_all is_word (map number_text ns ++ reply_words reply) ≡ true
answered_is_words ns reply =
    list_all-append is_word (map number_text ns) (reply_words reply) ∙ and_from _ _ (is_word-numbers ns) (reply_is_words reply)

exit_is_words : (exit : Exit) → list_all is_word (exit_words exit) ≡ true
exit_is_words (exits.Fault cause page) = and_from _ _ (is_word-natural_text cause) (and_from _ _ (is_word-number_text (page.0 * 4096)) refl)
exit_is_words (exits.Trap cause) = and_from _ _ (is_word-natural_text cause) refl
exit_is_words _ = refl

event_is_words : (event : Event) → is_event_shown event ≡ true → is_sized event ≡ true → list_all is_word (event_words event) ≡ true
event_is_words (events.Call call reply) shown fits = and_from _ _ (is_word-word_of call) (answered_is_words (arguments call) reply)
event_is_words (events.Load addr how value) shown fits =
    and_from _ _ (is_word-number_text addr) (and_from _ _ (how_is_word how)
    (and_from _ _ (is_word-hex_text (to_be_bytes w64 value) (omega arith) (word_bytes_are_small value)) refl))
event_is_words (events.LoadFault addr) shown fits = and_from _ _ (is_word-number_text addr) refl
event_is_words (events.Store addr value how) shown fits =
    and_from _ _ (is_word-number_text addr) (and_from _ _ (is_word-number_text value) (and_from _ _ (how_is_word how) refl))
event_is_words (events.StoreFault addr value) shown fits = and_from _ _ (is_word-number_text addr) (and_from _ _ (is_word-number_text value) refl)
event_is_words (events.Fetch how) shown fits = and_from _ _ (how_is_word how) refl
event_is_words events.Exec shown fits = refl
event_is_words (events.Access how) shown fits = and_from _ _ (how_is_word how) refl
event_is_words (events.Guest act reply) shown fits = and_from _ _ (act_is_word act) (answered_is_words (act_arguments act) reply)
event_is_words (events.Evidence quote) shown fits =
    let len = eqb-true (length quote) 360 shown in
    and_from _ _ (is_word-hex_text quote (omega (arith, len)) (bytes_are_small quote fits)) refl
event_is_words (events.Exit exit) shown fits = exit_is_words exit

pub entry_is_words : (entry : Entry) → is_readable entry ≡ true → list_all is_word (entry_words entry) ≡ true
entry_is_words entry readable =
    let parts = and_parts (has_line entry) (is_sized entry.event) readable in
    and_from _ _ (is_word-natural_text entry.hart.0)
    (event_is_words entry.event (and_parts (nat_lt entry.hart.0 8) (is_event_shown entry.event) parts.0).1 parts.1)

-- ---- parts of events

number_is_read : (n : ℕ) → is_u64 n ≡ true → number_of (number_text n) ≡ Some n
number_is_read n fits = number_of-number_text n (ltb-true n (2 ^ 64) fits)

how_is_read : (how : How) → how_of (how_text how) ≡ Some how
how_is_read Hit = refl
how_is_read Walk = refl

status_is_read : (status : Status) → status_named (status_text status) ≡ Some status
status_is_read Success = refl
status_is_read _ = refl

act_is_read : (act : GuestAct) → act_of (act_word act) (act_arguments act) ≡ Some act
act_is_read acts.Other = refl
act_is_read _ = refl

few_arguments : (act : GuestAct) → length (act_arguments act) ≤ 5
few_arguments acts.Other = omega arith
few_arguments _ = omega arith

answer_from : (s v : List ℕ) (status : Status) (value : ℕ) → status_named s ≡ Some status → number_of v ≡ Some value
    → answer_of (s ∷ v ∷ []) ≡ Some (record { status = status; value = value }, [])
answer_from s v status value es ev = rw (es, ev) refl

-- the words of an answer after `=`
abbrev answer_words : Reply → List (List ℕ)
answer_words reply = status_text reply.status ∷ number_text reply.value ∷ []

answer_is_read : (reply : Reply) → is_u64 reply.value ≡ true → answer_of (answer_words reply) ≡ Some (reply, [])
answer_is_read reply fits =
    answer_from (status_text reply.status) (number_text reply.value) reply.status reply.value
    (status_is_read reply.status) (number_is_read reply.value fits)

argument_from : (args : List ℕ) (word : List ℕ) (words : List (List ℕ)) (n : ℕ)
    → bytes_eq word (codes "=") ≡ false → length args < 5 → number_of word ≡ Some n
    → arguments_of args (word ∷ words) ≡ arguments_of (args ++ n ∷ []) words
argument_from args word words n other room is =
    rw (other, ne_eqb (length args) 5 (λ e. omega (arith, e, room)), is) refl

-- arguments before `=` are read
arguments_are_read : (args ns : List ℕ) (rest : List (List ℕ)) → length args + length ns ≤ 5 → list_all is_u64 ns ≡ true
    → arguments_of args (map number_text ns ++ (codes "=" ∷ rest)) ≡ Some (args ++ ns, rest)
arguments_are_read args [] rest room fits = ap (λ (ns : List ℕ). Some (ns, rest)) (sym (append-nil args))
arguments_are_read args (n ∷ ns) rest room fits =
    let parts = and_parts (is_u64 n) (list_all is_u64 ns) fits in
    let longer : length (args ++ n ∷ []) ≡ length args + 1 = length-append args (n ∷ []) in
    argument_from args (number_text n) (map number_text ns ++ (codes "=" ∷ rest)) n refl (omega arith) (number_is_read n parts.0)
    ∙ arguments_are_read (args ++ n ∷ []) ns rest (omega (arith, longer)) parts.1
    ∙ ap (λ (ns : List ℕ). Some (ns, rest)) (append_assoc args (n ∷ []) ns)

-- ---- calls

call_is_asked : (call : HostCall) (words : List (List ℕ)) → event_named (word_of call ∷ words) ≡ call_event_of (word_of call) words
call_is_asked (Convert base n) words = refl
call_is_asked _ words = refl

call_from : (word : List ℕ) (words rest : List (List ℕ)) (args : List ℕ) (call : HostCall) (reply : Reply)
    → arguments_of [] words ≡ Some (args, rest) → call_of word args ≡ Some call → answer_of rest ≡ Some (reply, [])
    → call_event_of word words ≡ Some (events.Call call reply)
call_from word words rest args call reply ea ec er =
    ap (λ (o : Option (List ℕ × List (List ℕ))). option_and_then (λ parts. option_and_then (λ c. made_of c parts.1) (call_of word parts.0)) o) ea
    ∙ ap (λ (o : Option HostCall). option_and_then (λ c. made_of c rest) o) ec
    ∙ ap (λ (o : Option (Reply × List (List ℕ))). option_map (λ parts. events.Call call parts.0) o) er

call_event_is_read : (call : HostCall) (reply : Reply) → is_sized (events.Call call reply) ≡ true
    → event_named (event_words (events.Call call reply)) ≡ Some (events.Call call reply)
call_event_is_read call reply fits =
    let parts = and_parts (list_all is_u64 (arguments call)) (is_u64 reply.value) fits in
    let few = length-arguments call in
    call_is_asked call (map number_text (arguments call) ++ reply_words reply)
    ∙ call_from (word_of call) (map number_text (arguments call) ++ reply_words reply) (answer_words reply) (arguments call) call reply
    (arguments_are_read [] (arguments call) (answer_words reply) (omega (arith, few)) parts.0) (call_of-word_of call) (answer_is_read reply parts.1)

-- ---- guests

refused_evidence : (status : Status) (value : ℕ) → not (is_success status) ≡ true
    → answered_of acts.Evidence (record { status = status; value = value }) [] ≡ Some (events.Guest acts.Evidence (record { status = status; value = value }))
refused_evidence Success value shown = absurd cc
refused_evidence _ value shown = refl

answered_is_read : (act : GuestAct) (reply : Reply) → is_act_shown act reply.status ≡ true → answered_of act reply [] ≡ Some (events.Guest act reply)
answered_is_read acts.Evidence reply shown = refused_evidence reply.status reply.value shown
answered_is_read _ reply shown = refl

guest_is_read : (act : GuestAct) (reply : Reply) → is_act_shown act reply.status ≡ true → is_sized (events.Guest act reply) ≡ true
    → event_named (event_words (events.Guest act reply)) ≡ Some (events.Guest act reply)
guest_is_read act reply shown fits =
    let parts = and_parts (list_all is_u64 (act_arguments act)) (is_u64 reply.value) fits in
    let few = few_arguments act in
    ap (λ (o : Option (List ℕ × List (List ℕ))). option_and_then (λ p. option_and_then (λ a. acted_of a p.1) (act_of (act_word act) p.0)) o)
    (arguments_are_read [] (act_arguments act) (answer_words reply) (omega (arith, few)) parts.0)
    ∙ ap (λ (o : Option GuestAct). option_and_then (λ a. acted_of a (answer_words reply)) o) (act_is_read act)
    ∙ ap (λ (o : Option (Reply × List (List ℕ))). option_and_then (λ p. answered_of act p.0 p.1) o) (answer_is_read reply parts.1)
    ∙ answered_is_read act reply shown

-- ---- exits

fault_from : (c a : List ℕ) (cause addr page : ℕ) → number_of c ≡ Some cause → number_of a ≡ Some addr → nat_lt cause 256 ≡ true → addr / 4096 ≡ page
    → fault_of (c ∷ a ∷ []) ≡ Some (exits.Fault cause (record { 0 = page }))
fault_from c a cause addr page ec ea small at = rw (ec, ea, small, at) refl

trap_from : (c : List ℕ) (cause : ℕ) → number_of c ≡ Some cause → nat_lt cause 256 ≡ true → trap_of (c ∷ []) ≡ Some (exits.Trap cause)
trap_from c cause ec small = rw (ec, small) refl

fault_cause_is_small : (cause : ℕ) → is_fault_cause cause ≡ true → cause < 256
fault_cause_is_small cause e = grind (arith)

trap_cause_is_small : (cause : ℕ) → is_trap_cause cause ≡ true → cause < 256
trap_cause_is_small cause e = grind (arith)

fault_is_read : (cause : ℕ) (page : Gpn) → is_exit_shown (exits.Fault cause page) ≡ true
    → fault_of (natural_text cause ∷ number_text (page.0 * 4096) ∷ []) ≡ Some (exits.Fault cause page)
fault_is_read cause page shown =
    let parts = and_parts (is_fault_cause cause) (nat_lt page.0 (2 ^ 52)) shown in
    let small = fault_cause_is_small cause parts.0 in
    let near : page.0 < 2 ^ 52 = ltb-true page.0 (2 ^ 52) parts.1 in
    fault_from (natural_text cause) (number_text (page.0 * 4096)) cause (page.0 * 4096) page.0
    (number_of-natural_text cause (omega (arith, small))) (number_of-number_text (page.0 * 4096) (omega (arith, near)))
    (lt-ltb cause 256 small) (omega arith)

exit_is_read : (exit : Exit) → is_exit_shown exit ≡ true → event_named (event_words (events.Exit exit)) ≡ Some (events.Exit exit)
exit_is_read (exits.Fault cause page) shown = ap (λ (o : Option Exit). option_map (λ e. events.Exit e) o) (fault_is_read cause page shown)
exit_is_read (exits.Trap cause) shown =
    let small = trap_cause_is_small cause shown in
    ap (λ (o : Option Exit). option_map (λ e. events.Exit e) o)
    (trap_from (natural_text cause) cause (number_of-natural_text cause (omega (arith, small))) (lt-ltb cause 256 small))
exit_is_read _ shown = refl

-- ---- accesses

load_from : (a h v : List ℕ) (addr : ℕ) (how : How) (value : ℕ)
    → number_of a ≡ Some addr → how_of h ≡ Some how → memory_word_of v ≡ Some value → bytes_eq v (codes "fault") ≡ false
    → load_named (a ∷ h ∷ v ∷ []) ≡ Some (events.Load addr how value)
load_from a h v addr how value ea eh ev no_fault = rw (ea, no_fault, eh, ev) refl

load_fault_from : (a : List ℕ) (addr : ℕ) → number_of a ≡ Some addr → load_named (a ∷ codes "walk" ∷ codes "fault" ∷ []) ≡ Some (events.LoadFault addr)
load_fault_from a addr ea = rw ea refl

store_from : (a v h : List ℕ) (addr value : ℕ) (how : How) → number_of a ≡ Some addr → number_of v ≡ Some value → how_of h ≡ Some how
    → store_named (a ∷ v ∷ h ∷ codes "ok" ∷ []) ≡ Some (events.Store addr value how)
store_from a v h addr value how ea ev eh = rw (ea, ev, eh) refl

store_fault_from : (a v : List ℕ) (addr value : ℕ) → number_of a ≡ Some addr → number_of v ≡ Some value
    → store_named (a ∷ v ∷ codes "walk" ∷ codes "fault" ∷ []) ≡ Some (events.StoreFault addr value)
store_fault_from a v addr value ea ev = rw (ea, ev) refl

fetch_is_read : (how : How) → event_named (event_words (events.Fetch how)) ≡ Some (events.Fetch how)
fetch_is_read Hit = refl
fetch_is_read Walk = refl

access_is_read : (how : How) → event_named (event_words (events.Access how)) ≡ Some (events.Access how)
access_is_read Hit = refl
access_is_read Walk = refl

-- ---- events and entries

event_is_read : (event : Event) → is_event_shown event ≡ true → is_sized event ≡ true → event_named (event_words event) ≡ Some event
event_is_read (events.Call call reply) shown fits = call_event_is_read call reply fits
event_is_read (events.Load addr how value) shown fits =
    let parts = and_parts (is_u64 addr) (is_u64 value) fits in
    load_from (number_text addr) (how_text how) (word_text value) addr how value
    (number_is_read addr parts.0) (how_is_read how) (memory_word_is_read value parts.1) (memory_word_is_no_fault value)
event_is_read (events.LoadFault addr) shown fits = load_fault_from (number_text addr) addr (number_is_read addr fits)
event_is_read (events.Store addr value how) shown fits =
    let parts = and_parts (is_u64 addr) (is_u64 value) fits in
    store_from (number_text addr) (number_text value) (how_text how) addr value how
    (number_is_read addr parts.0) (number_is_read value parts.1) (how_is_read how)
event_is_read (events.StoreFault addr value) shown fits =
    let parts = and_parts (is_u64 addr) (is_u64 value) fits in
    store_fault_from (number_text addr) (number_text value) addr value (number_is_read addr parts.0) (number_is_read value parts.1)
event_is_read (events.Fetch how) shown fits = fetch_is_read how
event_is_read events.Exec shown fits = refl
event_is_read (events.Access how) shown fits = access_is_read how
event_is_read (events.Guest act reply) shown fits = guest_is_read act reply shown fits
event_is_read (events.Evidence quote) shown fits =
    ap (λ (o : Option (List ℕ)). option_map (λ q. events.Evidence q) o)
    (quote_is_read quote (eqb-true (length quote) 360 shown) (bytes_are_small quote fits))
event_is_read (events.Exit exit) shown fits = exit_is_read exit shown

entry_from : (h : List ℕ) (words : List (List ℕ)) (hart : ℕ) (event : Event)
    → number_of h ≡ Some hart → nat_lt hart 256 ≡ true → event_named words ≡ Some event
    → entry_named (h ∷ words) ≡ Some (record { hart = record { 0 = hart }; event = event })
entry_from h words hart event eh small ee = rw (eh, small, ee) refl

-- an entry that is readable is read back from the words of its line
pub entry_is_read : (entry : Entry) → is_readable entry ≡ true → entry_named (text_words (entry_line entry)) ≡ Some entry
entry_is_read entry readable =
    let both = and_parts (has_line entry) (is_sized entry.event) readable in
    let parts = and_parts (nat_lt entry.hart.0 8) (is_event_shown entry.event) both.0 in
    let small : entry.hart.0 < 8 = ltb-true entry.hart.0 8 parts.0 in
    ap entry_named (text_words-joined (entry_words entry) (entry_is_words entry readable))
    ∙ entry_from (natural_text entry.hart.0) (event_words entry.event) entry.hart.0 entry.event
    (number_of-natural_text entry.hart.0 (omega (arith, small))) (lt-ltb entry.hart.0 256 (omega arith)) (event_is_read entry.event parts.1 both.1)
