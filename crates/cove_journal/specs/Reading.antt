-- The words of a line, read from left to right without a look at their spelling.
use Rattle.std.specs.Prelude.{ℕ, ◌/◌, ◌==◌, ◌&&◌, nat_lt, List, [], ◌∷◌, ◌++◌, length, slice_index, find, Option, Some, None, option_map, option_and_then, codes, bytes_eq, if◌then◌else◌}
use Rattle.std.specs.Int.{from_be_bytes, w64}
use Rattle.std.specs.Result.{result_ok}
use Rattle.cove_base.specs.CallWords.{call_of}
use Rattle.cove_base.specs.EventWords.{act_arguments, act_word, how_text, status_text}
use Rattle.cove_base.specs.Numbers.{number_of}
use Rattle.cove_base.specs.Statuses.{is_success}
use Rattle.cove_base.specs.declared.calls.GuestAct.{GuestAct}
use Rattle.cove_base.specs.declared.calls.GuestAct.TheVariants as acts
use Rattle.cove_base.specs.declared.calls.HostCall.{HostCall}
use Rattle.cove_base.specs.declared.events.Entry.{Entry}
use Rattle.cove_base.specs.declared.events.Event.{Event}
use Rattle.cove_base.specs.declared.events.Event.TheVariants as events
use Rattle.cove_base.specs.declared.events.Exit.{Exit}
use Rattle.cove_base.specs.declared.events.Exit.TheVariants as exits
use Rattle.cove_base.specs.declared.events.How.{How}
use Rattle.cove_base.specs.declared.events.How.TheVariants.{Hit, Walk}
use Rattle.cove_base.specs.declared.statuses.Reply.{Reply}
use Rattle.cove_base.specs.declared.statuses.Status.{Status}
use Rattle.cove_base.specs.declared.statuses.Status.TheVariants.{Success, Failed, NotSupported, InvalidParam, Denied, InvalidAddress, AlreadyAvailable, AlreadyStarted, AlreadyStopped}
use Rattle.hex.specs.Hex.{decode_sized}

-- how an access came to its page
abbrev pub how_of : List ℕ → Option How
how_of word = find (λ how. bytes_eq word (how_text how)) (Hit ∷ Walk ∷ [])

-- the status of a code
abbrev pub status_named : List ℕ → Option Status
status_named word =
    find (λ status. bytes_eq word (status_text status))
    (Success ∷ Failed ∷ NotSupported ∷ InvalidParam ∷ Denied ∷ InvalidAddress ∷ AlreadyAvailable ∷ AlreadyStarted ∷ AlreadyStopped ∷ [])

-- 16 hex digits
abbrev pub memory_word_of : List ℕ → Option ℕ
memory_word_of word = option_map (from_be_bytes w64) (result_ok (decode_sized word 8))

-- an answer, its status and its value, and the words after it
abbrev pub answer_of : List (List ℕ) → Option (Reply × List (List ℕ))
answer_of (status ∷ value ∷ words) =
    option_and_then (λ s. option_map (λ v. (record { status = s; value = v }, words)) (number_of value)) (status_named status)
answer_of words = None

abbrev pub load_with : ℕ → List ℕ → List ℕ → Option Event
load_with addr how last =
    if bytes_eq last (codes "fault") then Some (events.LoadFault addr)
    else option_and_then (λ h. option_map (λ value. events.Load addr h value) (memory_word_of last)) (how_of how)

abbrev pub load_named : List (List ℕ) → Option Event
load_named (addr ∷ how ∷ last ∷ words) = option_and_then (λ a. load_with a how last) (number_of addr)
load_named words = None

abbrev pub store_with : ℕ → ℕ → List ℕ → List ℕ → Option Event
store_with addr value how last =
    if bytes_eq last (codes "fault") then Some (events.StoreFault addr value)
    else option_map (λ h. events.Store addr value h) (how_of how)

abbrev pub store_named : List (List ℕ) → Option Event
store_named (addr ∷ value ∷ how ∷ last ∷ words) =
    option_and_then (λ a. option_and_then (λ v. store_with a v how last) (number_of value)) (number_of addr)
store_named words = None

abbrev pub fetch_of : List (List ℕ) → Option Event
fetch_of [] = None
fetch_of (how ∷ words) = option_map (λ h. events.Fetch h) (how_of how)

abbrev pub exec_of : List (List ℕ) → Option Event
exec_of [] = Some events.Exec
exec_of (how ∷ words) = option_map (λ h. events.Access h) (how_of how)

-- the arguments up to `=`, five at most, and the words after it
abbrev pub arguments_of : (args : List ℕ) → List (List ℕ) → Option (List ℕ × List (List ℕ))
arguments_of args [] = None
arguments_of args (word ∷ words) =
    if bytes_eq word (codes "=") then Some (args, words)
    else if length args == 5 then None
    else option_and_then (λ n. arguments_of (args ++ n ∷ []) words) (number_of word)

-- every act of a guest, each with the first of these numbers as its arguments
abbrev pub acts_with : List ℕ → List GuestAct
acts_with args =
    let arg : ℕ → ℕ = λ i. slice_index args i in
    acts.Share (arg 0) (arg 1) ∷ acts.Unshare (arg 0) (arg 1) ∷ acts.Extend ∷ acts.Evidence
    ∷ acts.Allow (arg 0) ∷ acts.Deny (arg 0) ∷ acts.Other ∷ []

-- the act of a word and its arguments: none where the word is no act's or has another number of arguments
abbrev pub act_of : (word args : List ℕ) → Option GuestAct
act_of word args =
    find (λ act. length args == length (act_arguments act) && bytes_eq word (act_word act)) (acts_with args)

-- the 360 bytes of a quote
abbrev pub quote_of : List ℕ → Option (List ℕ)
quote_of word = result_ok (decode_sized word 360)

abbrev pub quoted_of : List (List ℕ) → Option Event
quoted_of [] = None
quoted_of (word ∷ words) = option_map (λ quote. events.Evidence quote) (quote_of word)

abbrev pub answered_of : GuestAct → Reply → List (List ℕ) → Option Event
answered_of acts.Evidence reply words = if is_success reply.status then quoted_of words else Some (events.Guest acts.Evidence reply)
answered_of act reply words = Some (events.Guest act reply)

-- an act's answer
abbrev pub acted_of : GuestAct → List (List ℕ) → Option Event
acted_of act words = option_and_then (λ parts. answered_of act parts.0 parts.1) (answer_of words)

abbrev pub guest_of : List (List ℕ) → Option Event
guest_of [] = None
guest_of (word ∷ words) =
    option_and_then (λ parts. option_and_then (λ act. acted_of act parts.1) (act_of word parts.0)) (arguments_of [] words)

abbrev pub fault_of : List (List ℕ) → Option Exit
fault_of (cause ∷ addr ∷ words) =
    option_and_then (λ c. option_and_then (λ a. if nat_lt c 256 then Some (exits.Fault c (record { 0 = a / 4096 })) else None) (number_of addr)) (number_of cause)
fault_of words = None

abbrev pub trap_of : List (List ℕ) → Option Exit
trap_of [] = None
trap_of (cause ∷ words) = option_and_then (λ c. if nat_lt c 256 then Some (exits.Trap c) else None) (number_of cause)

abbrev pub exit_of : List (List ℕ) → Option Exit
exit_of [] = None
exit_of (name ∷ words) =
    if bytes_eq name (codes "fuel") then Some exits.Fuel
    else if bytes_eq name (codes "kicked") then Some exits.Kicked
    else if bytes_eq name (codes "wfi") then Some exits.Wfi
    else if bytes_eq name (codes "fault") then fault_of words
    else if bytes_eq name (codes "trap") then trap_of words
    else None

abbrev pub made_of : HostCall → List (List ℕ) → Option Event
made_of call words = option_map (λ parts. events.Call call parts.0) (answer_of words)

abbrev pub call_event_of : List ℕ → List (List ℕ) → Option Event
call_event_of word words =
    option_and_then (λ parts. option_and_then (λ call. made_of call parts.1) (call_of word parts.0)) (arguments_of [] words)

-- what the monitor was asked for, or why a guest was left
abbrev pub asked_of : List ℕ → List (List ℕ) → Option Event
asked_of name words =
    if bytes_eq name (codes "guest") then guest_of words
    else if bytes_eq name (codes "exit") then option_map (λ exit. events.Exit exit) (exit_of words)
    else call_event_of name words

-- the event that words name
abbrev pub event_named : List (List ℕ) → Option Event
event_named [] = None
event_named (name ∷ words) =
    if bytes_eq name (codes "ld") then load_named words
    else if bytes_eq name (codes "sd") then store_named words
    else if bytes_eq name (codes "fetch") then fetch_of words
    else if bytes_eq name (codes "exec") then exec_of words
    else asked_of name words

-- the entry that the words of a line name
abbrev pub entry_named : List (List ℕ) → Option Entry
entry_named [] = None
entry_named (hart ∷ words) =
    option_and_then (λ h. if nat_lt h 256 then option_map (λ event. record { hart = record { 0 = h }; event = event }) (event_named words) else None) (number_of hart)
