-- The words of events, of answers and of what guests ask for.
use Rattle.std.specs.Prelude.{ℕ, ◌*◌, List, [], ◌∷◌, ◌++◌, map, codes}
use Rattle.std.specs.Int.{to_be_bytes, w64}
use Rattle.cove_base.specs.CallWords.{call_words}
use Rattle.cove_base.specs.Numbers.{natural_text, number_text, decimal_text, hex_text}
use Rattle.cove_base.specs.Statuses.{code_of}
use Rattle.cove_base.specs.declared.calls.GuestAct.{GuestAct}
use Rattle.cove_base.specs.declared.events.Event.{Event}
use Rattle.cove_base.specs.declared.events.Exit.{Exit}
use Rattle.cove_base.specs.declared.events.How.{How}
use Rattle.cove_base.specs.declared.events.How.TheVariants.{Hit, Walk}
use Rattle.cove_base.specs.declared.statuses.Reply.{Reply}
use Rattle.cove_base.specs.declared.statuses.Status.{Status}

-- how an access came to its page
abbrev pub how_text : How → List ℕ
how_text Hit = codes "hit"
how_text Walk = codes "walk"

-- a word of memory: 16 hex digits, the highest first
abbrev pub word_text : ℕ → List ℕ
word_text value = hex_text (to_be_bytes w64 value)

-- a status: its code
abbrev pub status_text : Status → List ℕ
status_text status = decimal_text (code_of status)

-- an answer: its status and its value, after `=`
abbrev pub reply_words : Reply → List (List ℕ)
reply_words reply = codes "=" ∷ status_text reply.status ∷ number_text reply.value ∷ []

-- an act of a guest as it is spoken: its word, and its arguments in order
abbrev pub act_spoken : GuestAct → List ℕ × List ℕ
act_spoken (GuestAct.Share gpa len) = (codes "share", gpa ∷ len ∷ [])
act_spoken (GuestAct.Unshare gpa len) = (codes "unshare", gpa ∷ len ∷ [])
act_spoken GuestAct.Extend = (codes "extend", [])
act_spoken GuestAct.Evidence = (codes "evidence", [])
act_spoken (GuestAct.Allow id) = (codes "allow", id ∷ [])
act_spoken (GuestAct.Deny id) = (codes "deny", id ∷ [])
act_spoken GuestAct.Other = (codes "other", [])

-- the word of a guest's act
abbrev pub act_word : GuestAct → List ℕ
act_word act = (act_spoken act).0

-- the arguments of a guest's act
abbrev pub act_arguments : GuestAct → List ℕ
act_arguments act = (act_spoken act).1

-- an act's words: its own, and its arguments
abbrev pub act_words : GuestAct → List (List ℕ)
act_words act = act_word act ∷ map number_text (act_arguments act)

-- why a guest was left
abbrev pub exit_words : Exit → List (List ℕ)
exit_words Exit.Fuel = codes "fuel" ∷ []
exit_words Exit.Kicked = codes "kicked" ∷ []
exit_words Exit.Wfi = codes "wfi" ∷ []
exit_words (Exit.Fault cause page) = codes "fault" ∷ natural_text cause ∷ number_text (page.0 * 4096) ∷ []
exit_words (Exit.Trap cause) = codes "trap" ∷ natural_text cause ∷ []

-- what an event prints after its hart
abbrev pub event_words : Event → List (List ℕ)
event_words (Event.Call call reply) = call_words call ++ reply_words reply
event_words (Event.Load addr how value) = codes "ld" ∷ number_text addr ∷ how_text how ∷ word_text value ∷ []
event_words (Event.LoadFault addr) = codes "ld" ∷ number_text addr ∷ codes "walk" ∷ codes "fault" ∷ []
event_words (Event.Store addr value how) =
    codes "sd" ∷ number_text addr ∷ number_text value ∷ how_text how ∷ codes "ok" ∷ []
event_words (Event.StoreFault addr value) =
    codes "sd" ∷ number_text addr ∷ number_text value ∷ codes "walk" ∷ codes "fault" ∷ []
event_words (Event.Fetch how) = codes "fetch" ∷ how_text how ∷ []
event_words Event.Exec = codes "exec" ∷ []
event_words (Event.Access how) = codes "exec" ∷ how_text how ∷ []
event_words (Event.Guest act reply) = codes "guest" ∷ (act_words act ++ reply_words reply)
event_words (Event.Evidence quote) =
    codes "guest" ∷ codes "evidence" ∷ codes "=" ∷ codes "0" ∷ codes "0x168" ∷ hex_text quote ∷ []
event_words (Event.Exit exit) = codes "exit" ∷ exit_words exit
