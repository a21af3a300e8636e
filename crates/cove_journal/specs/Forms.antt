-- The entries that a journal's line may show.
use Rattle.std.specs.Prelude.{ℕ, ◌^◌, Bool, true, not, ◌==◌, ◌&&◌, ◌||◌, nat_lt, length}
use Rattle.cove_base.specs.declared.calls.GuestAct.{GuestAct}
use Rattle.cove_base.specs.declared.calls.GuestAct.TheVariants as acts
use Rattle.cove_base.specs.declared.events.Entry.{Entry}
use Rattle.cove_base.specs.declared.events.Event.{Event}
use Rattle.cove_base.specs.declared.events.Event.TheVariants as events
use Rattle.cove_base.specs.declared.events.Exit.{Exit}
use Rattle.cove_base.specs.declared.events.Exit.TheVariants as exits
use Rattle.cove_base.specs.declared.limits.TheConstants.{HART_LIMIT}
use Rattle.cove_base.specs.declared.statuses.Status.{Status}
use Rattle.cove_base.specs.Statuses.{is_success}

-- the guest page faults: of an instruction, a load and a store
abbrev pub is_fault_cause : ℕ → Bool
is_fault_cause cause = cause == 20 || cause == 21 || cause == 23

-- the other traps: a misaligned or an illegal instruction, a breakpoint, a misaligned load and a misaligned store
abbrev pub is_trap_cause : ℕ → Bool
is_trap_cause cause = cause == 0 || cause == 2 || cause == 3 || cause == 4 || cause == 6

-- a fault or a trap shows its cause, and a fault a page that has an address
abbrev pub is_exit_shown : Exit → Bool
is_exit_shown (exits.Fault cause page) = is_fault_cause cause && nat_lt page.0 (2 ^ 52)
is_exit_shown (exits.Trap cause) = is_trap_cause cause
is_exit_shown _ = true

-- a guest that got its evidence shows the quote
abbrev pub is_act_shown : GuestAct → Status → Bool
is_act_shown acts.Evidence status = not (is_success status)
is_act_shown _ status = true

-- what the machine shows of an event has a line
abbrev pub is_event_shown : Event → Bool
is_event_shown (events.Guest act reply) = is_act_shown act reply.status
is_event_shown (events.Evidence quote) = length quote == 360
is_event_shown (events.Exit exit) = is_exit_shown exit
is_event_shown _ = true

-- an entry that has a line
abbrev pub has_line : Entry → Bool
has_line entry = nat_lt entry.hart.0 HART_LIMIT && is_event_shown entry.event
