-- The sizes of the numbers that an event shows.
use Rattle.std.specs.Prelude.{Bool, true, ◌&&◌, List}
use Rattle.std.specs.List.{list_all}
use Rattle.cove_base.specs.CallWords.{arguments}
use Rattle.cove_base.specs.EventWords.{act_arguments}
use Rattle.cove_base.specs.Numbers.{is_u8, is_u64}
use Rattle.cove_base.specs.declared.events.Entry.{Entry}
use Rattle.cove_base.specs.declared.events.Event.{Event}
use Rattle.cove_base.specs.declared.events.Event.TheVariants as events

-- the numbers of an event have 64 bits, and the bytes of its quote 8
abbrev pub is_sized : Event → Bool
is_sized (events.Call call reply) = list_all is_u64 (arguments call) && is_u64 reply.value
is_sized (events.Load addr how value) = is_u64 addr && is_u64 value
is_sized (events.LoadFault addr) = is_u64 addr
is_sized (events.Store addr value how) = is_u64 addr && is_u64 value
is_sized (events.StoreFault addr value) = is_u64 addr && is_u64 value
is_sized (events.Guest act reply) = list_all is_u64 (act_arguments act) && is_u64 reply.value
is_sized (events.Evidence quote) = list_all is_u8 quote
is_sized _ = true

-- and those of each entry do
abbrev pub are_sized : List Entry → Bool
are_sized entries = list_all (λ entry. is_sized entry.event) entries
