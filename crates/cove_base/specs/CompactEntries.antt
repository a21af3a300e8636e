-- How a history keeps its entries: the bytes of a quote apart from the entry that shows it.
use Rattle.std.specs.Prelude.{◌≡◌, ℕ, ◌≤◌, Bool, true, nat_lt, List, [], ◌∷◌, length, get_or, map}
use Rattle.std.specs.List.{list_all}
use Rattle.cove_base.specs.EventSizes.{are_sized}
use Rattle.cove_base.specs.declared.compact.CompactEntry.{CompactEntry}
use Rattle.cove_base.specs.declared.compact.CompactEvent.{CompactEvent}
use Rattle.cove_base.specs.declared.events.Entry.{Entry}
use Rattle.cove_base.specs.declared.events.Event.{Event}
use Rattle.cove_base.specs.declared.limits.TheConstants.{ENTRY_LIMIT}

-- the event that a compact one shows, where these are the quotes
abbrev pub event_of : List (List ℕ) → CompactEvent → Event
event_of quotes (CompactEvent.Call call reply) = Event.Call call reply
event_of quotes (CompactEvent.Load addr how value) = Event.Load addr how value
event_of quotes (CompactEvent.LoadFault addr) = Event.LoadFault addr
event_of quotes (CompactEvent.Store addr value how) = Event.Store addr value how
event_of quotes (CompactEvent.StoreFault addr value) = Event.StoreFault addr value
event_of quotes (CompactEvent.Fetch how) = Event.Fetch how
event_of quotes CompactEvent.Exec = Event.Exec
event_of quotes (CompactEvent.Access how) = Event.Access how
event_of quotes (CompactEvent.Guest act reply) = Event.Guest act reply
event_of quotes (CompactEvent.Evidence place) = Event.Evidence (get_or quotes place [])
event_of quotes (CompactEvent.Exit exit) = Event.Exit exit

-- the entry that a compact one shows
abbrev pub entry_of : List (List ℕ) → CompactEntry → Entry
entry_of quotes entry = record { hart = entry.hart; event = event_of quotes entry.event }

-- the quote of an event, if it has one
abbrev pub quotes_of : Event → List (List ℕ)
quotes_of (Event.Call call reply) = []
quotes_of (Event.Load addr how value) = []
quotes_of (Event.LoadFault addr) = []
quotes_of (Event.Store addr value how) = []
quotes_of (Event.StoreFault addr value) = []
quotes_of (Event.Fetch how) = []
quotes_of Event.Exec = []
quotes_of (Event.Access how) = []
quotes_of (Event.Guest act reply) = []
quotes_of (Event.Evidence quote) = quote ∷ []
quotes_of (Event.Exit exit) = []

-- the place of an event's quote, if it has one, is below this number of quotes
abbrev pub quote_is_among : ℕ → CompactEvent → Bool
quote_is_among quotes (CompactEvent.Call call reply) = true
quote_is_among quotes (CompactEvent.Load addr how value) = true
quote_is_among quotes (CompactEvent.LoadFault addr) = true
quote_is_among quotes (CompactEvent.Store addr value how) = true
quote_is_among quotes (CompactEvent.StoreFault addr value) = true
quote_is_among quotes (CompactEvent.Fetch how) = true
quote_is_among quotes CompactEvent.Exec = true
quote_is_among quotes (CompactEvent.Access how) = true
quote_is_among quotes (CompactEvent.Guest act reply) = true
quote_is_among quotes (CompactEvent.Evidence place) = nat_lt place quotes
quote_is_among quotes (CompactEvent.Exit exit) = true

-- how a history keeps its entries: the quote of each is among the quotes, its numbers have the bits of their types, there
-- are no more quotes than entries and no more entries than a history may have, and the capacities are for as many
pub record IsCompact (entries : List CompactEntry) (quotes : List (List ℕ)) (entry_capacity quote_capacity : ℕ) : Type 0 where
  pub among : list_all (λ entry. quote_is_among (length quotes) entry.event) entries ≡ true
  pub sized : are_sized (map (entry_of quotes) entries) ≡ true
  pub few_quotes : length quotes ≤ length entries
  pub few_entries : length entries ≤ ENTRY_LIMIT
  pub entry_room : ENTRY_LIMIT ≤ entry_capacity
  pub quote_room : ENTRY_LIMIT ≤ quote_capacity
