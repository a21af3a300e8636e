-- What a history shows as an entry is appended.
use Rattle.std.proofs.Common.{◌≡◌, ℕ, ◌≤◌, true, List, [], ◌∷◌, ◌++◌, length, map, refl, ◌∙◌, ap, arith, length-append}
use Rattle.std.specs.List.{list_all}
use Rattle.std.proofs.lemmas.Bool.{lt-ltb, ltb-true, and_parts, and_from}
use Rattle.std.proofs.lemmas.List.{get_or_append_left, map-append}
use Rattle.std.proofs.lemmas.List.Folds.{list_all-append}
use Rattle.cove_base.specs.declared.numbers.HartId.{HartId}
use Rattle.cove_base.specs.declared.events.Event.{Event}
use Rattle.cove_base.specs.declared.compact.CompactEntry.{CompactEntry}
use Rattle.cove_base.specs.declared.compact.CompactEvent.{CompactEvent}
use Rattle.cove_base.specs.CompactEntries.{event_of, entry_of, quotes_of, quote_is_among}
use Rattle.cove_base.proofs.ScriptLimits.{all_weaker}

-- what is among some quotes is shown so with more quotes after them
shown_same : (quotes more : List (List ℕ)) (event : CompactEvent) → quote_is_among (length quotes) event ≡ true → event_of (quotes ++ more) event ≡ event_of quotes event
shown_same quotes more (CompactEvent.Evidence place) among =
    ap Event.Evidence (get_or_append_left quotes more [] place (ltb-true place (length quotes) among))
shown_same quotes more _ among = refl

-- what is among some quotes is among more
among_more : (n m : ℕ) (event : CompactEvent) → n ≤ m → quote_is_among n event ≡ true → quote_is_among m event ≡ true
among_more n m (CompactEvent.Evidence place) more among = lt-ltb place m (omega (arith, ltb-true place n among))
among_more n m _ more among = refl

-- entries whose quotes are among some are shown so with more quotes after them
entries_same : (quotes more : List (List ℕ)) (entries : List CompactEntry) → list_all (λ entry. quote_is_among (length quotes) entry.event) entries ≡ true
    → map (entry_of (quotes ++ more)) entries ≡ map (entry_of quotes) entries
entries_same quotes more [] all = refl
entries_same quotes more (entry ∷ entries) all =
    let both = and_parts (quote_is_among (length quotes) entry.event) (list_all (λ entry. quote_is_among (length quotes) entry.event) entries) all in
    rw (shown_same quotes more entry.event both.0, entries_same quotes more entries both.1) refl

-- what a history shows once an entry is appended
pub shown_appended : (quotes more after : List (List ℕ)) (entries : List CompactEntry) (hart : HartId) (event : Event) (kept : CompactEvent)
    → list_all (λ entry. quote_is_among (length quotes) entry.event) entries ≡ true
    → after ≡ quotes ++ more → event_of after kept ≡ event
    → map (entry_of after) (entries ++ (record { hart = hart; event = kept }) ∷ []) ≡ map (entry_of quotes) entries ++ (record { hart = hart; event = event }) ∷ []
shown_appended quotes more after entries hart event kept all grown shows =
    map-append (entry_of after) entries ((record { hart = hart; event = kept }) ∷ [])
    ∙ ap (λ front. front ++ (record { hart = hart; event = event_of after kept }) ∷ []) (ap (λ list. map (entry_of list) entries) grown ∙ entries_same quotes more entries all)
    ∙ ap (λ (last : Event). map (entry_of quotes) entries ++ (record { hart = hart; event = last }) ∷ []) shows

-- the quotes of the entries are there once an entry is appended
pub among_appended : (quotes more after : List (List ℕ)) (entries : List CompactEntry) (last : CompactEntry)
    → list_all (λ entry. quote_is_among (length quotes) entry.event) entries ≡ true
    → after ≡ quotes ++ more → quote_is_among (length after) last.event ≡ true
    → list_all (λ entry. quote_is_among (length after) entry.event) (entries ++ last ∷ []) ≡ true
among_appended quotes more after entries last all grown among =
    let longer : length quotes ≤ length after = omega (arith, ap length grown, length-append quotes more) in
    list_all-append (λ entry. quote_is_among (length after) entry.event) entries (last ∷ [])
    ∙ and_from _ _ (all_weaker _ _ (λ entry. among_more (length quotes) (length after) entry.event longer) entries all) (and_from _ _ among refl)

-- an event has one quote at most
pub one_quote : (event : Event) → length (quotes_of event) ≤ 1
one_quote (Event.Evidence quote) = omega arith
one_quote _ = omega arith
