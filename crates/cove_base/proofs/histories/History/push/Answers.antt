use Rattle.std.proofs.Common.{◌≡◌, ◌++◌, [], ◌∷◌, true, length, map, arith, length-append, ap, sym, subst, ◌∙◌, refl}
use Rattle.std.specs.List.{list_all}
use Rattle.std.proofs.lemmas.Bool.{and_from}
use Rattle.std.proofs.lemmas.List.{length-map}
use Rattle.std.proofs.lemmas.List.Folds.{list_all-append}
use Rattle.cove_base.specs.declared.compact.CompactEntry.{CompactEntry}
use Rattle.cove_base.specs.EventSizes.{are_sized, is_sized}
use Rattle.cove_base.specs.CompactEntries.{entry_of, quote_is_among, quotes_of}
use Rattle.cove_base.proofs.CompactEntryLemmas.{shown_appended, among_appended, one_quote}
use Rattle.cove_base.proofs.histories.History.push.Goals as goal

pub invariant_of-self : goal.invariant_of-self
invariant_of-self c =
    let was = c.self.inside in
    let after = c.compact-event.new.quotes.items in
    let last : CompactEntry = record { hart = c.args.item.hart; event = c.compact-event.result } in
    let grown = c.push_reserved.ensures.items in
    let size = ap length grown ∙ length-append was.entries.items (last ∷ []) in
    let shown = ap length (sym c.self.view_is) ∙ length-map was.entries.items (entry_of was.quotes.items) in
    let shows = ap (λ entries. map (entry_of after) entries) c.push_reserved.ensures.items
    ∙ shown_appended was.quotes.items (quotes_of c.args.item.event) after was.entries.items c.args.item.hart c.args.item.event c.compact-event.result
    c.self.invariant.among c.compact-event.ensures.quotes c.compact-event.ensures.event in
    record {
      among = subst (λ entries. list_all (λ entry. quote_is_among (length after) entry.event) entries ≡ true) (sym grown)
          (among_appended was.quotes.items (quotes_of c.args.item.event) after was.entries.items last c.self.invariant.among c.compact-event.ensures.quotes c.compact-event.ensures.among);
      sized = subst (λ entries. are_sized entries ≡ true) (sym shows)
          (list_all-append (λ entry. is_sized entry.event) (map (entry_of was.quotes.items) was.entries.items) (c.args.item ∷ [])
          ∙ and_from _ _ c.self.invariant.sized (and_from _ _ c.event_fits.ensures refl));
      few_quotes = omega (
        arith,
        size,
        ap length c.compact-event.ensures.quotes,
        length-append was.quotes.items (quotes_of c.args.item.event),
        one_quote c.args.item.event,
        c.self.invariant.few_quotes,
      );
      few_entries = omega (arith, size, shown, c.requires);
      entry_room = omega (arith, c.self.invariant.entry_room, c.push_reserved.ensures.capacity);
      quote_room = omega (arith, c.self.invariant.quote_room, c.compact-event.ensures.room);
    }

pub returns : goal.returns
returns c =
    let was = c.self.inside in
    let after = c.compact-event.new.quotes.items in
    ap (λ entries. map (entry_of after) entries) c.push_reserved.ensures.items
    ∙ shown_appended was.quotes.items (quotes_of c.args.item.event) after was.entries.items c.args.item.hart c.args.item.event c.compact-event.result
    c.self.invariant.among c.compact-event.ensures.quotes c.compact-event.ensures.event
    ∙ ap (λ front. front ++ c.args.item ∷ []) c.self.view_is
