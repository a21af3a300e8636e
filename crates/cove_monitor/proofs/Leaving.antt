-- What an event leaves of the passes that were joined for it.
use Rattle.std.proofs.Common.{◌≡◌, ℕ, ◌<◌, ◌≤◌, true, false, Bool, cond, List, [], ◌∷◌, ◌++◌, Option, None, Some, IfSome, IsSome, ◌⊎◌, inl, inr, ◌↔◌, slice_get, length, length-append, refl, sym, ◌∙◌, ap, subst, arith}
use Rattle.std.proofs.lemmas.Bool.{cases_lt, false≢true}
use Rattle.std.specs.Option.{unwrap_or}
use Rattle.atomic_table.specs.Seated.{TableId}
use Rattle.cove_base.specs.Guards.{Guard, guard_after}
use Rattle.cove_model.specs.Machine.{HartRings, HartValue, no_rings, ScriptValue, Entry, Event, ENTRY_LIMIT, after, own, host_touched, tlb, touched_at}
use Rattle.cove_base.specs.Unchanged.{Unchanged}
use Rattle.cove_base.specs.declared.events.Event.TheVariants.{LoadFault, StoreFault}
use Rattle.cove_board.specs.Parts.{HartPart, hart_alone, hart_of, left_part, monitor_alone, monitor_of}
use Rattle.cove_board.specs.Passes.{IsHeld, PassValue, guard_of, place_code}
use Rattle.cove_core.specs.Kept.{IsKept}
use Rattle.cove_core.specs.Made.{IsMade, IsTold}
use Rattle.cove_core.specs.Stepped.{IsFirstBehind, IsLimit, IfNoEntry, OnAhead, OnDid}
use Rattle.cove_core.specs.declared.monitors.Mon.{Mon}
use Rattle.cove_core.specs.declared.steps.Stepped.{Stepped}
use Rattle.cove_core.specs.declared.steps.Stepped.TheVariants.{Did, Ahead, Limit}
use Rattle.cove_hart.specs.HartStates.{hart_value}
use Rattle.cove_hart.specs.declared.states.HartState.{HartState}
use Rattle.cove_model.proofs.AloneProofs.{fits_fit_alone}
use Rattle.cove_model.proofs.AtTheEnd.{own_same}
use Rattle.cove_model.specs.Fits.{Fits, rings_of, walked_rings}
use Rattle.cove_model.specs.FitsAlone.{FitsAlone}
use Rattle.cove_monitor.proofs.Joining.{AreJoined}
use Rattle.cove_monitor.specs.Events.{HasLooked, HasMadeEntry, HasStepped, NamesNone}
use Rattle.cove_monitor.specs.Seats.{IsKeeper, IsSeat, no_table}

-- What is known of the two parts that are carried after the event of a hart.
pub record IsAfter (script : ScriptValue) (table : TableId) (mon : Mon) (left : HartValue) (held : PassValue) : Type 0 where
  pub table_is : held.table ≡ table
  pub script_is : (monitor_of held.part).script ≡ script
  pub history : mon.history ≡ (monitor_of held.part).history
  pub within : length mon.history ≤ ENTRY_LIMIT
  pub clean : (monitor_of held.part).clean ≡ true
  pub same_hart : (hart_of held.part).hart ≡ left.hart
  pub walked : (hart_of held.part).walked ≡ left.walked
  pub kept : IsKept script (monitor_of held.part).now mon
  pub fits : Fits script mon.history left

-- ---- the passes that are parted again

module _ (script : ScriptValue) (table : TableId) (mon : Mon) (left : HartValue) (held : PassValue) (known : IsHeld held) (now : IsAfter script table mon left held) where
  mark_is : (hart_of held.part).mark ≡ false
  mark_is = known.held.mark ∙ ap (λ (b : Bool). cond b false (hart_of held.part).mark) now.clean

  rings_are : (hart_of held.part).rings ≡ left.rings
  rings_are =
      let m = monitor_of held.part in
      let p = hart_of held.part in
      known.held.rings
      ∙ ap (λ (b : Bool). cond b no_rings (walked_rings (rings_of (tlb m.script m.history p.hart)) p.walked)) mark_is
      ∙ ap (λ k. walked_rings (rings_of (tlb k m.history p.hart)) p.walked) now.script_is
      ∙ ap (λ H. walked_rings (rings_of (tlb script H p.hart)) p.walked) (sym now.history)
      ∙ ap (λ h. walked_rings (rings_of (tlb script mon.history h)) p.walked) now.same_hart
      ∙ ap (walked_rings (rings_of (tlb script mon.history left.hart))) now.walked
      ∙ sym now.fits.rings

  pub seat_again : (pass : PassValue) → pass ≡ record { table = held.table; part = hart_alone (left_part (monitor_of held.part) (hart_of held.part)) } → IsSeat left pass
  seat_again pass is =
      let m = monitor_of held.part in
      let p = hart_of held.part in
      subst (IsSeat left) (sym is)
      (record {
        alone = refl;
        unmarked = mark_is;
        same_hart = now.same_hart;
        rings = rings_are;
        walked = now.walked;
        mine = ap (own m.history) (sym now.same_hart) ∙ sym known.held.mine;
        fits = subst (λ k. FitsAlone k m.history left) (sym (known.held.same_script ∙ now.script_is))
            (subst (λ H. FitsAlone script H left) now.history (fits_fit_alone script mon.history left now.fits));
      })

  pub keeper_again : (pass : PassValue) → pass ≡ record { table = held.table; part = monitor_alone (monitor_of held.part) } → IsKeeper table mon pass
  keeper_again pass is =
      subst (IsKeeper table mon) (sym is)
      (record {
        table_is = now.table_is;
        alone = refl;
        clean = now.clean;
        history = now.history;
        kept = subst (λ k. IsKept k (monitor_of held.part).now mon) (sym now.script_is) now.kept;
        within = now.within;
      })

-- ---- what the guard tells

table_by : List ℕ → TableId
table_by (words ∷ slots ∷ views_name ∷ atom ∷ block ∷ offset ∷ slot_names) =
    record { words = words; slots = slots; views_name = views_name; atom = atom; block = block; offset = offset; slot_names = slot_names }
table_by _ = no_table

same_table : (a b : TableId) → place_code a ≡ place_code b → a ≡ b
unfolding table_by
same_table a b same = ap table_by same

same_guard : (a b : Guard) → Some a ≡ Some b → a ≡ b
same_guard a b same = ap (λ (o : Option Guard). unwrap_or o a) same

abbrev words_in : PassValue → List ℕ
words_in held = (monitor_of held.part).now

abbrev clean_in : PassValue → Bool
clean_in held = (monitor_of held.part).clean

abbrev guard_in : PassValue → Option Guard
guard_in held = Some (guard_of held)

-- the hart's part, parted again
abbrev parted : PassValue → HartPart
parted held = left_part (monitor_of held.part) (hart_of held.part)

told_missed : (words : List ℕ) (rings : HartRings) (event : Event) → IsTold words rings (host_touched event) → NamesNone rings event
told_missed words rings (LoadFault addr) told = told
told_missed words rings (StoreFault addr value) told = told
told_missed words rings _ told = tt

-- what is left of the parts that are parted after the event, and what the hart learned by it
pub record HasLeft (script : ScriptValue) (table : TableId) (new : Mon) (state left : HartState) (before : HartPart) (now : PassValue) (stepped : Stepped) : Type 0 where
  pub after : IsAfter script table new (hart_value left) now
  pub leaves : HasStepped script stepped (hart_value state) (hart_value left) before (parted now)

module _ (script : ScriptValue) (table : TableId) (mon new : Mon) (state left : HartState) (held now : PassValue) (j : AreJoined script mon (hart_value state) (monitor_of held.part) (hart_of held.part)) (table_is : held.table ≡ table) (before : HartPart) (same_mine : before.mine ≡ (hart_of held.part).mine) (same_seen : before.seen ≡ (hart_of held.part).seen) (known : IsHeld now) where
  seen_is : (monitor_of held.part).history ≡ before.seen ++ j.seen.0
  seen_is = j.seen.1 ∙ ap (λ es. es ++ j.seen.0) (sym same_seen)

  -- no entry was made
  module _ (still : Unchanged words_in clean_in guard_in held now × (new ≡ mon) × (left ≡ state)) where
    still_guard : guard_of now ≡ guard_of held
    still_guard = same_guard (guard_of now) (guard_of held) still.0.guard

    still_history : (monitor_of now.part).history ≡ (monitor_of held.part).history
    still_history = ap (λ (g : Guard). g.history) still_guard

    still_hart : (hart_of now.part).hart ≡ state.hart.0
    still_hart = ap (λ (g : Guard). g.hart) still_guard ∙ j.same_hart

    still_after : IsAfter script table new (hart_value left) now
    still_after =
        subst (λ n. IsAfter script table n (hart_value left) now) (sym still.1)
        (subst (λ h. IsAfter script table mon (hart_value h) now) (sym still.2)
        (record {
          table_is = same_table now.table held.table (ap (λ (g : Guard). g.place) still_guard) ∙ table_is;
          script_is = ap (λ (g : Guard). g.script) still_guard ∙ j.script_is;
          history = j.history ∙ sym still_history;
          within = j.within;
          clean = still.0.clean ∙ j.clean;
          same_hart = still_hart;
          walked = ap (λ (g : Guard). g.walk) still_guard ∙ j.walked;
          kept = subst (λ ws. IsKept script ws mon) (sym still.0.words) j.kept;
          fits = j.fits;
        }))

    still_looked : HasLooked before (parted now) × (hart_value left ≡ hart_value state)
    still_looked = (
      record {
        mine = known.held.mine ∙ ap (own (monitor_of now.part).history) still_hart ∙ ap (λ es. own es state.hart.0) still_history ∙ sym j.mine ∙ sym same_mine;
        seen = (j.seen.0, still_history ∙ seen_is);
      },
      ap (λ (h : HartState). hart_value h) still.2,
    )

    still_behind : (other : ℕ) → IsFirstBehind script mon.history (hart_value state) other → IsFirstBehind script (monitor_of now.part).history (hart_value left) other
    still_behind other behind =
        subst (λ h. IsFirstBehind script (monitor_of now.part).history (hart_value h) other) (sym still.2)
        (subst (λ H. IsFirstBehind script H (hart_value state) other) (j.history ∙ sym still_history) behind)

  -- this entry was made
  module _ (room : length mon.history < ENTRY_LIMIT) (entry : Entry) (made : IsMade script (words_in held) (words_in now) mon new (hart_value state) (hart_value left) entry) (guard : guard_in now ≡ guard_after (guard_in held) (words_in now) entry) (clean : clean_in now ≡ true) (used : left.walked ≡ None) where
    made_guard : guard_of now ≡ record (guard_of held) { history = (monitor_of held.part).history ++ entry ∷ []; old = words_in now; walk = None }
    made_guard = same_guard (guard_of now) (record (guard_of held) { history = (monitor_of held.part).history ++ entry ∷ []; old = words_in now; walk = None }) guard

    made_history : (monitor_of now.part).history ≡ (monitor_of held.part).history ++ entry ∷ []
    made_history = ap (λ (g : Guard). g.history) made_guard

    made_hart : (hart_of now.part).hart ≡ state.hart.0
    made_hart = ap (λ (g : Guard). g.hart) made_guard ∙ j.same_hart

    made_after : IsAfter script table new (hart_value left) now
    made_after = record {
      table_is = same_table now.table held.table (ap (λ (g : Guard). g.place) made_guard) ∙ table_is;
      script_is = ap (λ (g : Guard). g.script) made_guard ∙ j.script_is;
      history = made.grown ∙ ap (λ es. es ++ entry ∷ []) j.history ∙ sym made_history;
      within = let size = ap length made.grown in omega (arith, length-append mon.history (entry ∷ []));
      clean = clean;
      same_hart = made_hart ∙ sym made.same_hart;
      walked = ap (λ (g : Guard). g.walk) made_guard ∙ sym used;
      kept = made.kept;
      fits = made.fits;
    }

    made_missed : NamesNone state.rings entry.event
    made_missed =
        told_missed (words_in held) state.rings entry.event
        (subst (λ seat. IsTold (words_in held) state.rings (touched_at (after script mon.history) seat entry.event)) j.fits.inside made.told)

    made_entered : HasMadeEntry (hart_value state) before (parted now) (length mon.history)
    made_entered = record {
      entry = entry;
      between = j.seen.0;
      mine =
          known.held.mine ∙ ap (own (monitor_of now.part).history) made_hart ∙ ap (λ es. own es state.hart.0) made_history
          ∙ own_same (monitor_of held.part).history entry state.hart.0 made.by ∙ ap (λ es. es ++ entry ∷ []) (sym j.mine ∙ sym same_mine);
      seen = made_history ∙ ap (λ es. es ++ entry ∷ []) seen_is;
      place_is = ap length (j.history ∙ seen_is);
      missed = made_missed;
      used = ap (λ (g : Guard). g.walk) made_guard;
    }

  left_did :
      (place : ℕ) → length mon.history < ENTRY_LIMIT → place ≡ length mon.history → (o : Option Entry) → IsSome o
      → IfSome o (λ entry. IsMade script (words_in held) (words_in now) mon new (hart_value state) (hart_value left) entry)
      → IfSome o (λ entry. guard_in now ≡ guard_after (guard_in held) (words_in now) entry)
      → clean_in now ≡ true → left.walked ≡ None
      → HasLeft script table new state left before now (Did place)
  left_did place room at None some made guard clean used = absurd (false≢true some)
  left_did place room at (Some entry) some made guard clean used = record {
    after = made_after room entry made guard clean used;
    leaves = record {
      entered = subst (HasMadeEntry (hart_value state) before (parted now)) (sym at) (made_entered room entry made guard clean used);
      looked = tt;
      limit = λ none. absurd none;
      ahead = tt;
      same_hart = made.same_hart;
    };
  }

  pub left_by :
      (stepped : Stepped)
      → OnDid stepped (λ place. IfSome (slice_get new.history place) (λ entry. IsMade script (words_in held) (words_in now) mon new (hart_value state) (hart_value left) entry))
      → OnDid stepped (λ place. (place ≡ length mon.history) × IsSome (slice_get new.history place))
      → OnDid stepped (λ place. IfSome (slice_get new.history place) (λ entry. guard_in now ≡ guard_after (guard_in held) (words_in now) entry))
      → OnDid stepped (λ _. clean_in now ≡ true)
      → OnDid stepped (λ _. left.walked ≡ None)
      → IsLimit stepped ↔ (ENTRY_LIMIT ≤ length mon.history)
      → OnAhead stepped (λ other. IsFirstBehind script mon.history (hart_value state) other.0)
      → IfNoEntry stepped (Unchanged words_in clean_in guard_in held now × (new ≡ mon) × (left ≡ state))
      → HasLeft script table new state left before now stepped
  left_by (Did place) made entry guard clean used limit ahead still =
      left_did place (room (cases_lt (length mon.history) ENTRY_LIMIT)) entry.0 (slice_get new.history place) entry.1 made guard clean used
    where
      room : (length mon.history < ENTRY_LIMIT) ⊎ (ENTRY_LIMIT ≤ length mon.history) → length mon.history < ENTRY_LIMIT
      room (inl lt) = lt
      room (inr ge) = absurd (limit.1 ge)
  left_by (Ahead other) made entry guard clean used limit ahead still = record {
    after = still_after still;
    leaves = record {
      entered = tt;
      looked = still_looked still;
      limit = λ none. absurd none;
      ahead = still_behind still other.0 ahead;
      same_hart = ap (λ (h : HartState). h.hart.0) still.2;
    };
  }
  left_by Limit made entry guard clean used limit ahead still = record {
    after = still_after still;
    leaves = record {
      entered = tt;
      looked = still_looked still;
      limit = λ _.
          let full : ENTRY_LIMIT ≤ length mon.history = limit.0 tt in
          let within = j.within in
          let size = ap length (j.history ∙ sym (still_history still)) in
          omega arith;
      ahead = tt;
      same_hart = ap (λ (h : HartState). h.hart.0) still.2;
    };
  }
