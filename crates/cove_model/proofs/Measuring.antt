-- What events leave of a TVM: pages are measured while it is built, then its finalize record, and nothing after; and the guest
-- pages of its mappings differ.
use Rattle.std.proofs.Common.{◌≡◌, ℕ, ◌+◌, Bool, true, false, cond, eqb, eqb-true, true≢false, not, List, [], ◌∷◌, ◌++◌, Option, Some, None, option_map, refl, sym, ap, subst, ◌∙◌, inl, inr, ◌⊎◌, ⊎_elim}
use Rattle.cove_model.specs.Machine.{Owner, ScriptValue, Entry, Event, State, board_in, find_tvm, after, alter, at, dropped, AreDistinct, guests_of, after_event, done, Mapping, Mode, Tvm, created}
use Rattle.std.specs.List.{AllByRecursion}
use Rattle.std.proofs.lemmas.Bool.{cases_eq, ne_eqb}
use Rattle.std.proofs.lemmas.Option.{none-some, same_Some}
use Rattle.cove_base.specs.Measurement.{Record, FinalizeRecord, board_number}
use Rattle.cove_model.proofs.AtTheEnd.{after_push, from_end, line_tvms}
use Rattle.cove_model.proofs.Boards.{board_of}
use Rattle.cove_model.proofs.Changes.{Adds, Alters, Drops, Finalizes, Grows, Loses, Maps, Measures, NoTvm, Once, OneTvm, Parts, Restands, Rewords, TvmsChange, Twice, Unmapped, Unmeasured}
use Rattle.cove_model.proofs.GuestChanges.{change_done}
use Rattle.cove_model.proofs.Distinct.{distinct_filter, keys_dropped, pages_of, pages_remembered, pages_restood}
use Rattle.cove_model.proofs.KeyedLemmas.{at_alter_other, at_alter_same, at_dropped}
use Rattle.cove_model.proofs.Lists.{all_append}
use Rattle.cove_model.specs.Measured.{AreBuilt, AreSealed, IsMeasured, IsPart}

-- ---- what an event leaves of a TVM's records

-- what was measured goes on as it must; of a TVM that runs, nothing more is
pub record Goes (tvm now : Tvm) : Type 0 where
  pub keeps : (board : ℕ) → IsMeasured board tvm → IsMeasured board now
  pub runs : tvm.runnable ≡ true → now.runnable ≡ true
  pub fixed : tvm.runnable ≡ true → now.records ≡ tvm.records
  pub orders : AreDistinct (guests_of tvm) → AreDistinct (guests_of now)

-- what changes neither whether it runs nor its records
goes_with : (tvm now : Tvm) → now.runnable ≡ tvm.runnable → now.records ≡ tvm.records → (AreDistinct (guests_of tvm) → AreDistinct (guests_of now)) → Goes tvm now
goes_with tvm now runs records orders = record {
  keeps = λ board m. record {
    building = λ e. subst (AreBuilt board) (sym records) (m.building (sym runs ∙ e));
    finalized = λ e. subst (AreSealed board) (sym records) (m.finalized (sym runs ∙ e));
  };
  runs = λ e. runs ∙ e;
  fixed = λ e. records;
  orders = orders;
}

goes_same : (tvm now : Tvm) → now.runnable ≡ tvm.runnable → now.records ≡ tvm.records → guests_of now ≡ guests_of tvm → Goes tvm now
goes_same tvm now runs records guests = goes_with tvm now runs records (λ d. subst AreDistinct (sym guests) d)

goes_then : (one two three : Tvm) → Goes one two → Goes two three → Goes one three
goes_then one two three a b = record {
  keeps = λ board m. b.keeps board (a.keeps board m);
  runs = λ e. b.runs (a.runs e);
  fixed = λ e. b.fixed (a.runs e) ∙ a.fixed e;
  orders = λ d. b.orders (a.orders d);
}

-- a TVM that was live
pub record Was (xs : List Tvm) (t : ℕ) (now : Tvm) : Type 0 where
  pub tvm : Tvm
  pub live : at (λ (k : Tvm). k.number) t xs ≡ Some tvm
  pub goes : Goes tvm now

abbrev pub AllWere : (xs ys : List Tvm) → Type 0
AllWere xs ys = (t : ℕ) (now : Tvm) → at (λ (k : Tvm). k.number) t ys ≡ Some now → Was xs t now

-- or is new
abbrev pub Came : (board : ℕ) (xs : List Tvm) (t : ℕ) (now : Tvm) → Type 0
Came board xs t now = Was xs t now ⊎ ((at (λ (k : Tvm). k.number) t xs ≡ None) × ((mode : Mode) × (now ≡ created t mode board)))

abbrev pub AllCame : (board : ℕ) (xs ys : List Tvm) → Type 0
AllCame board xs ys = (t : ℕ) (now : Tvm) → at (λ (k : Tvm). k.number) t ys ≡ Some now → Came board xs t now

were_same : (xs : List Tvm) → AllWere xs xs
were_same xs t now e = record { tvm = now; live = e; goes = goes_same now now refl refl refl }

were_then : (xs ys zs : List Tvm) → AllWere xs ys → AllWere ys zs → AllWere xs zs
were_then xs ys zs a b t now e =
    let second = b t now e in
    let first = a t second.tvm second.live in
    record { tvm = first.tvm; live = first.live; goes = goes_then first.tvm second.tvm now first.goes second.goes }

-- one TVM is changed
were_altered : (t : ℕ) (how : Tvm → Tvm) → ((tvm : Tvm) → (how tvm).number ≡ tvm.number) → (xs : List Tvm) → ((tvm : Tvm) → at (λ (k : Tvm). k.number) t xs ≡ Some tvm → Goes tvm (how tvm))
    → AllWere xs (alter (λ (k : Tvm). k.number) t how xs)
were_altered t how numbers xs each u now e = ⊎_elim
    (λ is. same is)
    (λ ne. record { tvm = now; live = sym (at_alter_other (λ (k : Tvm). k.number) u t how numbers ne xs) ∙ e; goes = goes_same now now refl refl refl })
    (cases_eq u t)
  where
    go : (o : Option Tvm) → at (λ (k : Tvm). k.number) t xs ≡ o → option_map how o ≡ Some now → Was xs t now
    go None q r = absurd (none-some now r)
    go (Some tvm) q r = record { tvm = tvm; live = q; goes = subst (Goes tvm) (same_Some (how tvm) now r) (each tvm q) }

    same : u ≡ t → Was xs u now
    same is = subst (λ k. Was xs k now) (sym is)
        (go (at (λ (k : Tvm). k.number) t xs) refl
        (sym (at_alter_same (λ (k : Tvm). k.number) t how numbers xs) ∙ ap (λ k. at (λ (x : Tvm). x.number) k (alter (λ (x : Tvm). x.number) t how xs)) (sym is) ∙ e))

-- ---- what is measured

-- more parts come after the board's record
more_built : (board : ℕ) (records more : List Record) → AreBuilt board records → AllByRecursion IsPart more → AreBuilt board (records ++ more)
more_built board records more built all =
    record { parts = built.parts ++ more; all = all_append IsPart built.parts more built.all all; begins = ap (λ rs. rs ++ more) built.begins }

-- more parts, and the finalize record, of a TVM that is built
goes_on : (tvm now : Tvm) (more : List Record) → tvm.runnable ≡ false → now.runnable ≡ tvm.runnable → now.records ≡ tvm.records ++ more → AllByRecursion IsPart more
    → (AreDistinct (guests_of tvm) → AreDistinct (guests_of now)) → Goes tvm now
goes_on tvm now more built runs records pages orders = record {
  keeps = λ board m. record {
    building = λ e. subst (AreBuilt board) (sym records) (more_built board tvm.records more (m.building built) pages);
    finalized = λ e. absurd (true≢false (sym e ∙ runs ∙ built));
  };
  runs = λ e. absurd (true≢false (sym e ∙ built));
  fixed = λ e. absurd (true≢false (sym e ∙ built));
  orders = orders;
}

goes_finalized : (tvm now : Tvm) (pc arg : ℕ) → tvm.runnable ≡ false → now.runnable ≡ true → now.records ≡ tvm.records ++ FinalizeRecord pc arg ∷ [] → (AreDistinct (guests_of tvm) → AreDistinct (guests_of now)) → Goes tvm now
goes_finalized tvm now pc arg built runs records orders = record {
  keeps = λ board m. record {
    building = λ e. absurd (true≢false (sym runs ∙ e));
    finalized = λ e. record { built = tvm.records; are_built = m.building built; pc = pc; arg = arg; last = records };
  };
  runs = λ e. runs;
  fixed = λ e. absurd (true≢false (sym e ∙ built));
  orders = orders;
}

-- what is found among one item more is found before, or is that item
pub found_last : (t : ℕ) (xs : List Tvm) (new now : Tvm) → at (λ (k : Tvm). k.number) t (xs ++ new ∷ []) ≡ Some now
    → (at (λ (k : Tvm). k.number) t xs ≡ Some now) ⊎ ((at (λ (k : Tvm). k.number) t xs ≡ None) × ((now ≡ new) × (new.number ≡ t)))
found_last t [] new now e = go (eqb new.number t) refl e
  where
    go : (b : Bool) → eqb new.number t ≡ b → cond b (Some new) None ≡ Some now → (at (λ (k : Tvm). k.number) t [] ≡ Some now) ⊎ ((at (λ (k : Tvm). k.number) t [] ≡ None) × ((now ≡ new) × (new.number ≡ t)))
    go true q r = inr (refl, (sym (same_Some new now r), eqb-true new.number t q))
    go false q r = absurd (none-some now r)
found_last t (x ∷ xs) new now e = go (eqb x.number t) e (found_last t xs new now)
  where
    go : (b : Bool) → cond b (Some x) (at (λ (k : Tvm). k.number) t (xs ++ new ∷ [])) ≡ Some now
        → (at (λ (k : Tvm). k.number) t (xs ++ new ∷ []) ≡ Some now → (at (λ (k : Tvm). k.number) t xs ≡ Some now) ⊎ ((at (λ (k : Tvm). k.number) t xs ≡ None) × ((now ≡ new) × (new.number ≡ t))))
        → (cond b (Some x) (at (λ (k : Tvm). k.number) t xs) ≡ Some now) ⊎ ((cond b (Some x) (at (λ (k : Tvm). k.number) t xs) ≡ None) × ((now ≡ new) × (new.number ≡ t)))
    go true r more = inl r
    go false r more = more r

-- what is left where those of a number are dropped
none_kept : (t : ℕ) (xs : List Tvm) (now : Tvm) → at (λ (k : Tvm). k.number) t (dropped (λ (k : Tvm). eqb k.number t) xs) ≡ Some now → ⊥
none_kept t [] now e = absurd (none-some now e)
none_kept t (x ∷ xs) now e = go (eqb x.number t) refl e (none_kept t xs now)
  where
    go : (b : Bool) → eqb x.number t ≡ b → at (λ (k : Tvm). k.number) t (cond (not b) (x ∷ dropped (λ (k : Tvm). eqb k.number t) xs) (dropped (λ (k : Tvm). eqb k.number t) xs)) ≡ Some now
        → (at (λ (k : Tvm). k.number) t (dropped (λ (k : Tvm). eqb k.number t) xs) ≡ Some now → ⊥) → ⊥
    go true q r more = more r
    go false q r more = more (sym (ap (λ b. cond b (Some x) (at (λ (k : Tvm). k.number) t (dropped (λ (k : Tvm). eqb k.number t) xs))) q) ∙ r)

pub found_kept : (t u : ℕ) (xs : List Tvm) (now : Tvm) → at (λ (k : Tvm). k.number) u (dropped (λ (k : Tvm). eqb k.number t) xs) ≡ Some now → at (λ (k : Tvm). k.number) u xs ≡ Some now
found_kept t u xs now e = ⊎_elim
    (λ is. absurd (none_kept t xs now (ap (λ k. at (λ (x : Tvm). x.number) k (dropped (λ (x : Tvm). eqb x.number t) xs)) (sym is) ∙ e)))
    (λ ne. sym (at_dropped (λ (k : Tvm). k.number) (λ n. eqb n t) u (ne_eqb u t ne) xs) ∙ e)
    (cases_eq u t)

orders_maps : (Calm Found : Type 0) (S : State) (pages : List Owner) (h t : ℕ) (tvm now : Tvm) → Found → Maps Calm Found S pages h t tvm now → AreDistinct (guests_of tvm) → AreDistinct (guests_of now)
orders_maps Calm Found S pages h t tvm now found (Unmapped e) d = subst (λ ms. AreDistinct (pages_of ms)) (sym e) d
orders_maps Calm Found S pages h t tvm now found (Adds new e apart sound) d = subst (λ ms. AreDistinct (pages_of ms)) (sym e) (apart found d)
orders_maps Calm Found S pages h t tvm now found (Restands test how e restless follows held) d = subst AreDistinct (sym (ap pages_of e ∙ pages_restood test how tvm.mappings)) d
orders_maps Calm Found S pages h t tvm now found (Rewords g how e sizes) d = subst AreDistinct (sym (ap pages_of e ∙ pages_remembered g how tvm.mappings)) d
orders_maps Calm Found S pages h t tvm now found (Drops test e restless gone) d =
    subst AreDistinct (sym (ap pages_of e ∙ keys_dropped (λ (m : Mapping). m.guest) test tvm.mappings)) (distinct_filter (λ g. not (test g)) (guests_of tvm) d)

goes_change : (Found : Type 0) (tvm now : Tvm) → Found → (AreDistinct (guests_of tvm) → AreDistinct (guests_of now)) → Measures Found tvm now → Goes tvm now
goes_change Found tvm now found orders (Unmeasured runs records) = goes_with tvm now runs records orders
goes_change Found tvm now found orders (Parts more built runs records all) = goes_on tvm now more (built found) runs records all orders
goes_change Found tvm now found orders (Finalizes pc arg built runs records) = goes_finalized tvm now pc arg (built found) runs records orders

were_one : (Calm : Type 0) (S : State) (pages : List Owner) (h : ℕ) (xs ys : List Tvm) → OneTvm Calm S pages h xs ys → AllWere xs ys
were_one Calm S pages h xs ys (NoTvm e) = subst (AllWere xs) (sym e) (were_same xs)
were_one Calm S pages h xs ys (Alters t how e names each) = subst (AllWere xs) (sym e) (were_altered t how (λ tvm. (names tvm).0) xs
    (λ tvm live. goes_change _ tvm (how tvm) live (orders_maps Calm _ S pages h t tvm (how tvm) live (each tvm).maps) (each tvm).measures))

pub came_tvms : (Calm : Type 0) (S T : State) (h : ℕ) → TvmsChange Calm S T h → AllCame (board_in S) S.tvms T.tvms
came_tvms Calm S T h (Once made one) = λ t now e. inl (were_one Calm S T.pages h S.tvms T.tvms one t now e)
came_tvms Calm S T h (Twice made mid one two bound) = λ t now e. inl (were_then S.tvms mid T.tvms (were_one Calm S T.pages h S.tvms mid one) (were_one Calm S T.pages h mid T.tvms two) t now e)
came_tvms Calm S T h (Grows mode made e) = subst (AllCame (board_in S) S.tvms) (sym e) (λ t now found. ⊎_elim
    (λ old. inl (were_same S.tvms t now old))
    (λ new. inr (new.0, (mode, new.1.0 ∙ ap (λ k. created k mode (board_in S)) new.1.1)))
    (found_last t S.tvms (created (S.made + 1) mode (board_in S)) now found))
came_tvms Calm S T h (Loses t made e pages nobody restless) = subst (AllCame (board_in S) S.tvms) (sym e) (λ u now found. inl (were_same S.tvms u now (found_kept t u S.tvms now found)))

-- ---- an event

pub came : (S : State) (h : ℕ) (event : Event) → AllCame (board_in S) S.tvms (after_event S h event).tvms
came S h event t now e = came_tvms ⊥ S (done S h event) h (change_done S h event) t now (ap (at (λ (k : Tvm). k.number) t) (sym (line_tvms h ((done S h event).seats h) (done S h event))) ∙ e)

-- ---- histories

measured_new : (t : ℕ) (mode : Mode) (board : ℕ) → IsMeasured board (created t mode board)
measured_new t mode board = record { building = λ e. record { parts = []; all = tt; begins = refl }; finalized = λ e. absurd (true≢false (sym e)) }

-- the size of the board is the script's
same_board : (script : ScriptValue) (H : List Entry) → board_in (after script H) ≡ board_number script.pages script.harts script.files
same_board script H =
    let board = board_of script H in
    ap (λ p. board_number p (after script H).harts (after script H).files) board.same_pages
    ∙ ap (λ h. board_number script.pages h (after script H).files) board.same_harts
    ∙ ap (board_number script.pages script.harts) board.same_files

-- after every history each live TVM is measured as it must be
pub measured : (script : ScriptValue) (H : List Entry) (t : ℕ) (tvm : Tvm) → find_tvm (after script H) t ≡ Some tvm
    → IsMeasured (board_number script.pages script.harts script.files) tvm
measured script = from_end (λ H. (t : ℕ) (tvm : Tvm) → find_tvm (after script H) t ≡ Some tvm → IsMeasured board tvm)
    (λ H e more t tvm live.
    ⊎_elim
    (λ was. was.goes.keeps board (more t was.tvm was.live))
    (λ new. subst (IsMeasured board) (sym (new.1.1 ∙ ap (created t new.1.0) (same_board script H))) (measured_new t new.1.0 board))
    (came (after script H) e.hart.0 e.event t tvm (ap (λ (S : State). find_tvm S t) (sym (after_push script H e)) ∙ live)))
    (λ t tvm live. absurd (none-some tvm live))
  where
    board : ℕ
    board = board_number script.pages script.harts script.files

-- of a TVM that runs nothing more is measured, whatever entry comes
pub sealed : (script : ScriptValue) (H : List Entry) (e : Entry) (t : ℕ) (tvm now : Tvm) → find_tvm (after script H) t ≡ Some tvm → tvm.runnable ≡ true
    → find_tvm (after script (H ++ e ∷ [])) t ≡ Some now → (now.runnable ≡ true) × (now.records ≡ tvm.records)
sealed script H e t tvm now live runs later = ⊎_elim
    (λ was.
    let same : was.tvm ≡ tvm = same_Some was.tvm tvm (sym was.live ∙ live) in
    let on : was.tvm.runnable ≡ true = ap (λ (x : Tvm). x.runnable) same ∙ runs in
    (was.goes.runs on, was.goes.fixed on ∙ ap (λ (x : Tvm). x.records) same))
    (λ new. absurd (none-some tvm (sym new.0 ∙ live)))
    (came (after script H) e.hart.0 e.event t now (ap (λ (S : State). find_tvm S t) (sym (after_push script H e)) ∙ later))

-- the guest pages of each live TVM differ
pub guests_differ : (script : ScriptValue) (H : List Entry) (t : ℕ) (tvm : Tvm) → find_tvm (after script H) t ≡ Some tvm → AreDistinct (guests_of tvm)
guests_differ script = from_end (λ H. (t : ℕ) (tvm : Tvm) → find_tvm (after script H) t ≡ Some tvm → AreDistinct (guests_of tvm))
    (λ H e more t tvm live.
    ⊎_elim
    (λ was. was.goes.orders (more t was.tvm was.live))
    (λ new. subst (λ x. AreDistinct (guests_of x)) (sym new.1.1) tt)
    (came (after script H) e.hart.0 e.event t tvm (ap (λ (S : State). find_tvm S t) (sym (after_push script H e)) ∙ live)))
    (λ t tvm live. absurd (none-some tvm live))
