-- The numbers of a TVM's vCPUs differ, and no two vCPUs are bound to one file.
use Rattle.std.proofs.Common.{◌≡◌, ℕ, ◌+◌, Bool, true, false, cond, eqb, eqb-true, true≢false, map, List, [], ◌∷◌, ◌++◌, Option, Some, None, option_map, unwrap_or, is_some, refl, sym, ap, subst, ◌∙◌, inl, inr, ◌⊎◌, ⊎_elim}
use Rattle.std.proofs.lemmas.Bool.{cases_eq, or_cases}
use Rattle.std.proofs.lemmas.List.{map-append}
use Rattle.std.proofs.lemmas.Option.{none-some, same_Some}
use Rattle.cove_model.specs.Machine.{ScriptValue, HostCall, Entry, Event, after, rule, started, alter, at, dropped, left_unbinding, rebound, AreBoundApart, AreDistinct, BoundFile, cpus_of, bound_file_in, bound_file_of, Owner, has, Seat, State, board_in, new_cpu, after_event, done, line_ended, Cpu, Mode, Tvm, created, new_tvm}
use Rattle.cove_base.specs.declared.events.Exit.{Exit}
use Rattle.cove_model.proofs.AtTheEnd.{after_push, from_end}
use Rattle.cove_model.proofs.BoundPlaces.{place_altered, place_mapped, places_kept}
use Rattle.cove_model.proofs.Changes.{AddsCpu, Alters, Binds, BindsAnew, Cpus, CpusStay, Grows, Leaves, Loses, NoTvm, Once, OnCpu, OneTvm, Rebinds, Starts, StaysBound, TvmsChange, Twice, Unbinds, change_call, place_among, place_at, rebound_place, stopped_by}
use Rattle.cove_model.proofs.Distinct.{distinct_append, keys_altered, keys_map, none_has}
use Rattle.cove_model.proofs.GuestChanges.{change_done}
use Rattle.cove_model.proofs.KeyedLemmas.{at_alter_other, at_alter_same, at_append, at_beyond}
use Rattle.cove_model.proofs.Measuring.{found_kept, found_last}
use Rattle.cove_model.proofs.Moves.{outcome_state}
use Rattle.cove_model.proofs.Passing.{Passed}
use Rattle.cove_model.proofs.Seating.{left_number}

-- ---- one TVM

-- the vCPUs of a TVM are bound where they were or nowhere, but for one, whose file nobody had
data Rebinding (S : State) (was now : ℕ → Option BoundFile) : Type 0 where
  KeepsPlaces : ((w : ℕ) (p : BoundFile) → now w ≡ Some p → was w ≡ Some p) → Rebinding S was now
  TakesPlace : (v : ℕ) (place : BoundFile) → ((u w : ℕ) → bound_file_of S u w ≡ Some place → ⊥)
      → ((w : ℕ) (p : BoundFile) → now w ≡ Some p → (was w ≡ Some p) ⊎ ((w ≡ v) × (p ≡ place))) → Rebinding S was now

same_places : (S : State) (was now : ℕ → Option BoundFile) → ((w : ℕ) → now w ≡ was w) → Rebinding S was now
same_places S was now same = KeepsPlaces (λ w p e. sym (same w) ∙ e)

left_place : (exit : Exit) (cpu : Cpu) → bound_file_in (stopped_by exit cpu).binding ≡ bound_file_in cpu.binding
left_place Exit.Fuel cpu = refl
left_place Exit.Kicked cpu = refl
left_place Exit.Wfi cpu = refl
left_place (Exit.Fault cause page) cpu = refl
left_place (Exit.Trap cause) cpu = refl

-- a new vCPU is bound nowhere
added_place : (v : ℕ) (cs : List Cpu) (w : ℕ) → place_at (cs ++ new_cpu v ∷ []) w ≡ place_at cs w
added_place v cs w = go (at (λ (c : Cpu). c.number) w cs) refl
  where
    bare : (o : Option Cpu) → at (λ (c : Cpu). c.number) w (new_cpu v ∷ []) ≡ o → bound_file_in (unwrap_or o (new_cpu w)).binding ≡ None
    bare None e = refl
    bare (Some cpu) e = lone (eqb v w) cpu e
      where
        lone : (b : Bool) (cpu : Cpu) → cond b (Some (new_cpu v)) None ≡ Some cpu → bound_file_in cpu.binding ≡ None
        lone true cpu q = ap (λ (c : Cpu). bound_file_in c.binding) (sym (same_Some (new_cpu v) cpu q))
        lone false cpu q = absurd (none-some cpu q)

    go : (o : Option Cpu) → at (λ (c : Cpu). c.number) w cs ≡ o → place_at (cs ++ new_cpu v ∷ []) w ≡ bound_file_in (unwrap_or o (new_cpu w)).binding
    go None e = ap (λ o. bound_file_in (unwrap_or o (new_cpu w)).binding) (at_beyond (λ (c : Cpu). c.number) w cs (new_cpu v ∷ []) e)
        ∙ bare (at (λ (c : Cpu). c.number) w (new_cpu v ∷ [])) refl
    go (Some cpu) e = ap (λ o. bound_file_in (unwrap_or o (new_cpu w)).binding) (at_append (λ (c : Cpu). c.number) w cs (new_cpu v ∷ []) cpu e)

-- one vCPU is changed
binds_cpu : (S : State) (v : ℕ) (how : Cpu → Cpu) → ((cpu : Cpu) → (how cpu).number ≡ cpu.number) → (cs : List Cpu) → Binds S how
    → Rebinding S (place_at cs) (place_at (alter (λ c. c.number) v how cs))
binds_cpu S v how numbers cs (StaysBound same) = same_places S (place_at cs) _ (λ w. place_altered how numbers same v w cs)
binds_cpu S v how numbers cs (Unbinds gone) = KeepsPlaces (λ w p e. ⊎_elim
    (λ is. absurd (none-some p (sym (ap bound_file_in (unbound w is)) ∙ e)))
    (λ ne. sym (ap (λ o. bound_file_in (unwrap_or o (new_cpu w)).binding) (at_alter_other (λ (c : Cpu). c.number) w v how numbers ne cs)) ∙ e)
    (cases_eq w v))
  where
    none : (w : ℕ) (o : Option Cpu) → (unwrap_or (option_map how o) (new_cpu w)).binding ≡ None
    none w None = refl
    none w (Some cpu) = gone cpu

    unbound : (w : ℕ) → w ≡ v → (unwrap_or (at (λ (c : Cpu). c.number) w (alter (λ (c : Cpu). c.number) v how cs)) (new_cpu w)).binding ≡ None
    unbound w is = ap (λ k. (unwrap_or (at (λ (c : Cpu). c.number) w (alter (λ (c : Cpu). c.number) k how cs)) (new_cpu w)).binding) (sym is)
        ∙ ap (λ o. (unwrap_or o (new_cpu w)).binding) (at_alter_same (λ (c : Cpu). c.number) w how numbers cs) ∙ none w (at (λ (c : Cpu). c.number) w cs)
binds_cpu S v how numbers cs (BindsAnew place new nobody) = TakesPlace v place nobody (λ w p e. ⊎_elim
    (λ is. taken w p is (at (λ (c : Cpu). c.number) w cs) refl (sym (here w is) ∙ e))
    (λ ne. inl (sym (ap (λ o. bound_file_in (unwrap_or o (new_cpu w)).binding) (at_alter_other (λ (c : Cpu). c.number) w v how numbers ne cs)) ∙ e))
    (cases_eq w v))
  where
    here : (w : ℕ) → w ≡ v → place_at (alter (λ c. c.number) v how cs) w ≡ bound_file_in (unwrap_or (option_map how (at (λ (c : Cpu). c.number) w cs)) (new_cpu w)).binding
    here w is = ap (λ k. place_at (alter (λ (c : Cpu). c.number) k how cs) w) (sym is)
        ∙ ap (λ o. bound_file_in (unwrap_or o (new_cpu w)).binding) (at_alter_same (λ (c : Cpu). c.number) w how numbers cs)

    taken : (w : ℕ) (p : BoundFile) → w ≡ v → (o : Option Cpu) → at (λ (c : Cpu). c.number) w cs ≡ o → bound_file_in (unwrap_or (option_map how o) (new_cpu w)).binding ≡ Some p
        → (place_at cs w ≡ Some p) ⊎ ((w ≡ v) × (p ≡ place))
    taken w p is None q e = absurd (none-some p e)
    taken w p is (Some cpu) q e = inr (is, same_Some p place (sym e ∙ new cpu))

binds_cpus : (Found : Type 0) (S : State) (h t : ℕ) (tvm now : Tvm) → Cpus Found S h t tvm now → Rebinding S (place_at tvm.cpus) (place_at now.cpus)
binds_cpus Found S h t tvm now (CpusStay e) = same_places S (place_at tvm.cpus) (place_at now.cpus) (λ w. ap (λ cs. place_at cs w) e)
binds_cpus Found S h t tvm now (AddsCpu v e fresh) = same_places S (place_at tvm.cpus) (place_at now.cpus) (λ w. ap (λ cs. place_at cs w) e ∙ added_place v tvm.cpus w)
binds_cpus Found S h t tvm now (Starts pc arg built e) =
    same_places S (place_at tvm.cpus) (place_at now.cpus) (λ w. ap (λ cs. place_at cs w) e ∙ place_mapped (started pc arg) (λ cpu. refl) (λ cpu. refl) w tvm.cpus)
binds_cpus Found S h t tvm now (OnCpu v how e numbers spares binds) = subst (λ cs. Rebinding S (place_at tvm.cpus) (place_at cs)) (sym e) (binds_cpu S v how numbers tvm.cpus binds)
binds_cpus Found S h t tvm now (Rebinds how e) =
    same_places S (place_at tvm.cpus) (place_at now.cpus) (λ w. ap (λ cs. place_at cs w) e ∙ place_mapped (rebound how) (λ cpu. refl) (rebound_place how) w tvm.cpus)
binds_cpus Found S h t tvm now (Leaves v exit e spares) = same_places S (place_at tvm.cpus) (place_at now.cpus) (λ w. ap (λ cs. place_at cs w) e
    ∙ place_altered (stopped_by exit) (left_number exit) (left_place exit) v w (map (rebound (left_unbinding h)) tvm.cpus)
    ∙ place_mapped (rebound (left_unbinding h)) (λ cpu. refl) (rebound_place (left_unbinding h)) w tvm.cpus)

-- and its numbers differ
differ_cpus : (Found : Type 0) (S : State) (h t : ℕ) (tvm now : Tvm) → Found → Cpus Found S h t tvm now → AreDistinct (cpus_of tvm) → AreDistinct (cpus_of now)
differ_cpus Found S h t tvm now found (CpusStay e) d = subst AreDistinct (sym (ap (map (λ (c : Cpu). c.number)) e)) d
differ_cpus Found S h t tvm now found (AddsCpu v e fresh) d =
    subst AreDistinct (sym (ap (map (λ (c : Cpu). c.number)) e ∙ map-append (λ (c : Cpu). c.number) tvm.cpus (new_cpu v ∷ [])))
    (distinct_append (cpus_of tvm) (v ∷ []) d (refl, tt) (λ k q. subst (λ n. has n (cpus_of tvm) ≡ false) (only k q)
    (none_has (λ (c : Cpu). c.number) v tvm.cpus (is_none_of (at (λ (c : Cpu). c.number) v tvm.cpus) (fresh found)))))
  where
    is_none_of : (o : Option Cpu) → is_some o ≡ false → o ≡ None
    is_none_of None q = refl
    is_none_of (Some c) q = absurd (true≢false q)

    only : (k : ℕ) → has k (v ∷ []) ≡ true → v ≡ k
    only k q = ⊎_elim (λ here. eqb-true v k here) (λ none. absurd (true≢false (sym none))) (or_cases (eqb v k) false q)
differ_cpus Found S h t tvm now found (Starts pc arg built e) d = subst AreDistinct (sym (ap (map (λ (c : Cpu). c.number)) e ∙ keys_map (λ (c : Cpu). c.number) (started pc arg) (λ cpu. refl) tvm.cpus)) d
differ_cpus Found S h t tvm now found (OnCpu v how e numbers spares binds) d = subst AreDistinct (sym (ap (map (λ (c : Cpu). c.number)) e ∙ keys_altered (λ (c : Cpu). c.number) v how numbers tvm.cpus)) d
differ_cpus Found S h t tvm now found (Rebinds how e) d = subst AreDistinct (sym (ap (map (λ (c : Cpu). c.number)) e ∙ keys_map (λ (c : Cpu). c.number) (rebound how) (λ cpu. refl) tvm.cpus)) d
differ_cpus Found S h t tvm now found (Leaves v exit e spares) d = subst AreDistinct (sym (ap (map (λ (c : Cpu). c.number)) e
    ∙ keys_altered (λ (c : Cpu). c.number) v (stopped_by exit) (left_number exit) (map (rebound (left_unbinding h)) tvm.cpus)
    ∙ keys_map (λ (c : Cpu). c.number) (rebound (left_unbinding h)) (λ cpu. refl) tvm.cpus)) d

-- ---- the live TVMs

data Rebindings (S : State) (xs ys : List Tvm) : Type 0 where
  AllKeep : ((u w : ℕ) (p : BoundFile) → place_among ys u w ≡ Some p → place_among xs u w ≡ Some p) → Rebindings S xs ys
  OneTakes : (t v : ℕ) (place : BoundFile) → ((u w : ℕ) → bound_file_of S u w ≡ Some place → ⊥)
      → ((u w : ℕ) (p : BoundFile) → place_among ys u w ≡ Some p → (place_among xs u w ≡ Some p) ⊎ ((u ≡ t) × (w ≡ v) × (p ≡ place))) → Rebindings S xs ys

-- the vCPUs of the TVM with a number differ in theirs
abbrev Differ : List Tvm → (u : ℕ) → Type 0
Differ xs u = AreDistinct (cpus_of (unwrap_or (at (λ k. k.number) u xs) (new_tvm u)))

-- one TVM is changed
module _ (t : ℕ) (how : Tvm → Tvm) (numbers : (tvm : Tvm) → (how tvm).number ≡ tvm.number) (xs : List Tvm) where
  -- what is found under another number stays
  others : (P : Tvm → Type 0) (u : ℕ) → (u ≡ t → ⊥) → P (unwrap_or (at (λ k. k.number) u (alter (λ k. k.number) t how xs)) (new_tvm u)) → P (unwrap_or (at (λ k. k.number) u xs) (new_tvm u))
  others P u ne p = subst (λ (o : Option Tvm). P (unwrap_or o (new_tvm u))) (at_alter_other (λ (k : Tvm). k.number) u t how numbers ne xs) p

  binds_found : (S : State) (tvm : Tvm) → at (λ k. k.number) t xs ≡ Some tvm → Rebinding S (place_at tvm.cpus) (place_at (how tvm).cpus) → Rebindings S xs (alter (λ k. k.number) t how xs)
  binds_found S tvm live change = go change
    where
      before : (u w : ℕ) → u ≡ t → place_among xs u w ≡ place_at tvm.cpus w
      before u w is = ap (λ k. place_among xs k w) is ∙ ap (λ o. place_at (unwrap_or o (new_tvm t)).cpus w) live

      later : (u w : ℕ) → u ≡ t → place_among (alter (λ k. k.number) t how xs) u w ≡ place_at (how tvm).cpus w
      later u w is = ap (λ k. place_among (alter (λ (x : Tvm). x.number) t how xs) k w) is
          ∙ ap (λ o. place_at (unwrap_or o (new_tvm t)).cpus w) (at_alter_same (λ (k : Tvm). k.number) t how numbers xs ∙ ap (option_map how) live)

      go : Rebinding S (place_at tvm.cpus) (place_at (how tvm).cpus) → Rebindings S xs (alter (λ k. k.number) t how xs)
      go (KeepsPlaces keep) = AllKeep (λ u w p e. ⊎_elim
          (λ is. before u w is ∙ keep w p (sym (later u w is) ∙ e))
          (λ ne. others (λ x. place_at x.cpus w ≡ Some p) u ne e)
          (cases_eq u t))
      go (TakesPlace v place nobody takes) = OneTakes t v place nobody (λ u w p e. ⊎_elim
          (λ is. ⊎_elim (λ old. inl (before u w is ∙ old)) (λ new. inr (is, new.0, new.1)) (takes w p (sym (later u w is) ∙ e)))
          (λ ne. inl (others (λ x. place_at x.cpus w ≡ Some p) u ne e))
          (cases_eq u t))

binds_one : (Calm : Type 0) (S : State) (pages : List Owner) (h : ℕ) (xs ys : List Tvm) → OneTvm Calm S pages h xs ys → Rebindings S xs ys
binds_one Calm S pages h xs ys (NoTvm e) = AllKeep (λ u w p q. ap (λ l. place_among l u w) (sym e) ∙ q)
binds_one Calm S pages h xs ys (Alters t how e names each) = subst (Rebindings S xs) (sym e) (go (at (λ (k : Tvm). k.number) t xs) refl)
  where
    go : (o : Option Tvm) → at (λ k. k.number) t xs ≡ o → Rebindings S xs (alter (λ k. k.number) t how xs)
    go None none = AllKeep (λ u w p q. sym (places_kept t how (λ tvm. (names tvm).0) xs (λ tvm x live. absurd (none-some tvm (sym none ∙ live))) u w) ∙ q)
    go (Some tvm) live = binds_found t how (λ tvm. (names tvm).0) xs S tvm live (binds_cpus _ S h t tvm (how tvm) (each tvm).cpus)

differ_one : (Calm : Type 0) (S : State) (pages : List Owner) (h : ℕ) (xs ys : List Tvm) (u : ℕ) → OneTvm Calm S pages h xs ys → Differ xs u → Differ ys u
differ_one Calm S pages h xs ys u (NoTvm e) d = subst (λ l. Differ l u) (sym e) d
differ_one Calm S pages h xs ys u (Alters t how e names each) d = subst (λ l. Differ l u) (sym e) (⊎_elim
    (λ is. subst (Differ (alter (λ (k : Tvm). k.number) t how xs)) (sym is)
    (subst (λ (o : Option Tvm). AreDistinct (cpus_of (unwrap_or o (new_tvm t)))) (sym (at_alter_same (λ (k : Tvm). k.number) t how (λ tvm. (names tvm).0) xs))
    (go (at (λ (k : Tvm). k.number) t xs) refl (subst (Differ xs) is d))))
    (λ ne. subst (λ (o : Option Tvm). AreDistinct (cpus_of (unwrap_or o (new_tvm u)))) (sym (at_alter_other (λ (k : Tvm). k.number) u t how (λ tvm. (names tvm).0) ne xs)) d)
    (cases_eq u t))
  where
    go : (o : Option Tvm) → at (λ k. k.number) t xs ≡ o → AreDistinct (cpus_of (unwrap_or o (new_tvm t))) → AreDistinct (cpus_of (unwrap_or (option_map how o) (new_tvm t)))
    go None none all = tt
    go (Some tvm) live all = differ_cpus _ S h t tvm (how tvm) live (each tvm).cpus all

-- a list of TVMs in which those that are found were there, or are new
abbrev Comes : (xs ys : List Tvm) → Type 0
Comes xs ys = (u : ℕ) (now : Tvm) → at (λ k. k.number) u ys ≡ Some now → (at (λ k. k.number) u xs ≡ Some now) ⊎ (now.cpus ≡ [])

comes_grown : (S : State) (mode : Mode) → Comes S.tvms (S.tvms ++ created (S.made + 1) mode (board_in S) ∷ [])
comes_grown S mode u now found = ⊎_elim inl (λ new. inr (ap (λ (k : Tvm). k.cpus) new.1.0)) (found_last u S.tvms (created (S.made + 1) mode (board_in S)) now found)

comes_lost : (t : ℕ) (xs : List Tvm) → Comes xs (dropped (λ k. eqb k.number t) xs)
comes_lost t xs u now found = inl (found_kept t u xs now found)

places_come : (S : State) (xs ys : List Tvm) → Comes xs ys → Rebindings S xs ys
places_come S xs ys comes = AllKeep (λ u w p e. go u w p (at (λ (k : Tvm). k.number) u ys) refl e)
  where
    go : (u w : ℕ) (p : BoundFile) (o : Option Tvm) → at (λ k. k.number) u ys ≡ o → place_at (unwrap_or o (new_tvm u)).cpus w ≡ Some p → place_among xs u w ≡ Some p
    go u w p None q e = absurd (none-some p e)
    go u w p (Some now) q e = ⊎_elim
        (λ old. ap (λ o. place_at (unwrap_or o (new_tvm u)).cpus w) old ∙ e)
        (λ new. absurd (none-some p (ap (λ cpus. place_at cpus w) (sym new) ∙ e)))
        (comes u now q)

differ_come : (xs ys : List Tvm) (u : ℕ) → Comes xs ys → Differ xs u → Differ ys u
differ_come xs ys u comes d = go (at (λ (k : Tvm). k.number) u ys) refl
  where
    go : (o : Option Tvm) → at (λ k. k.number) u ys ≡ o → AreDistinct (cpus_of (unwrap_or o (new_tvm u)))
    go None q = tt
    go (Some now) q = ⊎_elim
        (λ old. subst (λ (o : Option Tvm). AreDistinct (cpus_of (unwrap_or o (new_tvm u)))) old d)
        (λ new. subst (λ cpus. AreDistinct (map (λ (c : Cpu). c.number) cpus)) (sym new) tt)
        (comes u now q)

binds_tvms : (Calm : Type 0) (S T : State) (h : ℕ) → TvmsChange Calm S T h → Rebindings S S.tvms T.tvms
binds_tvms Calm S T h (Once made one) = binds_one Calm S T.pages h S.tvms T.tvms one
binds_tvms Calm S T h (Twice made mid one two bound) = go (binds_one Calm S T.pages h S.tvms mid one)
  where
    go : Rebindings S S.tvms mid → Rebindings S S.tvms T.tvms
    go (AllKeep keep) = AllKeep (λ u w p e. keep u w p (sym (bound u w) ∙ e))
    go (OneTakes t v place nobody takes) = OneTakes t v place nobody (λ u w p e. takes u w p (sym (bound u w) ∙ e))
binds_tvms Calm S T h (Grows mode made e) = subst (Rebindings S S.tvms) (sym e) (places_come S S.tvms _ (comes_grown S mode))
binds_tvms Calm S T h (Loses t made e pages nobody restless) = subst (Rebindings S S.tvms) (sym e) (places_come S S.tvms _ (comes_lost t S.tvms))

differ_tvms : (Calm : Type 0) (S T : State) (h u : ℕ) → TvmsChange Calm S T h → Differ S.tvms u → Differ T.tvms u
differ_tvms Calm S T h u (Once made one) d = differ_one Calm S T.pages h S.tvms T.tvms u one d
differ_tvms Calm S T h u (Twice made mid one two bound) d = differ_one Calm S T.pages h mid T.tvms u two (differ_one Calm S T.pages h S.tvms mid u one d)
differ_tvms Calm S T h u (Grows mode made e) d = subst (λ l. Differ l u) (sym e) (differ_come S.tvms _ u (comes_grown S mode) d)
differ_tvms Calm S T h u (Loses t made e pages nobody restless) d = subst (λ l. Differ l u) (sym e) (differ_come S.tvms _ u (comes_lost t S.tvms) d)

-- ---- every event

bound_tvms : (S T : State) (h : ℕ) → TvmsChange ⊥ S T h → AreBoundApart S → AreBoundApart T
bound_tvms S T h change was = record {
  cpus = λ u. differ_tvms ⊥ S T h u change (was.cpus u);
  files = λ t u v w p one two. go t u v w p one two (binds_tvms ⊥ S T h change);
}
  where
    go : (t u v w : ℕ) (p : BoundFile) → bound_file_of T t v ≡ Some p → bound_file_of T u w ≡ Some p → Rebindings S S.tvms T.tvms → (t ≡ u) × (v ≡ w)
    go t u v w p one two (AllKeep keep) = was.files t u v w p (keep t v p one) (keep u w p two)
    go t u v w p one two (OneTakes x y place nobody takes) = ⊎_elim
        (λ old. ⊎_elim
        (λ other. was.files t u v w p old other)
        (λ new. absurd (nobody t v (old ∙ ap (λ (q : BoundFile). Some q) new.2)))
        (takes u w p two))
        (λ new. ⊎_elim
        (λ other. absurd (nobody u w (other ∙ ap (λ (q : BoundFile). Some q) new.2)))
        (λ same. (new.0 ∙ sym same.0, new.1 ∙ sym same.1))
        (takes u w p two))
        (takes t v p one)

bound_line : (h : ℕ) (o : Option Seat) (S : State) → AreBoundApart S → AreBoundApart (line_ended h o S)
bound_line h None S was = record { cpus = was.cpus; files = was.files }
bound_line h (Some seat) S was = was

pub bound_event : (S : State) (h : ℕ) (event : Event) → AreBoundApart S → AreBoundApart (after_event S h event)
bound_event S h event was = bound_line h ((done S h event).seats h) (done S h event) (bound_tvms S (done S h event) h (change_done S h event) was)

-- after every history
pub bound_apart : (script : ScriptValue) (H : List Entry) → AreBoundApart (after script H)
bound_apart script = from_end (λ H. AreBoundApart (after script H))
    (λ H e more. subst AreBoundApart (sym (after_push script H e)) (bound_event (after script H) e.hart.0 e.event more))
    (record { cpus = λ t. tt; files = λ t u v w p one two. absurd (none-some p one) })

-- and after an accepted call of the host, whatever state it was made in
pub bound_apart_call : (S : State) (h : ℕ) (call : HostCall) → Passed (rule S h call).checks → AreBoundApart S → AreBoundApart (outcome_state S h call)
bound_apart_call S h call ok was = bound_tvms S (outcome_state S h call) h (change_call S h call ok) was
