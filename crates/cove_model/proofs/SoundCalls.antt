-- An accepted call of the host leaves a sound state.
use Rattle.std.proofs.Common.{◌≡◌, ℕ, cond, ◌+◌, ◌/◌, ◌<◌, ◌≤◌, Bool, true, false, ◌&&◌, ◌||◌, not, nat_le, nat_lt, eqb, map, flat_map, filter_map, List, [], ◌∷◌, ◌++◌, Option, Some, None, refl, sym, ap, subst, ◌∙◌, inl, inr, ◌⊎◌, ⊎_elim, eqb-true, eq-eqb, true≢false}
use Rattle.std.specs.List.{AllByRecursion, list_any, cons_option}
use Rattle.std.proofs.lemmas.Bool.{and_from, cases_lt, le-leb, lt-ltb}
use Rattle.cove_model.specs.Machine.{HostCall, Convert, GlobalFence, LocalFence, Reclaim, Create, Tables, Measured, Zero, Run, Remove, Destroy, Owner, Host, Converting, Free, Given, Purpose, AsRoot, AsState, AsTable, AsVcpu, AsData, fence_answered, change, converted, fenced, is_host, page_at, reclaimed, without, Within, IsBacked, IsHeldWithin, IsSound, IsSoundMapping, IsSoundTvm, harts_below, State, board_in, harts_inside, shown_page, is_among, rule, alter, dropped, freed, given_to, removed, Backing, OwnPage, HostPage, Mapping, Standing, Present, Blocked, Tvm, created}
use Rattle.cove_base.specs.declared.calls.HostCall.TheVariants.{Vcpu}
use Rattle.cove_model.proofs.Members.{false-true}
use Rattle.cove_model.proofs.Runs.{change_cases, change_outside, page_map}
use Rattle.cove_model.proofs.Changes.{Adds, Alters, Drops, Grows, Loses, Maps, NoTvm, Once, OneTvm, Restands, Rewords, TvmsChange, Twice, Unmapped, change_call}
use Rattle.cove_model.proofs.HartsInside.{inside_entered}
use Rattle.cove_model.proofs.Lists.{all_append, all_filter, all_weaker}
use Rattle.cove_model.proofs.Moves.{Move, move_call, outcome_state}
use Rattle.cove_model.proofs.Passing.{Passed}
use Rattle.cove_model.proofs.SoundPages.{IsSteady, IsSteadyPage, backed_steady, board_move, rising_move, sound_move, steady_change, steady_each, steady_f, steady_map, steady_refl, steady_then}
use Rattle.cove_model.proofs.SoundTvms.{AllSound, dropped_sound, remembered_sound, restood_sound, tvms_altered, tvms_moved}

-- a state is sound where its pages moved from those of a sound one, and its TVMs are
pub sound_from : (S T : State) (h : ℕ) → T.harts ≡ S.harts → ((p : ℕ) → Move S T h (page_at S.pages p) (page_at T.pages p))
    → IsSound S → AllByRecursion (IsSoundTvm T) T.tvms → IsSound T
sound_from S T h e moves sound tvms = record {
  pages_sound = λ p. sound_move S T h (page_at S.pages p) (page_at T.pages p) e (moves p) (sound.pages_sound p);
  on_board = board_move S T h (page_at S.pages 0) (page_at T.pages 0) e (moves 0) sound.on_board;
  rising = rising_move S T h (page_at S.pages 0) (page_at T.pages 0) (moves 0) sound.rising;
  tvms_sound = tvms;
}

-- ---- a convert: no page of it is mapped shared

none_append : (test : ℕ → Bool) (xs ys : List ℕ) → list_any test (xs ++ ys) ≡ false → (list_any test xs ≡ false) × (list_any test ys ≡ false)
none_append test [] ys e = (refl, e)
none_append test (x ∷ xs) ys e =
    let parts = or_false (test x) (list_any test (xs ++ ys)) e in
    let rest = none_append test xs ys parts.1 in
    (both_false (test x) (list_any test xs) parts.0 rest.0, rest.1)
  where
    or_false : (a b : Bool) → (a || b) ≡ false → (a ≡ false) × (b ≡ false)
    or_false true b e = false-true (sym e)
    or_false false b e = (refl, e)

    both_false : (a b : Bool) → a ≡ false → b ≡ false → (a || b) ≡ false
    both_false a b p q = ap (λ c. c || b) p ∙ q

abbrev in_run : (first n p : ℕ) → Bool
in_run first n p = nat_le first p && nat_lt p (first + n)

out_of_run : (first n p : ℕ) → in_run first n p ≡ false → (p < first) ⊎ (first + n ≤ p)
out_of_run first n p e = ⊎_elim inl
    (λ low. ⊎_elim
    (λ high. false-true (sym e ∙ and_from (nat_le first p) (nat_lt p (first + n)) (le-leb first p low) (lt-ltb p (first + n) high)))
    inr (cases_lt p (first + n)))
    (cases_lt p first)

convert_backed : (harts : List ℕ) (first n : ℕ) (pages : List Owner) (t g : ℕ) (b : Backing)
    → list_any (λ p. nat_le first p && nat_lt p (first + n)) (cons_option (shown_page b) []) ≡ false
    → IsBacked pages t g b → IsBacked (change (converted harts) first n pages) t g b
convert_backed harts first n pages t g (OwnPage page words) none backed =
    (⊎_elim (λ e. e ∙ backed.0) (λ e. e ∙ ap (converted harts) backed.0) (change_cases (converted harts) first n pages page), backed.1)
convert_backed harts first n pages t g (HostPage page) none backed =
    ap is_host (change_outside (converted harts) first n pages page (out_of_run first n page (or_left_false (in_run first n page) none))) ∙ backed
  where
    or_left_false : (a : Bool) → (a || false) ≡ false → a ≡ false
    or_left_false true e = false-true (sym e)
    or_left_false false e = refl

-- each mapping of a TVM stays backed where none of its pages is in the run
convert_mappings : (harts : List ℕ) (first n : ℕ) (pages : List Owner) (inside : List ℕ) (t : ℕ) (ms : List Mapping)
    → list_any (in_run first n) (filter_map (λ m. shown_page m.backing) ms) ≡ false
    → AllSound pages inside t ms → AllSound (change (converted harts) first n pages) inside t ms
convert_mappings harts first n pages inside t [] none all = tt
convert_mappings harts first n pages inside t (m ∷ ms) none all =
    let parts = first_none (shown_page m.backing) none in
    (record { held_within = all.0.held_within; backed = backs parts.0 }, convert_mappings harts first n pages inside t ms parts.1 all.1)
  where
    rest : List ℕ
    rest = filter_map (λ (k : Mapping). shown_page k.backing) ms

    first_none : (o : Option ℕ) → list_any (in_run first n) (cons_option o (filter_map (λ (k : Mapping). shown_page k.backing) ms)) ≡ false
        → (list_any (in_run first n) (cons_option o []) ≡ false) × (list_any (in_run first n) (filter_map (λ (k : Mapping). shown_page k.backing) ms) ≡ false)
    first_none None e = (refl, e)
    first_none (Some p) e = none_append (in_run first n) (p ∷ []) (filter_map (λ (k : Mapping). shown_page k.backing) ms) e

    backs : list_any (in_run first n) (cons_option (shown_page m.backing) []) ≡ false → IsBacked (change (converted harts) first n pages) t m.guest m.backing
    backs e = convert_backed harts first n pages t m.guest m.backing e all.0.backed

convert_tvms : (S T : State) (first n : ℕ) → T.pages ≡ change (converted (harts_below S.harts)) first n S.pages → ((t : ℕ) → harts_inside T t ≡ harts_inside S t)
    → (xs : List Tvm) → list_any (in_run first n) (flat_map (λ tvm. filter_map (λ m. shown_page m.backing) tvm.mappings) xs) ≡ false
    → AllByRecursion (IsSoundTvm S) xs → AllByRecursion (IsSoundTvm T) xs
convert_tvms S T first n pages same [] none all = tt
convert_tvms S T first n pages same (tvm ∷ xs) none all =
    let f = λ (x : Tvm). filter_map (λ (m : Mapping). shown_page m.backing) x.mappings in
    let parts = none_append (in_run first n) (f tvm) (flat_map f xs) none in
    let here = convert_mappings (harts_below S.harts) first n S.pages (harts_inside S tvm.number) tvm.number tvm.mappings parts.0 all.0 in (
      subst (λ ps. AllSound ps (harts_inside T tvm.number) tvm.number tvm.mappings) (sym pages)
          (subst (λ inside. AllSound (change (converted (harts_below S.harts)) first n S.pages) inside tvm.number tvm.mappings) (sym (same tvm.number)) here),
      convert_tvms S T first n pages same xs parts.1 all.1,
    )

-- ---- removes and destroys

removed_backed : (t : ℕ) (test : ℕ → Bool) (pages : List Owner) (u g : ℕ) (b : Backing) → (u ≡ t → test g ≡ false)
    → IsBacked pages u g b → IsBacked (map (removed t test) pages) u g b
removed_backed t test pages u g (OwnPage page words) other backed =
    (page_map (removed t test) refl pages page ∙ ap (removed t test) backed.0 ∙ kept (eqb u t) refl, backed.1)
  where
    kept : (c : Bool) → eqb u t ≡ c → removed t test (Given u (AsData g)) ≡ Given u (AsData g)
    kept true e = ap (λ c. cond (c && test g) Free (Given u (AsData g))) e ∙ ap (λ c. cond c Free (Given u (AsData g))) (other (eqb-true u t e))
    kept false e = ap (λ c. cond (c && test g) Free (Given u (AsData g))) e
removed_backed t test pages u g (HostPage page) other backed =
    ap is_host (page_map (removed t test) refl pages page) ∙ kept (page_at pages page) backed
  where
    kept : (o : Owner) → is_host o ≡ true → is_host (removed t test o) ≡ true
    kept (Host words) e = refl
    kept (Converting held waiting words) e = false-true e
    kept Free e = false-true e
    kept (Given v purpose) e = false-true e

freed_backed : (t : ℕ) (pages : List Owner) (u g : ℕ) (b : Backing) → eqb u t ≡ false → IsBacked pages u g b → IsBacked (map (freed t) pages) u g b
freed_backed t pages u g (OwnPage page words) other backed =
    (page_map (freed t) refl pages page ∙ ap (freed t) backed.0 ∙ ap (λ c. cond c Free (Given u (AsData g))) other, backed.1)
freed_backed t pages u g (HostPage page) other backed =
    ap is_host (page_map (freed t) refl pages page) ∙ kept (page_at pages page) backed
  where
    kept : (o : Owner) → is_host o ≡ true → is_host (freed t o) ≡ true
    kept (Host words) e = refl
    kept (Converting held waiting words) e = false-true e
    kept Free e = false-true e
    kept (Given v purpose) e = false-true e

-- ---- the TVMs, where what stands behind their mappings stays

sound_maps : (Calm Found : Type 0) (S : State) (pages : List Owner) (h t : ℕ) (tvm now : Tvm) → IsSound S → Maps Calm Found S pages h t tvm now
    → AllSound pages (harts_inside S t) t tvm.mappings → AllSound pages (harts_inside S t) t now.mappings
sound_maps Calm Found S pages h t tvm now sound (Unmapped e) all = subst (AllSound pages (harts_inside S t) t) (sym e) all
sound_maps Calm Found S pages h t tvm now sound (Adds new e apart sounds) all =
    subst (AllSound pages (harts_inside S t) t) (sym e) (all_append (IsSoundMapping pages (harts_inside S t) t) tvm.mappings new all (sounds sound))
sound_maps Calm Found S pages h t tvm now sound (Restands test how e restless follows held) all =
    subst (AllSound pages (harts_inside S t) t) (sym e) (restood_sound pages (harts_inside S t) t test how held tvm.mappings all)
sound_maps Calm Found S pages h t tvm now sound (Rewords g how e sizes) all =
    subst (AllSound pages (harts_inside S t) t) (sym e) (remembered_sound pages (harts_inside S t) t g how sizes tvm.mappings all)
sound_maps Calm Found S pages h t tvm now sound (Drops test e restless gone) all =
    subst (AllSound pages (harts_inside S t) t) (sym e) (dropped_sound pages pages (harts_inside S t) t test (λ g b kept backed. backed) tvm.mappings all)

-- the state with other pages
abbrev on_pages : List Owner → State → State
on_pages pages S = record S { pages = pages }

sound_one : (Calm : Type 0) (S : State) (pages : List Owner) (h : ℕ) (xs ys : List Tvm) → IsSound S → OneTvm Calm S pages h xs ys
    → AllByRecursion (IsSoundTvm (on_pages pages S)) xs → AllByRecursion (IsSoundTvm (on_pages pages S)) ys
sound_one Calm S pages h xs ys sound (NoTvm e) all = subst (AllByRecursion (IsSoundTvm (on_pages pages S))) (sym e) all
sound_one Calm S pages h xs ys sound (Alters t how e names each) all = subst (AllByRecursion (IsSoundTvm (on_pages pages S))) (sym e)
    (tvms_altered (on_pages pages S) t how (λ tvm. (names tvm).0) (λ tvm is. sound_maps Calm _ S pages h t tvm (how tvm) sound (each tvm).maps) xs all)

sound_tvms : (Calm : Type 0) (S T : State) (h : ℕ) → IsSound S → TvmsChange Calm S T h
    → AllByRecursion (IsSoundTvm (on_pages T.pages S)) S.tvms → AllByRecursion (IsSoundTvm (on_pages T.pages S)) T.tvms
sound_tvms Calm S T h sound (Once made one) all = sound_one Calm S T.pages h S.tvms T.tvms sound one all
sound_tvms Calm S T h sound (Twice made mid one two bound) all = sound_one Calm S T.pages h mid T.tvms sound two (sound_one Calm S T.pages h S.tvms mid sound one all)
sound_tvms Calm S T h sound (Grows mode made e) all =
    subst (AllByRecursion (IsSoundTvm (on_pages T.pages S))) (sym e) (all_append (IsSoundTvm (on_pages T.pages S)) S.tvms (created (S.made + 1) mode (board_in S) ∷ []) all (tt, tt))
sound_tvms Calm S T h sound (Loses t made e pages nobody restless) all = subst (AllByRecursion (IsSoundTvm (on_pages T.pages S))) (sym e)
    (all_filter (IsSoundTvm (on_pages T.pages S)) (IsSoundTvm (on_pages T.pages S)) (λ (tvm : Tvm). not (eqb tvm.number t)) (λ tvm kept each. each) S.tvms all)

pub entered_held : (inside now : List ℕ) → Within inside now → (s : Standing) → IsHeldWithin inside s → IsHeldWithin now s
entered_held inside now more Present held = tt
entered_held inside now more (Blocked list None) held = λ k e. more k (held k e)
entered_held inside now more (Blocked list (Some waiting)) held = held

-- a change under which what is the host's stays so, what is given stays given, and those inside stay inside
pub sound_steady : (S T : State) (h : ℕ) → T.harts ≡ S.harts → ((p : ℕ) → Move S T h (page_at S.pages p) (page_at T.pages p)) → IsSteady S.pages T.pages
    → ((u : ℕ) → Within (harts_inside S u) (harts_inside T u)) → TvmsChange ⊥ S T h → IsSound S → IsSound T
sound_steady S T h e moves steady inside change sound = sound_from S T h e moves sound
    (tvms_moved (on_pages T.pages S) T (λ u g b backed. backed) (λ u s held. entered_held (harts_inside S u) (harts_inside T u) (inside u) s held) T.tvms
    (sound_tvms ⊥ S T h sound change
    (tvms_moved S (on_pages T.pages S) (backed_steady S.pages T.pages steady) (λ u s held. held) S.tvms sound.tvms_sound)))

-- ---- a convert, a remove and a destroy are not steady

abbrev IsSteadyCall : HostCall → Type 0
IsSteadyCall (Convert base n) = ⊥
IsSteadyCall (Remove t gpa n) = ⊥
IsSteadyCall (Destroy t) = ⊥
IsSteadyCall call = Unit {0}

not_true : (b : Bool) → not b ≡ true → b ≡ false
not_true true e = false-true e
not_true false e = refl

remove_tvms : (S T : State) (t : ℕ) (test : ℕ → Bool) → T.pages ≡ map (removed t test) S.pages → ((u : ℕ) → harts_inside T u ≡ harts_inside S u)
    → (xs : List Tvm) → AllByRecursion (IsSoundTvm S) xs
    → AllByRecursion (IsSoundTvm T) (alter (λ tvm. tvm.number) t (λ tvm. record tvm { mappings = dropped (λ m. test m.guest) tvm.mappings }) xs)
remove_tvms S T t test pages same [] all = tt
remove_tvms S T t test pages same (tvm ∷ xs) all =
    (go (eqb tvm.number t) refl, remove_tvms S T t test pages same xs all.1)
  where
    how : Tvm → Tvm
    how x = record x { mappings = dropped (λ m. test m.guest) x.mappings }

    inside : List ℕ
    inside = harts_inside S tvm.number

    moved : (ms : List Mapping) → AllSound (map (removed t test) S.pages) (harts_inside S tvm.number) tvm.number ms → AllSound T.pages (harts_inside T tvm.number) tvm.number ms
    moved ms a = subst (λ ps. AllSound ps (harts_inside T tvm.number) tvm.number ms) (sym pages)
        (subst (λ i. AllSound (map (removed t test) S.pages) i tvm.number ms) (sym (same tvm.number)) a)

    go : (b : Bool) → eqb tvm.number t ≡ b → IsSoundTvm T (cond b (record tvm { mappings = dropped (λ (m : Mapping). test m.guest) tvm.mappings }) tvm)
    go true e = moved (dropped (λ (m : Mapping). test m.guest) tvm.mappings)
        (dropped_sound S.pages (map (removed t test) S.pages) (harts_inside S tvm.number) tvm.number test
        (λ g b kept backed. removed_backed t test S.pages tvm.number g b (λ is. kept) backed) tvm.mappings all.0)
    go false e = moved tvm.mappings
        (all_weaker (IsSoundMapping S.pages (harts_inside S tvm.number) tvm.number) (IsSoundMapping (map (removed t test) S.pages) (harts_inside S tvm.number) tvm.number)
        (λ m s. record { held_within = s.held_within; backed = removed_backed t test S.pages tvm.number m.guest m.backing (λ is. absurd (other is)) s.backed }) tvm.mappings all.0)
      where
        other : tvm.number ≡ t → ⊥
        other is = true≢false (sym (eq-eqb tvm.number t is) ∙ e)

-- gifts, fences and a reclaim are steady
steady_gift : (t : ℕ) (purpose : Purpose) (o : Owner) → IsSteadyPage o (given_to t purpose o)
steady_gift t purpose o = steady_f (given_to t purpose) (λ words. refl) (λ u other. refl) o

steady_call : (S : State) (h : ℕ) (call : HostCall) → IsSteadyCall call → IsSteady S.pages (outcome_state S h call).pages
steady_call S h (Convert base n) steady = absurd steady
steady_call S h GlobalFence steady =
    steady_map (fenced h (without h (harts_below S.harts))) refl S.pages (steady_f (fenced h (without h (harts_below S.harts))) (λ words. refl) (λ t purpose. refl))
steady_call S h LocalFence steady = steady_map (fence_answered h) refl S.pages (steady_f (fence_answered h) (λ words. refl) (λ t purpose. refl))
steady_call S h (Reclaim base n) steady = steady_change reclaimed (base / 4096) n S.pages (steady_f reclaimed (λ words. refl) (λ t purpose. refl))
steady_call S h (Create root state) steady =
    let t = S.made + 1 in
    let mid = change (given_to t AsRoot) (root / 4096) 4 S.pages in
    steady_then S.pages mid (outcome_state S h (Create root state)).pages
    (steady_change (given_to t AsRoot) (root / 4096) 4 S.pages (steady_gift t AsRoot)) (steady_change (given_to t AsState) (state / 4096) 1 mid (steady_gift t AsState))
steady_call S h (Tables t base n) steady = steady_change (given_to t AsTable) (base / 4096) n S.pages (steady_gift t AsTable)
steady_call S h (Measured t src dst n gpa) steady =
    steady_each (λ i. given_to t (AsData (gpa / 4096 + i))) (dst / 4096) n S.pages (λ i. steady_gift t (AsData (gpa / 4096 + i)))
steady_call S h (Vcpu t v state) steady = steady_change (given_to t AsVcpu) (state / 4096) 1 S.pages (steady_gift t AsVcpu)
steady_call S h (Zero t base n gpa) steady =
    steady_each (λ i. given_to t (AsData (gpa / 4096 + i))) (base / 4096) n S.pages (λ i. steady_gift t (AsData (gpa / 4096 + i)))
steady_call S h (Remove t gpa n) steady = absurd steady
steady_call S h (Destroy t) steady = absurd steady
steady_call S h call steady = steady_refl S.pages

inside_call : (S : State) (h : ℕ) (call : HostCall) → S.seats h ≡ None → (u : ℕ) → Within (harts_inside S u) (harts_inside (outcome_state S h call) u)
inside_call S h (Run t v fuel) outside u = inside_entered S (outcome_state S h (Run t v fuel)) h (record { tvm = t; cpu = v }) refl refl outside u
inside_call S h (Convert base n) outside u = λ k e. e
inside_call S h call outside u = λ k e. e

harts_call : (S : State) (h : ℕ) (call : HostCall) → (outcome_state S h call).harts ≡ S.harts
harts_call S h (Convert base n) = refl
harts_call S h call = refl

-- ---- each call

steady_sound : (S : State) (h : ℕ) (call : HostCall) → IsSteadyCall call → S.seats h ≡ None → Passed (rule S h call).checks → IsSound S → IsSound (outcome_state S h call)
steady_sound S h call steady outside ok sound =
    sound_steady S (outcome_state S h call) h (harts_call S h call) (λ p. move_call S h call p ok) (steady_call S h call steady) (inside_call S h call outside) (change_call S h call ok) sound

pub sound_call : (S : State) (h : ℕ) (call : HostCall) → S.seats h ≡ None → Passed (rule S h call).checks → IsSound S → IsSound (outcome_state S h call)
sound_call S h (Convert base n) outside ok sound =
    let T = outcome_state S h (Convert base n) in
    sound_from S T h refl (λ p. move_call S h (Convert base n) p ok) sound
    (convert_tvms S T (base / 4096) n refl (λ t. refl) S.tvms ok.1.1.1.1.0 sound.tvms_sound)
sound_call S h (Remove t gpa n) outside ok sound =
    let T = outcome_state S h (Remove t gpa n) in
    sound_from S T h refl (λ p. move_call S h (Remove t gpa n) p ok) sound
    (remove_tvms S T t (is_among gpa n) refl (λ u. refl) S.tvms sound.tvms_sound)
sound_call S h (Destroy t) outside ok sound =
    let T = outcome_state S h (Destroy t) in
    sound_from S T h refl (λ p. move_call S h (Destroy t) p ok) sound
    (all_filter (IsSoundTvm S) (IsSoundTvm T) (λ (tvm : Tvm). not (eqb tvm.number t))
    (λ tvm kept each. all_weaker (IsSoundMapping S.pages (harts_inside S tvm.number) tvm.number) (IsSoundMapping T.pages (harts_inside S tvm.number) tvm.number)
    (λ m s. record { held_within = s.held_within; backed = freed_backed t S.pages tvm.number m.guest m.backing (not_true (eqb tvm.number t) kept) s.backed }) tvm.mappings each)
    S.tvms sound.tvms_sound)
sound_call S h call outside ok sound = steady_sound S h call tt outside ok sound
