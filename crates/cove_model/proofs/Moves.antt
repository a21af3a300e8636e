-- What an event does to a page.
use Rattle.std.proofs.Common.{◌≡◌, ℕ, ◌+◌, ◌/◌, Bool, true, false, List, [], ◌∷◌, refl, sym, ap, subst, ◌∙◌, inl, inr, ◌⊎◌, ⊎_elim, nat_lt, length, arith, lt-ltb, suc, true≢false, eqb, eq-eqb, map, is_none}
use Rattle.std.proofs.lemmas.Bool.{cond-true, cond-false, and_parts, eqb-true, or_left}
use Rattle.std.proofs.lemmas.List.{map-append}
use Rattle.cove_model.specs.Machine.{HostCall, Convert, GlobalFence, LocalFence, Reclaim, Create, Tables, Measured, Zero, Remove, Destroy, Owner, Host, Converting, Free, Given, Purpose, AsRoot, AsState, AsTable, AsVcpu, AsData, fence_answered, change, converted, fenced, has, page_at, reclaimed, without, word_stored, find_tvm, harts_below, harts_inside, State, board_in, alter, numbers_of, Tvm, created, mode_of, is_among, rule, freed, given_to, is_data_of, is_given, removed}
use Rattle.cove_base.specs.declared.calls.HostCall.TheVariants.{Vcpu}
use Rattle.cove_model.proofs.Runs.{change_cases, page_map}
use Rattle.cove_model.proofs.PageRuns.{each_cases}
use Rattle.cove_model.proofs.Distinct.{has_right, keys_altered, some_has}
use Rattle.cove_model.proofs.Passing.{Passed}

-- A page is given to a TVM that is live then, as a root to a new one alone; and a page that is none of its memory is taken back only where no hart is inside
pub record IsGift (S T : State) (t : ℕ) (purpose : Purpose) : Type 0 where
  pub new_root : purpose ≡ AsRoot → t ≡ S.made + 1
  pub live : has t (numbers_of T) ≡ true

abbrev pub IsReturnable : State → (t : ℕ) → Purpose → Type 0
IsReturnable S t purpose = ((g : ℕ) × (purpose ≡ AsData g)) ⊎ (harts_inside S t ≡ [])

-- how an event of a hart moves a page from old to new, and the harts that have not answered from S to T
pub data Move (S T : State) (h : ℕ) (old new : Owner) : Type 0 where
  Same : T.unanswered ≡ S.unanswered → new ≡ old → Move S T h old new
  Converts : T.unanswered ≡ S.unanswered → new ≡ converted (harts_below S.harts) old → Move S T h old new
  Reclaims : T.unanswered ≡ S.unanswered → new ≡ reclaimed old → Move S T h old new
  Stores : (place value : ℕ) → T.unanswered ≡ S.unanswered → new ≡ word_stored place value old → Move S T h old new
  Fences : S.unanswered ≡ [] → T.unanswered ≡ without h (harts_below S.harts) → new ≡ fenced h (without h (harts_below S.harts)) old → Move S T h old new
  Responds : T.unanswered ≡ without h S.unanswered → new ≡ fence_answered h old → Move S T h old new
  Gives : (t : ℕ) (purpose : Purpose) → T.unanswered ≡ S.unanswered → IsGift S T t purpose → old ≡ Free → new ≡ Given t purpose → Move S T h old new
  Returns : (t : ℕ) (purpose : Purpose) → T.unanswered ≡ S.unanswered → IsReturnable S t purpose → old ≡ Given t purpose → new ≡ Free → Move S T h old new

-- ---- gifts

abbrev is_root : Purpose → Bool
is_root AsRoot = true
is_root purpose = false

no_root : (purpose : Purpose) → is_root purpose ≡ false → purpose ≡ AsRoot → ⊥
no_root purpose e q = true≢false (sym (ap is_root q) ∙ e)

no_root_gift : (S T : State) (t : ℕ) (purpose : Purpose) → is_root purpose ≡ false → has t (numbers_of T) ≡ true → IsGift S T t purpose
no_root_gift S T t purpose e live = record { new_root = λ q. absurd (no_root purpose e q); live = live }

gift_cases : (t : ℕ) (purpose : Purpose) (o : Owner) → (given_to t purpose o ≡ o) ⊎ ((o ≡ Free) × (given_to t purpose o ≡ Given t purpose))
gift_cases t purpose (Host words) = inl refl
gift_cases t purpose (Converting held waiting words) = inl refl
gift_cases t purpose Free = inr (refl, refl)
gift_cases t purpose (Given u other) = inl refl

pub gift : (S T : State) (h t : ℕ) (purpose : Purpose) (old new : Owner) → T.unanswered ≡ S.unanswered → IsGift S T t purpose → (new ≡ old) ⊎ (new ≡ given_to t purpose old) → Move S T h old new
gift S T h t purpose old new u root (inl e) = Same u e
gift S T h t purpose old new u root (inr e) = go (gift_cases t purpose old)
  where
    go : (given_to t purpose old ≡ old) ⊎ ((old ≡ Free) × (given_to t purpose old ≡ Given t purpose)) → Move S T h old new
    go (inl same) = Same u (e ∙ same)
    go (inr given) = Gives t purpose u root given.0 (e ∙ given.1)

gift_each : (S T : State) (h t : ℕ) (purpose : ℕ → Purpose) (old new : Owner) → T.unanswered ≡ S.unanswered → ((i : ℕ) → IsGift S T t (purpose i)) → (new ≡ old) ⊎ ((i : ℕ) × (new ≡ given_to t (purpose i) old)) → Move S T h old new
gift_each S T h t purpose old new u root (inl e) = Same u e
gift_each S T h t purpose old new u root (inr e) = gift S T h t (purpose e.0) old new u (root e.0) (inr e.1)

-- two gifts, one after the other
gift_twice : (S T : State) (h t : ℕ) (one other : Purpose) (old mid new : Owner) → T.unanswered ≡ S.unanswered → IsGift S T t one → IsGift S T t other
    → (mid ≡ old) ⊎ (mid ≡ given_to t one old) → (new ≡ mid) ⊎ (new ≡ given_to t other mid) → Move S T h old new
gift_twice S T h t one other old mid new u root next first second = go (gift S T h t one old mid u root first)
  where
    after_free : mid ≡ old → Move S T h old new
    after_free e = subst (λ o. Move S T h o new) e (gift S T h t other mid new u next second)

    after_gift : old ≡ Free → mid ≡ Given t one → Move S T h old new
    after_gift free given = Gives t one u root free (⊎_elim (λ e. e ∙ given) (λ e. e ∙ ap (given_to t other) given) second)

    go : Move S T h old mid → Move S T h old new
    go (Same v e) = after_free e
    go (Gives t' p v new_root free e) = ⊎_elim
        (λ same. after_free same)
        (λ given. ⊎_elim (λ q. after_free (given ∙ q)) (λ q. after_gift free (given ∙ q.1)) (gift_cases t one old))
        first
    go _ = ⊎_elim
        (λ same. after_free same)
        (λ given. ⊎_elim (λ q. after_free (given ∙ q)) (λ q. after_gift q.0 (given ∙ q.1)) (gift_cases t one old))
        first

-- ---- returns

removed_cases : (S : State) (t : ℕ) (test : ℕ → Bool) (o : Owner) → (removed t test o ≡ o) ⊎ ((p : Purpose) × IsReturnable S t p × (o ≡ Given t p) × (removed t test o ≡ Free))
removed_cases S t test (Host words) = inl refl
removed_cases S t test (Converting held waiting words) = inl refl
removed_cases S t test Free = inl refl
removed_cases S t test (Given u AsRoot) = inl refl
removed_cases S t test (Given u AsState) = inl refl
removed_cases S t test (Given u AsTable) = inl refl
removed_cases S t test (Given u AsVcpu) = inl refl
removed_cases S t test (Given u (AsData g)) = go (is_data_of t test (Given u (AsData g))) refl
  where
    go : (b : Bool) → is_data_of t test (Given u (AsData g)) ≡ b → (removed t test (Given u (AsData g)) ≡ Given u (AsData g)) ⊎ ((p : Purpose) × IsReturnable S t p × (Given u (AsData g) ≡ Given t p) × (removed t test (Given u (AsData g)) ≡ Free))
    go true e = inr (AsData g, inl (g, refl), ap (λ k. Given k (AsData g)) (eqb-true u t (and_parts _ (test g) e).0), cond-true _ Free (Given u (AsData g)) e)
    go false e = inl (cond-false _ Free (Given u (AsData g)) e)

freed_cases : (S : State) (t : ℕ) → harts_inside S t ≡ [] → (o : Owner) → (freed t o ≡ o) ⊎ ((p : Purpose) × IsReturnable S t p × (o ≡ Given t p) × (freed t o ≡ Free))
freed_cases S t left (Host words) = inl refl
freed_cases S t left (Converting held waiting words) = inl refl
freed_cases S t left Free = inl refl
freed_cases S t left (Given u purpose) = go (is_given t (Given u purpose)) refl
  where
    go : (b : Bool) → is_given t (Given u purpose) ≡ b → (freed t (Given u purpose) ≡ Given u purpose) ⊎ ((p : Purpose) × IsReturnable S t p × (Given u purpose ≡ Given t p) × (freed t (Given u purpose) ≡ Free))
    go true e = inr (purpose, inr left, ap (λ k. Given k purpose) (eqb-true u t e), cond-true _ Free (Given u purpose) e)
    go false e = inl (cond-false _ Free (Given u purpose) e)

returned : (S T : State) (h t : ℕ) (old new : Owner) (f : Owner → Owner) → T.unanswered ≡ S.unanswered → new ≡ f old
    → (f old ≡ old) ⊎ ((p : Purpose) × IsReturnable S t p × (old ≡ Given t p) × (f old ≡ Free)) → Move S T h old new
returned S T h t old new f u e (inl same) = Same u (e ∙ same)
returned S T h t old new f u e (inr given) = Returns t given.0 u given.1 given.2 (e ∙ given.3)

-- ---- calls

pub none_left : (harts : List ℕ) → nat_lt 0 (length harts) ≡ false → harts ≡ []
none_left [] e = refl
none_left (x ∷ xs) e = absurd (true_false (sym (lt-ltb 0 (suc (length xs)) (omega arith)) ∙ e))
  where
    true_false : true ≡ false → ⊥
    true_false q = cc

-- a live TVM is so after one is changed
live_after : (S T : State) (t : ℕ) (how : Tvm → Tvm) → ((tvm : Tvm) → (how tvm).number ≡ tvm.number) → T.tvms ≡ alter (λ (k : Tvm). k.number) t how S.tvms → is_none (find_tvm S t) ≡ false → has t (numbers_of T) ≡ true
live_after S T t how numbers tvms live =
    ap (λ xs. has t (map (λ (k : Tvm). k.number) xs)) tvms ∙ ap (has t) (keys_altered (λ (k : Tvm). k.number) t how numbers S.tvms) ∙ some_has (λ (k : Tvm). k.number) t S.tvms live

-- the state after a call's row
abbrev pub outcome_state : State → (h : ℕ) → HostCall → State
outcome_state S h call = (rule S h call).outcome.state

pub move_call : (S : State) (h : ℕ) (call : HostCall) (p : ℕ) → Passed (rule S h call).checks
    → Move S (outcome_state S h call) h (page_at S.pages p) (page_at (outcome_state S h call).pages p)
move_call S h (Convert base n) p ok = ⊎_elim (λ e. Same refl e) (λ e. Converts refl e) (change_cases (converted (harts_below S.harts)) (base / 4096) n S.pages p)
move_call S h GlobalFence p ok = Fences (none_left S.unanswered ok.0) refl (page_map (fenced h (without h (harts_below S.harts))) refl S.pages p)
move_call S h LocalFence p ok = Responds refl (page_map (fence_answered h) refl S.pages p)
move_call S h (Reclaim base n) p ok = ⊎_elim (λ e. Same refl e) (λ e. Reclaims refl e) (change_cases reclaimed (base / 4096) n S.pages p)
move_call S h (Create root state) p ok =
    let T = outcome_state S h (Create root state) in
    let t = S.made + 1 in
    let mid = change (given_to t AsRoot) (root / 4096) 4 S.pages in
    let live : has t (numbers_of T) ≡ true = ap (has t) (map-append (λ (k : Tvm). k.number) S.tvms (created t (mode_of root) (board_in S) ∷ [])) ∙ has_right t (numbers_of S) (t ∷ []) (or_left (eqb t t) false (eq-eqb t t refl)) in
    gift_twice S T h t AsRoot AsState (page_at S.pages p) (page_at mid p) (page_at T.pages p) refl (record { new_root = λ e. refl; live = live }) (no_root_gift S T t AsState refl live)
    (change_cases (given_to t AsRoot) (root / 4096) 4 S.pages p) (change_cases (given_to t AsState) (state / 4096) 1 mid p)
move_call S h (Tables t base n) p ok =
    let T = outcome_state S h (Tables t base n) in
    let live = live_after S T t _ (λ tvm. refl) refl ok.0 in
    gift S T h t AsTable (page_at S.pages p) (page_at T.pages p) refl (no_root_gift S T t AsTable refl live) (change_cases (given_to t AsTable) (base / 4096) n S.pages p)
move_call S h (Measured t src dst n gpa) p ok =
    let T = outcome_state S h (Measured t src dst n gpa) in
    let live = live_after S T t _ (λ tvm. refl) refl ok.0 in
    gift_each S T h t (λ i. AsData (gpa / 4096 + i)) (page_at S.pages p) (page_at T.pages p) refl (λ i. no_root_gift S T t (AsData (gpa / 4096 + i)) refl live)
    (each_cases (λ i. given_to t (AsData (gpa / 4096 + i))) (dst / 4096) n S.pages p)
move_call S h (Vcpu t v state) p ok =
    let T = outcome_state S h (Vcpu t v state) in
    let live = live_after S T t _ (λ tvm. refl) refl ok.0 in
    gift S T h t AsVcpu (page_at S.pages p) (page_at T.pages p) refl (no_root_gift S T t AsVcpu refl live) (change_cases (given_to t AsVcpu) (state / 4096) 1 S.pages p)
move_call S h (Zero t base n gpa) p ok =
    let T = outcome_state S h (Zero t base n gpa) in
    let live = live_after S T t _ (λ tvm. refl) refl ok.0 in
    gift_each S T h t (λ i. AsData (gpa / 4096 + i)) (page_at S.pages p) (page_at T.pages p) refl (λ i. no_root_gift S T t (AsData (gpa / 4096 + i)) refl live)
    (each_cases (λ i. given_to t (AsData (gpa / 4096 + i))) (base / 4096) n S.pages p)
move_call S h (Remove t gpa n) p ok =
    let T = outcome_state S h (Remove t gpa n) in
    returned S T h t (page_at S.pages p) (page_at T.pages p) (removed t (is_among gpa n)) refl (page_map (removed t (is_among gpa n)) refl S.pages p)
    (removed_cases S t (is_among gpa n) (page_at S.pages p))
move_call S h (Destroy t) p ok =
    let T = outcome_state S h (Destroy t) in
    returned S T h t (page_at S.pages p) (page_at T.pages p) (freed t) refl (page_map (freed t) refl S.pages p) (freed_cases S t (none_left (harts_inside S t) ok.1.0) (page_at S.pages p))
move_call S h _ p ok = Same refl refl
