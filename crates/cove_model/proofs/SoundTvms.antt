-- The mappings of TVMs stay sound under each kind of change.
use Rattle.std.proofs.Common.{◌≡◌, ℕ, zero, suc, ◌+◌, ◌-◌, ◌<◌, nat_lt, slice_index, get_or, Bool, true, false, cond, eqb, eqb-true, eq-eqb, true≢false, not, map, List, [], ◌∷◌, Some, None, length, refl, sym, ap, subst, ◌∙◌, arith}
use Rattle.std.specs.List.{AllByRecursion}
use Rattle.cove_model.proofs.Members.{false-true}
use Rattle.cove_model.specs.Machine.{Owner, Given, AsData, is_host, page_at, without, Within, IsBacked, IsHeldWithin, IsSoundMapping, IsSoundTvm, alter, dropped, blocked_standing, fenced_standing, left_standing, own_mappings, restand, restood, shared_mappings, overwritten, remembered, reworded, State, harts_inside, Backing, OwnPage, HostPage, Standing, Present, Blocked, Mapping, Tvm}
use Rattle.cove_model.proofs.Lists.{all_filter, all_map, all_weaker}
use Rattle.cove_model.proofs.SoundPages.{IsSteady, backed_steady, within_both}
use Rattle.std.specs.List.{range_with_len}
use Rattle.std.proofs.lemmas.List.{length-map}
use Rattle.std.proofs.lemmas.List.FromFn.{length-range_with_len}

-- ---- the list of TVMs

-- the mappings of a TVM are sound
abbrev pub AllSound : (pages : List Owner) (inside : List ℕ) (t : ℕ) → List Mapping → Type 0
AllSound pages inside t mappings = AllByRecursion (IsSoundMapping pages inside t) mappings

-- one TVM is changed
pub tvms_altered : (T : State) (t : ℕ) (how : Tvm → Tvm) → ((tvm : Tvm) → (how tvm).number ≡ tvm.number)
    → ((tvm : Tvm) → tvm.number ≡ t → AllSound T.pages (harts_inside T t) t tvm.mappings → AllSound T.pages (harts_inside T t) t (how tvm).mappings)
    → (xs : List Tvm) → AllByRecursion (IsSoundTvm T) xs → AllByRecursion (IsSoundTvm T) (alter (λ tvm. tvm.number) t how xs)
tvms_altered T t how keeps each [] all = tt
tvms_altered T t how keeps each (tvm ∷ xs) all = (go (eqb tvm.number t) refl, tvms_altered T t how keeps each xs all.1)
  where
    go : (b : Bool) → eqb tvm.number t ≡ b → IsSoundTvm T (cond b (how tvm) tvm)
    go true e =
        let is : tvm.number ≡ t = eqb-true tvm.number t e in
        let here = each tvm is (subst (λ k. AllSound T.pages (harts_inside T k) k tvm.mappings) is all.0) in
        let P : ℕ → Type 0 = λ k. AllSound T.pages (harts_inside T k) k (how tvm).mappings in
        subst P (sym (keeps tvm ∙ is)) here
    go false e = all.0

-- one TVM is changed, and what the others stand on too
pub tvms_changed : (S T : State) (t : ℕ) (how : Tvm → Tvm) → ((tvm : Tvm) → (how tvm).number ≡ tvm.number)
    → ((tvm : Tvm) → tvm.number ≡ t → AllSound S.pages (harts_inside S t) t tvm.mappings → AllSound T.pages (harts_inside T t) t (how tvm).mappings)
    → ((tvm : Tvm) → (tvm.number ≡ t → ⊥) → IsSoundTvm S tvm → IsSoundTvm T tvm)
    → (xs : List Tvm) → AllByRecursion (IsSoundTvm S) xs → AllByRecursion (IsSoundTvm T) (alter (λ tvm. tvm.number) t how xs)
tvms_changed S T t how keeps each others [] all = tt
tvms_changed S T t how keeps each others (tvm ∷ xs) all = (go (eqb tvm.number t) refl, tvms_changed S T t how keeps each others xs all.1)
  where
    go : (b : Bool) → eqb tvm.number t ≡ b → IsSoundTvm T (cond b (how tvm) tvm)
    go true e =
        let is : tvm.number ≡ t = eqb-true tvm.number t e in
        let here = each tvm is (subst (λ k. AllSound S.pages (harts_inside S k) k tvm.mappings) is all.0) in
        let P : ℕ → Type 0 = λ k. AllSound T.pages (harts_inside T k) k (how tvm).mappings in
        subst P (sym (keeps tvm ∙ is)) here
    go false e = others tvm (λ is. true≢false (sym (eq-eqb tvm.number t is) ∙ e)) all.0

-- pages and harts inside change
pub tvms_moved : (S T : State) → ((t g : ℕ) (b : Backing) → IsBacked S.pages t g b → IsBacked T.pages t g b)
    → ((t : ℕ) (s : Standing) → IsHeldWithin (harts_inside S t) s → IsHeldWithin (harts_inside T t) s)
    → (xs : List Tvm) → AllByRecursion (IsSoundTvm S) xs → AllByRecursion (IsSoundTvm T) xs
tvms_moved S T backs holds xs all = all_weaker (IsSoundTvm S) (IsSoundTvm T)
    (λ tvm each. all_weaker (IsSoundMapping S.pages (harts_inside S tvm.number) tvm.number) (IsSoundMapping T.pages (harts_inside T tvm.number) tvm.number)
    (λ mapping sound. record {
      held_within = holds tvm.number mapping.standing sound.held_within;
      backed = backs tvm.number mapping.guest mapping.backing sound.backed;
    }) tvm.mappings each) xs all

-- steady pages, and the same harts inside
pub tvms_steady : (S T : State) → IsSteady S.pages T.pages → ((t : ℕ) → harts_inside T t ≡ harts_inside S t)
    → (xs : List Tvm) → AllByRecursion (IsSoundTvm S) xs → AllByRecursion (IsSoundTvm T) xs
tvms_steady S T steady same xs all = tvms_moved S T (backed_steady S.pages T.pages steady)
    (λ t s held. subst (λ inside. IsHeldWithin inside s) (sym (same t)) held) xs all

-- ---- changes of how mappings stand

pub restood_sound : (pages : List Owner) (inside : List ℕ) (t : ℕ) (test : ℕ → Bool) (how : Standing → Standing)
    → ((s : Standing) → IsHeldWithin inside s → IsHeldWithin inside (how s))
    → (ms : List Mapping) → AllSound pages inside t ms → AllSound pages inside t (restood test how ms)
restood_sound pages inside t test how each ms all = all_map (IsSoundMapping pages inside t) (IsSoundMapping pages inside t) (restand test how) one ms all
  where
    chosen : (b : Bool) (s : Standing) → IsHeldWithin inside s → IsHeldWithin inside (cond b (how s) s)
    chosen true s held = each s held
    chosen false s held = held

    one : (m : Mapping) → IsSoundMapping pages inside t m → IsSoundMapping pages inside t (restand test how m)
    one m sound = record { held_within = chosen (test m.guest) m.standing sound.held_within; backed = sound.backed }

pub blocked_sound : (inside held : List ℕ) → Within held inside → (s : Standing) → IsHeldWithin inside s → IsHeldWithin inside (blocked_standing held s)
blocked_sound inside held within Present sound = within
blocked_sound inside held within (Blocked others waiting) sound = sound

pub fenced_sound : (inside : List ℕ) (s : Standing) → IsHeldWithin inside s → IsHeldWithin inside (fenced_standing inside s)
fenced_sound inside Present sound = tt
fenced_sound inside (Blocked held None) sound = sound
fenced_sound inside (Blocked held (Some waiting)) sound = sound

-- a hart leaves: it is in no list of the TVM afterwards
pub left_sound : (h : ℕ) (inside : List ℕ) (s : Standing) → IsHeldWithin inside s → IsHeldWithin (without h inside) (left_standing h s)
left_sound h inside Present sound = tt
left_sound h inside (Blocked held None) sound = within_both h held inside sound
left_sound h inside (Blocked held (Some waiting)) sound = within_both h held waiting sound

-- ---- changes of words, mappings that go and that come

pub remembered_sound : (pages : List Owner) (inside : List ℕ) (t g : ℕ) (how : List ℕ → List ℕ) → ((words : List ℕ) → length (how words) ≡ length words)
    → (ms : List Mapping) → AllSound pages inside t ms → AllSound pages inside t (map (remembered g how) ms)
remembered_sound pages inside t g how keeps ms all = all_map (IsSoundMapping pages inside t) (IsSoundMapping pages inside t) (remembered g how) one ms all
  where
    reword : (guest : ℕ) (b : Backing) → IsBacked pages t guest b → IsBacked pages t guest (reworded how b)
    reword guest (OwnPage page words) backed = (backed.0, keeps words ∙ backed.1)
    reword guest (HostPage page) backed = backed

    chosen : (c : Bool) (guest : ℕ) (b : Backing) → IsBacked pages t guest b → IsBacked pages t guest (cond c (reworded how b) b)
    chosen true guest b backed = reword guest b backed
    chosen false guest b backed = backed

    one : (m : Mapping) → IsSoundMapping pages inside t m → IsSoundMapping pages inside t (remembered g how m)
    one m sound = record { held_within = sound.held_within; backed = chosen (eqb m.guest g) m.guest m.backing sound.backed }

pub dropped_sound : (pages pages' : List Owner) (inside : List ℕ) (t : ℕ) (test : ℕ → Bool)
    → ((g : ℕ) (b : Backing) → test g ≡ false → IsBacked pages t g b → IsBacked pages' t g b)
    → (ms : List Mapping) → AllSound pages inside t ms → AllSound pages' inside t (dropped (λ m. test m.guest) ms)
dropped_sound pages pages' inside t test kept ms all = all_filter (IsSoundMapping pages inside t) (IsSoundMapping pages' inside t) (λ (m : Mapping). not (test m.guest))
    (λ m e sound. record { held_within = sound.held_within; backed = kept m.guest m.backing (not_true (test m.guest) e) sound.backed }) ms all
  where
    not_true : (b : Bool) → not b ≡ true → b ≡ false
    not_true true e = false-true e
    not_true false e = refl

pub own_sound : (pages : List Owner) (inside : List ℕ) (t g p : ℕ) (contents : List (List ℕ))
    → ((i : ℕ) → i < length contents → page_at pages (p + i) ≡ Given t (AsData (g + i)))
    → AllByRecursion (λ (words : List ℕ). length words ≡ 512) contents → AllSound pages inside t (own_mappings g p contents)
own_sound pages inside t g p [] given sizes = tt
own_sound pages inside t g p (words ∷ rest) given sizes =
    let first : page_at pages (p + 0) ≡ Given t (AsData (g + 0)) = given 0 (omega arith) in
    let here : page_at pages p ≡ Given t (AsData g) =
    ap (page_at pages) (let e : p ≡ p + 0 = omega arith in e) ∙ first ∙ ap (λ k. Given t (AsData k)) (let e : g + 0 ≡ g = omega arith in e) in (
      record { held_within = tt; backed = (here, sizes.0) },
      own_sound pages inside t (g + 1) (p + 1) rest
          (λ i below.
          ap (page_at pages) (let e : p + 1 + i ≡ p + (i + 1) = omega arith in e) ∙ given (i + 1) (omega arith)
          ∙ ap (λ k. Given t (AsData k)) (let e : g + (i + 1) ≡ g + 1 + i = omega arith in e))
          sizes.1,
    )

pub shared_sound : (pages : List Owner) (inside : List ℕ) (t g p n : ℕ)
    → ((i : ℕ) → i < n → is_host (page_at pages (p + i)) ≡ true) → AllSound pages inside t (shared_mappings g p n)
shared_sound pages inside t g p zero hosts = tt
shared_sound pages inside t g p (suc n) hosts =
    let first : is_host (page_at pages (p + 0)) ≡ true = hosts 0 (omega arith) in (
      record { held_within = tt; backed = ap (λ q. is_host (page_at pages q)) (let e : p ≡ p + 0 = omega arith in e) ∙ first },
      shared_sound pages inside t (g + 1) (p + 1) n
          (λ i below. ap (λ q. is_host (page_at pages q)) (let e : p + 1 + i ≡ p + (i + 1) = omega arith in e) ∙ hosts (i + 1) (omega arith)),
    )

pub overwritten_length : (place : ℕ) (new words : List ℕ) → length (overwritten place new words) ≡ length words
overwritten_length place new words =
    length-map (range_with_len 0 (length words)) (λ i. cond (nat_lt i place) (slice_index words i) (get_or new (i - place) (slice_index words i)))
    ∙ length-range_with_len 0 (length words)
