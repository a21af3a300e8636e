-- What a hart may follow stays when the mappings of its TVM change.
use Rattle.std.proofs.Common.{◌≡◌, ℕ, ◌+◌, ◌/◌, ◌<◌, ◌≤◌, Bool, true, false, cond, eqb, true≢false, nat_le, nat_lt, map, List, [], ◌∷◌, ◌++◌, Option, Some, None, option_map, unwrap_or, refl, sym, ap, subst, ◌∙◌, inl, inr, ◌⊎◌, ⊎_elim, arith, leb-true, ltb-true, zero, suc}
use Rattle.std.specs.List.{list_all, range_with_len}
use Rattle.std.proofs.lemmas.Bool.{and_parts, cases_eq}
use Rattle.std.proofs.lemmas.Option.{none-some}
use Rattle.cove_model.proofs.Members.{has_without}
use Rattle.cove_model.specs.Machine.{has, remembered, reworded, is_among, page_run, at, alter, dropped, blocked_standing, fenced_standing, is_fenced, is_own, left_standing, mapping_of, may_follow, page_under, restand, restood, IsHeldWithin, Backing, OwnPage, HostPage, Standing, Present, Blocked, Mapping, Tvm, new_tvm}
use Rattle.cove_model.proofs.KeyedLemmas.{at_alter_other, at_alter_same, at_append, at_dropped, at_map}

-- a mapping of the same kind and page, that a hart may still follow
pub record IsKept (h : ℕ) (m m' : Mapping) : Type 0 where
  pub kind : is_own m'.backing ≡ is_own m.backing
  pub shows : page_under m'.backing ≡ page_under m.backing
  pub follows : may_follow h m.standing ≡ true → may_follow h m'.standing ≡ true

-- each mapping that a hart may follow is kept
abbrev pub Keeps : (h : ℕ) → Tvm → Tvm → Type 0
Keeps h tvm tvm' =
    (g : ℕ) (m : Mapping) → mapping_of tvm g ≡ Some m → may_follow h m.standing ≡ true
    → (m' : Mapping) × (mapping_of tvm' g ≡ Some m') × IsKept h m m'

kept_refl : (h : ℕ) (m : Mapping) → IsKept h m m
kept_refl h m = record { kind = refl; shows = refl; follows = λ e. e }

-- the mappings stay
pub keeps_same : (h : ℕ) (tvm tvm' : Tvm) → tvm'.mappings ≡ tvm.mappings → Keeps h tvm tvm'
keeps_same h tvm tvm' e g m found follows = (m, ap (at (λ (k : Mapping). k.guest) g) e ∙ found, kept_refl h m)

pub keeps_then : (h : ℕ) (one two three : Tvm) → Keeps h one two → Keeps h two three → Keeps h one three
keeps_then h one two three first second g m found follows =
    let a = first g m found follows in
    let b = second g a.0 a.1 (a.2.follows follows) in
    (b.0, b.1, record { kind = b.2.kind ∙ a.2.kind; shows = b.2.shows ∙ a.2.shows; follows = λ e. b.2.follows (a.2.follows e) })

-- every mapping is changed into one that is kept
keeps_map : (h : ℕ) (f : Mapping → Mapping) → ((m : Mapping) → (f m).guest ≡ m.guest) → (tvm tvm' : Tvm) → tvm'.mappings ≡ map f tvm.mappings
    → ((m : Mapping) → may_follow h m.standing ≡ true → IsKept h m (f m)) → Keeps h tvm tvm'
keeps_map h f numbers tvm tvm' e each g m found follows =
    (f m, ap (at (λ (k : Mapping). k.guest) g) e ∙ at_map (λ (k : Mapping). k.guest) f numbers g tvm.mappings ∙ ap (option_map f) found, each m follows)

pub keeps_restood : (h : ℕ) (test : ℕ → Bool) (how : Standing → Standing) → ((s : Standing) → may_follow h s ≡ true → may_follow h (how s) ≡ true)
    → (tvm tvm' : Tvm) → tvm'.mappings ≡ restood test how tvm.mappings → Keeps h tvm tvm'
keeps_restood h test how each tvm tvm' e = keeps_map h (restand test how) (λ m. refl) tvm tvm' e (λ m follows. record {
  kind = refl;
  shows = refl;
  follows = λ q. chosen (test m.guest) m.standing q;
})
  where
    chosen : (b : Bool) (s : Standing) → may_follow h s ≡ true → may_follow h (cond b (how s) s) ≡ true
    chosen true s q = each s q
    chosen false s q = q

pub keeps_words : (h g : ℕ) (how : List ℕ → List ℕ) (tvm tvm' : Tvm) → tvm'.mappings ≡ map (remembered g how) tvm.mappings → Keeps h tvm tvm'
keeps_words h g how tvm tvm' e = keeps_map h (remembered g how) (λ m. refl) tvm tvm' e (λ m follows. record {
  kind = own_cond (eqb m.guest g) m.backing;
  shows = page_cond (eqb m.guest g) m.backing;
  follows = λ q. q;
})
  where
    own_same : (b : Backing) → is_own (reworded how b) ≡ is_own b
    own_same (OwnPage page words) = refl
    own_same (HostPage page) = refl

    page_same : (b : Backing) → page_under (reworded how b) ≡ page_under b
    page_same (OwnPage page words) = refl
    page_same (HostPage page) = refl

    own_cond : (c : Bool) (b : Backing) → is_own (cond c (reworded how b) b) ≡ is_own b
    own_cond true b = own_same b
    own_cond false b = refl

    page_cond : (c : Bool) (b : Backing) → page_under (cond c (reworded how b) b) ≡ page_under b
    page_cond true b = page_same b
    page_cond false b = refl

pub keeps_append : (h : ℕ) (new : List Mapping) (tvm tvm' : Tvm) → tvm'.mappings ≡ tvm.mappings ++ new → Keeps h tvm tvm'
keeps_append h new tvm tvm' e g m found follows =
    (m, ap (at (λ (k : Mapping). k.guest) g) e ∙ at_append (λ (k : Mapping). k.guest) g tvm.mappings new m found, kept_refl h m)

-- some mappings are dropped, none that the hart may follow
pub keeps_dropped : (h : ℕ) (test : ℕ → Bool) (tvm tvm' : Tvm) → tvm'.mappings ≡ dropped (λ m. test m.guest) tvm.mappings
    → ((g : ℕ) (m : Mapping) → mapping_of tvm g ≡ Some m → may_follow h m.standing ≡ true → test g ≡ false) → Keeps h tvm tvm'
keeps_dropped h test tvm tvm' e apart g m found follows =
    (m, ap (at (λ (k : Mapping). k.guest) g) e ∙ at_dropped (λ (k : Mapping). k.guest) test g (apart g m found follows) tvm.mappings ∙ found, kept_refl h m)

-- a TVM that is not live has no mapping
pub keeps_new : (h t : ℕ) (tvm : Tvm) → Keeps h (new_tvm t) tvm
keeps_new h t tvm g m found follows = absurd (none-some m found)

-- ---- the TVMs of a state

-- the TVM under a number, where one TVM is changed: it, or another
pub keeps_on_tvm : (h t u : ℕ) (how : Tvm → Tvm) → ((tvm : Tvm) → (how tvm).number ≡ tvm.number) → (xs : List Tvm)
    → (u ≡ t → (tvm : Tvm) → at (λ (k : Tvm). k.number) t xs ≡ Some tvm → Keeps h tvm (how tvm))
    → Keeps h (unwrap_or (at (λ (k : Tvm). k.number) u xs) (new_tvm u)) (unwrap_or (at (λ (k : Tvm). k.number) u (alter (λ (k : Tvm). k.number) t how xs)) (new_tvm u))
keeps_on_tvm h t u how numbers xs each = ⊎_elim
    (λ is. subst (λ k. Keeps h (found xs k) (found (alter (λ (x : Tvm). x.number) t how xs) k)) (sym is)
    (subst (λ (o : Option Tvm). Keeps h (found xs t) (unwrap_or o (new_tvm t))) (sym (at_alter_same (λ (x : Tvm). x.number) t how numbers xs))
    (go is (at (λ (k : Tvm). k.number) t xs) refl)))
    (λ ne. subst (λ (o : Option Tvm). Keeps h (found xs u) (unwrap_or o (new_tvm u))) (sym (at_alter_other (λ (k : Tvm). k.number) u t how numbers ne xs)) (keeps_same h (found xs u) (found xs u) refl))
    (cases_eq u t)
  where
    found : (ys : List Tvm) (v : ℕ) → Tvm
    found ys v = unwrap_or (at (λ (k : Tvm). k.number) v ys) (new_tvm v)

    go : u ≡ t → (o : Option Tvm) → at (λ (k : Tvm). k.number) t xs ≡ o → Keeps h (unwrap_or o (new_tvm t)) (unwrap_or (option_map how o) (new_tvm t))
    go is None e = keeps_new h t (new_tvm t)
    go is (Some tvm) e = each is tvm e

-- ---- how mappings stand to a hart

pub blocked_follows : (h : ℕ) (held : List ℕ) → has h held ≡ true → (s : Standing) → may_follow h s ≡ true → may_follow h (blocked_standing held s) ≡ true
blocked_follows h held e Present q = e
blocked_follows h held e (Blocked others waiting) q = q

pub fenced_follows : (h : ℕ) (inside : List ℕ) (s : Standing) → may_follow h s ≡ true → may_follow h (fenced_standing inside s) ≡ true
fenced_follows h inside Present q = refl
fenced_follows h inside (Blocked held waiting) q = q

pub left_follows : (k h : ℕ) → (h ≡ k → ⊥) → (s : Standing) → may_follow h s ≡ true → may_follow h (left_standing k s) ≡ true
left_follows k h ne Present q = refl
left_follows k h ne (Blocked held waiting) q = has_without k h ne held q

-- a mapping whose fence is complete is followed by no hart
pub fenced_apart : (h : ℕ) (inside : List ℕ) (s : Standing) → is_fenced s ≡ true → IsHeldWithin inside s → may_follow h s ≡ true → ⊥
fenced_apart h inside Present fenced held q = true≢false (sym fenced)
fenced_apart h inside (Blocked list None) fenced held q = true≢false (sym fenced)
fenced_apart h inside (Blocked list (Some [])) fenced held q = true≢false (sym (held h q))
fenced_apart h inside (Blocked list (Some (x ∷ xs))) fenced held q = true≢false (sym fenced)

-- ---- tests of runs of guest pages

range_all : (test : ℕ → Bool) (a n g : ℕ) → list_all test (range_with_len a n) ≡ true → a ≤ g → g < a + n → test g ≡ true
range_all test a zero g e low high = absurd (omega arith)
range_all test a (suc n) g e low high = go (cases_eq a g) (λ l u. range_all test (a + 1) n g (and_parts (test a) (list_all test (range_with_len (a + 1) n)) e).1 l u)
  where
    go : (a ≡ g) ⊎ (a ≡ g → ⊥) → (a + 1 ≤ g → g < (a + 1) + n → test g ≡ true) → test g ≡ true
    go (inl is) more = ap test (sym is) ∙ (and_parts (test a) (list_all test (range_with_len (a + 1) n)) e).0
    go (inr ne) more = more (omega arith) (omega arith)

pub among_all : (test : ℕ → Bool) (gpa n g : ℕ) → list_all test (page_run gpa n) ≡ true → is_among gpa n g ≡ true → test g ≡ true
among_all test gpa n g e among =
    let parts = and_parts (nat_le (gpa / 4096) g) (nat_lt g (gpa / 4096 + n)) among in
    range_all test (gpa / 4096) n g e (leb-true (gpa / 4096) g parts.0) (ltb-true g (gpa / 4096 + n) parts.1)
