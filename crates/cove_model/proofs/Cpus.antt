-- What events leave of a vCPU on which a hart sits.
use Rattle.std.proofs.Common.{◌≡◌, ℕ, ◌<◌, Bool, true, false, cond, eqb, eqb-true, eq-eqb, true≢false, map, find, List, [], ◌∷◌, ◌++◌, Option, Some, None, option_map, is_some, refl, sym, ap, ◌∙◌, inl, inr, ◌⊎◌, ⊎_elim}
use Rattle.std.specs.Option.{option_map_or}
use Rattle.std.proofs.lemmas.Bool.{cases_eq, and_from, or_cases}
use Rattle.std.proofs.lemmas.Option.{none-some}
use Rattle.cove_model.proofs.Members.{has_below}
use Rattle.cove_model.specs.Machine.{has, harts_below, Seat, State, find_cpu, is_on, runner, alter, at, IsStill, Cpu, Tvm}
use Rattle.cove_model.proofs.KeyedLemmas.{at_alter_other, at_alter_same, at_append, at_map}

pub still_refl : (cpu : Cpu) → IsStill cpu cpu
still_refl cpu = record { x = refl; pc = refl; latched = refl; fuel = refl }

pub still_then : (one two three : Cpu) → IsStill one two → IsStill two three → IsStill one three
still_then one two three a b = record { x = b.x ∙ a.x; pc = b.pc ∙ a.pc; latched = b.latched ∙ a.latched; fuel = b.fuel ∙ a.fuel }

-- a vCPU that runs is there afterwards, changed in a way that keeps a relation
pub record Stays (R : Cpu → Cpu → Type 0) (v : ℕ) (tvm tvm' : Tvm) (cpu : Cpu) : Type 0 where
  pub runs : tvm'.runnable ≡ true
  pub now : Cpu
  pub there : find_cpu tvm' v ≡ Some now
  pub kept : R cpu now

abbrev pub AllStay : (R : Cpu → Cpu → Type 0) (v : ℕ) → Tvm → Tvm → Type 0
AllStay R v tvm tvm' = (cpu : Cpu) → find_cpu tvm v ≡ Some cpu → tvm.runnable ≡ true → Stays R v tvm tvm' cpu

-- any change of a vCPU
abbrev pub Anyhow : Cpu → Cpu → Type 0
Anyhow cpu now = Unit {0}

module _ (R : Cpu → Cpu → Type 0) (refl_R : (cpu : Cpu) → R cpu cpu) where
  -- the vCPUs stay
  pub stay_same : (v : ℕ) (tvm tvm' : Tvm) → tvm'.cpus ≡ tvm.cpus → (tvm.runnable ≡ true → tvm'.runnable ≡ true) → AllStay R v tvm tvm'
  stay_same v tvm tvm' cpus runs cpu found is =
      record { runs = runs is; now = cpu; there = ap (at (λ (c : Cpu). c.number) v) cpus ∙ found; kept = refl_R cpu }

  -- one is added
  pub stay_append : (v : ℕ) (new : List Cpu) (tvm tvm' : Tvm) → tvm'.cpus ≡ tvm.cpus ++ new → (tvm.runnable ≡ true → tvm'.runnable ≡ true) → AllStay R v tvm tvm'
  stay_append v new tvm tvm' cpus runs cpu found is =
      record { runs = runs is; now = cpu; there = ap (at (λ (c : Cpu). c.number) v) cpus ∙ at_append (λ (c : Cpu). c.number) v tvm.cpus new cpu found; kept = refl_R cpu }

  -- every one is changed
  pub stay_map : (v : ℕ) (how : Cpu → Cpu) → ((cpu : Cpu) → (how cpu).number ≡ cpu.number) → ((cpu : Cpu) → R cpu (how cpu)) → (tvm tvm' : Tvm)
      → tvm'.cpus ≡ map how tvm.cpus → (tvm.runnable ≡ true → tvm'.runnable ≡ true) → AllStay R v tvm tvm'
  stay_map v how numbers each tvm tvm' cpus runs cpu found is = record {
    runs = runs is;
    now = how cpu;
    there = ap (at (λ (c : Cpu). c.number) v) cpus ∙ at_map (λ (c : Cpu). c.number) how numbers v tvm.cpus ∙ ap (option_map how) found;
    kept = each cpu;
  }

  -- one is changed: this one, or another
  pub stay_on_cpu : (v w : ℕ) (how : Cpu → Cpu) → ((cpu : Cpu) → (how cpu).number ≡ cpu.number) → (v ≡ w → (cpu : Cpu) → R cpu (how cpu)) → (tvm tvm' : Tvm)
      → tvm'.cpus ≡ alter (λ (c : Cpu). c.number) w how tvm.cpus → (tvm.runnable ≡ true → tvm'.runnable ≡ true) → AllStay R v tvm tvm'
  stay_on_cpu v w how numbers each tvm tvm' cpus runs cpu found is = ⊎_elim
      (λ same. record {
        runs = runs is;
        now = how cpu;
        there = ap (at (λ (c : Cpu). c.number) v) cpus
            ∙ ap (λ k. at (λ (c : Cpu). c.number) v (alter (λ (c : Cpu). c.number) k how tvm.cpus)) (sym same)
            ∙ at_alter_same (λ (c : Cpu). c.number) v how numbers tvm.cpus ∙ ap (option_map how) found;
        kept = each same cpu;
      })
      (λ ne. record {
        runs = runs is;
        now = cpu;
        there = ap (at (λ (c : Cpu). c.number) v) cpus ∙ at_alter_other (λ (c : Cpu). c.number) v w how numbers ne tvm.cpus ∙ found;
        kept = refl_R cpu;
      })
      (cases_eq v w)

pub stay_then : (R : Cpu → Cpu → Type 0) → ((one two three : Cpu) → R one two → R two three → R one three) → (v : ℕ) (one two three : Tvm) → AllStay R v one two → AllStay R v two three → AllStay R v one three
stay_then R then v one two three first second cpu found is =
    let a = first cpu found is in
    let b = second a.now a.there a.runs in
    record { runs = b.runs; now = b.now; there = b.there; kept = then cpu a.now b.now a.kept b.kept }

-- ---- in the list of TVMs

pub record StaysAt (R : Cpu → Cpu → Type 0) (u v : ℕ) (xs ys : List Tvm) (tvm : Tvm) : Type 0 where
  pub now : Tvm
  pub live : at (λ (t : Tvm). t.number) u ys ≡ Some now
  pub mode : now.mode ≡ tvm.mode
  pub stay : AllStay R v tvm now

abbrev pub TvmStays : (R : Cpu → Cpu → Type 0) (u v : ℕ) (xs ys : List Tvm) → Type 0
TvmStays R u v xs ys = (tvm : Tvm) → at (λ (t : Tvm). t.number) u xs ≡ Some tvm → StaysAt R u v xs ys tvm

-- one TVM is changed: this one, or another
pub tvm_altered : (R : Cpu → Cpu → Type 0) → ((cpu : Cpu) → R cpu cpu) → (u v t : ℕ) (how : Tvm → Tvm) → ((tvm : Tvm) → (how tvm).number ≡ tvm.number) → ((tvm : Tvm) → (how tvm).mode ≡ tvm.mode)
    → (xs : List Tvm) → (u ≡ t → (tvm : Tvm) → at (λ (k : Tvm). k.number) t xs ≡ Some tvm → AllStay R v tvm (how tvm)) → TvmStays R u v xs (alter (λ (k : Tvm). k.number) t how xs)
tvm_altered R refl_R u v t how numbers modes xs each tvm live = ⊎_elim
    (λ same. record {
      now = how tvm;
      live = ap (λ k. at (λ (x : Tvm). x.number) u (alter (λ (x : Tvm). x.number) k how xs)) (sym same) ∙ at_alter_same (λ (x : Tvm). x.number) u how numbers xs ∙ ap (option_map how) live;
      mode = modes tvm;
      stay = each same tvm (ap (λ k. at (λ (x : Tvm). x.number) k xs) (sym same) ∙ live);
    })
    (λ ne. record {
      now = tvm;
      live = at_alter_other (λ (x : Tvm). x.number) u t how numbers ne xs ∙ live;
      mode = refl;
      stay = stay_same R refl_R v tvm tvm refl (λ e. e);
    })
    (cases_eq u t)

pub tvm_stays : (R : Cpu → Cpu → Type 0) → ((cpu : Cpu) → R cpu cpu) → (u v : ℕ) (xs : List Tvm) → TvmStays R u v xs xs
tvm_stays R refl_R u v xs tvm live = record { now = tvm; live = live; mode = refl; stay = stay_same R refl_R v tvm tvm refl (λ e. e) }

pub tvm_then : (R : Cpu → Cpu → Type 0) → ((one two three : Cpu) → R one two → R two three → R one three) → (u v : ℕ) (xs ys zs : List Tvm) → TvmStays R u v xs ys → TvmStays R u v ys zs → TvmStays R u v xs zs
tvm_then R then u v xs ys zs first second tvm live =
    let a = first tvm live in
    let b = second a.now a.live in
    record { now = b.now; live = b.live; mode = b.mode ∙ a.mode; stay = stay_then R then v tvm a.now b.now a.stay b.stay }

-- ---- who runs a vCPU

find_some_has : (p : ℕ → Bool) (xs : List ℕ) (k : ℕ) → has k xs ≡ true → p k ≡ true → find p xs ≡ None → ⊥
find_some_has p [] k h e none = true≢false (sym h)
find_some_has p (x ∷ xs) k h e none = go (p x) refl none (or_cases (eqb x k) (has k xs) h) (λ q r. find_some_has p xs k q e r)
  where
    go : (b : Bool) → p x ≡ b → cond b (Some x) (find p xs) ≡ None → (eqb x k ≡ true) ⊎ (has k xs ≡ true) → (has k xs ≡ true → find p xs ≡ None → ⊥) → ⊥
    go true t q w more = none-some x (sym q)
    go false t q (inl here) more = true≢false (sym e ∙ ap p (sym (eqb-true x k here)) ∙ t)
    go false t q (inr there) more = more there q

-- a vCPU that no hart runs has no hart of the board on it
pub none_runs : (S : State) (h t v : ℕ) (seat : Seat) → h < S.harts → S.seats h ≡ Some seat → is_some (runner S t v) ≡ false → seat.tvm ≡ t → seat.cpu ≡ v → ⊥
none_runs S h t v seat lt sits none is_t is_v =
    find_some_has (λ k. option_map_or (is_on t v) (S.seats k) false) (harts_below S.harts) h (has_below S.harts h lt)
    (ap (λ o. option_map_or (is_on t v) o false) sits ∙ and_from (eqb seat.tvm t) (eqb seat.cpu v) (eq-eqb seat.tvm t is_t) (eq-eqb seat.cpu v is_v))
    (empty (runner S t v) none)
  where
    empty : (o : Option ℕ) → is_some o ≡ false → o ≡ None
    empty None e = refl
    empty (Some k) e = absurd (true≢false e)
