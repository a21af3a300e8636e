-- Words of leaves, of next tables and of pages, told apart.
use Rattle.std.proofs.Common.{◌≡◌, ◌≢◌, ℕ, ◌^◌, ◌<◌, ◌≤◌, Bool, true, false, refl, sym, ◌∙◌, arith}
use Rattle.cove_model.specs.Machine.{given, host, role_number, Role, Root, Table, Vcpu, Data}
use Rattle.cove_base.specs.TableWords.{blocked}
use Rattle.cove_base.specs.Tables.{Names, ByBlocked, ByPresent, next_table, present}
use Rattle.cove_base.specs.declared.numbers.Role.TheVariants.{State}

-- ---- page words

pub role_small : (role : Role) → role_number role ≤ 4
role_small Root = omega arith
role_small State = omega arith
role_small Table = omega arith
role_small Vcpu = omega arith
role_small Data = omega arith

pub given_number : (t u : ℕ) (r s : Role) → given t r ≡ given u s → t ≡ u
given_number t u r s e = let a = role_small r in let b = role_small s in omega arith

pub given_role : (t u : ℕ) (r s : Role) → given t r ≡ given u s → role_number r ≡ role_number s
given_role t u r s e = let a = role_small r in let b = role_small s in omega arith

pub given_host : (t maps : ℕ) (r : Role) → given t r ≡ host maps → ⊥
given_host t maps r e = let a = role_small r in omega arith

-- ---- leaves

-- a leaf that is present, and one that is blocked
pub present_none : (page : ℕ) (shared : Bool) → present page shared ≢ 0
present_none page false e = omega arith
present_none page true e = omega arith

pub blocked_none : (page : ℕ) (shared : Bool) (since : ℕ) → blocked (present page shared) since ≢ 0
blocked_none page false since e = omega arith
blocked_none page true since e = omega arith

pub present_next : (page : ℕ) (shared : Bool) (q : ℕ) → present page shared ≢ next_table q
present_next page false q e = omega arith
present_next page true q e = omega arith

pub blocked_next : (page : ℕ) (shared : Bool) (since q : ℕ) → blocked (present page shared) since ≢ next_table q
blocked_next page false since q e = omega arith
blocked_next page true since q e = omega arith

pub present_blocked : (p : ℕ) (s : Bool) (q : ℕ) (r : Bool) (since : ℕ) → present p s ≡ blocked (present q r) since → ⊥
present_blocked p false q false since e = omega arith
present_blocked p false q true since e = omega arith
present_blocked p true q false since e = omega arith
present_blocked p true q true since e = omega arith

pub present_same : (p : ℕ) (s : Bool) (q : ℕ) (r : Bool) → present p s ≡ present q r → (p ≡ q) × (s ≡ r)
present_same p false q false e = (omega arith, refl)
present_same p false q true e = absurd (omega arith)
present_same p true q false e = absurd (omega arith)
present_same p true q true e = (omega arith, refl)

pub blocked_same : (p : ℕ) (s : Bool) (b q : ℕ) (r : Bool) (c : ℕ) → p < 2 ^ 16 → q < 2 ^ 16 → blocked (present p s) b ≡ blocked (present q r) c → (p ≡ q) × (s ≡ r) × (b ≡ c)
blocked_same p false b q false c lp lq e = (omega arith, refl, omega arith)
blocked_same p false b q true c lp lq e = absurd (omega arith)
blocked_same p true b q false c lp lq e = absurd (omega arith)
blocked_same p true b q true c lp lq e = (omega arith, refl, omega arith)

-- ---- what a leaf names

pub none_named : (page : ℕ) (shared : Bool) (leaf : ℕ) → leaf ≡ 0 → Names page shared leaf → ⊥
none_named page shared leaf e (ByPresent is) = present_none page shared (sym is ∙ e)
none_named page shared leaf e (ByBlocked since is) = blocked_none page shared since (sym is ∙ e)

pub next_named : (page : ℕ) (shared : Bool) (leaf q : ℕ) → leaf ≡ next_table q → Names page shared leaf → ⊥
next_named page shared leaf q e (ByPresent is) = present_next page shared q (sym is ∙ e)
next_named page shared leaf q e (ByBlocked since is) = blocked_next page shared since q (sym is ∙ e)

pub present_named : (page : ℕ) (shared : Bool) (leaf p : ℕ) (s : Bool) → leaf ≡ present p s → Names page shared leaf → (page ≡ p) × (shared ≡ s)
present_named page shared leaf p s e (ByPresent is) = present_same page shared p s (sym is ∙ e)
present_named page shared leaf p s e (ByBlocked since is) = absurd (present_blocked p s page shared since (sym e ∙ is))

pub blocked_named : (page : ℕ) (shared : Bool) (leaf p : ℕ) (s : Bool) (b : ℕ) → page < 2 ^ 16 → p < 2 ^ 16 → leaf ≡ blocked (present p s) b → Names page shared leaf → (page ≡ p) × (shared ≡ s)
blocked_named page shared leaf p s b lp lq e (ByPresent is) = absurd (present_blocked page shared p s b (sym is ∙ e))
blocked_named page shared leaf p s b lp lq e (ByBlocked since is) = let same = blocked_same page shared since p s b lp lq (sym is ∙ e) in (same.0, same.1)
