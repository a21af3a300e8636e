-- The live TVMs after one was added, or another was written in its place.
use Rattle.std.proofs.Common.{◌≡◌, ◌≢◌, ℕ, zero, suc, ◌<◌, List, [], ◌∷◌, ◌++◌, length, set, Some, None, refl, ap, arith}
use Rattle.std.proofs.lemmas.Option.{slice_get_past}
use Rattle.std.specs.List.{slice_get}
use Rattle.cove_tvm.specs.TvmLends.{with_tvm}
use Rattle.cove_tvm.specs.TvmTables.{TvmTable, live_at, unless_gone}
use Rattle.cove_tvm.specs.declared.machines.Tvm.{Tvm}

got_last : (xs : List Tvm) (x : Tvm) → slice_get (xs ++ x ∷ []) (length xs) ≡ Some x
got_last [] x = refl
got_last (y ∷ xs) x = got_last xs x

got_before : (xs : List Tvm) (x : Tvm) (k : ℕ) → k ≢ length xs → slice_get (xs ++ x ∷ []) k ≡ slice_get xs k
got_before [] x zero off = absurd (off refl)
got_before [] x (suc k) off = refl
got_before (y ∷ xs) x zero off = refl
got_before (y ∷ xs) x (suc k) off = got_before xs x k (λ e. off (omega arith))

set_here : (xs : List Tvm) (k : ℕ) (x : Tvm) → k < length xs → slice_get (set xs k x) k ≡ Some x
set_here [] k x low = absurd (omega arith)
set_here (y ∷ xs) zero x low = refl
set_here (y ∷ xs) (suc k) x low = set_here xs k x (omega arith)

set_elsewhere : (xs : List Tvm) (k j : ℕ) (x : Tvm) → j ≢ k → slice_get (set xs k x) j ≡ slice_get xs j
set_elsewhere [] k j x off = refl
set_elsewhere (y ∷ xs) zero zero x off = absurd (off refl)
set_elsewhere (y ∷ xs) zero (suc j) x off = refl
set_elsewhere (y ∷ xs) (suc k) zero x off = refl
set_elsewhere (y ∷ xs) (suc k) (suc j) x off = set_elsewhere xs k j x (λ e. off (ap suc e))

-- the TVM that was added is the one with the next number
pub added_here : (pages : ℕ) (xs : List Tvm) (x : Tvm) → live_at (record { pages = pages; tvms = xs ++ x ∷ [] }) (suc (length xs)) ≡ unless_gone (Some x)
added_here pages xs x = ap unless_gone (got_last xs x)

pub added_elsewhere : (pages : ℕ) (xs : List Tvm) (x : Tvm) (u : ℕ) → u ≢ suc (length xs)
    → live_at (record { pages = pages; tvms = xs ++ x ∷ [] }) u ≡ live_at (record { pages = pages; tvms = xs }) u
added_elsewhere pages xs x zero off = refl
added_elsewhere pages xs x (suc k) off = ap unless_gone (got_before xs x k (λ e. off (ap suc e)))

-- past the TVMs that were created none is live
pub none_past : (table : TvmTable) (t : ℕ) → length table.tvms < t → live_at table t ≡ None
none_past table zero past = refl
none_past table (suc k) past = ap unless_gone (slice_get_past table.tvms k (omega arith))

-- a TVM that was written in its place is the one with its number
pub written_here : (table : TvmTable) (k : ℕ) (x : Tvm) → k < length table.tvms → live_at (with_tvm table k x) (suc k) ≡ unless_gone (Some x)
written_here table k x low = ap unless_gone (set_here table.tvms k x low)

pub written_elsewhere : (table : TvmTable) (k : ℕ) (x : Tvm) (u : ℕ) → u ≢ suc k → live_at (with_tvm table k x) u ≡ live_at table u
written_elsewhere table k x zero off = refl
written_elsewhere table k x (suc j) off = ap unless_gone (set_elsewhere table.tvms k j x (λ e. off (ap suc e)))
