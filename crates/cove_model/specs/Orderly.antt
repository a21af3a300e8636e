-- What calls need of numbers: live TVMs differ in theirs, the mappings of a TVM in their guest pages, and its vCPUs in their
-- numbers and in the files that they are bound to; a page is given to a live TVM alone.
use Rattle.std.specs.Prelude.{◌≡◌, ◌≤◌, ℕ, true, false, List, [], ◌∷◌, map, Option, Some, None}
use Rattle.std.specs.List.{AllByRecursion}
use Rattle.cove_model.specs.Owners.{Purpose, Given, has, page_at}
use Rattle.cove_model.specs.Checks.{binding_of}
use Rattle.cove_model.specs.States.{State, find_tvm, tvm_at}
use Rattle.cove_model.specs.Tvms.{Binding, Tvm}

-- no number comes twice
abbrev pub AreDistinct : List ℕ → Type 0
AreDistinct [] = Unit {0}
AreDistinct (n ∷ ns) = (has n ns ≡ false) × AreDistinct ns

-- the numbers of the live TVMs, and the guest pages of a TVM's mappings
abbrev pub numbers_of : State → List ℕ
numbers_of S = map (λ tvm. tvm.number) S.tvms

abbrev pub guests_of : Tvm → List ℕ
guests_of tvm = map (λ mapping. mapping.guest) tvm.mappings

pub record IsOrderly (S : State) : Type 0 where
  pub numbers : AreDistinct (numbers_of S)
  pub made : AllByRecursion (λ n. n ≤ S.made) (numbers_of S)
  pub guests : (t : ℕ) (tvm : Tvm) → find_tvm S t ≡ Some tvm → AreDistinct (guests_of tvm)
  pub given : (p t : ℕ) (purpose : Purpose) → page_at S.pages p ≡ Given t purpose → has t (numbers_of S) ≡ true

-- a file of a hart
pub record BoundFile : Type 0 where
  pub hart : ℕ
  pub file : ℕ

-- the file of a binding, and that of a vCPU, where it is bound
abbrev pub bound_file_in : Option Binding → Option BoundFile
bound_file_in None = None
bound_file_in (Some bound) = Some (record { hart = bound.hart; file = bound.file })

abbrev pub bound_file_of : State → (t v : ℕ) → Option BoundFile
bound_file_of S t v = bound_file_in (binding_of S t v)

-- the numbers of a TVM's vCPUs
abbrev pub cpus_of : Tvm → List ℕ
cpus_of tvm = map (λ cpu. cpu.number) tvm.cpus

-- the numbers of a TVM's vCPUs differ, and no two vCPUs are bound to one file
pub record AreBoundApart (S : State) : Type 0 where
  pub cpus : (t : ℕ) → AreDistinct (cpus_of (tvm_at S t))
  pub files : (t u v w : ℕ) (place : BoundFile) → bound_file_of S t v ≡ Some place → bound_file_of S u w ≡ Some place → (t ≡ u) × (v ≡ w)
