-- The pages of a TVM that are taken back once its tables are clear.
use Rattle.std.specs.Prelude.{◌≡◌, ℕ, ◌^◌, ◌<◌, true, List, [], ◌∷◌, ◌++◌, length, map, Option, Some, None}
use Rattle.std.specs.List.{range_with_len}
use Rattle.cove_base.specs.PageWords.{released}
use Rattle.cove_base.specs.Places.{page_word}
use Rattle.cove_model.specs.Owners.{has}
use Rattle.cove_tvm.specs.declared.machines.Tvm.{Tvm}
use Rattle.cove_tvm.specs.declared.vcpus.VcpuSlot.{VcpuSlot}

-- the stores by which each of some pages becomes released
abbrev pub release_stores : List ℕ → List (ℕ × ℕ)
release_stores ps = map (λ p. (page_word p, released)) ps

-- the state page of a vCPU, if it was created
abbrev pub cpu_pages : Option VcpuSlot → List ℕ
cpu_pages None = []
cpu_pages (Some slot) = slot.page.0 ∷ []

-- the state pages of a TVM's vCPUs
abbrev pub all_cpu_pages : Tvm → List ℕ
all_cpu_pages tvm = cpu_pages tvm.v0 ++ (cpu_pages tvm.v1 ++ (cpu_pages tvm.v2 ++ cpu_pages tvm.v3))

-- All pages of a TVM whose tables are clear: those that were gathered in its pool, which are its tables and its memory; the
-- four of its root; its state page; and its vCPUs'.
abbrev pub own_pages : Tvm → List ℕ
own_pages tvm = tvm.pool.pages ++ (range_with_len tvm.tables.root.0 4 ++ (tvm.state.0 ∷ all_cpu_pages tvm))

-- each of some pages has a page word
abbrev pub HavePlaces : (words ps : List ℕ) → Type 0
HavePlaces words ps = (p : ℕ) → has p ps ≡ true → (p < length words) × (p < 2 ^ 16)
