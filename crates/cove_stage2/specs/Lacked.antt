-- The tables that mappings of a run of guest pages lack.
use Rattle.std.specs.Prelude.{◌≡◌, ◌<◌, ◌≤◌, ℕ, zero, suc, ◌+◌, ◌-◌, ◌/◌, ◌==◌, List}
use Rattle.cove_base.specs.Executions.{flag}
use Rattle.cove_base.specs.Tables.{entry_in, slots_at}

-- how many of the k slots at a depth from the n-th on have no entry
abbrev pub absent_among : (pages root : ℕ) (words : List ℕ) (depth n k : ℕ) → ℕ
absent_among pages root words depth n zero = 0
absent_among pages root words depth n (suc k) =
    flag (entry_in pages root words depth n == 0) + absent_among pages root words depth (n + 1) k

-- how many tables of 512 slots a run of slots touches
abbrev pub blocks_touched : (first count : ℕ) → ℕ
blocks_touched first zero = 0
blocks_touched first (suc more) = (first + more) / 512 + 1 - first / 512

-- how many tables are missing for mappings of a run of guest pages, where the leaves are at a depth: those above the run, each
-- counted once, and those that are missing for the slots that name them
abbrev pub tables_lacked : (pages root : ℕ) (words : List ℕ) (leaves first count : ℕ) → ℕ
tables_lacked pages root words zero first count = 0
tables_lacked pages root words (suc depth) first count =
    absent_among pages root words depth (first / 512) (blocks_touched first count)
    + tables_lacked pages root words depth (first / 512) (blocks_touched first count)

-- the rest of any run from a guest page on lacks the tables that the run lacked, but for those of its first page
abbrev pub LacksRest : (pages root leaves : ℕ) (old new : List ℕ) (g : ℕ) → Type 0
LacksRest pages root leaves old new g =
    (count : ℕ) → 0 < count → g + count ≤ slots_at leaves
    → tables_lacked pages root new leaves (g + 1) (count - 1) + tables_lacked pages root old leaves g 1
    ≡ tables_lacked pages root old leaves g count
