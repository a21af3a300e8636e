use Rattle.std.specs.Prelude.{ℕ, ◌==◌, List, slice_index, slice_set, if◌then◌else◌}
use Rattle.cove_base.specs.declared.registers.Regs.{Regs}

-- the registers from x0 on, as a list
abbrev pub registers : Regs → List ℕ
registers regs = regs.x

-- what a register holds; x0 is 0
abbrev pub register : List ℕ → (i : ℕ) → ℕ
register x i = if i == 0 then 0 else slice_index x i

-- the registers once a number is written to one of them; nothing is written to x0
abbrev pub written : List ℕ → (i value : ℕ) → List ℕ
written x i value = if i == 0 then x else slice_set x i value
