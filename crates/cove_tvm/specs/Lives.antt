-- Where a TVM is in its life.
use Rattle.std.specs.Prelude.{Bool, true, false}
use Rattle.cove_tvm.specs.declared.machines.Life.{Life}
use Rattle.cove_tvm.specs.declared.machines.Life.TheVariants.{Building, Runnable, Gone}

-- it was destroyed
abbrev pub is_gone : Life → Bool
is_gone Building = false
is_gone Runnable = false
is_gone Gone = true

-- it is finalized
abbrev pub is_runnable : Life → Bool
is_runnable Building = false
is_runnable Runnable = true
is_runnable Gone = false
