-- The modes of second-stage tables: at which depth the leaves are, and how many guest pages there are.
use Rattle.std.specs.Prelude.{ℕ, ◌%◌, ◌==◌, if◌then◌else◌}
use Rattle.cove_base.specs.Tables.{slots_at}
use Rattle.cove_base.specs.declared.modes.Mode.{Mode}
use Rattle.cove_base.specs.declared.modes.Mode.TheVariants.{Sv39x4, Sv48x4}

-- the depth of the leaves: how many tables stand between a leaf and the root
abbrev pub leaves_of : Mode → ℕ
leaves_of Sv39x4 = 2
leaves_of Sv48x4 = 3

-- the number of guest pages
abbrev pub guest_limit : Mode → ℕ
guest_limit mode = slots_at (leaves_of mode)

-- the mode that the address of a root asks for
abbrev pub mode_of : (root : ℕ) → Mode
mode_of root = if root % 16384 == 1 then Sv48x4 else Sv39x4
