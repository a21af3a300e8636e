-- What a hart looks for next.
use Rattle.std.specs.Prelude.{ℕ, ◌*◌, nat_lt, if◌then◌else◌, Option, Some, None}
use Rattle.cove_base.specs.HartLines.{next_line}
use Rattle.cove_base.specs.declared.walks.Target.{Target}
use Rattle.cove_model.specs.Deeds.{Deed, Tires, Fetches, Executes, Loads, Stores, Asks, Waits, Traps, deed_of}
use Rattle.cove_model.specs.Offers.{access_target, cpu_of, fetch_target, host_target}
use Rattle.cove_model.specs.States.{Seat, State, ended_by, guests_in}
use Rattle.cove_model.specs.Types.{ScriptValue, Line, ScriptLine}

-- the guest page of an address, where there are so many guest pages
abbrev pub below_limit : (guests : ℕ) → Target → (addr : ℕ) → Option Target
below_limit guests target addr = if nat_lt addr (4096 * guests) then Some target else None

-- what a deed of a vCPU looks for, where there are so many guest pages
abbrev pub aim : (guests : ℕ) → Deed → Option Target
aim guests (Fetches addr) = below_limit guests (fetch_target addr) addr
aim guests (Loads addr size signed rd) = below_limit guests (access_target addr) addr
aim guests (Stores addr size value) = below_limit guests (access_target addr) addr
aim guests Tires = None
aim guests (Executes rd value pc file) = None
aim guests (Asks act) = None
aim guests Waits = None
aim guests (Traps cause) = None

-- what a line looks for
abbrev pub line_aim : Line → Option Target
line_aim (Line.Call call) = None
line_aim (Line.Load addr) = Some (host_target addr)
line_aim (Line.Store addr value) = Some (host_target addr)

abbrev pub next_aim : Option ScriptLine → Option Target
next_aim None = None
next_aim (Some line) = line_aim line.line

-- what a hart that sits there, or nowhere, looks for next, harts that are behind and kicks left aside
abbrev pub aimed_at : ScriptValue → State → (hart : ℕ) → Option Seat → Option Target
aimed_at script S h None = next_aim (next_line script h (ended_by S h))
aimed_at script S h (Some seat) = aim (guests_in S seat.tvm) (deed_of (cpu_of S seat))
