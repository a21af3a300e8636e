-- What holds of the seats of harts along every legal history.
use Rattle.std.specs.Prelude.{◌≡◌, ◌<◌, ℕ, true, Some}
use Rattle.cove_model.specs.States.{Seat, State, find_cpu, find_tvm}
use Rattle.cove_model.specs.Tvms.{Cpu, Tvm}

-- a seat is on a vCPU of a live TVM that runs
pub record IsOn (S : State) (seat : Seat) : Type 0 where
  pub tvm : Tvm
  pub live : find_tvm S seat.tvm ≡ Some tvm
  pub runs : tvm.runnable ≡ true
  pub cpu : Cpu
  pub there : find_cpu tvm seat.cpu ≡ Some cpu

-- the harts of the board that are inside sit on vCPUs that run, no two of them on one
pub record IsSeated (S : State) : Type 0 where
  pub on : (h : ℕ) (seat : Seat) → h < S.harts → S.seats h ≡ Some seat → IsOn S seat
  pub alone :
      (h k : ℕ) (seat other : Seat) → h < S.harts → k < S.harts → S.seats h ≡ Some seat → S.seats k ≡ Some other
      → seat.tvm ≡ other.tvm → seat.cpu ≡ other.cpu → h ≡ k

-- a vCPU's registers, place, latched word and fuel are the same
pub record IsStill (before now : Cpu) : Type 0 where
  pub x : now.x ≡ before.x
  pub pc : now.pc ≡ before.pc
  pub latched : now.latched ≡ before.latched
  pub fuel : now.fuel ≡ before.fuel
