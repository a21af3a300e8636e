-- A live TVM that was found, and what is found of it.
use Rattle.std.specs.Prelude.{◌≡◌, ℕ, ◌-◌, Bool, false, if◌then◌else◌, List, Some, is_none, Result, Ok, Err}
use Rattle.cove_base.specs.declared.statuses.Reply.{Reply}
use Rattle.cove_model.specs.States.{State}
use Rattle.cove_tvm.specs.Stands.{Stands}
use Rattle.cove_tvm.specs.TvmLends.{with_tvm}
use Rattle.cove_tvm.specs.TvmTables.{live_at}
use Rattle.cove_tvm.specs.declared.ground.Ground.{Ground}
use Rattle.cove_tvm.specs.declared.machines.Tvm.{Tvm}

-- it is the live one with a number, of a ground that stands for a state with the words
pub record IsLiveTvm (words : List ℕ) (S : State) (t : ℕ) (tvm : Tvm) : Type 0 where
  pub ground : Ground
  pub stands : Stands words ground S
  pub live : live_at ground.tvms t ≡ Some tvm

-- it is live in some state
pub record IsSomeLiveTvm (words : List ℕ) (tvm : Tvm) : Type 0 where
  pub state : State
  pub number : ℕ
  pub live : IsLiveTvm words state number tvm

-- the answer of a check that hands out what it found
abbrev pub without_value : {A : Type 0} → Result A Reply → Result (Unit {0}) Reply
without_value (Ok found) = Ok tt
without_value (Err reply) = Err reply

-- none of its four vCPUs was created
abbrev pub has_no_cpu : Tvm → Bool
has_no_cpu tvm =
    if is_none tvm.v0 then if is_none tvm.v1 then if is_none tvm.v2 then is_none tvm.v3 else false else false else false

-- the live TVM with a number changes so, and all else of the ground stays
abbrev pub ChangesTvm : (t : ℕ) (how : Tvm → Tvm → Type 0) (G H : Ground) → Type 0
ChangesTvm t how G H =
    (old : Tvm) → live_at G.tvms t ≡ Some old
    → (new : Tvm) × how old new × (H ≡ record G { tvms = with_tvm G.tvms (t - 1) new })
