-- What a call of a hart needs.
use Rattle.std.specs.Prelude.{ℕ, ◌<◌, List}
use Rattle.cove_tvm.specs.Called.{IsReady}
use Rattle.cove_tvm.specs.declared.ground.Ground.{Ground}

-- what a call of a hart needs of words and ground
pub record CanCall (words : List ℕ) (G : Ground) (hart : ℕ) : Type 0 where
  pub ready : IsReady words G
  pub on_board : hart < G.harts
