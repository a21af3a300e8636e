-- A small board, and what refuses a call, for worked examples.
use Rattle.std.specs.Prelude.{ℕ, List, [], ◌∷◌, replicate}
use Rattle.cove_base.specs.Places.{all_words}
use Rattle.cove_base.specs.Scripts.{ScriptValue}
use Rattle.cove_base.specs.declared.statuses.Reply.{Reply}
use Rattle.cove_base.specs.declared.statuses.Status.{Status}
use Rattle.cove_model.specs.States.{opening_words}
use Rattle.cove_tvm.specs.declared.ground.Ground.{Ground}

-- a status without a value
abbrev pub only : Status → Reply
only status = record { status = status; value = 0 }

-- a script of one page and one hart, without a line
abbrev pub small_script : ScriptValue
small_script = record { pages = 1; harts = 1; files = 0; key = 7 ∷ []; fills = []; lines = []; turns = [] }

-- the ground of its board before any call
abbrev pub small_ground : Ground
small_ground = record {
  memory = opening_words [] 0 ∷ [];
  tvms = record { pages = 1; tvms = [] };
  files = record { harts = 1; files = 0; states = [] };
  kicked = 0;
  key = 7 ∷ [];
  pages = 1;
  harts = 1;
  filecount = 0;
}

-- its words before any call
abbrev pub small_words : List ℕ
small_words = replicate (all_words 1 1) 0
