-- What the creation of a TVM stores, and that words and ground stand after it.
use Rattle.std.specs.Prelude.{◌≡◌, ℕ, ◌+◌, ◌/◌, ◌<◌, ◌≤◌, ◌⊎◌, true, List, [], ◌∷◌, ◌++◌}
use Rattle.cove_base.specs.Modes.{mode_of}
use Rattle.cove_base.specs.PageWords.{given}
use Rattle.cove_base.specs.Places.{page_word}
use Rattle.cove_base.specs.Stores.{AllAllowed, fills, stored}
use Rattle.cove_base.specs.declared.calls.HostCall.TheVariants.{Create}
use Rattle.cove_base.specs.declared.limits.TheConstants.{ENTRY_LIMIT, TVM_LIMIT}
use Rattle.cove_base.specs.declared.numbers.Role.TheVariants.{Root, State}
use Rattle.cove_model.specs.Answers.{effect}
use Rattle.cove_model.specs.LawfulStores.{IsLawful}
use Rattle.cove_model.specs.Orderly.{IsOrderly}
use Rattle.cove_model.specs.Owners.{every, is_free}
use Rattle.cove_model.specs.Seated.{IsSeated}
use Rattle.cove_model.specs.States.{State as MonitorState, board_in}
use Rattle.cove_model.specs.WordsStand.{FencesWithin}
use Rattle.cove_tvm.specs.Stands.{Stands}
use Rattle.cove_tvm.specs.TvmTables.{IsNewTvm, TvmTable}
use Rattle.cove_tvm.specs.declared.ground.Ground.{Ground}
use Rattle.cove_tvm.specs.declared.machines.Tvm.{Tvm}

-- the pages of the root are given to the TVM, in rising order, and then its state page
abbrev pub create_stores : (t root state : ℕ) → List (ℕ × ℕ)
create_stores t root state =
    fills (page_word (root / 4096)) 4 (given t Root) ++ fills (page_word (state / 4096)) 1 (given t State)

-- the TVMs and one more
abbrev pub with_new : TvmTable → Tvm → TvmTable
with_new table tvm = record table { tvms = table.tvms ++ tvm ∷ [] }

-- a TVM may be created of these pages: there is room for it, and they are on the board, apart, and free
pub record MayCreate (pages root state : ℕ) (S : MonitorState) : Type 0 where
  pub room : S.made < TVM_LIMIT
  pub root_inside : root / 4096 + 4 ≤ pages
  pub state_inside : state / 4096 + 1 ≤ pages
  pub apart : (state / 4096 < root / 4096) ⊎ (root / 4096 + 4 ≤ state / 4096)
  pub root_free : every is_free (root / 4096) 4 S.pages ≡ true
  pub state_free : every is_free (state / 4096) 1 S.pages ≡ true

-- after an accepted creation
abbrev pub CreateStands : Type 0
CreateStands =
    (words : List ℕ) (G : Ground) (S : MonitorState) (hart root state : ℕ) (tvm : Tvm)
    → Stands words G S → IsOrderly S → IsSeated S → FencesWithin G.pages G.harts words ENTRY_LIMIT
    → MayCreate G.pages root state S → IsNewTvm G.pages (board_in S) (root / 4096) (mode_of root) (state / 4096) tvm
    → Stands (stored words (create_stores (S.made + 1) root state)) (record G { tvms = with_new G.tvms tvm })
    (effect S hart (Create root state))

-- and its stores are lawful
abbrev pub CreateIsLawful : Type 0
CreateIsLawful =
    (words : List ℕ) (G : Ground) (S : MonitorState) (hart root state : ℕ)
    → Stands words G S → IsSeated S → FencesWithin G.pages G.harts words ENTRY_LIMIT
    → MayCreate G.pages root state S
    → AllAllowed (IsLawful G.pages G.harts hart words) words (create_stores (S.made + 1) root state)
