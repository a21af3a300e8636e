-- Room for TVMs, after one took its place and a pool.
use Rattle.std.proofs.Common.{◌≡◌, ℕ, List, [], ◌∷◌, ◌++◌, length, length-append, Some, ap, arith}
use Rattle.std.proofs.lemmas.List.Elements.{All-pop}
use Rattle.cove_stage2.specs.MapStores.{Pages}
use Rattle.cove_tvm.specs.TvmTables.{HasRoom, IsEmptyPool}
use Rattle.cove_tvm.specs.declared.machines.Tvm.{Tvm}

pub room_left : (pages : ℕ) (tvms new : List Tvm) (capacity capacity' : ℕ) (spare left : List Pages) (tvm : Tvm) (pool : Pages)
    → HasRoom pages tvms capacity spare → new ≡ tvms ++ tvm ∷ [] → capacity' ≡ capacity → spare ≡ left ++ pool ∷ []
    → HasRoom pages new capacity' left
room_left pages tvms new capacity capacity' spare left tvm pool room grown same taken = record {
  board = room.board;
  capacity_is = omega (arith, room.capacity_is, same);
  count =
      let a = ap length grown in
      let b = ap length taken in
      omega (arith, room.count, a, b, length-append tvms (tvm ∷ []), length-append left (pool ∷ []));
  each = (All-pop (IsEmptyPool pages) spare left (Some pool) taken room.each).0;
}
