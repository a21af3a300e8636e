use Rattle.std.proofs.Common.{◌≡◌, ◌<◌, ℕ, get_or}
use Rattle.cove_base.specs.Modes.{leaves_of}
use Rattle.cove_base.specs.Places.{table_word}
use Rattle.cove_clear.specs.Clearing.{Proceeds}
use Rattle.cove_clear.proofs.clearing.clear_tables.Given as goal

-- the entries of the root so far are clear
abbrev pub invariant-loop-n : goal.invariant-loop-n
invariant-loop-n g l = record {
  proceeds : Proceeds l.tables.pages l.tables.root.0 (leaves_of l.tables.mode) (g.W.Words.words l.initial.w) l.initial.pool.pages (g.W.Words.words l.w) l.pool.pages;
  empty : (j : ℕ) → j < l.n → get_or (g.W.Words.words l.w) (table_word l.tables.pages l.tables.root.0 j) 0 ≡ 0;
  room : l.pool.room ≡ l.initial.pool.room;
  guard : g.W.Words.guard l.w ≡ g.W.Words.guard l.initial.w;
}
