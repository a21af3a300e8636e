use Rattle.std.proofs.Common.{◌≡◌, ◌+◌, ◌-◌, ◌<◌, ℕ, get_or}
use Rattle.cove_base.specs.Modes.{leaves_of}
use Rattle.cove_base.specs.Places.{table_word}
use Rattle.cove_clear.specs.Clearing.{KeepsAbove, Proceeds}
use Rattle.cove_clear.proofs.clearing.+clear_slot.Given as goal

-- how many tables there still are down to the leaves
abbrev pub decreases-clear_slot : goal.decreases-clear_slot
decreases-clear_slot g l = leaves_of l.tables.now.mode - l.depth

-- the words so far are clear, and what is above the table stays
abbrev pub invariant-loop-i : goal.invariant-loop-i
invariant-loop-i g l = record {
  proceeds : Proceeds l.tables.pages l.tables.root.0 (leaves_of l.tables.mode) (g.W.Words.words l.initial.w) l.initial.pool.pages (g.W.Words.words l.w) l.pool.pages;
  empty : (j : ℕ) → j < l.i → get_or (g.W.Words.words l.w) (table_word l.tables.pages l.table.0 j) 0 ≡ 0;
  above : KeepsAbove l.tables.pages l.tables.root.0 (l.depth + 1) (g.W.Words.words l.initial.w) (g.W.Words.words l.w);
  room : l.pool.room ≡ l.initial.pool.room;
  guard : g.W.Words.guard l.w ≡ g.W.Words.guard l.initial.w;
}
