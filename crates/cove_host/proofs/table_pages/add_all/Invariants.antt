use Rattle.std.proofs.Common.{◌≡◌, ◌++◌}
use Rattle.std.specs.List.{range_with_len}
use Rattle.cove_host.proofs.table_pages.add_all.Given as goal

-- so many pages were added
abbrev pub invariant-loop-i : goal.invariant-loop-i
invariant-loop-i l = record {
  pages : l.pool.pages ≡ l.initial.pool.pages ++ range_with_len l.first.0 l.i;
  room : l.pool.room ≡ l.initial.pool.room;
}
