use Rattle.std.proofs.Common.{◌≡◌}
use Rattle.cove_base.specs.Modes.{leaves_of}
use Rattle.cove_host.specs.Mapped.{MapsRun}
use Rattle.cove_host.proofs.mapping.map_run.Given as goal

-- the guest pages so far are mapped
abbrev pub invariant-loop-i : goal.invariant-loop-i
invariant-loop-i g l = record {
  mapped : MapsRun l.tables.pages l.tables.root.0 (leaves_of l.tables.mode) l.first.0 l.page.0 l.n l.i l.shared (g.W.Words.words l.initial.w) l.initial.pool.pages (g.W.Words.words l.w) l.pool.pages;
  room : l.pool.room ≡ l.initial.pool.room;
  guard : g.W.Words.guard l.w ≡ g.W.Words.guard l.initial.w;
}
