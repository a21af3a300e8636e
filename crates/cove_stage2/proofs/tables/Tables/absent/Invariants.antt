use Rattle.std.proofs.Common.{◌≡◌, ◌+◌, ◌-◌, ◌≤◌}
use Rattle.cove_base.specs.Unchanged.{Unchanged}
use Rattle.cove_stage2.specs.Lacked.{absent_among}
use Rattle.cove_stage2.proofs.tables.Tables.absent.Given as goal

-- what was counted, and what is left to count
abbrev pub invariant-loop-i : goal.invariant-loop-i
invariant-loop-i g l = record {
  counted : l.absent + absent_among l.self.pages l.self.root.0 (g.W.Words.words l.initial.w) l.depth (l.n + l.i) (l.k - l.i) ≡ absent_among l.self.pages l.self.root.0 (g.W.Words.words l.initial.w) l.depth l.n l.k;
  most : l.absent ≤ l.i;
  unchanged : Unchanged g.W.Words.words g.W.Words.clean g.W.Words.guard l.initial.w l.w;
}
