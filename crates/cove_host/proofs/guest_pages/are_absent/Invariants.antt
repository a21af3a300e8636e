use Rattle.std.proofs.Common.{◌≡◌}
use Rattle.cove_base.specs.Modes.{leaves_of}
use Rattle.cove_base.specs.Tables.{leaf_at}
use Rattle.cove_base.specs.Unchanged.{Unchanged}
use Rattle.cove_host.specs.GuestRuns.{EachGuest}
use Rattle.cove_host.proofs.guest_pages.are_absent.Given as goal

-- no guest page so far has a leaf
abbrev pub invariant-loop-i : goal.invariant-loop-i
invariant-loop-i g l = record {
  unchanged : Unchanged g.W.Words.words g.W.Words.clean g.W.Words.guard l.initial.w l.w;
  each : EachGuest (λ k. leaf_at l.tables.pages l.tables.root.0 (leaves_of l.tables.mode) (g.W.Words.words l.initial.w) k ≡ 0) l.first l.i;
}
