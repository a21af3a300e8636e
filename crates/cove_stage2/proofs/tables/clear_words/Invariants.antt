use Rattle.std.proofs.Common.{◌≡◌, ◌+◌, ◌-◌, length}
use Rattle.cove_base.specs.Stores.{stored, AllAllowed, fills}
use Rattle.cove_stage2.proofs.tables.clear_words.Given as goal

-- the stores that are left are allowed, and lead to the same words
abbrev pub invariant-loop-i : goal.invariant-loop-i
invariant-loop-i g l = record {
  long : length (g.W.Words.words l.w) ≡ length (g.W.Words.words l.initial.w);
  allowed : AllAllowed (g.W.Words.allows (g.W.Words.guard l.w)) (g.W.Words.words l.w) (fills (l.first + l.i) (l.k - l.i) 0);
  leads : stored (g.W.Words.words l.w) (fills (l.first + l.i) (l.k - l.i) 0) ≡ stored (g.W.Words.words l.initial.w) (fills l.first l.k 0);
  guard : g.W.Words.guard l.w ≡ g.W.Words.guard l.initial.w;
}
