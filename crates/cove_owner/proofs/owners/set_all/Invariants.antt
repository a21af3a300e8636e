use Rattle.std.proofs.Common.{◌≡◌, ◌+◌, ◌-◌, length}
use Rattle.cove_base.specs.Stores.{stored, AllAllowed, fills}
use Rattle.cove_owner.specs.States.{state_word}
use Rattle.cove_owner.proofs.owners.set_all.Given as goal

-- the stores that are left are allowed, and lead to the same words
abbrev pub invariant-loop-i : goal.invariant-loop-i
invariant-loop-i g l = record {
  long : length (g.W.Words.words l.w) ≡ length (g.W.Words.words l.initial.w);
  allowed : AllAllowed (g.W.Words.allows (g.W.Words.guard l.w)) (g.W.Words.words l.w) (fills (l.range.first.0 + l.i) (l.range.count - l.i) (state_word l.s));
  leads : stored (g.W.Words.words l.w) (fills (l.range.first.0 + l.i) (l.range.count - l.i) (state_word l.s)) ≡ stored (g.W.Words.words l.initial.w) (fills l.range.first.0 l.range.count (state_word l.s));
  clean : l.i ≡ 0 → g.W.Words.clean l.w ≡ g.W.Words.clean l.initial.w;
  guard : g.W.Words.guard l.w ≡ g.W.Words.guard l.initial.w;
}
