use Rattle.std.proofs.Common.{◌≡◌, drop, length}
use Rattle.cove_base.specs.Stores.{AllAllowed, stored}
use Rattle.cove_host.specs.Released.{release_stores}
use Rattle.cove_host.proofs.releasing.release_gathered.Given as goal

-- the stores that are left are allowed, and lead to the same words
abbrev pub invariant-loop-k : goal.invariant-loop-k
invariant-loop-k g l = record {
  long : length (g.W.Words.words l.w) ≡ length (g.W.Words.words l.initial.w);
  allowed : AllAllowed (g.W.Words.allows (g.W.Words.guard l.w)) (g.W.Words.words l.w) (release_stores (drop l.k l.pool.pages));
  leads : stored (g.W.Words.words l.w) (release_stores (drop l.k l.pool.pages)) ≡ stored (g.W.Words.words l.initial.w) (release_stores l.pool.pages);
  guard : g.W.Words.guard l.w ≡ g.W.Words.guard l.initial.w;
}
