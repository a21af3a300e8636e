use Rattle.cove_base.specs.Unchanged.{Unchanged}
use Rattle.cove_base.specs.PageWords.{IsMappedWord}
use Rattle.cove_owner.specs.States.{EveryPage}
use Rattle.cove_owner.proofs.owners.any_mapped.Given as goal

abbrev pub invariant-loop-i : goal.invariant-loop-i
invariant-loop-i g l = record {
  unchanged : Unchanged g.W.Words.words g.W.Words.clean g.W.Words.guard l.initial.w l.w;
  each : EveryPage (λ word. IsMappedWord word → ⊥) (g.W.Words.words l.initial.w) l.range.first.0 l.i;
}
