use Rattle.std.proofs.Common.{◌+◌, arith, sym, ◌∙◌, ap, subst, length, length-set}
use Rattle.cove_base.specs.Stores.{stored, AllAllowed}
use Rattle.cove_base.proofs.StoreLemmas.{fills-rest}
use Rattle.cove_stage2.proofs.tables.clear_words.Goals as goal

pub set-requires-clause-allowed : goal.set-requires-clause-allowed
set-requires-clause-allowed g c =
    let split = fills-rest c.args.first c.loop-i.i c.args.k 0 (omega arith) in
    let allowed = subst (λ ss. AllAllowed (g.W.Words.allows (g.W.Words.guard c.loop-i.w)) (g.W.Words.words c.loop-i.w) ss) split c.loop-i.invariant.allowed in
    allowed.0

pub loop-i-preserved : goal.loop-i-preserved
loop-i-preserved g c =
    let i = c.loop-i.i in
    let words = g.W.Words.words c.loop-i.w in
    let split = fills-rest c.args.first i c.args.k 0 (omega arith) in
    let kept = c.set.ensures in
    let allowed = subst (λ ss. AllAllowed (g.W.Words.allows (g.W.Words.guard c.loop-i.w)) words ss) split c.loop-i.invariant.allowed in
    record {
      long = ap length kept.words ∙ length-set words (c.args.first + i) 0 ∙ c.loop-i.invariant.long;
      allowed = rw (kept.guard, kept.words) allowed.1;
      leads = rw kept.words (ap (λ ss. stored words ss) (sym split) ∙ c.loop-i.invariant.leads);
      guard = kept.guard ∙ c.loop-i.invariant.guard;
    }
