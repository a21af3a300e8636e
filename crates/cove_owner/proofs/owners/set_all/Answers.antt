use Rattle.std.proofs.Common.{◌+◌, arith, sym, ◌∙◌, ap, subst, length, length-set}
use Rattle.cove_base.specs.Stores.{stored, AllAllowed}
use Rattle.cove_base.proofs.StoreLemmas.{fills-rest}
use Rattle.cove_owner.specs.States.{state_word}
use Rattle.cove_owner.proofs.owners.set_all.Goals as goal

pub loop-i-preserved : goal.loop-i-preserved
loop-i-preserved g c =
    let i = c.loop-i.i in
    let words = g.W.Words.words c.loop-i.w in
    let word = state_word c.args.s in
    let split = fills-rest c.args.range.first.0 i c.args.range.count word (omega arith) in
    let kept = c.set_state.ensures in
    let allowed = subst (λ ss. AllAllowed (g.W.Words.allows (g.W.Words.guard c.loop-i.w)) words ss) split c.loop-i.invariant.allowed in
    record {
      long = ap length kept.words ∙ length-set words (c.args.range.first.0 + i) word ∙ c.loop-i.invariant.long;
      allowed = rw (kept.guard, kept.words) allowed.1;
      leads = rw kept.words (ap (λ ss. stored words ss) (sym split) ∙ c.loop-i.invariant.leads);
      clean = λ e. absurd (omega arith);
      guard = kept.guard ∙ c.loop-i.invariant.guard;
    }
