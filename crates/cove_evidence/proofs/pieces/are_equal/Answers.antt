use Rattle.std.proofs.Common.{◌≡◌, ap, get_or, below_more, eq-eqb, arith}
use Rattle.std.proofs.lemmas.Bool.{eqb-true}
use Rattle.std.proofs.lemmas.List.{ext_get_or}
use Rattle.cove_evidence.proofs.BitLemmas.{or-zero, xor-same, xor-zero}
use Rattle.cove_evidence.proofs.pieces.are_equal.Goals as goal

pub loop-i-preserved : goal.loop-i-preserved
loop-i-preserved c = record {
  same = λ e. let zeros = or-zero _ _ e in below_more _ _ (c.loop-i.invariant.same zeros.0) (xor-zero _ _ zeros.1);
  zeros = λ all.
      let before : c.loop-i.difference ≡ 0 = c.loop-i.invariant.zeros (λ k below. all k (omega arith)) in
      let here : get_or c.args.a.now c.loop-i.i 0 ≡ get_or c.args.b.now c.loop-i.i 0 = all c.loop-i.i (omega arith) in
      rw (before, here, xor-same);
}

pub returns : goal.returns
returns c = (
  (λ t. ext_get_or 0 c.args.a.now c.args.b.now (omega arith) (λ k below. c.loop-i.invariant.same (eqb-true _ _ t) k (omega arith))),
  (λ e. eq-eqb c.loop-i.difference 0 (c.loop-i.invariant.zeros (λ k _. ap (λ xs. get_or xs k 0) e))),
)
