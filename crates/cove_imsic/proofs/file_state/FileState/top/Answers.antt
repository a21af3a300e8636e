use Rattle.std.proofs.Common.{ap, arith, sym}
use Rattle.std.specs.Prelude.{bit_and}
use Rattle.std.proofs.lemmas.Nat.{and_le_r}
use Rattle.cove_base.specs.InterruptFiles.{InterruptFile}
use Rattle.cove_imsic.proofs.MaskLemmas.{top-none, top-trailing_zeros}
use Rattle.cove_imsic.proofs.file_state.FileState.top.Goals as goal

pub returns-then-signalled-eq0 : goal.returns-then-signalled-eq0
returns-then-signalled-eq0 c =
    let view = sym c.self.view_is in
    record {
      identity = sym (top-none c.self.inside.pending c.self.inside.enabled c.shown_by.result c.self.inside.threshold c.args.self.now
          (ap (λ (f : InterruptFile). f.pending) view) (ap (λ (f : InterruptFile). f.enabled) view) (ap (λ (f : InterruptFile). f.threshold) view)
          c.shown_by.ensures c.if-signalled-eq0.true);
      below = omega arith;
    }

pub returns-else-signalled-eq0 : goal.returns-else-signalled-eq0
returns-else-signalled-eq0 c =
    let view = sym c.self.view_is in
    let small = and_le_r (bit_and c.self.inside.pending c.self.inside.enabled) c.shown_by.result in
    let some = c.if-signalled-eq0.false in
    let found = top-trailing_zeros c.self.inside.pending c.self.inside.enabled c.shown_by.result c.self.inside.threshold c.args.self.now
    (ap (λ (f : InterruptFile). f.pending) view) (ap (λ (f : InterruptFile). f.enabled) view) (ap (λ (f : InterruptFile). f.threshold) view)
    c.shown_by.ensures c.self.invariant.pending_is_mask.no_bit_0 (omega arith) (omega arith) in
    record { identity = sym found.0; below = found.2 }
