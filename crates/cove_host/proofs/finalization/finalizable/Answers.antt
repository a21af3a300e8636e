use Rattle.std.proofs.Common.{◌∙◌, sym}
use Rattle.cove_model.specs.Machine.{Finalize, rule}
use Rattle.cove_host.proofs.CheckedLemmas.{front_passes, stops}
use Rattle.cove_host.proofs.finalization.finalizable.Goals as goal

pub returns-in_err-is_building : goal.returns-in_err-is_building
returns-in_err-is_building c = record {
  told = λ words hart arg S stands.
      let one = c.in_ok-tvm.ensures.found words S stands in
      stops 1 (rule S hart (Finalize c.args.t c.args.pc arg)).checks c.from_residual-in_err-is_building.ensures.1
      (c.in_ok-tvm.ensures.told words S stands, tt) (c.in_err-is_building.ensures.told words S c.args.t one);
}

pub returns-in_err-has_some_cpu : goal.returns-in_err-has_some_cpu
returns-in_err-has_some_cpu c = record {
  told = λ words hart arg S stands.
      let one = c.in_ok-tvm.ensures.found words S stands in
      stops 2 (rule S hart (Finalize c.args.t c.args.pc arg)).checks c.from_residual-in_err-has_some_cpu.ensures.1
      (c.in_ok-tvm.ensures.told words S stands, (c.in_ok-is_building.ensures.told words S c.args.t one, tt)) (c.in_err-has_some_cpu.ensures.told words S c.args.t one);
}

pub returns : goal.returns
returns c = record {
  told = λ words hart arg S stands.
      let one = c.in_ok-tvm.ensures.found words S stands in
      c.place_aligned.ensures
      ∙ sym (front_passes 3 (rule S hart (Finalize c.args.t c.args.pc arg)).checks
      (c.in_ok-tvm.ensures.told words S stands, (c.in_ok-is_building.ensures.told words S c.args.t one, (c.in_ok-has_some_cpu.ensures.told words S c.args.t one, tt))));
}
