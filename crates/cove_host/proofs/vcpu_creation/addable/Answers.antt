use Rattle.std.proofs.Common.{◌∙◌, sym}
use Rattle.cove_base.specs.declared.calls.HostCall.TheVariants.{Vcpu}
use Rattle.cove_host.proofs.CheckedLemmas.{front_passes, stops}
use Rattle.cove_model.specs.HostCalls.{rule}
use Rattle.cove_host.proofs.vcpu_creation.addable.Goals as goal

pub returns-in_err-tvm-clause-told : goal.returns-in_err-tvm-clause-told
returns-in_err-tvm-clause-told g c = λ hart S stands.
    stops 0 (rule S hart (Vcpu c.args.t c.args.v c.args.state)).checks c.from_residual.ensures.1
    tt (c.in_err-tvm.ensures.told _ S stands)

pub returns-in_err-is_building-clause-told : goal.returns-in_err-is_building-clause-told
returns-in_err-is_building-clause-told g c = λ hart S stands.
    let one = c.in_ok-tvm.ensures.found _ S stands in
    stops 1 (rule S hart (Vcpu c.args.t c.args.v c.args.state)).checks c.from_residual-in_err-is_building.ensures.1
    (c.in_ok-tvm.ensures.told _ S stands, tt) (c.in_err-is_building.ensures.told _ S c.args.t one)

pub returns-in_err-cpu_number-clause-told : goal.returns-in_err-cpu_number-clause-told
returns-in_err-cpu_number-clause-told g c = λ hart S stands.
    let one = c.in_ok-tvm.ensures.found _ S stands in
    stops 2 (rule S hart (Vcpu c.args.t c.args.v c.args.state)).checks c.from_residual-in_err-cpu_number.ensures.1
    (c.in_ok-tvm.ensures.told _ S stands, (c.in_ok-is_building.ensures.told _ S c.args.t one, tt)) c.in_err-cpu_number.ensures.told

pub returns-in_err-no_cpu_yet-clause-told : goal.returns-in_err-no_cpu_yet-clause-told
returns-in_err-no_cpu_yet-clause-told g c = λ hart S stands.
    let one = c.in_ok-tvm.ensures.found _ S stands in
    stops 3 (rule S hart (Vcpu c.args.t c.args.v c.args.state)).checks c.from_residual-in_err-no_cpu_yet.ensures.1
    (c.in_ok-tvm.ensures.told _ S stands, (c.in_ok-is_building.ensures.told _ S c.args.t one, (c.in_ok-cpu_number.ensures.told, tt))) (c.in_err-no_cpu_yet.ensures.told _ S c.args.t one)

pub returns-in_err-aligned-clause-told : goal.returns-in_err-aligned-clause-told
returns-in_err-aligned-clause-told g c = λ hart S stands.
    let one = c.in_ok-tvm.ensures.found _ S stands in
    stops 4 (rule S hart (Vcpu c.args.t c.args.v c.args.state)).checks c.from_residual-in_err-aligned.ensures.1
    (c.in_ok-tvm.ensures.told _ S stands, (c.in_ok-is_building.ensures.told _ S c.args.t one, (c.in_ok-cpu_number.ensures.told, (c.in_ok-no_cpu_yet.ensures.told _ S c.args.t one, tt)))) c.in_err-aligned.ensures

pub returns-in_err-inside-clause-told : goal.returns-in_err-inside-clause-told
returns-in_err-inside-clause-told g c = λ hart S stands.
    let one = c.in_ok-tvm.ensures.found _ S stands in
    stops 5 (rule S hart (Vcpu c.args.t c.args.v c.args.state)).checks c.from_residual-in_err-inside.ensures.1
    (c.in_ok-tvm.ensures.told _ S stands, (c.in_ok-is_building.ensures.told _ S c.args.t one, (c.in_ok-cpu_number.ensures.told, (c.in_ok-no_cpu_yet.ensures.told _ S c.args.t one, (c.in_ok-aligned.ensures, tt))))) (c.in_err-inside.ensures.told _ S stands)

pub returns-clause-told : goal.returns-clause-told
returns-clause-told g c = λ hart S stands.
    let one = c.in_ok-tvm.ensures.found _ S stands in
    c.free.ensures.told S stands
    ∙ sym (front_passes 6 (rule S hart (Vcpu c.args.t c.args.v c.args.state)).checks
    (c.in_ok-tvm.ensures.told _ S stands, (c.in_ok-is_building.ensures.told _ S c.args.t one, (c.in_ok-cpu_number.ensures.told, (c.in_ok-no_cpu_yet.ensures.told _ S c.args.t one, (c.in_ok-aligned.ensures, (c.in_ok-inside.ensures.told _ S stands, tt)))))))
