use Rattle.std.proofs.Common.{◌∙◌, ◌+◌, ◌/◌, ◌≤◌, sym}
use Rattle.std.proofs.lemmas.Result.{on_ok_weaker}
use Rattle.cove_base.specs.Modes.{guest_limit}
use Rattle.cove_model.specs.Machine.{Measured, rule}
use Rattle.cove_host.proofs.CheckedLemmas.{front_passes, stops}
use Rattle.cove_host.proofs.LifeTold.{of_live}
use Rattle.cove_host.proofs.measured_pages.measurable.Goals as goal

pub returns-in_err-tvm-clause-told : goal.returns-in_err-tvm-clause-told
returns-in_err-tvm-clause-told g c = λ hart S stands.
    stops 0 (rule S hart (Measured c.args.t c.args.src c.args.dst c.args.n c.args.gpa)).checks c.from_residual.ensures.1
    tt (c.in_err-tvm.ensures.told _ S stands)

pub returns-in_err-is_building-clause-told : goal.returns-in_err-is_building-clause-told
returns-in_err-is_building-clause-told g c = λ hart S stands.
    let one = c.in_ok-tvm.ensures.found _ S stands in
    stops 1 (rule S hart (Measured c.args.t c.args.src c.args.dst c.args.n c.args.gpa)).checks c.from_residual-in_err-is_building.ensures.1
    (c.in_ok-tvm.ensures.told _ S stands, tt) (c.in_err-is_building.ensures.told _ S c.args.t one)

pub returns-in_err-counted-clause-told : goal.returns-in_err-counted-clause-told
returns-in_err-counted-clause-told g c = λ hart S stands.
    let one = c.in_ok-tvm.ensures.found _ S stands in
    stops 2 (rule S hart (Measured c.args.t c.args.src c.args.dst c.args.n c.args.gpa)).checks c.from_residual-in_err-counted.ensures.1
    (c.in_ok-tvm.ensures.told _ S stands, (c.in_ok-is_building.ensures.told _ S c.args.t one, tt)) c.in_err-counted.ensures.told

pub returns-in_err-aligned-clause-told : goal.returns-in_err-aligned-clause-told
returns-in_err-aligned-clause-told g c = λ hart S stands.
    let one = c.in_ok-tvm.ensures.found _ S stands in
    stops 3 (rule S hart (Measured c.args.t c.args.src c.args.dst c.args.n c.args.gpa)).checks c.from_residual-in_err-aligned.ensures.1
    (c.in_ok-tvm.ensures.told _ S stands, (c.in_ok-is_building.ensures.told _ S c.args.t one, (c.in_ok-counted.ensures.told, tt))) c.in_err-aligned.ensures

pub returns-in_err-aligned-2-clause-told : goal.returns-in_err-aligned-2-clause-told
returns-in_err-aligned-2-clause-told g c = λ hart S stands.
    let one = c.in_ok-tvm.ensures.found _ S stands in
    stops 4 (rule S hart (Measured c.args.t c.args.src c.args.dst c.args.n c.args.gpa)).checks c.from_residual-in_err-aligned-2.ensures.1
    (c.in_ok-tvm.ensures.told _ S stands, (c.in_ok-is_building.ensures.told _ S c.args.t one, (c.in_ok-counted.ensures.told, (c.in_ok-aligned.ensures, tt)))) c.in_err-aligned-2.ensures

pub returns-in_err-aligned-3-clause-told : goal.returns-in_err-aligned-3-clause-told
returns-in_err-aligned-3-clause-told g c = λ hart S stands.
    let one = c.in_ok-tvm.ensures.found _ S stands in
    stops 5 (rule S hart (Measured c.args.t c.args.src c.args.dst c.args.n c.args.gpa)).checks c.from_residual-in_err-aligned-3.ensures.1
    (c.in_ok-tvm.ensures.told _ S stands, (c.in_ok-is_building.ensures.told _ S c.args.t one, (c.in_ok-counted.ensures.told, (c.in_ok-aligned.ensures, (c.in_ok-aligned-2.ensures, tt))))) c.in_err-aligned-3.ensures

pub returns-in_err-inside-clause-told : goal.returns-in_err-inside-clause-told
returns-in_err-inside-clause-told g c = λ hart S stands.
    let one = c.in_ok-tvm.ensures.found _ S stands in
    stops 6 (rule S hart (Measured c.args.t c.args.src c.args.dst c.args.n c.args.gpa)).checks c.from_residual-in_err-inside.ensures.1
    (c.in_ok-tvm.ensures.told _ S stands, (c.in_ok-is_building.ensures.told _ S c.args.t one, (c.in_ok-counted.ensures.told, (c.in_ok-aligned.ensures, (c.in_ok-aligned-2.ensures, (c.in_ok-aligned-3.ensures, tt)))))) (c.in_err-inside.ensures.told _ S stands)

pub returns-in_err-inside-2-clause-told : goal.returns-in_err-inside-2-clause-told
returns-in_err-inside-2-clause-told g c = λ hart S stands.
    let one = c.in_ok-tvm.ensures.found _ S stands in
    stops 7 (rule S hart (Measured c.args.t c.args.src c.args.dst c.args.n c.args.gpa)).checks c.from_residual-in_err-inside-2.ensures.1
    (c.in_ok-tvm.ensures.told _ S stands, (c.in_ok-is_building.ensures.told _ S c.args.t one, (c.in_ok-counted.ensures.told, (c.in_ok-aligned.ensures, (c.in_ok-aligned-2.ensures, (c.in_ok-aligned-3.ensures, (c.in_ok-inside.ensures.told _ S stands, tt))))))) (c.in_err-inside-2.ensures.told _ S stands)

pub returns-in_err-all_host-clause-told : goal.returns-in_err-all_host-clause-told
returns-in_err-all_host-clause-told g c = λ hart S stands.
    let one = c.in_ok-tvm.ensures.found _ S stands in
    stops 8 (rule S hart (Measured c.args.t c.args.src c.args.dst c.args.n c.args.gpa)).checks c.from_residual-in_err-all_host.ensures.1
    (c.in_ok-tvm.ensures.told _ S stands, (c.in_ok-is_building.ensures.told _ S c.args.t one, (c.in_ok-counted.ensures.told, (c.in_ok-aligned.ensures, (c.in_ok-aligned-2.ensures, (c.in_ok-aligned-3.ensures, (c.in_ok-inside.ensures.told _ S stands, (c.in_ok-inside-2.ensures.told _ S stands, tt)))))))) (c.in_err-all_host.ensures.told S stands)

pub returns-in_err-free-clause-told : goal.returns-in_err-free-clause-told
returns-in_err-free-clause-told g c = λ hart S stands.
    let one = c.in_ok-tvm.ensures.found _ S stands in
    stops 9 (rule S hart (Measured c.args.t c.args.src c.args.dst c.args.n c.args.gpa)).checks c.from_residual-in_err-free.ensures.1
    (c.in_ok-tvm.ensures.told _ S stands, (c.in_ok-is_building.ensures.told _ S c.args.t one, (c.in_ok-counted.ensures.told, (c.in_ok-aligned.ensures, (c.in_ok-aligned-2.ensures, (c.in_ok-aligned-3.ensures, (c.in_ok-inside.ensures.told _ S stands, (c.in_ok-inside-2.ensures.told _ S stands, (c.in_ok-all_host.ensures.told S stands, tt))))))))) (c.in_err-free.ensures.told S (rw c.in_ok-all_host.ensures.unchanged.words stands))

pub returns-clause-told : goal.returns-clause-told
returns-clause-told g c = λ hart S stands.
    let one = c.in_ok-tvm.ensures.found _ S stands in
    c.may_map.ensures.told S c.args.t (rw (c.in_ok-free.ensures.unchanged.words, c.in_ok-all_host.ensures.unchanged.words) one)
    ∙ sym (front_passes 10 (rule S hart (Measured c.args.t c.args.src c.args.dst c.args.n c.args.gpa)).checks
    (c.in_ok-tvm.ensures.told _ S stands, (c.in_ok-is_building.ensures.told _ S c.args.t one, (c.in_ok-counted.ensures.told, (c.in_ok-aligned.ensures, (c.in_ok-aligned-2.ensures, (c.in_ok-aligned-3.ensures, (c.in_ok-inside.ensures.told _ S stands, (c.in_ok-inside-2.ensures.told _ S stands, (c.in_ok-all_host.ensures.told S stands, (c.in_ok-free.ensures.told S (rw c.in_ok-all_host.ensures.unchanged.words stands), tt)))))))))))

pub returns-clause-near : goal.returns-clause-near
returns-clause-near g c =
    on_ok_weaker c.may_map.result
    (of_live (λ tvm. c.args.gpa / 4096 + c.args.n ≤ guest_limit tvm.tables.mode) c.args.g.now c.args.t _ c.in_ok-tvm.ensures.live) c.may_map.ensures.near

pub may_map-requires-clause-live : goal.may_map-requires-clause-live
may_map-requires-clause-live g c = record {
  state = c.requires.ready.state;
  number = c.args.t;
  live = rw (c.in_ok-free.ensures.unchanged.words, c.in_ok-all_host.ensures.unchanged.words) (c.in_ok-tvm.ensures.found _ _ c.requires.ready.stands);
}
