use Rattle.std.proofs.Common.{◌∙◌, ◌+◌, ◌*◌, ◌≤◌, sym, arith}
use Rattle.cove_base.specs.Modes.{guest_limit}
use Rattle.cove_model.specs.Machine.{Region, rule}
use Rattle.cove_host.proofs.CheckedLemmas.{front_passes, stops}
use Rattle.cove_host.proofs.GuestTests.{few_guests}
use Rattle.cove_host.proofs.LifeTold.{of_live}
use Rattle.cove_host.proofs.PassedChecks.{on_any}
use Rattle.cove_host.proofs.regions.addable.Goals as goal

pub returns-in_err-tvm-clause-told : goal.returns-in_err-tvm-clause-told
returns-in_err-tvm-clause-told c = λ words hart S stands.
    stops 0 (rule S hart (Region c.args.t c.args.gpa c.args.len)).checks c.from_residual.ensures.1
    tt (c.in_err-tvm.ensures.told words S stands)

pub returns-in_err-is_building-clause-told : goal.returns-in_err-is_building-clause-told
returns-in_err-is_building-clause-told c = λ words hart S stands.
    let one = c.in_ok-tvm.ensures.found words S stands in
    stops 1 (rule S hart (Region c.args.t c.args.gpa c.args.len)).checks c.from_residual-in_err-is_building.ensures.1
    (c.in_ok-tvm.ensures.told words S stands, tt) (c.in_err-is_building.ensures.told words S c.args.t one)

pub returns-in_err-aligned-clause-told : goal.returns-in_err-aligned-clause-told
returns-in_err-aligned-clause-told c = λ words hart S stands.
    let one = c.in_ok-tvm.ensures.found words S stands in
    stops 2 (rule S hart (Region c.args.t c.args.gpa c.args.len)).checks c.from_residual-in_err-aligned.ensures.1
    (c.in_ok-tvm.ensures.told words S stands, (c.in_ok-is_building.ensures.told words S c.args.t one, tt)) c.in_err-aligned.ensures

pub returns-in_err-aligned-2-clause-told : goal.returns-in_err-aligned-2-clause-told
returns-in_err-aligned-2-clause-told c = λ words hart S stands.
    let one = c.in_ok-tvm.ensures.found words S stands in
    stops 3 (rule S hart (Region c.args.t c.args.gpa c.args.len)).checks c.from_residual-in_err-aligned-2.ensures.1
    (c.in_ok-tvm.ensures.told words S stands, (c.in_ok-is_building.ensures.told words S c.args.t one, (c.in_ok-aligned.ensures, tt))) c.in_err-aligned-2.ensures

pub returns-in_err-is_area-clause-told : goal.returns-in_err-is_area-clause-told
returns-in_err-is_area-clause-told c = λ words hart S stands.
    let one = c.in_ok-tvm.ensures.found words S stands in
    stops 4 (rule S hart (Region c.args.t c.args.gpa c.args.len)).checks c.from_residual-in_err-is_area.ensures.1
    (c.in_ok-tvm.ensures.told words S stands, (c.in_ok-is_building.ensures.told words S c.args.t one, (c.in_ok-aligned.ensures, (c.in_ok-aligned-2.ensures, tt)))) (c.in_err-is_area.ensures.told words S c.args.t one)

pub returns-in_err-no_overlap-clause-told : goal.returns-in_err-no_overlap-clause-told
returns-in_err-no_overlap-clause-told c = λ words hart S stands.
    let one = c.in_ok-tvm.ensures.found words S stands in
    stops 5 (rule S hart (Region c.args.t c.args.gpa c.args.len)).checks c.from_residual-in_err-no_overlap.ensures.1
    (c.in_ok-tvm.ensures.told words S stands, (c.in_ok-is_building.ensures.told words S c.args.t one, (c.in_ok-aligned.ensures, (c.in_ok-aligned-2.ensures, (c.in_ok-is_area.ensures.told words S c.args.t one, tt))))) (c.in_err-no_overlap.ensures.told words S c.args.t one)

pub returns-clause-told : goal.returns-clause-told
returns-clause-told c = λ words hart S stands.
    let one = c.in_ok-tvm.ensures.found words S stands in
    c.room_for_region.ensures.told words S c.args.t one
    ∙ sym (front_passes 6 (rule S hart (Region c.args.t c.args.gpa c.args.len)).checks
    (c.in_ok-tvm.ensures.told words S stands, (c.in_ok-is_building.ensures.told words S c.args.t one, (c.in_ok-aligned.ensures, (c.in_ok-aligned-2.ensures, (c.in_ok-is_area.ensures.told words S c.args.t one, (c.in_ok-no_overlap.ensures.told words S c.args.t one, tt)))))))

pub returns-clause-area : goal.returns-clause-area
returns-clause-area c =
    on_any c.room_for_region.result
    (of_live (λ tvm. c.args.gpa + c.args.len ≤ 4096 * guest_limit tvm.tables.mode) c.args.g.now c.args.t _ c.in_ok-tvm.ensures.live c.in_ok-is_area.ensures.within)

pub returns-clause-fits : goal.returns-clause-fits
returns-clause-fits c = let few = few_guests c.in_ok-tvm.tvm.now.tables.mode in on_any c.room_for_region.result (omega (arith, few, c.in_ok-is_area.ensures.within))

pub no_overlap-requires : goal.no_overlap-requires
no_overlap-requires c = let few = few_guests c.in_ok-tvm.tvm.now.tables.mode in omega (arith, few, c.in_ok-is_area.ensures.within)
