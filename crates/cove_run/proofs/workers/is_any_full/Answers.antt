use Rattle.std.proofs.Common.{◌≡◌, ◌<◌, ◌∙◌, false, length, sym, arith}
use Rattle.cove_run.proofs.PhaseLemmas.{room_more}
use Rattle.cove_run.proofs.workers.is_any_full.Goals as goal

pub loop-hart-preserved : goal.loop-hart-preserved
loop-hart-preserved c =
    let within : c.loop-hart.hart-index < length c.args.harts.now = omega arith in
    let room : c.hart-item.result.full ≡ false = sym c.is_full.ensures.full ∙ c.if-is_full.false in
    room_more c.args.harts.now c.loop-hart.hart-index c.hart-item.result within c.hart-item.is room c.loop-hart.invariant
