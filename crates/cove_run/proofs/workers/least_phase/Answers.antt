use Rattle.std.proofs.Common.{◌<◌, Option, ℕ, length, subst, arith}
use Rattle.cove_run.specs.Working.{AreAfter}
use Rattle.cove_run.proofs.PhaseLemmas.{after_more, idle_after_none}
use Rattle.cove_run.proofs.workers.least_phase.Goals as goal

pub loop-hart-preserved : goal.loop-hart-preserved
loop-hart-preserved g c =
    let within : c.loop-hart.hart-index < length c.args.harts.now = omega arith in
    after_more c.args.script.now c.args.harts.now c.loop-hart.hart-index c.hart-item.result c.loop-hart.least c.phase.result c.earlier-least.result within c.hart-item.is c.phase.ensures c.earlier-least.ensures.first c.earlier-least.ensures.second c.loop-hart.invariant

pub returns-clause-idle : goal.returns-clause-idle
returns-clause-idle g c none =
    idle_after_none c.args.script.now c.args.harts.now
    (subst (λ (o : Option ℕ). AreAfter c.args.script.now o c.args.harts.now) none (λ k below. c.loop-hart.invariant k (omega arith)))
