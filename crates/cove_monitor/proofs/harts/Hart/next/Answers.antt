use Rattle.std.proofs.Common.{sym, ◌∙◌, subst}
use Rattle.cove_core.proofs.Walking.{prepared_for}
use Rattle.cove_core.specs.Reached.{IsPrepared}
use Rattle.cove_hart.specs.HartStates.{hart_value}
use Rattle.cove_monitor.proofs.harts.Hart.next.Goals as goal
use Rattle.cove_monitor.specs.Seats.{SeatValue}

pub returns-clause-prepared : goal.returns-clause-prepared
returns-clause-prepared c event =
    subst (λ (v : SeatValue). IsPrepared c.args.script.now v.held) c.self.view_is
    (prepared_for c.args.script.now (hart_value c.self.inside.state) c.args.phase (sym c.next.ensures ∙ event))
