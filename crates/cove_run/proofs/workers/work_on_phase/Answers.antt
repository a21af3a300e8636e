use Rattle.std.proofs.Common.{◌<◌, length, IfSome, refl, subst, ap, arith, IsTrue}
use Rattle.std.proofs.lemmas.Option.{slice_get_read}
use Rattle.cove_base.proofs.ScriptLimits.{limits_of}
use Rattle.cove_base.specs.Scripts.{ScriptValue, is_within_limits}
use Rattle.cove_monitor.specs.Closing.{IsNumber}
use Rattle.cove_monitor.specs.Seats.{SeatValue}
use Rattle.cove_run.proofs.EndingLemmas.{each_at}
use Rattle.cove_run.proofs.workers.work_on_phase.Goals as goal

pub for_each_mut-requires-clause-threads : goal.for_each_mut-requires-clause-threads
for_each_mut-requires-clause-threads g c κs lives =
    let limits = limits_of c.args.script.now (subst (λ (s : ScriptValue). IsTrue (is_within_limits s)) c.script.view_is c.script.invariant) in
    let some = limits.some_harts in
    let same = ap (λ (s : ScriptValue). s.harts) c.script.view_is in
    omega arith

pub for_each_mut-requires-clause-accepts : goal.for_each_mut-requires-clause-accepts
for_each_mut-requires-clause-accepts g c κs lives = λ i p below is. (
  c.requires.script,
  subst (λ o. IfSome o (IsNumber g.B.Room.table c.args.script.now i)) (slice_get_read c.args.harts.now (length c.args.harts.now) i p.now refl below is)
      (c.requires.harts.1 i (let count = c.requires.harts.0 in omega arith)),
)

pub returns : goal.returns
returns g c =
    let count = c.requires.harts.0 in
    let same = c.for_each_mut.auto.s in (
      omega arith,
      λ k below.
          each_at (IsNumber g.B.Room.table c.args.script.now k) c.for_each_mut.new.s k (omega arith)
          (λ d.
          let before : k < length c.args.harts.now = omega arith in
          let changed = c.for_each_mut.ensures k d before in
          subst (λ (seat : SeatValue). IsNumber g.B.Room.table c.args.script.now k seat) changed.1.left changed.1.call),
    )
