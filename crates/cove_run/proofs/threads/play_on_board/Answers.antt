use Rattle.std.proofs.Common.{◌≡◌, ◌++◌, List, length, drop, take, ◌∙◌, subst, sym, arith}
use Rattle.cove_base.specs.Scripts.{ScriptValue}
use Rattle.cove_monitor.specs.Closing.{AreSeats, HaveMet}
use Rattle.cove_monitor.specs.Seats.{SeatValue}
use Rattle.cove_run.proofs.EndingLemmas.{front_is, over_by, left_by, full_by}
use Rattle.cove_run.proofs.threads.play_on_board.Goals as goal
use Rattle.cove_run.proofs.threads.play_on_board.Given as given

-- the harts met the history that is answered
met_in : (g : given.Over) (c : goal.After-close g) → HaveMet c.args.script.now c.close.result c.work_through-is_whole.new.harts
met_in g c =
    let seats = c.work_through-is_whole.new.harts in
    let size : length seats ≡ c.args.harts.len = let a = c.work_through-is_whole.auto.harts in let b = c.as_mut_slice.ensures.len in omega arith in
    subst (λ (s : ScriptValue). HaveMet s c.close.result seats) (c.named-monitor.ensures ∙ c.requires.script)
    (subst (λ (xs : List SeatValue). HaveMet c.named-monitor.result c.close.result xs) (front_is c.args.harts.len seats (drop (length seats) c.args.harts.items) size) c.close.ensures.met)

pub close-requires : goal.close-requires
close-requires g c =
    let seats = c.work_through-is_whole.new.harts in
    let size : length seats ≡ c.args.harts.len = let a = c.work_through-is_whole.auto.harts in let b = c.as_mut_slice.ensures.len in omega arith in
    let all : List SeatValue = take c.args.harts.len (seats ++ drop (length seats) c.args.harts.items) in
    subst (λ (s : ScriptValue). AreSeats g.B.Room.table s all) (sym (c.named-monitor.ensures ∙ c.requires.script))
    (subst (λ (xs : List SeatValue). AreSeats g.B.Room.table c.args.script.now xs) (sym (front_is c.args.harts.len seats (drop (length seats) c.args.harts.items) size)) c.work_through-is_whole.ensures.harts)

pub returns-clause-whole : goal.returns-clause-whole
returns-clause-whole g c is =
    over_by g.B.Room.table c.args.script.now c.close.result c.work_through-is_whole.new.harts c.work_through-is_whole.ensures.harts (met_in g c)
    (c.work_through-is_whole.ensures.idle is)

pub returns-clause-left : goal.returns-clause-left
returns-clause-left g c is =
    left_by g.B.Room.table c.args.script.now c.close.result c.work_through-is_whole.new.harts c.work_through-is_whole.ensures.harts (met_in g c)
    (c.work_through-is_whole.ensures.full is)

pub returns-clause-full : goal.returns-clause-full
returns-clause-full g c is =
    full_by g.B.Room.table c.args.script.now c.close.result c.work_through-is_whole.new.harts c.work_through-is_whole.ensures.harts (met_in g c)
    (c.work_through-is_whole.ensures.full is)
