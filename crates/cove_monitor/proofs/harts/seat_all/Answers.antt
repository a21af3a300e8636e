use Rattle.std.proofs.Common.{◌≡◌, ℕ, ◌+◌, ◌<◌, List, [], ◌∷◌, ◌++◌, IfSome, length, slice_get, sym, ◌∙◌, ap, subst}
use Rattle.cove_board.specs.Passes.{AreDealt, PassValue}
use Rattle.cove_hart.specs.declared.states.HartState.{HartState}
use Rattle.cove_monitor.proofs.Seating.{AreSeated, seated_more}
use Rattle.cove_monitor.proofs.harts.seat_all.Goals as goal
use Rattle.cove_monitor.specs.Closing.{AreFitting, IsNewSeat}

pub loop-state-preserved : goal.loop-state-preserved
loop-state-preserved c =
    let script = c.args.script.now in
    let table = c.args.board.now.table in
    let rest = c.pop.new.self.items in
    let state = c.in-Some.state in
    let left = c.pop-in-Some.new.self in
    let pass = c.in-Some-pop.pass in
    let harts = c.loop-state.harts.items in
    let known = c.loop-state.invariant in
    let states_are = c.in-Some.ensures.items in
    let fits = subst (λ (hs : List HartState). AreFitting script (length hs) hs) states_are known.states in
    let dealt =
    subst (λ (ps : List PassValue). AreDealt script table (length (rest ++ state ∷ [])) ps) c.in-Some-pop.ensures.last
    (subst (λ (hs : List HartState). AreDealt script table (length hs) c.loop-state.passes) states_are known.passes) in
    let count = subst (λ (hs : List HartState). length hs + length harts ≡ script.harts) states_are known.count in
    let fresh = subst (λ (hs : List HartState). (k : ℕ) → k < length harts → IfSome (slice_get harts k) (IsNewSeat table script (length hs + k))) states_are known.fresh in
    let more = seated_more script table rest state left pass fits dealt harts count fresh in
    let items = c.in_ok-insert.ensures.items ∙ ap (λ seat. seat ∷ harts) c.new.ensures in
    let seated = subst (AreSeated script table rest left) (sym items) more in
    record {
      count = seated.count;
      states = seated.states_fit;
      passes = seated.passes_dealt;
      fresh = seated.fresh;
    }
