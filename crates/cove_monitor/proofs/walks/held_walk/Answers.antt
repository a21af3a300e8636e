use Rattle.std.proofs.Common.{◌≡◌, ◌<◌, refl, sym, ◌∙◌, ap, subst}
use Rattle.cove_model.specs.Machine.{after_walk, ScriptValue}
use Rattle.cove_board.specs.Passes.{IsHartPass, PassValue}
use Rattle.cove_base.specs.declared.walks.Target.TheVariants.{Host}
use Rattle.cove_board.specs.Parts.{hart_of}
use Rattle.cove_hart.specs.HartStates.{hart_value}
use Rattle.cove_hart.specs.Needs.{next_need}
use Rattle.cove_hart.specs.declared.needs.Need.TheVariants.{Walk}
use Rattle.cove_monitor.proofs.Noting.{alone_by, asked_for, needed_walk}
use Rattle.cove_monitor.proofs.walks.held_walk.Goals as goal

pub next-requires : goal.next-requires
next-requires g c =
    (alone_by c.args.board.now c.args.script.now (hart_value c.args.state.now) c.args.pass.now c.requires.script c.requires.pass c.requires.seat).stands

pub walk_host-walked-requires : goal.walk_host-walked-requires
walk_host-walked-requires g c =
    let board = c.args.board.now in
    let script = c.args.script.now in
    let held = hart_value c.args.state.now in
    let page = c.in-Walk-Host.page in
    let asks : next_need script held c.args.phase ≡ Walk (Host page) = asked_for c.next.result c.in-Walk-Host.field-0 script held c.args.phase page c.next.ensures c.in-Walk-Host.is c.in-Walk-Host.field-0-is in
    let need = needed_walk board script held c.args.pass.now c.args.phase page c.within_limits.ensures c.requires.script c.requires.pass c.requires.seat asks in
    record {
      pass = c.requires.pass;
      unused = need.unused;
      page = subst (λ (k : ScriptValue). page.0 < k.pages) (sym c.requires.script) need.below;
    }

pub note-requires : goal.note-requires
note-requires g c =
    let board = c.args.board.now in
    let script = c.args.script.now in
    let held = hart_value c.args.state.now in
    let page = c.in-Walk-Host.page in
    let asks : next_need script held c.args.phase ≡ Walk (Host page) = asked_for c.next.result c.in-Walk-Host.field-0 script held c.args.phase page c.next.ensures c.in-Walk-Host.is c.in-Walk-Host.field-0-is in
    (needed_walk board script held c.args.pass.now c.args.phase page c.within_limits.ensures c.requires.script c.requires.pass c.requires.seat asks).lacks

pub returns : goal.returns
returns g c =
    let board = c.args.board.now in
    let script = c.args.script.now in
    let held = hart_value c.args.state.now in
    let pass = c.args.pass.now in
    let page = c.in-Walk-Host.page in
    let asks : next_need script held c.args.phase ≡ Walk (Host page) = asked_for c.next.result c.in-Walk-Host.field-0 script held c.args.phase page c.next.ensures c.in-Walk-Host.is c.in-Walk-Host.field-0-is in
    let walk = c.walk_host-walked.ensures.walked in
    let noted = c.note.ensures ∙ ap (after_walk held (Host page)) walk.1 in
    let need = needed_walk board script held pass c.args.phase page c.within_limits.ensures c.requires.script c.requires.pass c.requires.seat asks in
    record {
      pass = subst (IsHartPass board) (sym walk.2) (record { table = c.requires.pass.table; alone = refl; script_is = c.requires.pass.script_is });
      seat = need.seat c.walk_host-walked.new.pass (hart_value c.note.new.self) walk.0 walk.2 noted;
      walked = record {
        page = page;
        word = walk.0;
        needed = asks;
        noted = noted;
        loaded = ap (λ (v : PassValue). hart_of v.part) walk.2;
      };
      steps = c.walk_host-walked.ensures.steps;
    }
