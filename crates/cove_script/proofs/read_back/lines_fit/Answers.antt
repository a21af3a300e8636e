use Rattle.std.proofs.Common.{List, All, subst}
use Rattle.std.proofs.lemmas.List.{take_all}
use Rattle.std.proofs.lemmas.List.Elements.{All-more}
use Rattle.cove_base.specs.declared.scripts.ScriptLine.{ScriptLine}
use Rattle.cove_script.specs.MachineNumbers.{HasFittingNumbers}
use Rattle.cove_script.proofs.read_back.lines_fit.Goals as goal

pub loop-script_line-preserved : goal.loop-script_line-preserved
loop-script_line-preserved c =
    All-more HasFittingNumbers c.args.lines.now c.loop-script_line.script_line-index _ c.loop-script_line-test.true c.loop-script_line.invariant c.line_fits.ensures

pub returns : goal.returns
returns c =
    let P : List ScriptLine → Type 0 = λ lines. All HasFittingNumbers lines in
    subst P (take_all c.loop-script_line.script_line-index c.args.lines.now c.loop-script_line-test.false) c.loop-script_line.invariant
