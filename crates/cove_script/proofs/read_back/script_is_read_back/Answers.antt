use Rattle.std.proofs.Common.{◌≡◌, ℕ, ◌≤◌, List, length, All, Ok, subst}
use Rattle.cove_model.specs.Machine.{SCRIPT_LIMIT, Fill, ScriptLine, ScriptValue}
use Rattle.cove_model.specs.Grammar.{script_of}
use Rattle.cove_model.specs.ScriptText.{script_text}
use Rattle.cove_script.specs.MachineNumbers.{AreBytes, HasBytes, HasFittingNumbers, HasMachineNumbers}
use Rattle.cove_script.proofs.ScriptReadBack.{script_of-script_text}
use Rattle.cove_script.proofs.read_back.script_is_read_back.Goals as goal

pub returns : goal.returns
returns c =
    let script : ScriptValue = record {
      pages = c.script.inside.pages;
      harts = c.script.inside.harts;
      files = c.script.inside.files;
      key = c.script.inside.key;
      fills = c.script.inside.fills;
      lines = c.script.inside.lines;
      turns = c.script.inside.turns;
    } in
    let Key : List ℕ → Type 0 = λ bytes. AreBytes bytes in
    let Fills : List Fill → Type 0 = λ fills. All HasBytes fills in
    let Lines : List ScriptLine → Type 0 = λ lines. All HasFittingNumbers lines in
    let machine : HasMachineNumbers script = record {
      key = subst Key c.as_slice.ensures c.bytes_fit.ensures;
      fills = subst Fills c.as_slice-2.ensures c.fills_fit.ensures;
      lines = subst Lines c.as_slice-3.ensures c.lines_fit.ensures;
    } in
    let P : ScriptValue → Type 0 = λ s. length (script_text s) ≤ SCRIPT_LIMIT → script_of SCRIPT_LIMIT (script_text s) ≡ Ok s in
    subst P c.script.view_is (script_of-script_text SCRIPT_LIMIT script c.script.invariant machine)
