use Rattle.std.proofs.Common.{◌≡◌, ◌++◌, take}
use Rattle.cove_script.proofs.forms.put_turns.Given as goal

abbrev pub invariant-loop-hart : goal.invariant-loop-hart
invariant-loop-hart l = l.turns ≡ l.fn.turns ++ take l.hart-index l.harts
