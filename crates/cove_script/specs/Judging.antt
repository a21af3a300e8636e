-- What the readers of a line say.
use Rattle.std.specs.Prelude.{◌≡◌, ℕ, List, map, Result, Ok, Err}
use Rattle.std.specs.Borrow.{Bor}
use Rattle.cove_base.specs.declared.faults.Kind.{Kind}
use Rattle.cove_base.specs.declared.faults.ScriptFault.{ScriptFault}
use Rattle.cove_model.specs.Grammar.{Reading, fault_at}
use Rattle.cove_script.specs.declared.faults.LineFault.{LineFault}
use Rattle.cove_script.specs.declared.faults.LineFault.TheVariants.{Refused, Memory}
use Rattle.cove_script.specs.declared.faults.ParseError.{ParseError}
use Rattle.cove_script.specs.declared.faults.ParseError.TheVariants as errors

-- words, by their bytes
abbrev pub plain_words : List (Bor (List ℕ)) → List (List ℕ)
plain_words words = map (λ word. word.now) words

-- a line was read as the grammar judges it, unless memory ran out
abbrev pub Judged : {X : Type 0} → Result X LineFault → (new : Reading) → Result Reading Kind → Type 0
Judged (Ok done) new judgement = judgement ≡ Ok new
Judged (Err (Refused kind)) new judgement = judgement ≡ Err kind
Judged (Err Memory) new judgement = Unit {0}

-- why a text was not read is the fault that it has, unless memory ran out
abbrev pub IsFaultOf : {X : Type 0} → ParseError → Result X ScriptFault → Type 0
IsFaultOf (errors.Refused fault) meaning = meaning ≡ Err fault
IsFaultOf errors.Memory meaning = Unit {0}

-- the fault of a line, with its number
abbrev pub IsFaultAt : (number : ℕ) → LineFault → ParseError → Type 0
IsFaultAt number (Refused kind) error = error ≡ errors.Refused (fault_at number kind)
IsFaultAt number Memory error = error ≡ errors.Memory
