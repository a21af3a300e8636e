-- What an empty input spells.
use Rattle.std.proofs.Common.{◌≡◌, [], Some, Err, refl, sym, ap, ◌∙◌, arith}
use Rattle.cove_base.specs.declared.faults.Kind.TheVariants.{NoEnd}
use Rattle.cove_base.specs.declared.faults.ScriptFault.{ScriptFault}
use Rattle.cove_base.specs.declared.limits.TheConstants.{SCRIPT_LIMIT}
use Rattle.cove_model.specs.Grammar.{script_of, fault_at}
use Rattle.cove_run.specs.TopCall.{Reads}
use Rattle.cove_run.proofs.TopLemmas.{told_reads}

pub nothing_spells : script_of SCRIPT_LIMIT [] ≡ Err (fault_at 1 NoEnd)
unfolding script_of
nothing_spells = refl

pub nothing_at_line_two : Reads (Some []) (Some []) (Err (fault_at 2 NoEnd)) → ⊥
nothing_at_line_two reads =
    let fault = sym nothing_spells ∙ told_reads [] (Some []) (Err (fault_at 2 NoEnd)) reads in
    let same : fault_at 1 NoEnd ≡ fault_at 2 NoEnd = cc in
    absurd (let line : 1 ≡ 2 = ap (λ (f : ScriptFault). f.line) same in omega arith)
