-- What was read of bytes that are told is what they spell.
use Rattle.std.proofs.Common.{◌≡◌, ℕ, ◌+◌, ◌<◌, ◌++◌, List, length, length-append, Option, Some, None, Result, Ok, Err, refl, sym, subst, ap, ◌∙◌, arith, ⊎_elim, append-nil}
use Rattle.std.proofs.lemmas.Bool.{lt-ltb}
use Rattle.cove_model.specs.Machine.{ScriptValue, SCRIPT_LIMIT}
use Rattle.cove_base.specs.declared.faults.Kind.TheVariants.{TooLong}
use Rattle.cove_base.specs.declared.faults.ScriptFault.{ScriptFault}
use Rattle.cove_io.specs.Ends.{TakesAtMost, TakesExactly}
use Rattle.cove_model.specs.Grammar.{script_of, fault_at}
use Rattle.cove_run.specs.TopCall.{Reads, ReadsWhole}

-- more bytes than the limit are the one fault of the whole text
long_text : (limit : ℕ) (bytes : List ℕ) → limit < length bytes → script_of limit bytes ≡ Err (fault_at 0 TooLong)
unfolding script_of
long_text limit bytes long = rw (lt-ltb limit (length bytes) long) refl

-- where a byte more than the limit was taken, the bytes that were left are too many
taken_is_long : (limit : ℕ) (new : Option (List ℕ)) (bytes : List ℕ) → TakesExactly (limit + 1) (Some bytes) new → limit < length bytes
taken_is_long limit None bytes taken = absurd taken.2
taken_is_long limit (Some rest) bytes taken =
    let size : length taken.0 ≡ limit + 1 = taken.1 in
    omega (arith, ap length taken.2, length-append taken.0 rest)

-- what was read to the end is all that was left
whole_is_all : (bytes : List ℕ) (new : Option (List ℕ)) (read : List ℕ) → ReadsWhole (Some bytes) new read → bytes ≡ read
whole_is_all bytes None read whole = absurd whole.consumed
whole_is_all bytes (Some rest) read whole = whole.consumed ∙ ap (λ more. read ++ more) whole.at_end ∙ append-nil read

pub told_reads : (bytes : List ℕ) (new : Option (List ℕ)) (found : Result ScriptValue ScriptFault) → Reads (Some bytes) new found → script_of SCRIPT_LIMIT bytes ≡ found
told_reads bytes new found =
    ⊎_elim
    (λ read. ap (script_of SCRIPT_LIMIT) (whole_is_all bytes new read.0 read.1) ∙ read.2)
    (λ long. long_text SCRIPT_LIMIT bytes (taken_is_long SCRIPT_LIMIT new bytes long.0) ∙ sym long.1)

-- bytes whose fault was read spell no script
pub faulty_is_no_script : (old new : Option (List ℕ)) (bytes : List ℕ) (fault : ScriptFault) (script : ScriptValue) → old ≡ Some bytes → Reads old new (Err fault) → script_of SCRIPT_LIMIT bytes ≡ Ok script → ⊥
faulty_is_no_script old new bytes fault script told read spelled =
    let faulty : script_of SCRIPT_LIMIT bytes ≡ Err fault = told_reads bytes new (Err fault) (subst (λ o. Reads o new (Err fault)) told read) in
    cc

-- a script takes at most as many bytes as one may have
pub script_takes_few : (old new : Option (List ℕ)) (script : ScriptValue) → Reads old new (Ok script) → TakesAtMost SCRIPT_LIMIT old new
script_takes_few old new script =
    ⊎_elim (λ read. (read.0, read.1.within, read.1.consumed)) (λ long. let wrong = long.1 in cc)
