use Rattle.std.proofs.Common.{◌≡◌, ℕ, Bool, true, false, List, get_or, refl, sym, ap, ◌∙◌, true≢false, arith}
use Rattle.cove_tvm.specs.declared.vcpus.RunState.{RunState}
use Rattle.cove_tvm.specs.declared.vcpus.RunState.TheVariants.{Ready, Running, Stopped}
use Rattle.cove_lives.proofs.build_examples.worked_starting.Goals as goal

abbrev is_stopped : RunState → Bool
is_stopped Ready = false
is_stopped (Running hart) = false
is_stopped Stopped = true

pub returns-clause-starts : goal.returns-clause-starts
returns-clause-starts c = λ old regs x place. record { x = x; place = place; run = refl; bound = refl; saved = refl; page = refl }

pub returns-clause-another_number : goal.returns-clause-another_number
returns-clause-another_number c = λ old new x starts.
    let is : ◌≡◌ {A = ℕ} 3 2 = ap (λ (xs : List ℕ). get_or xs 10 0) (sym x ∙ starts.x) in
    absurd (omega arith)

pub returns-clause-elsewhere : goal.returns-clause-elsewhere
returns-clause-elsewhere c = λ old new place starts. let is = sym place ∙ starts.place in absurd (omega arith)

pub returns-clause-stopped : goal.returns-clause-stopped
returns-clause-stopped c = λ old new ready stopped starts. true≢false (ap is_stopped (sym stopped ∙ starts.run ∙ ready))
