use Rattle.std.proofs.Common.{◌≡◌, ℕ, Bool, true, false, length, refl, ap, true≢false, arith}
use Rattle.cove_base.specs.InterruptFiles.{InterruptFile}
use Rattle.cove_tvm.specs.declared.vcpus.RunState.{RunState}
use Rattle.cove_tvm.specs.declared.vcpus.RunState.TheVariants.{Ready, Running, Stopped}
use Rattle.cove_lives.proofs.state_examples.worked_vcpus.Goals as goal

abbrev is_stopped : RunState → Bool
is_stopped Ready = false
is_stopped (Running hart) = false
is_stopped Stopped = true

pub returns-clause-new : goal.returns-clause-new
returns-clause-new c = λ regs x place. record { run = refl; x = x; place = place; bound = refl; saved = refl; page_is = refl }

pub returns-clause-another_page : goal.returns-clause-another_page
returns-clause-another_page c = λ regs new. let is : ◌≡◌ {A = ℕ} 5 6 = new.page_is in absurd (omega arith)

pub returns-clause-stopped : goal.returns-clause-stopped
returns-clause-stopped c = λ regs new. true≢false (ap is_stopped new.run)

pub returns-clause-pending : goal.returns-clause-pending
returns-clause-pending c = λ regs new.
    let is : ◌≡◌ {A = ℕ} 1 0 = ap (λ (file : InterruptFile). length file.pending) new.saved in
    absurd (omega arith)
