use Rattle.std.proofs.Common.{◌≡◌, ℕ, sym, ap, ◌∙◌, true≢false, arith}
use Rattle.std.proofs.lemmas.Option.{none-some}
use Rattle.cove_lives.proofs.StateExampleProofs.{begun_is_new, modes_apart}
use Rattle.cove_tvm.specs.Lives.{is_runnable}
use Rattle.cove_tvm.specs.declared.machines.Life.{Life}
use Rattle.cove_lives.proofs.build_examples.worked_beginning.Goals as goal

pub returns-clause-begun : goal.returns-clause-begun
returns-clause-begun c = begun_is_new

pub returns-clause-another_root : goal.returns-clause-another_root
returns-clause-another_root c = λ tables root new. let is = sym root ∙ new.root_is in absurd (omega arith)

pub returns-clause-another_mode : goal.returns-clause-another_mode
returns-clause-another_mode c = λ tables low new. modes_apart tables.mode low new.mode_is

pub returns-clause-finalized : goal.returns-clause-finalized
returns-clause-finalized c = λ tables new. true≢false (ap (λ (life : Life). is_runnable life) new.life)

pub returns-clause-has_vcpu : goal.returns-clause-has_vcpu
returns-clause-has_vcpu c = λ tables slot new. none-some slot (sym new.no_v3)

pub returns-clause-may_inject : goal.returns-clause-may_inject
returns-clause-may_inject c = λ tables new. let is : ◌≡◌ {A = ℕ} 1 0 = new.allowed in absurd (omega arith)
