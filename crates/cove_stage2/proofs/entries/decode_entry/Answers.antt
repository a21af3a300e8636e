use Rattle.std.proofs.Common.{◌/◌, ◌%◌, refl, arith, true, false}
use Rattle.cove_base.specs.Tables.{IsPresent, IsBlocked}
use Rattle.cove_stage2.specs.Entries.{OfLeaf, OfTable}
use Rattle.cove_stage2.proofs.entries.decode_entry.Goals as goal

pub returns-in-1-clause-exact : goal.returns-in-1-clause-exact
returns-in-1-clause-exact c = (λ _. OfTable (c.args.word / 1024 % 65536) (omega arith) (omega arith), λ _. refl)

pub returns-in-223-clause-exact : goal.returns-in-223-clause-exact
returns-in-223-clause-exact c =
    (λ _. OfLeaf (IsPresent (c.args.word / 1024 % 65536) false (omega arith) (omega arith)), λ _. refl)

pub returns-in-215-clause-exact : goal.returns-in-215-clause-exact
returns-in-215-clause-exact c =
    (λ _. OfLeaf (IsPresent (c.args.word / 1024 % 65536) true (omega arith) (omega arith)), λ _. refl)

pub returns-in-478-clause-exact : goal.returns-in-478-clause-exact
returns-in-478-clause-exact c =
    (λ _. OfLeaf (IsBlocked (c.args.word / 1024 % 65536) false (c.args.word / 67108864) (omega arith) (omega arith) (omega arith)), λ _. refl)

pub returns-in-470-clause-exact : goal.returns-in-470-clause-exact
returns-in-470-clause-exact c =
    (λ _. OfLeaf (IsBlocked (c.args.word / 1024 % 65536) true (c.args.word / 67108864) (omega arith) (omega arith) (omega arith)), λ _. refl)
