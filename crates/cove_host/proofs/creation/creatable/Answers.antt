use Rattle.cove_model.specs.Machine.{Create, rule}
use Rattle.cove_host.proofs.CheckedLemmas.{stops}
use Rattle.cove_host.proofs.creation.creatable.Goals as goal

pub returns-in_err-free-clause-told : goal.returns-in_err-free-clause-told
returns-in_err-free-clause-told g c = λ hart S stands.
    stops 6 (rule S hart (Create c.args.root c.args.state)).checks c.from_residual-in_err-free.ensures.1
    (c.in_ok-room_for_tvm.ensures.told _ S stands, (c.in_ok-root_aligned.ensures, (c.in_ok-aligned.ensures, (c.in_ok-inside.ensures.told _ S stands, (c.in_ok-inside-2.ensures.told _ S stands, (c.in_ok-state_apart.ensures, tt)))))) (c.in_err-free.ensures.told S stands)
