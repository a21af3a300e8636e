use Rattle.std.proofs.Common.{◌∙◌, sym}
use Rattle.cove_model.specs.Machine.{Tables, rule}
use Rattle.cove_host.proofs.CheckedLemmas.{front_passes, stops}
use Rattle.cove_host.proofs.table_pages.addable.Goals as goal

pub returns-in_err-live-clause-told : goal.returns-in_err-live-clause-told
returns-in_err-live-clause-told g c = λ hart S stands.
    stops 0 (rule S hart (Tables c.args.t c.args.base c.args.n)).checks c.from_residual.ensures.1 tt (c.in_err-live.ensures.told _ S stands)

pub returns-in_err-inside-clause-told : goal.returns-in_err-inside-clause-told
returns-in_err-inside-clause-told g c = λ hart S stands.
    stops 3 (rule S hart (Tables c.args.t c.args.base c.args.n)).checks c.from_residual-in_err-inside.ensures.1
    (c.in_ok-live.ensures.told _ S stands, (c.in_ok-counted.ensures.told, (c.in_ok-aligned.ensures, tt))) (c.in_err-inside.ensures.told _ S stands)

pub returns-clause-told : goal.returns-clause-told
returns-clause-told g c = λ hart S stands.
    c.free.ensures.told S stands
    ∙ sym (front_passes 4 (rule S hart (Tables c.args.t c.args.base c.args.n)).checks
    (c.in_ok-live.ensures.told _ S stands, (c.in_ok-counted.ensures.told, (c.in_ok-aligned.ensures, (c.in_ok-inside.ensures.told _ S stands, tt)))))
