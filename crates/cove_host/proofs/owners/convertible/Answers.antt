use Rattle.std.proofs.Common.{[], ◌∷◌, ◌∙◌, sym}
use Rattle.cove_model.specs.Machine.{Convert, AllHost, rule}
use Rattle.cove_host.proofs.CheckedLemmas.{each_passes, front_passes, stops}
use Rattle.cove_host.proofs.owners.convertible.Goals as goal

pub returns-in_err-counted-clause-told : goal.returns-in_err-counted-clause-told
returns-in_err-counted-clause-told g c = λ hart S stands.
    stops 0 (rule S hart (Convert c.args.base c.args.n)).checks c.from_residual.ensures.1 tt c.in_err-counted.ensures.told

pub returns-in_err-aligned-clause-told : goal.returns-in_err-aligned-clause-told
returns-in_err-aligned-clause-told g c = λ hart S stands.
    stops 1 (rule S hart (Convert c.args.base c.args.n)).checks c.from_residual-in_err-aligned.ensures.1
    (c.in_ok-counted.ensures.told, tt) c.in_err-aligned.ensures

pub returns-in_err-inside-clause-told : goal.returns-in_err-inside-clause-told
returns-in_err-inside-clause-told g c = λ hart S stands.
    stops 2 (rule S hart (Convert c.args.base c.args.n)).checks c.from_residual-in_err-inside.ensures.1
    (c.in_ok-counted.ensures.told, (c.in_ok-aligned.ensures, tt)) (c.in_err-inside.ensures.told _ S stands)

pub returns-in_err-all_host-clause-told : goal.returns-in_err-all_host-clause-told
returns-in_err-all_host-clause-told g c = λ hart S stands.
    stops 3 (rule S hart (Convert c.args.base c.args.n)).checks c.from_residual-in_err-all_host.ensures.1
    (c.in_ok-counted.ensures.told, (c.in_ok-aligned.ensures, (c.in_ok-inside.ensures.told _ S stands, tt))) (c.in_err-all_host.ensures.told S stands)

pub returns-clause-told : goal.returns-clause-told
returns-clause-told g c = λ hart S stands.
    let told = c.in_ok-all_host.ensures.told S stands in
    let hosts = each_passes (AllHost S c.args.base c.args.n ∷ []) told 0 in
    rw c.all_host.ensures.unchanged.words at c.none_shared.ensures.told S stands hosts
    ∙ sym (front_passes 4 (rule S hart (Convert c.args.base c.args.n)).checks
    (c.in_ok-counted.ensures.told, (c.in_ok-aligned.ensures, (c.in_ok-inside.ensures.told _ S stands, (told, tt)))))
