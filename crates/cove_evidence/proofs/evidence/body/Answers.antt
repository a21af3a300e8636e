use Rattle.std.proofs.Common.{◌≡◌, sym, ◌∙◌, ap}
use Rattle.std.specs.List.{concat}
use Rattle.std.proofs.lemmas.List.Concat.{concat_is}
use Rattle.cove_evidence.proofs.evidence.body.Goals as goal

pub returns-clause-bytes : goal.returns-clause-bytes
returns-clause-bytes c =
    let flat : c.as_flattened.result.now ≡ concat c.args.registers.now =
    c.as_flattened.ensures.value ∙ sym (concat_is c.values.result) ∙ ap concat c.values.ensures in
    rw (c.append-3.ensures, c.append-2.ensures, c.append.ensures, flat, c.new-quote.ensures, c.magic-magic.ensures)
