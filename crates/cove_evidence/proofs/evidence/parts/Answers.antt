use Rattle.cove_evidence.proofs.PieceLemmas.{joined}
use Rattle.cove_evidence.proofs.evidence.parts.Goals as goal

pub returns-clause-parts : goal.returns-clause-parts
returns-clause-parts c =
    let all = joined c.args.bytes.now c.requires.whole in
    rw (c.of_values.ensures, c.array_at-6.ensures, c.array_at-7.ensures, c.array_at.ensures, c.array_at-2.ensures, c.array_at-3.ensures, c.array_at-4.ensures, c.array_at-5.ensures)
    (rw c.requires.magic at all)
