use Rattle.cove_evidence.proofs.PieceLemmas.{five}
use Rattle.cove_evidence.proofs.evidence.have_register_lengths.Goals as goal

pub returns : goal.returns
returns c =
    rw (five c.args.values.now c.told-values, c.has_register_length.ensures, c.has_register_length-2.ensures, c.has_register_length-3.ensures, c.has_register_length-4.ensures, c.has_register_length-5.ensures)
