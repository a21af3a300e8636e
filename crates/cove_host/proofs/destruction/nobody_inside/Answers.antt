use Rattle.std.proofs.Common.{Some, None, sym}
use Rattle.cove_host.proofs.HartsTold.{inside_told}
use Rattle.cove_host.proofs.ReadyWords.{fences_within}
use Rattle.cove_host.proofs.destruction.nobody_inside.Goals as goal

pub returns-in-Some-clause-told : goal.returns-in-Some-clause-told
returns-in-Some-clause-told g c = λ S stands.
    rw c.from.ensures (sym (inside_told _ _ S c.args.t (fences_within _ _ c.requires.ready) stands (Some c.in-Some.hart) c.in-Some.ensures.first))

pub returns-in-None-clause-told : goal.returns-in-None-clause-told
returns-in-None-clause-told g c = λ S stands.
    sym (inside_told _ _ S c.args.t (fences_within _ _ c.requires.ready) stands None c.in-None.ensures.first)
