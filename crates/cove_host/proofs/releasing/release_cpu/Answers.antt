use Rattle.std.proofs.Common.{◌≡◌, [], sym, subst, true}
use Rattle.cove_host.specs.Released.{cpu_pages}
use Rattle.cove_model.proofs.HartLists.{has_first}
use Rattle.cove_model.specs.Owners.{has}
use Rattle.cove_host.proofs.releasing.release_cpu.Goals as goal

pub set_state-requires-clause-place : goal.set_state-requires-clause-place
set_state-requires-clause-place g c =
    (c.requires.places c.in-Some.slot.page.0
    (subst (λ x. has c.in-Some.slot.page.0 (cpu_pages x) ≡ true) (sym c.in-Some.is) (has_first c.in-Some.slot.page.0 []))).0

pub set_state-requires-clause-limit : goal.set_state-requires-clause-limit
set_state-requires-clause-limit g c =
    (c.requires.places c.in-Some.slot.page.0
    (subst (λ x. has c.in-Some.slot.page.0 (cpu_pages x) ≡ true) (sym c.in-Some.is) (has_first c.in-Some.slot.page.0 []))).1
