use Rattle.std.proofs.Common.{ℕ, ◌∙◌, List, ap}
use Rattle.cove_base.specs.Stores.{stored}
use Rattle.cove_host.proofs.Adding.{adds_vcpu, store_allowed}
use Rattle.cove_host.proofs.Creating.{refuses}
use Rattle.cove_tvm.specs.NewVcpus.{vcpu_stores}
use Rattle.cove_host.proofs.vcpu_creation.create_vcpu.Goals as goal

pub give-requires-clause-allowed : goal.give-requires-clause-allowed
give-requires-clause-allowed g c =
    let same = c.in-Ok.ensures.unchanged in
    rw (same.guard, same.words)
    (store_allowed _ _ c.args.h.0 c.args.v c.args.state c.requires.ready _ c.requires.allowed c.args.t
    (c.in-Ok.ensures.told c.args.h.0))

pub returns-in-Err-clause-called : goal.returns-in-Err-clause-called
returns-in-Err-clause-called g c =
    rw c.in-Err.ensures.unchanged.words
    (refuses _ _ _ _ _ (c.in-Err.ensures.told c.args.h.0))

pub returns-in-Ok-clause-called : goal.returns-in-Ok-clause-called
returns-in-Ok-clause-called g c =
    adds_vcpu _ _ c.args.h.0 c.args.v c.args.state c.requires.ready _ c.args.t _
    (c.in-Ok.ensures.told c.args.h.0) (rw c.page_of.ensures at c.add.ensures)
    (c.give.ensures.words ∙ ap (λ (ws : List ℕ). stored ws (vcpu_stores c.args.t c.args.state)) c.in-Ok.ensures.unchanged.words)
