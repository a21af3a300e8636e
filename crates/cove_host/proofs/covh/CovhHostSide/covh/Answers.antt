use Rattle.std.proofs.Common.{rules, ◌≡◌, false, refl}
use Rattle.cove_host.proofs.ServedCalls.{built_served, unbuilt_served}
use Rattle.cove_model.specs.Answers.{is_built}
use Rattle.cove_host.proofs.covh.CovhHostSide.covh.Goals as goal

pub returns-in-Convert-clause-served : goal.returns-in-Convert-clause-served
returns-in-Convert-clause-served g c = built_served _ _ _ _ _ _ _ _ c.in-Convert.is c.convert_pages.ensures.called refl

pub returns-in-GlobalFence-clause-served : goal.returns-in-GlobalFence-clause-served
returns-in-GlobalFence-clause-served g c = built_served _ _ _ _ _ _ _ _ c.in-GlobalFence.is c.global_fence.ensures.called refl

pub returns-in-LocalFence-clause-served : goal.returns-in-LocalFence-clause-served
returns-in-LocalFence-clause-served g c = built_served _ _ _ _ _ _ _ _ c.in-LocalFence.is c.local_fence.ensures.called refl

pub returns-in-Reclaim-clause-served : goal.returns-in-Reclaim-clause-served
returns-in-Reclaim-clause-served g c = built_served _ _ _ _ _ _ _ _ c.in-Reclaim.is c.reclaim_pages.ensures.called refl

pub returns-in-Create-clause-served : goal.returns-in-Create-clause-served
returns-in-Create-clause-served g c = built_served _ _ _ _ _ _ _ _ c.in-Create.is c.create_tvm.ensures.called refl

pub returns-in-Region-clause-served : goal.returns-in-Region-clause-served
returns-in-Region-clause-served g c = built_served _ _ _ _ _ _ _ _ c.in-Region.is c.add_memory_region.ensures.called refl

pub returns-in-Tables-clause-served : goal.returns-in-Tables-clause-served
returns-in-Tables-clause-served g c = built_served _ _ _ _ _ _ _ _ c.in-Tables.is c.add_page_table_pages.ensures.called refl

pub returns-in-Vcpu-clause-served : goal.returns-in-Vcpu-clause-served
returns-in-Vcpu-clause-served g c = built_served _ _ _ _ _ _ _ _ c.in-Vcpu.is c.create_vcpu.ensures.called refl

pub returns-in-Finalize-clause-served : goal.returns-in-Finalize-clause-served
returns-in-Finalize-clause-served g c = built_served _ _ _ _ _ _ _ _ c.in-Finalize.is c.finalize_tvm.ensures.called refl

pub returns-in-Zero-clause-served : goal.returns-in-Zero-clause-served
returns-in-Zero-clause-served g c = built_served _ _ _ _ _ _ _ _ c.in-Zero.is c.add_zero_pages.ensures.called refl

pub returns-in-Measured-clause-served : goal.returns-in-Measured-clause-served
returns-in-Measured-clause-served g c = built_served _ _ _ _ _ _ _ _ c.in-Measured.is c.add_measured_pages.ensures.called refl

pub returns-in-Shared-clause-served : goal.returns-in-Shared-clause-served
returns-in-Shared-clause-served g c = built_served _ _ _ _ _ _ _ _ c.in-Shared.is c.add_shared_pages.ensures.called refl

pub returns-in-Destroy-clause-served : goal.returns-in-Destroy-clause-served
returns-in-Destroy-clause-served g c = built_served _ _ _ _ _ _ _ _ c.in-Destroy.is c.destroy_tvm.ensures.called refl

pub returns-in-Info-clause-served : goal.returns-in-Info-clause-served
returns-in-Info-clause-served g c = built_served _ _ _ _ _ _ _ _ c.in-Info.is c.get_tsm_info.ensures.called refl

pub returns-in-Run : goal.returns-in-Run
returns-in-Run g c =
    let unbuilt : is_built c.args.c ≡ false = (let is = c.in-Run.is in search rules) in
    record { served = unbuilt_served _ c.args.c _ _ unbuilt; guard = refl }
