use Rattle.std.proofs.Common.{◌++◌}
use Rattle.cove_host.proofs.TakenPages.{place_next}
use Rattle.cove_host.specs.Released.{cpu_pages, release_stores}
use Rattle.cove_model.proofs.Distinct.{has_left, has_right}
use Rattle.cove_host.proofs.releasing.release_cpus.Goals as goal

pub release_cpu-requires-clause-places : goal.release_cpu-requires-clause-places
release_cpu-requires-clause-places g c = λ p there.
    let tvm = c.args.tvm.now in
    c.requires.places p (has_left p (cpu_pages tvm.v0) (cpu_pages tvm.v1 ++ (cpu_pages tvm.v2 ++ cpu_pages tvm.v3)) there)

pub release_cpu-requires-2-clause-places : goal.release_cpu-requires-2-clause-places
release_cpu-requires-2-clause-places g c = λ p there.
    let tvm = c.args.tvm.now in
    (place_next _ _ (release_stores (cpu_pages tvm.v0)) p c.release_cpu.ensures.words (c.requires.places p
    (has_right p (cpu_pages tvm.v0) (cpu_pages tvm.v1 ++ (cpu_pages tvm.v2 ++ cpu_pages tvm.v3)) (has_left p (cpu_pages tvm.v1) (cpu_pages tvm.v2 ++ cpu_pages tvm.v3) there))))

pub release_cpu-requires-3-clause-places : goal.release_cpu-requires-3-clause-places
release_cpu-requires-3-clause-places g c = λ p there.
    let tvm = c.args.tvm.now in
    (place_next _ _ (release_stores (cpu_pages tvm.v1)) p c.release_cpu-2.ensures.words (place_next _ _ (release_stores (cpu_pages tvm.v0)) p c.release_cpu.ensures.words (c.requires.places p
    (has_right p (cpu_pages tvm.v0) (cpu_pages tvm.v1 ++ (cpu_pages tvm.v2 ++ cpu_pages tvm.v3))
    (has_right p (cpu_pages tvm.v1) (cpu_pages tvm.v2 ++ cpu_pages tvm.v3) (has_left p (cpu_pages tvm.v2) (cpu_pages tvm.v3) there))))))

pub release_cpu-requires-4-clause-places : goal.release_cpu-requires-4-clause-places
release_cpu-requires-4-clause-places g c = λ p there.
    let tvm = c.args.tvm.now in
    (place_next _ _ (release_stores (cpu_pages tvm.v2)) p c.release_cpu-3.ensures.words (place_next _ _ (release_stores (cpu_pages tvm.v1)) p c.release_cpu-2.ensures.words (place_next _ _ (release_stores (cpu_pages tvm.v0)) p c.release_cpu.ensures.words (c.requires.places p
    (has_right p (cpu_pages tvm.v0) (cpu_pages tvm.v1 ++ (cpu_pages tvm.v2 ++ cpu_pages tvm.v3))
    (has_right p (cpu_pages tvm.v1) (cpu_pages tvm.v2 ++ cpu_pages tvm.v3) (has_right p (cpu_pages tvm.v2) (cpu_pages tvm.v3) there)))))))
