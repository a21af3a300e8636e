use Rattle.std.proofs.Common.{[], ◌∷◌, ◌++◌, ◌∙◌, sym}
use Rattle.std.specs.List.{range_with_len}
use Rattle.cove_host.proofs.TakenPages.{has_more, long_next, place_next, release_both, release_split}
use Rattle.cove_base.specs.Stores.{fills}
use Rattle.cove_host.specs.Released.{all_cpu_pages, release_stores}
use Rattle.cove_model.proofs.Distinct.{has_left, has_right}
use Rattle.cove_model.proofs.HartLists.{has_first}
use Rattle.cove_host.proofs.releasing.release_pages.Goals as goal

pub release_gathered-requires-clause-places : goal.release_gathered-requires-clause-places
release_gathered-requires-clause-places g c = λ p there.
    let tvm = c.args.tvm.now in
    c.requires.places p (has_left p tvm.pool.pages (range_with_len tvm.tables.root.0 4 ++ (tvm.state.0 ∷ all_cpu_pages tvm)) there)

pub release_gathered-requires-clause-allowed : goal.release_gathered-requires-clause-allowed
release_gathered-requires-clause-allowed g c =
    let tvm = c.args.tvm.now in
    (release_split _ _ tvm.pool.pages (range_with_len tvm.tables.root.0 4 ++ (tvm.state.0 ∷ all_cpu_pages tvm)) c.requires.allowed).0

pub set_all-requires-clause-places : goal.set_all-requires-clause-places
set_all-requires-clause-places g c =
    let tvm = c.args.tvm.now in
    rw (long_next _ _ (release_stores tvm.pool.pages) c.release_gathered.ensures.words) c.requires.root_fits

pub set_all-requires-clause-allowed : goal.set_all-requires-clause-allowed
set_all-requires-clause-allowed g c =
    let tvm = c.args.tvm.now in
    let two = (release_split _ _ tvm.pool.pages (range_with_len tvm.tables.root.0 4 ++ (tvm.state.0 ∷ all_cpu_pages tvm)) c.requires.allowed).1 in
    rw (c.release_gathered.ensures.guard, c.release_gathered.ensures.words)
    (release_split _ _ (range_with_len tvm.tables.root.0 4) (tvm.state.0 ∷ all_cpu_pages tvm) two).0

pub set_state-requires-clause-place : goal.set_state-requires-clause-place
set_state-requires-clause-place g c =
    let tvm = c.args.tvm.now in
    let own =
    c.requires.places tvm.state.0
    (has_right tvm.state.0 tvm.pool.pages (range_with_len tvm.tables.root.0 4 ++ (tvm.state.0 ∷ all_cpu_pages tvm))
    (has_right tvm.state.0 (range_with_len tvm.tables.root.0 4) (tvm.state.0 ∷ all_cpu_pages tvm) (has_first tvm.state.0 (all_cpu_pages tvm)))) in
    (place_next _ _ (fills tvm.tables.root.0 4 3) tvm.state.0 c.set_all.ensures.words (place_next _ _ (release_stores tvm.pool.pages) tvm.state.0 c.release_gathered.ensures.words own)).0

pub set_state-requires-clause-limit : goal.set_state-requires-clause-limit
set_state-requires-clause-limit g c =
    let tvm = c.args.tvm.now in
    (c.requires.places tvm.state.0
    (has_right tvm.state.0 tvm.pool.pages (range_with_len tvm.tables.root.0 4 ++ (tvm.state.0 ∷ all_cpu_pages tvm))
    (has_right tvm.state.0 (range_with_len tvm.tables.root.0 4) (tvm.state.0 ∷ all_cpu_pages tvm) (has_first tvm.state.0 (all_cpu_pages tvm))))).1

pub set_state-requires-clause-allowed : goal.set_state-requires-clause-allowed
set_state-requires-clause-allowed g c =
    let tvm = c.args.tvm.now in
    let two = (release_split _ _ tvm.pool.pages (range_with_len tvm.tables.root.0 4 ++ (tvm.state.0 ∷ all_cpu_pages tvm)) c.requires.allowed).1 in
    let three = (release_split _ _ (range_with_len tvm.tables.root.0 4) (tvm.state.0 ∷ all_cpu_pages tvm) two).1 in
    (rw (c.set_all.ensures.guard, c.set_all.ensures.words, c.release_gathered.ensures.guard, c.release_gathered.ensures.words) three.0, tt)

pub release_cpus-requires-clause-places : goal.release_cpus-requires-clause-places
release_cpus-requires-clause-places g c = λ p there.
    let tvm = c.args.tvm.now in
    let own =
    c.requires.places p
    (has_right p tvm.pool.pages (range_with_len tvm.tables.root.0 4 ++ (tvm.state.0 ∷ all_cpu_pages tvm))
    (has_right p (range_with_len tvm.tables.root.0 4) (tvm.state.0 ∷ all_cpu_pages tvm) (has_more p tvm.state.0 (all_cpu_pages tvm) there))) in
    place_next _ _ ((tvm.state.0, 3) ∷ []) p c.set_state.ensures.words (place_next _ _ (fills tvm.tables.root.0 4 3) p c.set_all.ensures.words (place_next _ _ (release_stores tvm.pool.pages) p c.release_gathered.ensures.words own))

pub release_cpus-requires-clause-allowed : goal.release_cpus-requires-clause-allowed
release_cpus-requires-clause-allowed g c =
    let tvm = c.args.tvm.now in
    let two = (release_split _ _ tvm.pool.pages (range_with_len tvm.tables.root.0 4 ++ (tvm.state.0 ∷ all_cpu_pages tvm)) c.requires.allowed).1 in
    let three = (release_split _ _ (range_with_len tvm.tables.root.0 4) (tvm.state.0 ∷ all_cpu_pages tvm) two).1 in
    rw (c.set_state.ensures.guard, c.set_state.ensures.words, c.set_all.ensures.guard, c.set_all.ensures.words, c.release_gathered.ensures.guard, c.release_gathered.ensures.words)
    three.1

pub returns-clause-words : goal.returns-clause-words
returns-clause-words g c =
    let tvm = c.args.tvm.now in
    rw (c.release_cpus.ensures.words, c.set_state.ensures.words, c.set_all.ensures.words, c.release_gathered.ensures.words)
    (sym (release_both _ tvm.pool.pages (range_with_len tvm.tables.root.0 4 ++ (tvm.state.0 ∷ all_cpu_pages tvm))
    ∙ release_both _ (range_with_len tvm.tables.root.0 4) (tvm.state.0 ∷ all_cpu_pages tvm)))
