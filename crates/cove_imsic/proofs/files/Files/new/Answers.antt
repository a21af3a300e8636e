use Rattle.std.proofs.Common.{◌≡◌, ◌*◌, ap, arith, length, replicate, ◌∙◌}
use Rattle.std.proofs.lemmas.List.{length-replicate}
use Rattle.cove_base.specs.InterruptFiles.{empty_file}
use Rattle.cove_imsic.specs.FileTables.{FileTable}
use Rattle.cove_imsic.proofs.PlaceLemmas.{file_at-replicate}
use Rattle.cove_imsic.proofs.files.Files.new.Goals as goal

pub invariant_of-result : goal.invariant_of-result
invariant_of-result c =
    let end : c.loop.counter ≡ c.from.result * c.from-2.result = omega arith in
    let count : c.loop.counter ≡ c.args.harts * c.args.files = end ∙ rw (c.from.ensures, c.from-2.ensures) in
    ap length c.loop.invariant ∙ length-replicate c.loop.counter empty_file ∙ count

pub returns-clause-empty : goal.returns-clause-empty
returns-clause-empty c hart file there =
    let end : c.loop.counter ≡ c.from.result * c.from-2.result = omega arith in
    let count : c.loop.counter ≡ c.args.harts * c.args.files = end ∙ rw (c.from.ensures, c.from-2.ensures) in
    let table : FileTable = record { harts = c.args.harts; files = c.args.files; states = c.loop.states.items } in
    file_at-replicate table hart file (c.loop.invariant ∙ ap (λ n. replicate n empty_file) count) there
