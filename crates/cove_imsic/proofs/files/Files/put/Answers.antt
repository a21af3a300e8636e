use Rattle.std.proofs.Common.{◌≡◌, ◌+◌, ◌*◌, ◌-◌, ap, set, subst, sym, ◌∙◌}
use Rattle.std.specs.Prelude.{slice_get}
use Rattle.cove_imsic.specs.FileTables.{FileTable, HasFile, file_at}
use Rattle.cove_imsic.proofs.PlaceLemmas.{file_at-set_other}
use Rattle.cove_imsic.proofs.files.Files.put.Goals as goal

pub returns-clause-others : goal.returns-clause-others
returns-clause-others c hart other there differ =
    let table : FileTable = record { harts = c.self.inside.harts; files = c.self.inside.files; states = c.self.inside.states.items } in
    let back = sym c.self.view_is in
    let mine = subst (λ (t : FileTable). HasFile t c.args.h.0 c.args.file) back c.requires in
    let others = subst (λ (t : FileTable). HasFile t hart other) back there in
    let place : c.place-place.result ≡ c.args.h.0 * c.self.inside.files + (c.args.file - 1) =
    c.place-place.ensures.place ∙ ap (λ (t : FileTable). c.args.h.0 * t.files + (c.args.file - 1)) back in
    ap (λ p. slice_get (set c.self.inside.states.items p c.args.s) (hart * c.self.inside.files + (other - 1))) place
    ∙ file_at-set_other table c.args.h.0 c.args.file hart other c.args.s c.self.invariant mine others differ
    ∙ ap (λ (t : FileTable). file_at t hart other) c.self.view_is
